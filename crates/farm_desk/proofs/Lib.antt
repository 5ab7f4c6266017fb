mod AloneLemmas
mod FileLemmas
mod HeardLemmas
mod LineLemmas
