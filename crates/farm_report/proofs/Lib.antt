mod LineLemmas
mod MomentLemmas
mod SoundMoments
