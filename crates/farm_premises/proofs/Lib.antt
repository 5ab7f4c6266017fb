mod MetLemmas
mod FirstRows
