pub mod KeptLemmas
pub mod LifeLemmas
mod PutLemmas
pub mod RestartLemmas
pub mod RunLemmas
mod MigrateLemmas
