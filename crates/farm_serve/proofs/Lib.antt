pub mod Names
mod AnswerLemmas
mod ReceivedLemmas
mod ConverseLemmas
mod ConversationLemmas
mod PrefixLemmas
mod ServingLemmas
mod ConnectionLemmas
mod ImportLemmas
pub mod StopLemmas
mod DeskLifeLemmas
