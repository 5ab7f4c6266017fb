mod InboxLemmas
mod RowLemmas
