pub mod DocumentLemmas
pub mod CallLemmas
pub mod LabLemmas
pub mod TurnLemmas
