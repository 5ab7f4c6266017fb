pub mod WordLemmas
pub mod TagLemmas
pub mod Put
pub mod Searched
pub mod SortedTags
