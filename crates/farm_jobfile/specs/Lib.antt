pub mod Reading
pub mod Document
pub mod Fields
pub mod Job
pub mod Lab
