pub mod ObjectLemmas
pub mod ParameterLemmas
pub mod PathLaws
pub mod PathLemmas
pub mod PlainLemmas
pub mod RouteLemmas
pub mod ValueLemmas
pub mod WrittenLemmas
