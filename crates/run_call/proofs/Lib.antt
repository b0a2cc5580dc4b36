pub mod CallLemmas
pub mod SmokeLemmas
