pub mod Limits
pub mod MakingLemmas
pub mod UpdateLemmas
