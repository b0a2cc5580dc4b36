pub mod Limits
pub mod OneValue
pub mod PrintDepths
pub mod PrintLemmas
pub mod ReadBack
pub mod ReadLemmas
pub mod ReadSteps
pub mod SpellLemmas
