pub mod Cuts
pub mod DeclaredLemmas
pub mod EntryLemmas
pub mod NameLemmas
pub mod NumberLemmas
pub mod StandardLemmas
pub mod Values
pub mod WithinLemmas
