pub mod ArmLemmas
pub mod PartLists
pub mod TestLemmas
