pub mod PartLemmas
pub mod ShapeLemmas
pub mod KeyLemmas
pub mod ClockLemmas
