pub mod LaidEnds
pub mod LawsOfModules
pub mod Marks
pub mod Parts
pub mod Reads
pub mod Refusals
pub mod Rests
