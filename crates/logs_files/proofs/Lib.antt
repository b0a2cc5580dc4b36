pub mod ClockKinds
pub mod ListSteps
pub mod FileLemmas
pub mod KeptFiles
pub mod OneFile
pub mod OneLog
pub mod PlaceLemmas
pub mod TiedFiles
