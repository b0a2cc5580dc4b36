pub mod PrintedStates
pub mod StateFiles
pub mod WhyLines
