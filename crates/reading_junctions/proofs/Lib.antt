pub mod NoEnd
pub mod Steps
pub mod Summaries
