mod Events
mod LineLemmas
mod LogLemmas
mod Readied
pub mod UpTo
mod Variables
