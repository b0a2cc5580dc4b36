pub mod OneOutcome
pub mod Outcome
pub mod Places
pub mod Tables
