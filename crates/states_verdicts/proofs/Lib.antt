pub mod Lists
pub mod Runs
pub mod Law
pub mod One
pub mod FoundLaws
pub mod Passing
