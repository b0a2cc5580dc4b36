mod Below
pub mod Contained
pub mod Lists
pub mod Marks
pub mod Ordering
pub mod Under
pub mod Weights
