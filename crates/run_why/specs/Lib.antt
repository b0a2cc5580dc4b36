pub mod Lines
pub mod Tells
pub mod Reports
pub mod Telling
pub mod Ends
pub mod Searched
pub mod Within
