pub mod Lets
pub mod Levels
pub mod Programs
pub mod Trees
