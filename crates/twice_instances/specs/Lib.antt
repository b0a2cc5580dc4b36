pub mod Alikeness
pub mod Programs
pub mod Rows
pub mod Seen
pub mod SeenStates
pub mod Standing
pub mod Trees
