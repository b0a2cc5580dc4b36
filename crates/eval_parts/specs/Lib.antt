pub mod Scenes
pub mod Walks
pub mod BoundSets
pub mod ReadyParts
pub mod Following
pub mod Recursions
pub mod ChangePaths
