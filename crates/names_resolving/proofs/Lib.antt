pub mod Copied
pub mod FirstGiven
pub mod Levels
pub mod Naming
pub mod Refusing
pub mod Shapes
pub mod Sought
pub mod Told
