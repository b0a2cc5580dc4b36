pub mod InComments
pub mod Quotes
pub mod Fronts
pub mod Ends
pub mod SignFronts
pub mod RunFronts
pub mod Starts
pub mod Steps
