pub mod Acts
mod AlikeLined
pub mod AlikeLines
pub mod AlikeMerges
pub mod AlikeTexts
pub mod Answered
pub mod Asking
pub mod Carried
pub mod Judged
pub mod LogLines
mod Placed
mod Same
mod Spoken
pub mod Together
pub mod ToldAlike
pub mod Turns
