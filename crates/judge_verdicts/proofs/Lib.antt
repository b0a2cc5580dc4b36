pub mod Explaining
pub mod LinedJudging
pub mod Placing
pub mod TiedJudging
