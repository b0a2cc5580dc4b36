pub mod Growth
pub mod Sound
pub mod Spoken
