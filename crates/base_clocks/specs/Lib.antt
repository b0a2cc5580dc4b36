pub mod Falls
pub mod StampCodes
pub mod Stamps
