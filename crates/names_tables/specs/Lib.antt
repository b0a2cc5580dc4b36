pub mod Assumed
pub mod Filling
pub mod NameFaults
pub mod Owns
pub mod Tables
pub mod UnitComplaints
pub mod Values
