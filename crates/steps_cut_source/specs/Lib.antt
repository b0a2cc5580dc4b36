pub mod Assumed
pub mod Entries
pub mod Listing
pub mod Spoken
