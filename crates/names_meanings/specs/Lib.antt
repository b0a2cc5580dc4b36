pub mod Around
pub mod Complaints
pub mod Means
pub mod Outcomes
pub mod Owned
pub mod Owning
pub mod Pendings
pub mod Reads
