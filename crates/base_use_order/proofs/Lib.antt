pub mod Finding
mod LeftOut
pub mod Lists
pub mod OrderLaws
pub mod Turning
mod UserTables
mod UsersFinding
pub mod Walking
pub mod Weighing
