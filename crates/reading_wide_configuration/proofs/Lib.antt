mod Outcomes
mod PassedOver
pub mod Remaining
mod Within
