mod Asides
mod CleanData
mod CleanValues
pub mod Feedless
mod FieldOrder
mod FileSays
mod LineData
mod Lines
mod NearAsides
mod Printed
pub mod Printing
mod ReadAgain
pub mod ReportSays
pub mod ShownData
pub mod StateData
