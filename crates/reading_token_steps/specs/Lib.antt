pub mod FieldNames
pub mod Kept
