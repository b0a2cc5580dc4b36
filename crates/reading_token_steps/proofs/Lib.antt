pub mod KeptCloses
pub mod KeptFollows
pub mod NamedFields
pub mod SameDoes
