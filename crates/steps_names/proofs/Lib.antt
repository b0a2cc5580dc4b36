pub mod SearchLemmas
pub mod ToldLemmas
pub mod FormLemmas
mod Merely
