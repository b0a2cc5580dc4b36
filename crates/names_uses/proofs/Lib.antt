pub mod Declaring
pub mod Leading
pub mod Meanings
pub mod ProgramLevels
pub mod UseLemmas
pub mod StrictLemmas
