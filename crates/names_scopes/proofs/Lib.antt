pub mod BareLoops
pub mod Below
pub mod EntryPlaces
pub mod FirstLemmas
pub mod LevelLoops
pub mod MentionLoops
pub mod ScopeLemmas
