pub mod AnswerLemmas
pub mod AskingLemmas
pub mod PassedLaws
