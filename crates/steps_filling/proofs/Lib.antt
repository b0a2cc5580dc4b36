pub mod FillingLemmas
pub mod AtHand
