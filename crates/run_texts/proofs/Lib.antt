mod OrderLaw
mod SpelledLaw
mod QuoteLemmas
