mod Asking
mod Ends
mod Leaving
mod Loops
mod Meanings
mod Senses
mod ToldLemmas
