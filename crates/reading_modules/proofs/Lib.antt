pub mod PathLaws
mod Declares
mod Ending
mod Firsts
mod FromFiles
mod Going
mod Kept
mod Outcomes
mod Parts
mod Tables
mod TwiceInside
mod Walks
