pub mod JoinedChains
