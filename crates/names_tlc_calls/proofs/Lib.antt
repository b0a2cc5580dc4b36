pub mod Adding
pub mod Items
pub mod OtherCalls
pub mod Quiet
pub mod Rewriting
pub mod Staying
pub mod Turning
