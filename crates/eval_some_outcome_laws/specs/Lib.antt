pub mod MadeOfValues
pub mod OfValues
pub mod Laws
