pub mod Everywhere
pub mod Faultless
pub mod FormLaws
pub mod Formed
pub mod IsSpec
pub mod Laws
pub mod Meanings
pub mod ShapeLaws
