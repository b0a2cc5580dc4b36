pub mod Current
pub mod Laws
