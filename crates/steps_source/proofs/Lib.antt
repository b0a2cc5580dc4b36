mod Reaching
mod Assumed
mod Given
mod Small
