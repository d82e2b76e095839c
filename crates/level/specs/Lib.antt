pub mod Laws
pub mod Level
pub mod Parts
