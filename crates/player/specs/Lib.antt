pub mod Faulty
pub mod Image
pub mod Limits
pub mod Lines
pub mod Player
pub mod Progress
pub mod Session
pub mod Setup
