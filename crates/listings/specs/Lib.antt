pub mod Comparing
pub mod Samples
