pub mod Exact
pub mod Kept
