pub mod Words
pub mod Call
pub mod Setup
pub mod Lists
pub mod Hierarchy
pub mod Session
