pub mod Backing
pub mod Clock
pub mod Differ
pub mod Facts
pub mod Image
pub mod Open
pub mod Requests
pub mod Script
