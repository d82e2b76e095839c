pub mod Agreement
pub mod Calls
pub mod Played
pub mod Requests
