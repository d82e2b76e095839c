pub mod Bytes
pub mod Calls
pub mod Fits
pub mod Fitting
pub mod Lists
pub mod Logs
pub mod Made
