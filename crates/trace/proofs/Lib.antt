pub mod NumberRead
pub mod NumberSpelled
pub mod Laws
pub mod Traces
mod Filling
mod FilledSetup
mod ReadFrom
mod Next
pub mod Runs
pub mod Later
pub mod Groups
pub mod Sizes
pub mod Grown
mod Fronts
