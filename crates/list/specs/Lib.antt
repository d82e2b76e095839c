pub mod Keyed
pub mod Totals
pub mod Zeros
