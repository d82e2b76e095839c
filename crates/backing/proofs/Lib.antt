pub mod Counting
pub mod Kept
pub mod Paces
pub mod Rounds
pub mod Tables
pub mod Timed
pub mod Written
