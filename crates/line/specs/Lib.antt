pub mod Counts
pub mod Image
pub mod Laid
pub mod Size
pub mod Values
