pub mod Images
pub mod Lines
pub mod Masks
pub mod Numbers
