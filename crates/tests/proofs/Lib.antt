pub mod Firsts
pub mod Going
pub mod Pending
