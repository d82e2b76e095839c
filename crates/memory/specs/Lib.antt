pub mod Gather
pub mod Laws
pub mod Limits
pub mod Meaning
pub mod Replies
pub mod Tickets
