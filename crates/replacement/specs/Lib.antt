pub mod Fifo
pub mod Laws
pub mod Lru
pub mod Orders
pub mod Rows
pub mod Shapes
