pub mod Numbers
pub mod Put
pub mod Records
