pub mod Houses
pub mod Kinds
pub mod Refusals
pub mod Watches
