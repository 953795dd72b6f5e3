pub mod Stacks
pub mod Slots
pub mod SiteStates
pub mod Sessions
