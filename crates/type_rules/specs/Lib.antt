pub mod Fit
pub mod Says
pub mod Passed
pub mod Walk
pub mod FitQuestion
pub mod SlotRows
pub mod Typing
pub mod Typed
