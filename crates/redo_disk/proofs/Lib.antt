pub mod Calls
pub mod Made
pub mod Sizes
pub mod Told
