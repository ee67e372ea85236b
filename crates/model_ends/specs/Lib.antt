pub mod Alone
pub mod Bound
