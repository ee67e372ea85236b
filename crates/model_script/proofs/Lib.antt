pub mod Fitting
pub mod ReadLines
pub mod Unfit
