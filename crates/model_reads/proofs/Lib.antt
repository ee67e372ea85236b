pub mod Folds
pub mod Lasting
pub mod Looking
pub mod Rising
pub mod Stands
pub mod Turning
