pub mod StandsStill
pub mod Stepped
