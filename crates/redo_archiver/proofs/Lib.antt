pub mod Longer
pub mod OneBlock
pub mod Turning
