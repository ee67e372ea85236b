pub mod LaneLists
pub mod PageNumbers
