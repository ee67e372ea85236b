pub mod OwnFits
pub mod OwnLink
