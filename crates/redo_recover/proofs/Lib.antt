mod Bounds
mod Causing
pub mod Contents
pub mod Starting
pub mod Unchanged
pub mod Grouping
mod Joining
pub mod Keeping
mod Fronts
mod Paging
mod Parsing
pub mod Pieces
mod Placing
mod Rising
mod Scanning
mod Stopping
mod Standing
mod Tailing
pub mod Setting
pub mod Only
mod Owning
mod Stretching
