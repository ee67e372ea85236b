mod Groups
mod Leaves
mod Limit
mod Sequence
mod Skipping
