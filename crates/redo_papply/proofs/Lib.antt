mod Cutting
mod Grouping
mod Merging
mod Replaying
