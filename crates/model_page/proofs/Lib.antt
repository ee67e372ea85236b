pub mod BestCopy
pub mod Checksum
pub mod Kept
pub mod NotBlank
pub mod PageParts
pub mod ReadBack
