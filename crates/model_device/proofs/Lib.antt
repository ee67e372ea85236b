pub mod CrashParts
pub mod Images
pub mod MayHold
pub mod Overwritten
pub mod Valid
