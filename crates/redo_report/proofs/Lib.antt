pub mod BlockLines
pub mod Counted
pub mod Decimal
pub mod ListedRecords
pub mod PageLines
pub mod Remaining
pub mod Trim
