pub mod Copies
pub mod Holding
pub mod Opened
pub mod Part
pub mod Places
pub mod RepairRequests
pub use Rattle.redo_store.specs.Copies.{IsCopyToPut}
pub use Rattle.redo_store.specs.Part.{PartStep}
pub use Rattle.redo_store.specs.Opened.{IsRunnable}
pub use Rattle.redo_store.specs.Holding.{PartKeeps, PartStores}
pub use Rattle.redo_store.specs.RepairRequests.{RepairCalls}
