pub mod KeepLaws
pub mod RunLaws
pub mod StepLaws
pub mod AskLaws
pub mod SealLaws
mod SlotLaws
mod ActLaws
mod CrashLaws
