pub mod Outcomes
pub mod MemoryLaws
pub mod Latched
