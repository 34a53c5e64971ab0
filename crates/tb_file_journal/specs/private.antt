-- what only private contracts use
pub mod Batches
pub mod Hops
pub mod Posix
pub mod MemoryLaws
