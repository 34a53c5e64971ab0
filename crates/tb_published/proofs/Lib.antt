pub mod Prefixes
pub mod Adding
pub mod Lengthened
pub mod Shown
pub mod Answering
pub mod Tied
pub mod EntryTable
