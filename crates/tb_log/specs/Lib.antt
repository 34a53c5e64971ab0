-- what public contracts use, directly or through other definitions
pub mod Format
pub mod Following
pub mod Entries
pub mod Faults
pub mod Follows
pub mod LogLaws
-- what only private contracts use
pub mod Steps
