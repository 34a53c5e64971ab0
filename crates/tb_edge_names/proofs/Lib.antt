pub mod Folders
pub mod Identities
pub mod NameLooks
pub mod Openings
pub mod NewFiles
