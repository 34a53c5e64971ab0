-- what only private contracts cite
pub mod Prefixes
pub mod PostedEntries
pub mod Ties
pub mod Counting
pub mod Sharing
pub mod Entering
