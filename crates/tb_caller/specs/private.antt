-- what only private contracts use
pub mod Calling
