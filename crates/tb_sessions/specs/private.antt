-- what only private contracts use
pub mod Indexed
pub mod Serving
