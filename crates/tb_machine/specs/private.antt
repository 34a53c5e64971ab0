-- what only private contracts use
pub mod Serving
pub mod Sound
