-- what only private contracts cite
pub mod Filling
pub mod Calling
