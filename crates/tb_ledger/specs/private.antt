-- what only private contracts use
pub mod KeptRows
pub mod Timeouts
pub mod Found
pub mod Exchanges
pub mod Settlings
pub mod Noted
pub mod UndoLog
pub mod Gathered
pub mod Capacity
pub mod Steps
pub mod Entering
pub mod Lookups
