-- what only private contracts use
pub mod HeaderFields
pub mod Headers
pub mod ReplyHeaders
pub mod Reading
pub mod PairAtHand
pub mod DumpNumbers
