pub mod Sessions
pub mod Steps
pub mod Ready
pub mod Played
pub mod Ends
pub mod SeatAnswers
