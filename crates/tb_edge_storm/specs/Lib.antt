pub mod Calls
pub mod Served
pub mod Totals
pub mod Storms
pub mod private
