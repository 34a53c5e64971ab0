pub mod KeptCalls
pub mod SeatCalls
pub mod PortCalls
pub mod ExactlyOnce
pub mod Worked
pub mod Others
