pub mod ByRow
pub mod Index
pub mod LaterRows
pub mod LookUps
pub mod Renewing
pub mod Rising
