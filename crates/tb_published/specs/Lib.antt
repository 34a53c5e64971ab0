pub mod Openings
pub mod Taking
pub mod Faults
pub mod SeenLaws
pub mod private
