pub mod Admission
pub mod Judged
pub mod Renewal
pub mod private
