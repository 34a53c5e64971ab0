-- cited only by private contracts
pub mod Changes
pub mod CopySteps
pub mod Stages
