pub mod PathSteps
pub mod GrowthSteps
pub mod CallSteps
