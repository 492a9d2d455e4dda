pub mod RefusalSteps
pub mod ArriveSteps
