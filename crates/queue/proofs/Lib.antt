pub mod RefusalSteps
