-- In order: Limits (rate, MTU and burst), Parsed (whatever the text, the settings of the answer pass).
pub mod Limits
pub mod Parsed
