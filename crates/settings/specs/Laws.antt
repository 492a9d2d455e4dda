-- Towards refusal 29's judgement of one setting, in order: Numbers, Bursts; on Numbers stands proofs/JudgedEntries.antt. Early says that one setting is refused
-- before the mode checks; proofs/EarlyEntries.antt says the same of a list.
pub mod Numbers
pub mod Bursts
pub mod Early
