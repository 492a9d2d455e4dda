-- In order: Answers (what each call says and leaves, by the definitions), Ran (a run's answers are those), Refused (what a refused call leaves), Lent (what is lent to
-- be read stays), Exist (every list of calls has a run), Matches (the relation of device and machine), Agree (a call that agrees with a step; refusals and drains),
-- Creation, Counts (what a device counts at once), Copies (the copies of one packet), Arrive, Release, Others (each call answers as the machine does and leaves what
-- matches it), Runs (every list of calls).
pub mod Answers
pub mod Ran
pub mod Refused
pub mod Lent
pub mod Exist
pub mod Matches
pub mod Agree
pub mod Creation
pub mod Counts
pub mod Copies
pub mod Arrive
pub mod Release
pub mod Others
pub mod Runs
