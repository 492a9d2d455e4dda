-- In order: Cases (what a step of each call can be), Held (the seqs of the held list go up), Count (demand 3's count), Own (each released copy is one that
-- entered), Bare (bytes and route decide nothing), Refused (which refusals come and what they leave), Reports (what a report says is what was counted),
-- Numbers (held dues are numbers), Widths (no step changes the width, which decides no answer but 22).
pub mod Cases
pub mod Held
pub mod Count
pub mod Own
pub mod Bare
pub mod Refused
pub mod Reports
pub mod Numbers
pub mod Widths
