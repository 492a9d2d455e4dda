-- In order: Scan (one step of a loop over a list, and its end), Digits (digits read one by one), Decimals (digits before and behind the point read one
-- after the other), Blanks (one blank less), Parts (three parts and their lengths), Early (numbers are refused before the mode checks).
pub mod Scan
pub mod Digits
pub mod Decimals
pub mod Blanks
pub mod Parts
pub mod Early
