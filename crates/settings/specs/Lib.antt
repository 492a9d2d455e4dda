-- Read first the definitions, in the source's order of checks: Bursts (burst loss), Windows (windows and kills), Lists (what gathers in order). An option that
-- is one number is read by values. Judgement says what refusal 29 asks of one setting. Laws holds what is proved.
pub mod Bursts
pub mod Windows
pub mod Lists
pub mod Judgement
pub mod Laws
