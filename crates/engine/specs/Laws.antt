-- In order: Refusals (what a call that is not refused has passed), Counts (how decisions are counted), Alike (what decides), Sound (credit and dues).
pub mod Refusals
pub mod Counts
pub mod Alike
pub mod Sound
