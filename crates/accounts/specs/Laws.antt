-- In order: Buckets (every latency has one), Counters and Small (what refusal 25 lets through), Sums (two histograms added), Histogram (one bucket more,
-- and the buckets hold as many as are counted), Extremes (minimum and maximum bound every latency), Merged (every counter is added), Calls (when a call is done),
-- Done (what it has done then).
pub mod Buckets
pub mod Counters
pub mod Small
pub mod Sums
pub mod Histogram
pub mod Extremes
pub mod Merged
pub mod Calls
pub mod Done
