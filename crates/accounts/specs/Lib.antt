-- Read first the definitions, in this order: Buckets (the bucket of a latency), Latency (one latency more, and two records of latencies joined), Stats
-- (DirectionStats), Accountant (SendAccountant), Counters (refusal 25), Calls (what each call gives, refusals too). Bits is only how the code judges
-- counters. Lines has document 01's starred lines about latencies as theorems, and Laws what is proved of every record and call.
pub mod Buckets
pub mod Latency
pub mod Stats
pub mod Accountant
pub mod Counters
pub mod Calls
pub mod Bits
pub mod Lines
pub mod Laws
