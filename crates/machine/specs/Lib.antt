-- Read first Machine (the state), Calls (calls and answers), Steps (what each call does), Tally (what demand 3 counts from
-- the answers, and what a report tells of it), Arrivals (which arrive call a released copy came with), Bare (calls and answers without bytes and routes)
-- and Widths (calls that fit a slot width). Lines gathers document 01's starred lines. In proofs/, Lines shows them, Laws holds what is proved of the machine's
-- steps, and Theorems says it of every list of calls.
-- The machine is made of definitions of the layers below: the engine (crates/engine/specs: Engine, Decide, Changes, Refusals), the accounts (crates/accounts/specs:
-- Accountant, Latency, Counters), a held copy and which one leaves (crates/held/specs: Copies, over Order).
pub mod Machine
pub mod Calls
pub mod Steps
pub mod Tally
pub mod Arrivals
pub mod Bare
pub mod Widths
pub mod Lines
