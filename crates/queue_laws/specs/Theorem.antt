-- THE THEOREM over what the functions of crates/queue themselves ensure: for every list of calls on a queue that `create` made, over any lent memory, each
-- call answered and each table left as the contract of its function says, and each released copy's bytes read as that of `payload` says, the replies are the
-- plain queue's. The functions are all that are public: `push`, `release`, `drain`, `next_due`, `len`, `is_empty` and `has_memory`.
-- Here stands what a run of the functions is; `theorem` and `refused_theorem`, which say it of every run, stand in proofs/Theorem.antt.
use Rattle.std.specs.Prelude.{◌≡◌, Bool, List, [], ◌∷◌, ℕ, Float, Option, None, Some, Result, Ok, Err}
use contract.Lifetimes
use borrow.Fn.World
use borrow.Fn.Kinds as Kinds'
use denote.Triple.Clauses
use Rattle.held.specs.Copies.{copy}
use Rattle.numbers.specs.Refusals.{number_of}
use Rattle.numbers.specs.declared.refusal.Refusal.{Refusal}
use Rattle.queue.specs.Tables.{Tables}
use Rattle.queue.specs.Lent.{entry_tables, exit_tables, seen_tables}
use Rattle.queue.specs.Refusals.{sizes_of}
use Rattle.queue.specs.Calls.{Handed}
use Rattle.queue.specs.declared.queue.ImpairQueue.{ImpairQueue}
use Rattle.queue.specs.declared.answers.Entered.{Entered}
use Rattle.queue.specs.declared.answers.Queued.{Queued}
use Rattle.queue.specs.contracts.queue.ImpairQueue.create as create_fn
use Rattle.queue.proofs.queue.ImpairQueue.create.Reads as create
use Rattle.queue.proofs.queue.ImpairQueue.create.Kinds as create_kinds
use Rattle.queue.specs.contracts.queue.ImpairQueue.push as push_fn
use Rattle.queue.proofs.queue.ImpairQueue.push.Reads as push
use Rattle.queue.proofs.queue.ImpairQueue.push.Kinds as push_kinds
use Rattle.queue.specs.contracts.queue.ImpairQueue.release as release_fn
use Rattle.queue.proofs.queue.ImpairQueue.release.Reads as release
use Rattle.queue.proofs.queue.ImpairQueue.release.Kinds as release_kinds
use Rattle.queue.specs.contracts.queue.ImpairQueue.drain as drain_fn
use Rattle.queue.proofs.queue.ImpairQueue.drain.Reads as drain
use Rattle.queue.proofs.queue.ImpairQueue.drain.Kinds as drain_kinds
use Rattle.queue.specs.contracts.queue.ImpairQueue.next_due as next_due_fn
use Rattle.queue.proofs.queue.ImpairQueue.next_due.Reads as next_due_lem
use Rattle.queue.proofs.queue.ImpairQueue.next_due.Kinds as next_due_kinds
use Rattle.queue.specs.contracts.queue.ImpairQueue.len as len_fn
use Rattle.queue.proofs.queue.ImpairQueue.len.Reads as len
use Rattle.queue.proofs.queue.ImpairQueue.len.Kinds as len_kinds
use Rattle.queue.specs.contracts.queue.ImpairQueue.is_empty as is_empty_fn
use Rattle.queue.proofs.queue.ImpairQueue.is_empty.Reads as is_empty
use Rattle.queue.proofs.queue.ImpairQueue.is_empty.Kinds as is_empty_kinds
use Rattle.queue.specs.contracts.queue.ImpairQueue.has_memory as has_memory_fn
use Rattle.queue.proofs.queue.ImpairQueue.has_memory.Reads as has_memory_lem
use Rattle.queue.proofs.queue.ImpairQueue.has_memory.Kinds as has_memory_kinds
use Rattle.queue.specs.contracts.payload as payload_fn
use Rattle.queue.proofs.payload.Reads as payload
use Rattle.queue.proofs.payload.Kinds as payload_kinds
use Rattle.queue_laws.specs.Held.{Call, push as push_call, release as release_call, drain as drain_call, next_due as due_call, len as len_call, is_empty as empty_call, has_memory as memory_call, Reply, holds, tells, released, none_due, refused}
use Rattle.queue_laws.specs.Replies.{said_of_push, said_of_drain, said_of_due}

-- ---- calls: `Learnt` is what the function's contract ensures of its arguments, its result and the tables at exit

-- a call of `create` with the capacity cap and the slot width, over the tables t, returned r
pub data Creates (cap width : ℕ) (t : Tables) : Handed (Unit {0}) → Type 1 where
  called : (κs : Lifetimes.Lfts 3) (a : World.ArgsD create_fn.signature κs) (r : World.ResD create_fn.signature κs) (s : Clauses.AtExit (Kinds'.ended_of 3 create_kinds.ps create_kinds.r) κs)
      → a.0 ≡ cap → a.1.0 ≡ width → seen_tables a.1.1.0 a.1.1.1.0.now a.1.1.1.1.0 ≡ t
      → create.Learnt κs a r s
      → Creates cap width t r

-- a call of `push` on the state q and the tables t, with what is pushed, returned r and left tables; the free slots are only read
pub data Pushes (q : ImpairQueue) (t : Tables) (due arrival : Float) (route id : ℕ) (duplicated : Bool) (bytes : List ℕ) : Handed Entered → Tables → Type 1 where
  called : (κs : Lifetimes.Lfts 6) (a : World.ArgsD push_fn.signature κs) (r : World.ResD push_fn.signature κs) (s : Clauses.AtExit (Kinds'.ended_of 6 push_kinds.ps push_kinds.r) κs)
      → a.0 ≡ q → entry_tables a.1.0.now a.1.1.0.now a.1.1.1.0.now ≡ t
      → a.1.1.1.1.0 ≡ record { due_ms = due; arrival_ms = arrival; route = route; copy_id = id; duplicated = duplicated }
      → a.1.1.1.1.1.0.now ≡ bytes
      → push.Learnt κs a r s
      → Pushes q t due arrival route id duplicated bytes r (entry_tables s.1.0.now a.1.1.0.now s.1.1.1.0.now)

-- a call of `release` at an instant; the copies are only read
pub data Releases (q : ImpairQueue) (t : Tables) (instant : Float) : Handed (Option Queued) → Tables → Type 1 where
  called : (κs : Lifetimes.Lfts 4) (a : World.ArgsD release_fn.signature κs) (r : World.ResD release_fn.signature κs) (s : Clauses.AtExit (Kinds'.ended_of 4 release_kinds.ps release_kinds.r) κs)
      → a.0 ≡ q → exit_tables a.1.0.now a.1.1.0.now a.1.1.1.0 ≡ t
      → a.1.1.1.1.0 ≡ instant
      → release.Learnt κs a r s
      → Releases q t instant r (exit_tables s.1.0.now s.1.1.0.now a.1.1.1.0)

-- a call of `drain`, which is lent no table
pub data Drains (q : ImpairQueue) : Handed ℕ → Type 1 where
  called : (κs : Lifetimes.Lfts 0) (a : World.ArgsD drain_fn.signature κs) (r : World.ResD drain_fn.signature κs) (s : Clauses.AtExit (Kinds'.ended_of 0 drain_kinds.ps drain_kinds.r) κs)
      → a.0 ≡ q
      → drain.Learnt κs a r s
      → Drains q r

-- a call of `next_due`, which is lent two of the tables
pub data AsksDue (q : ImpairQueue) (t : Tables) : Result (Option Float) Refusal → Type 1 where
  called : (κs : Lifetimes.Lfts 2) (a : World.ArgsD next_due_fn.signature κs) (r : World.ResD next_due_fn.signature κs) (s : Clauses.AtExit (Kinds'.ended_of 2 next_due_kinds.ps next_due_kinds.r) κs)
      → a.0 ≡ q → a.1.0.now ≡ t.win → a.1.1.0.now ≡ t.dues
      → next_due_lem.Learnt κs a r s
      → AsksDue q t r

-- calls of `len` and `is_empty`
pub data AsksLen (q : ImpairQueue) : ℕ → Type 1 where
  called : (κs : Lifetimes.Lfts 0) (a : World.ArgsD len_fn.signature κs) (r : World.ResD len_fn.signature κs) (s : Clauses.AtExit (Kinds'.ended_of 0 len_kinds.ps len_kinds.r) κs)
      → a.0 ≡ q
      → len.Learnt κs a r s
      → AsksLen q r

pub data AsksEmpty (q : ImpairQueue) : Bool → Type 1 where
  called : (κs : Lifetimes.Lfts 0) (a : World.ArgsD is_empty_fn.signature κs) (r : World.ResD is_empty_fn.signature κs) (s : Clauses.AtExit (Kinds'.ended_of 0 is_empty_kinds.ps is_empty_kinds.r) κs)
      → a.0 ≡ q
      → is_empty.Learnt κs a r s
      → AsksEmpty q r

-- a call of `has_memory` with the lengths of the lent tables
pub data AsksMemory (q : ImpairQueue) (t : Tables) : Bool → Type 1 where
  called : (κs : Lifetimes.Lfts 0) (a : World.ArgsD has_memory_fn.signature κs) (r : World.ResD has_memory_fn.signature κs) (s : Clauses.AtExit (Kinds'.ended_of 0 has_memory_kinds.ps has_memory_kinds.r) κs)
      → a.0 ≡ q
      → a.1.0 ≡ sizes_of t
      → has_memory_lem.Learnt κs a r s
      → AsksMemory q t r

-- a call of `payload` on a store of slots of that width, with a slot and a length, returned bytes
pub data Reads (store : List ℕ) (width slot len : ℕ) : List ℕ → Type 1 where
  called : (κs : Lifetimes.Lfts 1) (a : World.ArgsD payload_fn.signature κs) (r : World.ResD payload_fn.signature κs) (s : Clauses.AtExit (Kinds'.ended_of 1 payload_kinds.ps payload_kinds.r) κs)
      → a.0.now ≡ store → a.1.0 ≡ width → a.1.1.0 ≡ slot → a.1.1.1.0 ≡ len
      → payload.Learnt κs a r s
      → Reads store width slot len r.now

-- what an answer of `release` says, with the bytes that `payload` reads in the store that is left, by the width of the state that is handed back
pub data Says (width : ℕ) (store : List ℕ) : Result (Option Queued) Refusal → Reply → Type 1 where
  hands_out : {c : Queued} {bytes : List ℕ} → Reads store width c.slot c.length bytes
      → Says width store (Ok (Some c)) (released (copy c.due_ms c.seq c.arrival_ms c.route c.copy_id c.length bytes))
  none : Says width store (Ok None) none_due
  refuses : {e : Refusal} → Says width store (Err e) (refused (number_of e))

-- a run of the functions over a list of calls, with its replies: each call begins with what the last one left
pub data Ran : ImpairQueue → Tables → List Call → List Reply → Type 1 where
  done : {q : ImpairQueue} {t : Tables} → Ran q t [] []
  pushes : {q : ImpairQueue} {t t' : Tables} {due arrival : Float} {route id : ℕ} {duplicated : Bool} {bytes : List ℕ} {r : Handed Entered} {cs : List Call} {rs : List Reply}
      → Pushes q t due arrival route id duplicated bytes r t' → Ran r.0 t' cs rs
      → Ran q t (push_call due arrival route id duplicated bytes ∷ cs) (said_of_push r.1 ∷ rs)
  releases : {q : ImpairQueue} {t t' : Tables} {instant : Float} {r : Handed (Option Queued)} {reply : Reply} {cs : List Call} {rs : List Reply}
      → Releases q t instant r t' → Says r.0.width t'.store r.1 reply → Ran r.0 t' cs rs
      → Ran q t (release_call instant ∷ cs) (reply ∷ rs)
  drains : {q : ImpairQueue} {t : Tables} {r : Handed ℕ} {cs : List Call} {rs : List Reply}
      → Drains q r → Ran r.0 t cs rs
      → Ran q t (drain_call ∷ cs) (said_of_drain r.1 ∷ rs)
  -- a question hands back no state: the host goes on with the one that it has
  asks_due : {q : ImpairQueue} {t : Tables} {r : Result (Option Float) Refusal} {cs : List Call} {rs : List Reply} → AsksDue q t r → Ran q t cs rs → Ran q t (due_call ∷ cs) (said_of_due r ∷ rs)
  asks_len : {q : ImpairQueue} {t : Tables} {n : ℕ} {cs : List Call} {rs : List Reply} → AsksLen q n → Ran q t cs rs → Ran q t (len_call ∷ cs) (holds n ∷ rs)
  asks_empty : {q : ImpairQueue} {t : Tables} {b : Bool} {cs : List Call} {rs : List Reply} → AsksEmpty q b → Ran q t cs rs → Ran q t (empty_call ∷ cs) (tells b ∷ rs)
  asks_memory : {q : ImpairQueue} {t : Tables} {b : Bool} {cs : List Call} {rs : List Reply} → AsksMemory q t b → Ran q t cs rs → Ran q t (memory_call ∷ cs) (tells b ∷ rs)
