-- What the answers of crates/queue say, as replies of the plain queue: the slot is left out, and a released copy has its bytes from the store.
use Rattle.std.specs.Prelude.{List, [], ◌∷◌, ℕ, Float, Option, None, Some, Result, Ok, Err}
use Rattle.numbers.specs.Refusals.{number_of}
use Rattle.numbers.specs.declared.refusal.Refusal.{Refusal}
use Rattle.held.specs.Copies.{Copy, copy}
use Rattle.queue.specs.Calls.{Handed, payload_of, push_of, release_of, drain_of, next_due_of, len_of, is_empty_of}
use Rattle.queue.specs.Refusals.{memory_of}
use Rattle.queue.specs.Tables.{Tables, After}
use Rattle.queue.specs.declared.queue.ImpairQueue.{ImpairQueue}
use Rattle.queue.specs.declared.answers.Entered.{Entered}
use Rattle.queue.specs.declared.answers.Queued.{Queued}
use Rattle.queue_laws.specs.Held.{Call, push, release, drain, next_due, len, is_empty, has_memory, Reply, entered, released, none_due, drained, due_next, none_held, holds, tells, refused}

abbrev pub said_of_push : Result Entered Refusal → Reply
said_of_push (Ok e) = entered e.seq e.copies
said_of_push (Err e) = refused (number_of e)

-- the copy that left, with the bytes of its slot in the store
abbrev pub copy_of : ℕ → List ℕ → Queued → Copy
copy_of width store c = copy c.due_ms c.seq c.arrival_ms c.route c.copy_id c.length (payload_of width store c.slot c.length)

abbrev pub said_of_release : ℕ → List ℕ → Result (Option Queued) Refusal → Reply
said_of_release width store (Ok (Some c)) = released (copy_of width store c)
said_of_release width store (Ok None) = none_due
said_of_release width store (Err e) = refused (number_of e)

abbrev pub said_of_drain : Result ℕ Refusal → Reply
said_of_drain (Ok n) = drained n
said_of_drain (Err e) = refused (number_of e)

abbrev pub said_of_due : Result (Option Float) Refusal → Reply
said_of_due (Ok (Some d)) = due_next d
said_of_due (Ok None) = none_held
said_of_due (Err e) = refused (number_of e)

-- what a call says, and the state and tables that it leaves
pub record Said : Type 0 where
  pub reply : Reply
  pub queue : ImpairQueue
  pub tables : Tables

abbrev pub said : Reply → ImpairQueue → Tables → Said
said r q t = record { reply = r; queue = q; tables = t }

abbrev pub said_by_push : After (Handed Entered) → Said
said_by_push o = said (said_of_push o.gives.1) o.gives.0 o.memory

-- a released copy is read with the width and the store that the call leaves
abbrev pub said_by_release : After (Handed (Option Queued)) → Said
said_by_release o = said (said_of_release o.gives.0.width o.memory.store o.gives.1) o.gives.0 o.memory

abbrev pub said_by_drain : Tables → Handed ℕ → Said
said_by_drain t o = said (said_of_drain o.1) o.0 t

-- a call of crates/queue
unfoldable pub answer_to : ImpairQueue → Tables → Call → Said
answer_to q t (push d a r c dup b) = said_by_push (push_of q t d a r c dup b)
answer_to q t (release now) = said_by_release (release_of q t now)
answer_to q t drain = said_by_drain t (drain_of q)
answer_to q t next_due = said (said_of_due (next_due_of q t.win t.dues)) q t
answer_to q t len = said (holds (len_of q)) q t
answer_to q t is_empty = said (tells (is_empty_of q)) q t
answer_to q t has_memory = said (tells (memory_of q.width q.cap t)) q t

-- a list of calls, each on what the last one left
unfoldable pub answers_to : ImpairQueue → Tables → List Call → List Reply
answers_to q t [] = []
answers_to q t (c ∷ cs) = (answer_to q t c).reply ∷ answers_to (answer_to q t c).queue (answer_to q t c).tables cs
