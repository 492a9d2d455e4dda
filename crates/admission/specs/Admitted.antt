-- What an arrival did to the queue, counted.
use Rattle.std.specs.Prelude.{Bool, cond, ℕ, ◌-◌, eqb, Result, Ok, Err}
use Rattle.numbers.specs.Refusals.{number_of, refused_full}
use Rattle.numbers.specs.declared.refusal.Refusal.{Refusal}
use Rattle.numbers.specs.declared.refusal.Refusal.TheVariants as refusal
use Rattle.queue.specs.Calls.{Handed, drain_of}
use Rattle.queue.specs.declared.answers.Entered.{Entered}
use Rattle.queue.specs.declared.queue.ImpairQueue.{ImpairQueue}
use Rattle.admission.specs.declared.admitted.Admitted.{Admitted}

-- so many copies entered and overflowed
abbrev pub with_copies : ℕ → ℕ → Admitted
with_copies entered overflowed = record { entered = entered; overflowed = overflowed; torn = 0; resets = 0 }

-- state or memory was altered: 26
abbrev pub out_of_keeping : Result Admitted Refusal
out_of_keeping = Err refusal.Keeping

abbrev pub untouched : ImpairQueue → Handed Admitted
untouched q = (q, Ok (with_copies 0 0))

-- a packet has one copy, and two if it is duplicated
abbrev pub asked_of : Bool → ℕ
asked_of duplicated = cond duplicated 2 1

-- how many copies an answer says to have entered
unfoldable pub copies_in : Result Entered Refusal → ℕ
copies_in (Ok e) = e.copies
copies_in (Err e) = 0

-- a copy that did not enter has overflowed; any other refusal than 28 means that state or memory was altered
unfoldable pub tallied_by : Result Entered Refusal → ℕ → Result Admitted Refusal
tallied_by (Ok e) asked = Ok (with_copies e.copies (asked - e.copies))
tallied_by (Err e) asked = cond (eqb (number_of e) refused_full) (Ok (with_copies 0 asked)) out_of_keeping

abbrev pub tallied_of : Handed Entered → Bool → Handed Admitted
tallied_of h duplicated = (h.0, tallied_by h.1 (asked_of duplicated))

-- a reset counts the copies that were held as torn
unfoldable pub torn_by : Result ℕ Refusal → Result Admitted Refusal
torn_by (Ok n) = Ok (record { entered = 0; overflowed = 0; torn = n; resets = 1 })
torn_by (Err e) = out_of_keeping

unfoldable pub torn_of : ImpairQueue → Handed Admitted
torn_of q = ((drain_of q).0, torn_by (drain_of q).1)
