-- Small runs of the plain queue, worked out: what a reader can check by hand.
use Rattle.std.specs.Prelude.{◌≡◌, refl, true, false, List, [], ◌∷◌, ℕ, pos, replicate, Float}
use Rattle.std.specs.Float.{inf, fin}
use Rattle.std.specs.Float.Ieee.{lt, le, is_nan, of_int}
use Rattle.numbers.specs.Checks.{first_failing}
use Rattle.numbers.specs.Instant.{is_instant_of}
use Rattle.numbers.specs.Limits.{max_exact, is_counter_of}
use Rattle.numbers.specs.Whole.{whole}
use Rattle.held.specs.Order.{before_of}
use Rattle.held.specs.Copies.{copy, least, without, due_by, least_in, leaving}
use Rattle.queue_laws.specs.Held.{Call, push, release, drain, Reply, entered, released, none_due, drained, refused, plain, second_plain, push_plain, hand_out, release_plain, drain_plain, step, run}

-- a copy without bytes, due at that instant, which came at 0
abbrev at : Float → Call
at due = push due (whole 0) 7 0 false []

-- the same, of a packet that is duplicated
abbrev twice : Float → Call
twice due = push due (whole 0) 7 0 true []

abbrev out : Float → ℕ → Reply
out due seq = released (copy due seq (whole 0) 7 0 0 [])

-- the same as `at`, with these bytes
abbrev filled : List ℕ → Call
filled bytes = push (whole 5) (whole 0) 7 0 false bytes

-- of a queue of that capacity and of slots of 64 bytes
abbrev replies : ℕ → List Call → List Reply
replies cap cs = run (plain cap 64 [] 0) cs

pub record QueueLines : Type 0 where
  -- a full queue refuses and uses no seq, and what a copy left is used again
  pub full : replies 1 (at (whole 5) ∷ at (whole 6) ∷ release (whole 5) ∷ at (whole 6) ∷ []) ≡ (entered 0 1 ∷ refused 28 ∷ out (whole 5) 0 ∷ entered 1 1 ∷ [])
  -- the copies of a packet have a seq each; where one has room, one enters
  pub both : replies 3 (twice (whole 5) ∷ twice (whole 6) ∷ twice (whole 7) ∷ []) ≡ (entered 0 2 ∷ entered 2 1 ∷ refused 28 ∷ [])
  -- −0 and 0 tie, so the one that came first leaves first
  pub tie : replies 2 (at (whole 0) ∷ at (fin true 0 (pos 0)) ∷ release (whole 0) ∷ release (whole 0) ∷ []) ≡ (entered 0 1 ∷ entered 1 1 ∷ out (whole 0) 0 ∷ out (fin true 0 (pos 0)) 1 ∷ [])
  -- a later copy that is due earlier leaves first, at its due and not before
  pub due : replies 2 (at (whole 9) ∷ at (whole 8) ∷ release (whole 7) ∷ release (whole 8) ∷ release (whole 8) ∷ []) ≡ (entered 0 1 ∷ entered 1 1 ∷ none_due ∷ out (whole 8) 1 ∷ none_due ∷ [])
  -- an infinite due waits until all are torn down
  pub infinite : replies 2 (at (inf false) ∷ at (whole 1) ∷ release (whole max_exact) ∷ release (whole max_exact) ∷ drain ∷ []) ≡ (entered 0 1 ∷ entered 1 1 ∷ out (whole 1) 1 ∷ none_due ∷ drained 1 ∷ [])
  -- as many bytes as a slot has enter, and one more is refused
  pub widest : replies 2 (filled (replicate 64 7) ∷ filled (replicate 65 7) ∷ []) ≡ (entered 0 1 ∷ refused 22 ∷ [])

pub queue_lines : QueueLines
unfolding run step first_failing push_plain second_plain release_plain hand_out drain_plain leaving least_in due_by least without before_of is_instant_of is_counter_of lt le is_nan of_int
queue_lines = record { full = refl; both = refl; tie = refl; due = refl; infinite = refl; widest = refl }
