-- The plain queue: a list of the copies that are held, in the order in which they entered, beside the capacity, the most bytes that a copy may have and the next
-- seq. It knows no slots, no tables and no tree. Laws shows that the calls of crates/queue answer as it does.
use Rattle.std.specs.Prelude.{Bool, true, cond, not, ◌&&◌, List, [], ◌∷◌, ◌++◌, ℕ, ◌+◌, leb, eqb, Float, length}
use Rattle.std.specs.Float.Ieee.{is_nan}
use Rattle.numbers.specs.Checks.{Check, check, first_failing}
use Rattle.numbers.specs.Instant.{is_instant_of}
use Rattle.numbers.specs.Limits.{is_counter_of}
use Rattle.numbers.specs.Refusals.{refused_instant, refused_length, refused_counter, refused_due, refused_full}
use Rattle.held.specs.Copies.{Copy, copy, least, without, Leaving, no_copy, one_copy, leaving}

pub record Plain : Type 0 where
  pub cap : ℕ
  pub width : ℕ
  pub held : List Copy
  pub next_seq : ℕ

abbrev pub plain : ℕ → ℕ → List Copy → ℕ → Plain
plain c w h n = record { cap = c; width = w; held = h; next_seq = n }

-- a push has a due, an arrival, a route, a copy id, whether the packet is duplicated, and bytes; a release has an instant; the last four only ask
pub data Call : Type 0 where
  push : Float → Float → ℕ → ℕ → Bool → List ℕ → Call
  release : Float → Call
  drain : Call
  next_due : Call
  len : Call
  is_empty : Call
  has_memory : Call

-- copies entered (the seq of the first, and how many), a copy left, none is due, so many left; the next due, none is held, so many are, yes or no; or the number
-- of the refusal
pub data Reply : Type 0 where
  entered : ℕ → ℕ → Reply
  released : Copy → Reply
  none_due : Reply
  drained : ℕ → Reply
  due_next : Float → Reply
  none_held : Reply
  holds : ℕ → Reply
  tells : Bool → Reply
  refused : ℕ → Reply

pub record Step : Type 0 where
  pub reply : Reply
  pub then : Plain

abbrev pub step_to : Reply → Plain → Step
step_to r p = record { reply = r; then = p }

-- a refusal by that number, which changes nothing, or else the step where it is 0
abbrev pub unless_refused : Plain → ℕ → Step → Step
unless_refused p k s = cond (eqb k 0) s (step_to (refused k) p)

abbrev pub is_full : Plain → Bool
is_full p = eqb (length p.held) p.cap

-- a copy more, at the end and with the next seq
abbrev pub with_copy : Plain → Float → Float → ℕ → ℕ → List ℕ → Plain
with_copy p due arrival route id bytes = plain p.cap p.width (p.held ++ (copy due p.next_seq arrival route id (length bytes) bytes ∷ [])) (p.next_seq + 1)

-- what follows a first copy with that seq: of a packet that is duplicated a second one, with copy id 1 and the same due, unless the queue is full by then
unfoldable pub second_plain : ℕ → Plain → Float → Float → ℕ → Bool → List ℕ → Step
second_plain seq p due arrival route duplicated bytes =
    cond (duplicated && not (is_full p)) (step_to (entered seq 2) (with_copy p due arrival route 1 bytes)) (step_to (entered seq 1) p)

-- 21 (the arrival), 22, 27, 25, 28
abbrev pub push_checks : Plain → Float → Float → ℕ → List Check
push_checks p due arrival n =
    check (is_instant_of arrival) refused_instant ∷ check (leb n p.width) refused_length ∷ check (not (is_nan due)) refused_due ∷ check (is_counter_of p.next_seq) refused_counter
    ∷ check (not (is_full p)) refused_full ∷ []

-- judged once; then the copies enter
unfoldable pub push_plain : Plain → Float → Float → ℕ → ℕ → Bool → List ℕ → Step
push_plain p due arrival route id duplicated bytes =
    unless_refused p (first_failing (push_checks p due arrival (length bytes)))
    (second_plain p.next_seq (with_copy p due arrival route id bytes) due arrival route duplicated bytes)

-- the copy that leaves is handed out, and all but it are left
unfoldable pub hand_out : Plain → Leaving → Step
hand_out p no_copy = step_to none_due p
hand_out p (one_copy c) = step_to (released c) (plain p.cap p.width (without c.seq p.held) p.next_seq)

-- 21, 25
abbrev pub release_checks : Plain → Float → List Check
release_checks p now = check (is_instant_of now) refused_instant ∷ check (is_counter_of p.next_seq) refused_counter ∷ []

-- the least copy that is due leaves
unfoldable pub release_plain : Plain → Float → Step
release_plain p now = unless_refused p (first_failing (release_checks p now)) (hand_out p (leaving now p.held))

-- 25
abbrev pub state_checks : Plain → List Check
state_checks p = check (is_counter_of p.next_seq) refused_counter ∷ []

-- all leave, and their number is told
unfoldable pub drain_plain : Plain → Step
drain_plain p = unless_refused p (first_failing (state_checks p)) (step_to (drained (length p.held)) (plain p.cap p.width [] p.next_seq))

unfoldable pub least_due : List Copy → Reply
least_due [] = none_held
least_due (c ∷ l) = due_next (least c l).due

-- the least copy's due, or that none is held
unfoldable pub next_due_plain : Plain → Step
next_due_plain p = unless_refused p (first_failing (state_checks p)) (step_to (least_due p.held) p)

unfoldable pub step : Plain → Call → Step
step p (push d a r c dup b) = push_plain p d a r c dup b
step p (release now) = release_plain p now
step p drain = drain_plain p
step p next_due = next_due_plain p
step p len = step_to (holds (length p.held)) p
step p is_empty = step_to (tells (eqb (length p.held) 0)) p
-- the memory that was lent has room
step p has_memory = step_to (tells true) p

-- the replies to a list of calls, each on what the last one left
unfoldable pub run : Plain → List Call → List Reply
run p [] = []
run p (c ∷ cs) = (step p c).reply ∷ run (step p c).then cs
