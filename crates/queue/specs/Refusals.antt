-- Which refusal meets a call, in document 01's order (section "Who can cause a refusal"); 29 is not the queue's. 26 stands where what is found is out of keeping.
use Rattle.std.specs.Prelude.{Bool, true, not, ◌&&◌, List, [], ◌∷◌, ℕ, ◌+◌, ◌*◌, ◌^◌, ◌<◌, leb, eqb, Float, length, Result}
use Rattle.std.specs.Float.Ieee.{is_nan}
use Rattle.numbers.specs.Checks.{Test, test, first_refusal}
use Rattle.numbers.specs.Instant.{is_instant_of}
use Rattle.numbers.specs.Limits.{max_capacity, is_width_of, is_counter_of}
use Rattle.numbers.specs.declared.refusal.Refusal.{Refusal}
use Rattle.numbers.specs.declared.refusal.Refusal.TheVariants as refusal
use Rattle.queue.specs.Tables.{Tables}
use Rattle.queue.specs.declared.queue.ImpairQueue.{ImpairQueue}
use Rattle.queue.specs.declared.sizes.Sizes.{Sizes}

-- the tests of a call, each passed or not
abbrev pub queue_checks : Bool → Bool → Bool → Bool → Bool → Bool → Bool → List Test
queue_checks memory instant short due counter keeping space =
    test memory refusal.Memory ∷ test instant refusal.Instant ∷ test short refusal.Length ∷ test due refusal.Due ∷ test counter refusal.Counter
    ∷ test keeping refusal.Keeping ∷ test space refusal.Full ∷ []

-- how long the tables and the store are
abbrev pub sizes_of : Tables → Sizes
sizes_of t =
    record {
      win = length t.win;
      free = length t.free;
      dues = length t.dues;
      seqs = length t.seqs;
      arrivals = length t.arrivals;
      routes = length t.routes;
      copy_ids = length t.copy_ids;
      lengths = length t.lengths;
      store = length t.store;
    }

-- whether every lent table has an entry for each copy of the capacity, and the store a slot of that width
unfoldable pub room_of : ℕ → ℕ → Sizes → Bool
room_of width cap s =
    leb cap s.win && leb cap s.free && leb cap s.dues && leb cap s.seqs && leb cap s.arrivals && leb cap s.routes && leb cap s.copy_ids && leb cap s.lengths
    && leb (cap * width) s.store

unfoldable pub memory_of : ℕ → ℕ → Tables → Bool
memory_of width cap t = room_of width cap (sizes_of t)

-- so many copies more can be counted
abbrev pub RoomFor : ℕ → ImpairQueue → Type 0
RoomFor n q = (q.held + n < 2 ^ 32) × (q.next_seq + n < 2 ^ 64)

-- held ≤ opened ≤ leaves ≤ capacity ≤ 1,048,576, and the width is one that slots can have
unfoldable pub in_keeping : ImpairQueue → Bool
in_keeping q = leb q.cap max_capacity && leb q.leaves q.cap && leb q.opened q.leaves && leb q.held q.opened && is_width_of q.width

-- 23, 21 (the arrival), 22, 27, 25, 26, 28
unfoldable pub push_refusal : ImpairQueue → Bool → Float → Float → ℕ → Result (Unit {0}) Refusal
push_refusal q memory due arrival len =
    first_refusal (queue_checks memory (is_instant_of arrival) (leb len q.width) (not (is_nan due)) (is_counter_of q.next_seq) (in_keeping q) (not (eqb q.held q.cap)))

-- 23, 21, 25, 26
unfoldable pub release_refusal : ImpairQueue → Bool → Float → Result (Unit {0}) Refusal
release_refusal q memory now = first_refusal (queue_checks memory (is_instant_of now) true true (is_counter_of q.next_seq) (in_keeping q) true)

-- 23, 25, 26
unfoldable pub state_refusal : ImpairQueue → Bool → Result (Unit {0}) Refusal
state_refusal q memory = first_refusal (queue_checks memory true true true (is_counter_of q.next_seq) (in_keeping q) true)

-- the same for `next_due`, which reads two tables
unfoldable pub due_refusal : ImpairQueue → ℕ → ℕ → Result (Unit {0}) Refusal
due_refusal q win dues = state_refusal q (leb q.cap win && leb q.cap dues)
