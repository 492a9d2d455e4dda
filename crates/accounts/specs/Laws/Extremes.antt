-- For latencies that are numbers the record's minimum is above none of them and its maximum below none, however many there are.
use Rattle.std.specs.Prelude.{◌≡◌, refl, ◌≢◌, false, ◌||◌, List, [], ◌∷◌, ℕ, zero, suc, T, eqb, pos, Float}
use Rattle.std.proofs.Common.{arith, ne_eqb}
use Rattle.std.specs.Float.Ieee.{of_int, lt, le}
use Rattle.numbers.specs.Extremes.{maximum_of, minimum_of}
use Rattle.numbers.specs.Laws.Kinds.{Number, number_fin}
use Rattle.numbers.specs.Laws.NotNan.{cond_has}
use Rattle.numbers.specs.Laws.Extremes.{chosen_number, le_self, maximum_above, minimum_below}
use Rattle.numbers.specs.Laws.Transitive.{le_trans}
use Rattle.accounts.specs.declared.latency.LatencyStats.{LatencyStats}
use Rattle.accounts.specs.Latency.{no_latencies, minimum_with_of, maximum_with_of, recorded_of}

pub first_minimum : (min x : Float) → minimum_with_of 0 min x ≡ x
unfolding minimum_with_of
first_minimum min x = refl

pub next_minimum : (count : ℕ) {min x : Float} → count ≢ 0 → Number min → Number x → minimum_with_of count min x ≡ minimum_of min x
unfolding minimum_with_of
next_minimum count {min} {x} some p q = rw (ne_eqb count 0 some, chosen_number (lt x min) p q)

pub next_maximum : {max x : Float} → Number max → Number x → maximum_with_of max x ≡ maximum_of max x
unfolding maximum_with_of
next_maximum {max} {x} p q = rw (chosen_number (lt max x) p q)

-- ---- one latency more
pub record Numbered (l : LatencyStats) : Type 0 where
  pub min : Number l.min_ms
  pub max : Number l.max_ms

-- the latency y lies between the minimum and the maximum
pub record Between (l : LatencyStats) (y : Float) : Type 0 where
  pub low : T (le l.min_ms y)
  pub high : T (le y l.max_ms)

none_numbered : Numbered no_latencies
unfolding no_latencies of_int
none_numbered = record { min = number_fin false 0 (pos 0); max = number_fin false 0 (pos 0) }

recorded_numbered : {l : LatencyStats} {x : Float} → Numbered l → Number x → Numbered (recorded_of l x)
unfolding recorded_of minimum_with_of maximum_with_of
recorded_numbered {l} {x} n q = record { min = cond_has Number (eqb l.count 0 || lt x l.min_ms) q n.min; max = cond_has Number (lt l.max_ms x) q n.max }

minimum_below_new : (count : ℕ) {min x : Float} → Number min → Number x → T (le (minimum_with_of count min x) x)
minimum_below_new zero {min} {x} p q = rw (first_minimum min x) (le_self q)
minimum_below_new (suc n) p q = rw (next_minimum (suc n) (λ e. omega (arith, e)) p q) (minimum_below p q).1

new_between : {l : LatencyStats} {x : Float} → Numbered l → Number x → Between (recorded_of l x) x
unfolding recorded_of
new_between {l} n q = record { low = minimum_below_new l.count n.min q; high = rw (next_maximum n.max q) (maximum_above n.max q).1 }

others_between : {l : LatencyStats} {x y : Float} → l.count ≢ 0 → Numbered l → Number x → Number y → Between l y → Between (recorded_of l x) y
unfolding recorded_of
others_between {l} some n q r b =
    let after = recorded_numbered n q in
    record {
      low = le_trans after.min n.min r (rw (next_minimum l.count some n.min q) (minimum_below n.min q).0) b.low;
      high = le_trans r n.max after.max b.high (rw (next_maximum n.max q) (maximum_above n.max q).0);
    }

-- ---- any number of latencies
pub data Numbers : List Float → Type 0 where
  no_numbers : Numbers []
  more_numbers : {x : Float} {xs : List Float} → Number x → Numbers xs → Numbers (x ∷ xs)

pub data Among (x : Float) : List Float → Type 0 where
  here : {xs : List Float} → Among x (x ∷ xs)
  later : {y : Float} {xs : List Float} → Among x xs → Among x (y ∷ xs)

-- a record after the latencies of a list
abbrev pub recorded_all : LatencyStats → List Float → LatencyStats
recorded_all l [] = l
recorded_all l (x ∷ xs) = recorded_all (recorded_of l x) xs

stays_between : {l : LatencyStats} {xs : List Float} {y : Float} → l.count ≢ 0 → Numbered l → Number y → Numbers xs → Between l y → Between (recorded_all l xs) y
unfolding recorded_of
stays_between some n r no_numbers b = b
stays_between {l = l} {y = y} some n r (more_numbers {x = x} {xs = xs} q qs) b = stays_between {l = recorded_of l x} (λ e. omega (arith, e)) (recorded_numbered n q) r qs (others_between some n q r b)

among_between : {l : LatencyStats} {xs : List Float} {y : Float} → Numbered l → Numbers xs → Among y xs → Between (recorded_all l xs) y
unfolding recorded_of
among_between {l = l} {y = y} n no_numbers a = elim a [ ]
among_between n (more_numbers q qs) here = stays_between (λ e. omega (arith, e)) (recorded_numbered n q) q qs (new_between n q)
among_between {l = l} {y = y} n (more_numbers {x = x} {xs = xs} q qs) (later a) = among_between {l = recorded_of l x} (recorded_numbered n q) qs a

pub all_between : {xs : List Float} {y : Float} → Numbers xs → Among y xs → Between (recorded_all no_latencies xs) y
all_between qs a = among_between none_numbered qs a
