-- Refusal 25 over lists of counters: each counter that is let through is below 2 ^ 60, and the bits of all together tell whether all are let through.
use Rattle.std.specs.Prelude.{◌≡◌, Bool, true, ◌&&◌, List, [], ◌∷◌, ◌++◌, ℕ, zero, suc, ◌<◌, get_or, drop}
use Rattle.std.proofs.Common.{sym, ap, ◌∙◌, arith}
use Rattle.std.proofs.Math.Bool.{and-eq-true_iff, and-true, and_assoc}
use Rattle.std.specs.Int.Bits.{bit_or}
use Rattle.numbers.specs.Limits.{counter_limit, is_counter_of}
use Rattle.numbers.specs.Laws.Limits.{counter_below, counters_or}
use Rattle.accounts.specs.Counters.{are_counters}
use Rattle.accounts.specs.Bits.{bits_from}

first_counter : (n : ℕ) (ns : List ℕ) → are_counters (n ∷ ns) ≡ true → n < counter_limit
first_counter n ns h = counter_below n ((and-eq-true_iff (is_counter_of n) (are_counters ns)).0 h).0

other_counters : (n : ℕ) (ns : List ℕ) → are_counters (n ∷ ns) ≡ true → are_counters ns ≡ true
other_counters n ns h = ((and-eq-true_iff (is_counter_of n) (are_counters ns)).0 h).1

pub counter_at : (ns : List ℕ) (i : ℕ) → are_counters ns ≡ true → get_or ns i 0 < counter_limit
counter_at [] i h = omega arith
counter_at (n ∷ ns) zero h = first_counter n ns h
counter_at (n ∷ ns) (suc i) h = counter_at ns i (other_counters n ns h)

pub later_counters : (ns : List ℕ) (i : ℕ) → are_counters ns ≡ true → are_counters (drop i ns) ≡ true
later_counters ns zero h = h
later_counters [] (suc i) h = h
later_counters (n ∷ ns) (suc i) h = later_counters ns i (other_counters n ns h)

bits_judge : (n : ℕ) (ns : List ℕ) → is_counter_of (bits_from n ns) ≡ (is_counter_of n && are_counters ns)
bits_judge n [] = sym (and-true (is_counter_of n))
bits_judge n (m ∷ ms) = bits_judge (bit_or n m) ms ∙ ap (λ (b : Bool). b && are_counters ms) (counters_or n m) ∙ and_assoc (is_counter_of n) (is_counter_of m) (are_counters ms)

-- the bits of a list as they are gathered from 0
from_zero : (ns : List ℕ) → is_counter_of (bits_from 0 ns) ≡ are_counters ns
unfolding is_counter_of
from_zero ns = bits_judge 0 ns

put_last : (ns rest : List ℕ) → are_counters (ns ++ (bits_from 0 rest ∷ [])) ≡ are_counters (ns ++ rest)
put_last [] rest = and-true (is_counter_of (bits_from 0 rest)) ∙ from_zero rest
put_last (n ∷ ns) rest = ap (λ (b : Bool). is_counter_of n && b) (put_last ns rest)

-- the bits of some counters, and after them those of a list that were gathered before
pub gathered : (n : ℕ) (ns rest : List ℕ) → is_counter_of (bits_from n (ns ++ (bits_from 0 rest ∷ []))) ≡ are_counters (n ∷ ns ++ rest)
gathered n ns rest = bits_judge n (ns ++ (bits_from 0 rest ∷ [])) ∙ ap (λ (b : Bool). is_counter_of n && b) (put_last ns rest)
