-- The calls of a host, and what the machine answers.
use Rattle.std.specs.Prelude.{◌≡◌, ◌⊎◌, Bool, List, [], ◌∷◌, ℕ, T, Float}
use Rattle.std.specs.Float.{binary64}
use Rattle.std.specs.Float.Ieee.{fits}
use Rattle.numbers.specs.Refusals.{refused_instant, refused_length, refused_counter}
use Rattle.accounts.specs.declared.stats.DirectionStats.{DirectionStats}
use Rattle.steps.specs.declared.decision.Decision.{Decision}
use Rattle.held.specs.Copies.{Copy}

-- an arrival has an instant, bytes and a route; a release and a rebind have an instant
pub data Call : Type 0 where
  arrive : Float → List ℕ → ℕ → Call
  release : Float → Call
  rebind : Float → Call
  teardown : Call
  report : Call

-- the instants of the arrivals of a list of calls are numbers of binary64, as every f64 is
abbrev pub Binary64Call : Call → Type 0
Binary64Call (arrive now bytes route) = T (fits binary64 now)
Binary64Call (release now) = Unit {0}
Binary64Call (rebind now) = Unit {0}
Binary64Call teardown = Unit {0}
Binary64Call report = Unit {0}

abbrev pub Binary64 : List Call → Type 0
Binary64 [] = Unit {0}
Binary64 (c ∷ cs) = Binary64Call c × Binary64 cs

pub data Answer : Type 0 where
  -- what was decided, and how many copies entered, overflowed and were torn
  decided : Decision → ℕ → ℕ → ℕ → Answer
  -- the copy that left, with its bytes
  released : Copy → Answer
  none_due : Answer
  -- whether the address is to change
  rebound : Bool → Answer
  -- how many copies went to torn
  tore_down : ℕ → Answer
  -- the statistics with the accounts merged, the copies held and those torn
  reported : DirectionStats → ℕ → ℕ → Answer
  -- the number of the refusal
  refused : ℕ → Answer

-- the three numbers by which the machine refuses
abbrev pub Refusal : ℕ → Type 0
Refusal k = (k ≡ refused_instant) ⊎ (k ≡ refused_length) ⊎ (k ≡ refused_counter)

-- an answer stands in a list
abbrev pub In : Answer → List Answer → Type 0
In a [] = ⊥
In a (b ∷ l) = (a ≡ b) ⊎ In a l
