-- Where no test fails all pass, and the other way round; and what every failing test's number has, the first one's has.
use Rattle.std.specs.Prelude.{◌≡◌, ℕ, Bool, true, false, cond, not, ◌&&◌, ◌≢◌, List, [], ◌∷◌, ◌==◌, refl, Result, Ok, Err}
use Rattle.std.proofs.lemmas.Bool.{eqb-false, not-true}
use Rattle.numbers.specs.Checks.{Check, check, first_failing, Test, first_refusal, unless, number_if}
use Rattle.numbers.specs.Refusals.{number_of}
use Rattle.numbers.specs.declared.refusal.Refusal.{Refusal}
use Rattle.numbers.specs.declared.refusal.Refusal.TheVariants.{TextLength, TextEnd, Byte, Argument, ValueLacking, Mode, Whole, WholeAbove, Zero, Decimal, Probability, GeParts, GeZero, Reorder, Colon, Window, KillParts, KillStyle, Entries, KillUnderUdp, Instant, Length, Memory, Capacity, Counter, Keeping, Due, Full, Settings, Width, NatChangeUnderTcp, ReorderUnderTcp, DuplicateUnderTcp}
use Rattle.numbers.specs.Laws.Both.{both_true}

-- each test of a list passes
abbrev pub AllPass : List Check → Type 0
AllPass [] = Unit {0}
AllPass (c ∷ cs) = (c.passes ≡ true) × AllPass cs

-- no test of a list has the number 0, as a test that computes
abbrev pub are_numbered : List Check → Bool
are_numbered [] = true
are_numbered (c ∷ cs) = not (c.number == 0) && are_numbered cs

pub none_failing : (cs : List Check) → are_numbered cs ≡ true → first_failing cs ≡ 0 → AllPass cs
unfolding first_failing
none_failing [] n h = tt
none_failing (c ∷ cs) n h =
    let numbered = both_true (not (c.number == 0)) (are_numbered cs) n in
    go c.passes refl h (eqb-false c.number 0 (not-true (c.number == 0) numbered.0)) (none_failing cs numbered.1)
  where
    go : (b : Bool) → c.passes ≡ b → cond b (first_failing cs) c.number ≡ 0 → c.number ≢ 0 → (first_failing cs ≡ 0 → AllPass cs) → AllPass (c ∷ cs)
    go true p h some rest = (p, rest h)
    go false p h some rest = absurd (some h)

pub all_passing : (cs : List Check) → AllPass cs → first_failing cs ≡ 0
unfolding first_failing
all_passing [] p = refl
all_passing (c ∷ cs) p = rw p.0 (all_passing cs p.1)

-- the number of each test that fails has the property
abbrev pub AllFailing : (ℕ → Type 0) → List Check → Type 0
AllFailing P [] = Unit {0}
AllFailing P (c ∷ cs) = (c.passes ≡ false → P c.number) × AllFailing P cs

pub first_has : (P : ℕ → Type 0) (cs : List Check) → P 0 → AllFailing P cs → P (first_failing cs)
unfolding first_failing
first_has P [] none h = none
first_has P (c ∷ cs) none h = go c.passes refl (first_has P cs none h.1)
  where
    go : (b : Bool) → c.passes ≡ b → P (first_failing cs) → P (cond b (first_failing cs) c.number)
    go true p rest = rest
    go false p rest = h.0 p

-- ---- the same of tests with their refusals

abbrev pub AllTestsPass : List Test → Type 0
AllTestsPass [] = Unit {0}
AllTestsPass (t ∷ ts) = (t.passes ≡ true) × AllTestsPass ts

pub none_refused : (ts : List Test) → first_refusal ts ≡ Ok tt → AllTestsPass ts
unfolding first_refusal
none_refused [] h = tt
none_refused (t ∷ ts) h = go t.passes refl h (none_refused ts)
  where
    go : (b : Bool) → t.passes ≡ b → cond b (first_refusal ts) (Err t.refusal) ≡ Ok tt → (first_refusal ts ≡ Ok tt → AllTestsPass ts) → AllTestsPass (t ∷ ts)
    go true p h rest = (p, rest h)
    go false p h rest = cc

-- the tests with the numbers of their refusals
abbrev pub numbered : List Test → List Check
numbered [] = []
numbered (t ∷ ts) = check t.passes (number_of t.refusal) ∷ numbered ts

pub number_first : (ts : List Test) → number_if (first_refusal ts) ≡ first_failing (numbered ts)
unfolding first_refusal first_failing
number_first [] = refl
number_first (t ∷ ts) = go t.passes (number_first ts)
  where
    go : (b : Bool) → number_if (first_refusal ts) ≡ first_failing (numbered ts) → number_if (cond b (first_refusal ts) (Err t.refusal)) ≡ cond b (first_failing (numbered ts)) (number_of t.refusal)
    go true e = e
    go false e = refl

-- no refusal has the number 0
pub number_some : (e : Refusal) → (number_of e == 0) ≡ false
number_some = elim [ TextLength ↦ refl | TextEnd ↦ refl | Byte ↦ refl | Argument ↦ refl | ValueLacking ↦ refl | Mode ↦ refl | Whole ↦ refl | WholeAbove ↦ refl | Zero ↦ refl | Decimal ↦ refl | Probability ↦ refl | GeParts ↦ refl | GeZero ↦ refl | Reorder ↦ refl | Colon ↦ refl | Window ↦ refl | KillParts ↦ refl | KillStyle ↦ refl | Entries ↦ refl | KillUnderUdp ↦ refl | Instant ↦ refl | Length ↦ refl | Memory ↦ refl | Capacity ↦ refl | Counter ↦ refl | Keeping ↦ refl | Due ↦ refl | Full ↦ refl | Settings ↦ refl | Width ↦ refl | NatChangeUnderTcp ↦ refl | ReorderUnderTcp ↦ refl | DuplicateUnderTcp ↦ refl ]

-- what holds where no refusal comes and of what each refusal gives
pub unless_has : {A : Type 0} (P : A → Type 0) (r : Result (Unit {0}) Refusal) {done : A} {refused : Refusal → A} → P done → ((e : Refusal) → P (refused e)) → P (unless r done refused)
unless_has P (Ok u) h k = h
unless_has P (Err e) h k = k e

-- the same where the refusal, or that none comes, is known
pub unless_when : {A : Type 0} (P : A → Type 0) (r : Result (Unit {0}) Refusal) {done : A} {refused : Refusal → A} → (r ≡ Ok tt → P done) → ((e : Refusal) → r ≡ Err e → P (refused e)) → P (unless r done refused)
unless_when P (Ok u) h k = h refl
unless_when P (Err e) h k = k e refl
