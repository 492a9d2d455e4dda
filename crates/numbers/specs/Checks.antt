-- Tests in the order in which they are tried, each with the number, or with the refusal, that comes where it fails.
use Rattle.std.specs.Prelude.{ℕ, Bool, cond, List, [], ◌∷◌, Result, Ok, Err}
use Rattle.numbers.specs.Refusals.{number_of}
use Rattle.numbers.specs.declared.refusal.Refusal.{Refusal}

pub record Check : Type 0 where
  pub passes : Bool
  pub number : ℕ

abbrev pub check : Bool → ℕ → Check
check passes number = record { passes = passes; number = number }

-- the number of the first test that fails, or 0
unfoldable pub first_failing : List Check → ℕ
first_failing [] = 0
first_failing (c ∷ cs) = cond c.passes (first_failing cs) c.number

pub record Test : Type 0 where
  pub passes : Bool
  pub refusal : Refusal

abbrev pub test : Bool → Refusal → Test
test passes refusal = record { passes = passes; refusal = refusal }

-- one test by itself
unfoldable pub check_of : Bool → Refusal → Result (Unit {0}) Refusal
check_of passes refusal = cond passes (Ok tt) (Err refusal)

-- the refusal of the first test that fails, if one does
unfoldable pub first_refusal : List Test → Result (Unit {0}) Refusal
first_refusal [] = Ok tt
first_refusal (t ∷ ts) = cond t.passes (first_refusal ts) (Err t.refusal)

-- what is done where no refusal comes, or what the refusal gives
abbrev pub unless : {A : Type 0} → Result (Unit {0}) Refusal → A → (Refusal → A) → A
unless (Ok u) done refused = done
unless (Err e) done refused = refused e

-- the number of the refusal that comes, or 0
abbrev pub number_if : Result (Unit {0}) Refusal → ℕ
number_if (Ok u) = 0
number_if (Err e) = number_of e
