-- What is made of a value that was read, or that may be absent; a refusal stays.
use Rattle.std.specs.Prelude.{Option, Some, None, Result, Ok, Err}
use Rattle.numbers.specs.declared.refusal.Refusal.{Refusal}

abbrev pub and_then : {A B : Type 0} → Result A Refusal → (A → Result B Refusal) → Result B Refusal
and_then (Ok x) f = f x
and_then (Err k) f = Err k

-- what is absent is not read
abbrev pub read_if : {A B : Type 0} → (A → Result B Refusal) → Option A → Result (Option B) Refusal
read_if f None = Ok None
read_if f (Some x) = and_then (f x) (λ y. Ok (Some y))

-- for what is absent something else stands in
abbrev pub read_or : {A B : Type 0} → (A → Result B Refusal) → B → Option A → Result B Refusal
read_or f other None = Ok other
read_or f other (Some x) = f x
