-- What holds of each value that is taken, or of each refusal, holds along the readings that lead to it.
use Rattle.std.specs.Prelude.{◌≡◌, refl, Bool, true, false, cond, Option, Some, None, Result, Ok, Err, IfOk, IfErr, IfSome}
use Rattle.numbers.specs.Results.{and_then, read_if, read_or}
use Rattle.numbers.specs.declared.refusal.Refusal.{Refusal}

-- nothing is asked of what is taken
abbrev pub Any : {A : Type 0} → A → Type 0
Any x = Unit {0}

pub any_taken : {A : Type 0} (r : Result A Refusal) → IfOk r Any
any_taken (Ok x) = tt
any_taken (Err k) = tt

pub then_taken : {A B : Type 0} (P : A → Type 0) (Q : B → Type 0) (r : Result A Refusal) (f : A → Result B Refusal)
    → IfOk r P → ((x : A) → P x → IfOk (f x) Q) → IfOk (and_then r f) Q
then_taken P Q (Ok x) f p h = h x p
then_taken P Q (Err k) f p h = tt

-- what is absent has no value that could fail
pub read_taken : {A B : Type 0} (P : B → Type 0) (f : A → Result B Refusal) (o : Option A) → ((x : A) → IfOk (f x) P) → IfOk (read_if f o) (λ o. IfSome o P)
read_taken P f None h = tt
read_taken P f (Some x) h = then_taken P (λ o. IfSome o P) (f x) (λ y. Ok (Some y)) (h x) (λ y p. p)

-- nor has what stands in for it
pub or_taken : {A B : Type 0} (P : B → Type 0) (f : A → Result B Refusal) (other : B) (o : Option A) → ((x : A) → IfOk (f x) P) → P other → IfOk (read_or f other o) P
or_taken P f other None h p = p
or_taken P f other (Some x) h p = h x

pub then_refused : {A B : Type 0} (P : Refusal → Type 0) (r : Result A Refusal) (f : A → Result B Refusal)
    → IfErr r P → ((x : A) → r ≡ Ok x → IfErr (f x) P) → IfErr (and_then r f) P
then_refused P (Ok x) f p h = h x refl
then_refused P (Err k) f p h = p

pub read_refused : {A B : Type 0} (P : Refusal → Type 0) (f : A → Result B Refusal) (o : Option A) → ((x : A) → IfErr (f x) P) → IfErr (read_if f o) P
read_refused P f None h = tt
read_refused P f (Some x) h = then_refused P (f x) (λ y. Ok (Some y)) (h x) (λ y e. tt)

pub or_refused : {A B : Type 0} (P : Refusal → Type 0) (f : A → Result B Refusal) (other : B) (o : Option A) → ((x : A) → IfErr (f x) P) → IfErr (read_or f other o) P
or_refused P f other None h = tt
or_refused P f other (Some x) h = h x

pub cond_refused : {A : Type 0} (P : Refusal → Type 0) (t : Bool) (a b : Result A Refusal) → IfErr a P → IfErr b P → IfErr (cond t a b) P
cond_refused P true a b h k = h
cond_refused P false a b h k = k
