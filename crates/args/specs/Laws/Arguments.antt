-- The first argument of a text, and the arguments behind it.
use Rattle.std.specs.Prelude.{◌≡◌, refl, Bool, true, false, cond, List, [], ◌∷◌, ◌++◌, ℕ, suc, eqb, length}
use Rattle.std.proofs.Common.{◌∙◌, append_assoc, append-nil, add-one, arith, lt-ltb}
use Rattle.std.proofs.Math.Dec.{leb-suc-suc}
use Rattle.values.specs.Bytes.{has, before_first, behind_first}
use Rattle.args.specs.Arguments.{closed, arguments_of}

-- the arguments of s, where a was read before it
abbrev headed : List ℕ → List ℕ → List (List ℕ)
headed a s = cond (has 0 s) ((a ++ before_first 0 s) ∷ arguments_of (behind_first 0 s)) []

closed_cons : (a : List ℕ) (x : ℕ) (s : List ℕ) (t : Bool) → eqb x 0 ≡ t → closed (a ++ x ∷ []) s ≡ headed (a ++ x ∷ []) s → closed a (x ∷ s) ≡ headed a (x ∷ s)
closed_cons a x s true h ih = rw (h, lt-ltb 0 (suc (length s)) (omega arith), append-nil)
closed_cons a x s false h ih = rw (h, ih, append_assoc, leb-suc-suc, add-one, add-one)

closed_at : (s a : List ℕ) → closed a s ≡ headed a s
closed_at [] a = refl
closed_at (x ∷ s) a = closed_cons a x s (eqb x 0) refl (closed_at s (a ++ x ∷ []))

-- a text without a zero byte has no argument
pub no_argument : (s : List ℕ) → has 0 s ≡ false → arguments_of s ≡ []
no_argument s h = closed_at s [] ∙ rw h

-- the first argument ends at the first zero byte
pub first_argument : (s : List ℕ) → has 0 s ≡ true → arguments_of s ≡ before_first 0 s ∷ arguments_of (behind_first 0 s)
first_argument s h = closed_at s [] ∙ rw h
