-- The arguments of an option text, and what they say of a key.
use Rattle.std.specs.Prelude.{Bool, true, false, ◌&&◌, cond, List, [], ◌∷◌, ◌++◌, ℕ, suc, eqb, take, drop, Option, None, Some, Result, Ok, Err}
use Rattle.numbers.specs.declared.refusal.Refusal.{Refusal}
use Rattle.numbers.specs.declared.refusal.Refusal.TheVariants as refusal
use Rattle.values.specs.Bytes.{bytes, same, has, before_first, behind_first, dash, equals}

-- the arguments of a text (document 01, "Option text"): a zero byte ends each of them; a is what was read since the last one
abbrev pub closed : List ℕ → List ℕ → List (List ℕ)
closed a [] = []
closed a (x ∷ s) = cond (eqb x 0) (a ∷ closed [] s) (closed (a ++ x ∷ []) s)

abbrev pub arguments_of : List ℕ → List (List ℕ)
arguments_of s = closed [] s

-- how many bytes the `--` pairs in front of a key have, and the key without them
abbrev pub dashes : List ℕ → ℕ
dashes [] = 0
dashes (x ∷ []) = 0
dashes (x ∷ y ∷ s) = cond (eqb x dash && eqb y dash) (suc (suc (dashes s))) 0

abbrev pub stripped : List ℕ → List ℕ
stripped k = drop (dashes k) k

-- whether an argument starts with `--`; refusal 4 if not
abbrev pub dashed : List ℕ → Bool
dashed a = same (take 2 a) (bytes "--")

-- the key of an argument: what stands before the first `=`, without its dashes
abbrev pub key_of : List ℕ → List ℕ
key_of a = stripped (before_first equals a)

-- a bare flag, or a key and its value
pub data Item : Type 0 where
  flag : Item
  pair : List ℕ → List ℕ → Item

-- what was gathered, and the refusal that ended it, where there was one
pub record Gathered : Type 0 where
  pub items : List Item
  pub outcome : Result (Unit {0}) Refusal

abbrev pub stop : Result (Unit {0}) Refusal → Gathered
stop r = record { items = []; outcome = r }

abbrev pub also : Item → Gathered → Gathered
also i g = record { items = i ∷ g.items; outcome = g.outcome }

-- a key and its value, from one argument with an `=` or from two, whatever the second starts with; `verbose` alone is a flag. The first argument is a key
-- that waits for the next one as its value, where there is such a key.
abbrev pub gather : Option (List ℕ) → List (List ℕ) → Gathered
gather None [] = stop (Ok tt)
gather (Some k) [] = stop (Err refusal.ValueLacking)
gather (Some k) (v ∷ rest) = also (pair k v) (gather None rest)
gather None (a ∷ rest) =
    cond (dashed a)
    (cond (has equals a) (also (pair (key_of a) (behind_first equals a)) (gather None rest))
    (cond (same (key_of a) (bytes "verbose")) (also flag (gather None rest)) (gather (Some (key_of a)) rest)))
    (stop (Err refusal.Argument))

unfoldable pub gathered : List ℕ → Gathered
gathered s = gather None (arguments_of s)

-- the values of a key, in the order of the text
abbrev pub values_in : List ℕ → List Item → List (List ℕ)
values_in k [] = []
values_in k (flag ∷ is) = values_in k is
values_in k (pair a v ∷ is) = cond (same a k) (v ∷ values_in k is) (values_in k is)

unfoldable pub values_of : List ℕ → List ℕ → List (List ℕ)
values_of k s = values_in k (gathered s).items

-- whether the bare flag is there
abbrev pub flag_in : List Item → Bool
flag_in [] = false
flag_in (flag ∷ is) = true
flag_in (pair a v ∷ is) = flag_in is

-- the last of several values of a key, where there is one
abbrev pub last_from : Option (List ℕ) → List (List ℕ) → Option (List ℕ)
last_from x [] = x
last_from x (v ∷ vs) = last_from (Some v) vs

unfoldable pub last_value_of : List ℕ → List ℕ → Option (List ℕ)
last_value_of k s = last_from None (values_of k s)
