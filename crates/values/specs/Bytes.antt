-- Lists of bytes.
use Rattle.std.specs.Prelude.{ℕ, suc, ◌+◌, Bool, true, false, cond, ◌&&◌, List, [], ◌∷◌, length, take, drop, Option, Some, None, ◌==◌, nat_lt}
use Prim.Native.Char.{code}
use Prim.Native.String.{String, [] as empty, ◌∷◌ as ◌then◌}

-- the bytes of a quoted text
abbrev pub bytes : String → List ℕ
bytes empty = []
bytes (c then s) = code c ∷ bytes s

-- how many bytes stand before the first b
abbrev pub up_to : ℕ → List ℕ → ℕ
up_to b [] = 0
up_to b (x ∷ s) = cond (x == b) 0 (suc (up_to b s))

-- whether s has a byte b, and what stands before and behind the first one
abbrev pub has : ℕ → List ℕ → Bool
has b s = nat_lt (up_to b s) (length s)

abbrev pub before_first : ℕ → List ℕ → List ℕ
before_first b s = take (up_to b s) s

abbrev pub behind_first : ℕ → List ℕ → List ℕ
behind_first b s = drop (up_to b s + 1) s

-- what stands before and behind the first b, where there is one
abbrev pub split_once : ℕ → List ℕ → Option (List ℕ × List ℕ)
split_once b s = cond (has b s) (Some (before_first b s, behind_first b s)) None

-- whether two lists are the same
abbrev pub same : List ℕ → List ℕ → Bool
same [] [] = true
same [] (y ∷ t) = false
same (x ∷ s) [] = false
same (x ∷ s) (y ∷ t) = x == y && same s t

-- the bytes that part keys, values and numbers
abbrev pub plus_sign : ℕ
plus_sign = 43

abbrev pub dash : ℕ
dash = 45

abbrev pub point : ℕ
point = 46

abbrev pub colon : ℕ
colon = 58

abbrev pub equals : ℕ
equals = 61
