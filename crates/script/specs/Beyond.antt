-- What follows the bytes of a line that are kept: whether it is digits, and whether their number is even.
use Rattle.std.specs.Prelude.{ℕ, Bool, true, false, List, [], ◌∷◌, Option, Some, None}
use Rattle.script.specs.Hex.{digit_of}
use Rattle.script.specs.declared.beyond.Beyond.{Beyond}
use Rattle.script.specs.declared.beyond.Beyond.TheVariants.{Nothing, EvenDigits, OddDigits, Other}

-- whether only whole pairs of digits follow
abbrev pub is_paired : Beyond → Bool
is_paired Nothing = true
is_paired EvenDigits = true
is_paired OddDigits = false
is_paired Other = false

-- whether nothing follows
abbrev pub is_complete : Beyond → Bool
is_complete Nothing = true
is_complete EvenDigits = false
is_complete OddDigits = false
is_complete Other = false

-- what follows, with one digit more
abbrev pub digit_more : Beyond → Beyond
digit_more Nothing = OddDigits
digit_more EvenDigits = OddDigits
digit_more OddDigits = EvenDigits
digit_more Other = Other

-- what follows, with one byte more, of which its value as a digit is given
abbrev pub further_of : Beyond → Option ℕ → Beyond
further_of beyond None = Other
further_of beyond (Some v) = digit_more beyond

-- what follows, with more bytes
unfoldable pub all_further : Beyond → List ℕ → Beyond
all_further beyond [] = beyond
all_further beyond (b ∷ s) = all_further (further_of beyond (digit_of b)) s
