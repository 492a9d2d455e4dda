-- The words of a line, which single blanks part, and the whole numbers among them.
use Rattle.std.specs.Prelude.{ℕ, Bool, List, Option}
use Rattle.std.specs.Result.{result_ok}
use Rattle.values.specs.Bytes.{has, before_first, behind_first}
use Rattle.values.specs.Whole.{parse_u64_of}

abbrev pub blank : ℕ
blank = 32

abbrev pub first_word_of : List ℕ → List ℕ
first_word_of line = before_first blank line

-- what stands behind the first blank, and whether there is one
abbrev pub rest_of : List ℕ → List ℕ
rest_of line = behind_first blank line

abbrev pub goes_on : List ℕ → Bool
goes_on line = has blank line

-- the whole number that a word stands for, where it is one as the option text has them
abbrev pub whole_of : List ℕ → Option ℕ
whole_of word = result_ok (parse_u64_of word)
