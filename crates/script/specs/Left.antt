-- What is left of a line, as its words.
use Rattle.std.specs.Prelude.{◌≡◌, ℕ, ◌+◌, List, length, Option, Some, None, if◌then◌else◌, option_map, option_and_then}
use denote.Ref.{Bor}
use Rattle.script.specs.declared.words.Words.{Words}
use Rattle.script.specs.Words.{first_word_of, rest_of, goes_on}

-- the bytes that are left, where there are any words
abbrev pub left_of : Words → Option (List ℕ)
left_of words = option_map (λ left. left.now) words.left

-- a call gives the first word that is left, and leaves what stands behind the first blank, where there is one
abbrev pub FirstWord : Words → Option (Bor (List ℕ)) → Words → Type 0
FirstWord before result after =
    (option_map (λ word. word.now) result ≡ option_map first_word_of (left_of before))
    × (left_of after ≡ option_and_then (λ left. if goes_on left then Some (rest_of left) else None) (left_of before))

-- each word but the last has a blank behind it
abbrev pub most : Option (List ℕ) → ℕ
most None = 0
most (Some left) = length left + 1

abbrev pub most_left : Words → ℕ
most_left words = most (left_of words)
