-- What a line asks by. An option text is whole pairs of hexadecimal digits behind the blank that follows the word options, in the bytes that are kept and in
-- what follows them; a line of other words asks by them where all of it is kept.
use Rattle.std.specs.Prelude.{ℕ, ◌&&◌, List, take, Option, Some, None, if◌then◌else◌}
use Rattle.values.specs.Bytes.{bytes, same}
use Rattle.script.specs.Beyond.{is_paired, is_complete}
use Rattle.script.specs.Hex.{decode_of}
use Rattle.script.specs.Lines.{Known}
use Rattle.script.specs.Words.{first_word_of, goes_on, rest_of}
use Rattle.script.specs.declared.asked.Asked.{Asked}
use Rattle.script.specs.declared.asked.Asked.TheVariants.{Text, Words, Nothing}

pub data Asks : Type 0 where
  text : List ℕ → Asks
  words : List ℕ → Asks
  nothing : Asks

abbrev pub told : Asked → Asks
told (Text bytes) = text bytes.now
told (Words line) = words line.now
told Nothing = nothing

-- by the option text, of which there is room for so many bytes, where there is one
abbrev pub by_text : ℕ → Option (List ℕ) → Asks
by_text room None = nothing
by_text room (Some bytes) = text (take room bytes)

abbrev pub text_of : Known → Option (List ℕ)
text_of known = if goes_on known.0 && is_paired known.1 then decode_of (rest_of known.0) else None

abbrev pub asked_of : ℕ → Known → Asks
asked_of room known =
    if same (first_word_of known.0) (bytes "options")
    then by_text room (text_of known)
    else (if is_complete known.1 then words known.0 else nothing)
