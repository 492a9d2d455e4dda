-- The lines of an input: a line ends at the first line feed, or at the end of the bytes. Its first bytes are kept, and of what follows it is known what
-- `Beyond` tells.
use Rattle.std.specs.Prelude.{ℕ, ◌+◌, Bool, true, false, List, [], ◌∷◌, ◌++◌, length, take, nat_lt, ◌==◌, if◌then◌else◌}
use Rattle.std.specs.Io.BufRead.{first_piece}
use Rattle.script.specs.Hex.{digit_of}
use Rattle.script.specs.Beyond.{further_of}
use Rattle.script.specs.declared.beyond.Beyond.{Beyond}
use Rattle.script.specs.declared.beyond.Beyond.TheVariants.{Nothing}
use Rattle.script.specs.declared.line.Cut.{Cut}
use Rattle.script.specs.declared.line.Line.{Line}

abbrev pub line_feed : ℕ
line_feed = 10

-- whether there is a line, and its bytes before the line feed
abbrev pub has_line : List ℕ → Bool
has_line bytes = nat_lt 0 (length bytes)

abbrev pub line_of : List ℕ → List ℕ
line_of bytes = first_piece line_feed bytes

-- so many bytes of a line are kept
abbrev pub room : ℕ
room = 65536

-- the bytes of a line that are kept, and what follows them
abbrev pub Known : Type 0
Known = List ℕ × Beyond

abbrev pub kept_of : Line → List ℕ
kept_of line = take line.length line.buffer.items

abbrev pub known_of : Line → Known
known_of line = (kept_of line, line.beyond)

-- a line of which nothing has come
abbrev pub nothing_known : Known
nothing_known = ([], Nothing)

abbrev pub has_begun : Known → Bool
has_begun known = nat_lt 0 (length known.0)

-- the line with one byte more, which is kept where there is room
abbrev pub with_byte_of : Known → ℕ → Known
with_byte_of known byte =
    if nat_lt (length known.0) room
    then (known.0 ++ byte ∷ [], known.1)
    else (known.0, further_of known.1 (digit_of byte))

-- the line with more bytes
unfoldable pub with_bytes : Known → List ℕ → Known
with_bytes known [] = known
with_bytes known (b ∷ s) = with_bytes (with_byte_of known b) s

-- how many bytes are used and whether the line has ended, and what is known of it then, where i bytes are used and these are left
unfoldable pub cut_from : ℕ → Known → List ℕ → Cut × Known
cut_from i known [] = (record { used = i; ended = false }, known)
cut_from i known (b ∷ s) =
    if b == line_feed
    then (record { used = i + 1; ended = true }, known)
    else cut_from (i + 1) (with_byte_of known b) s

abbrev pub cut_line_of : List ℕ → Known → Cut × Known
cut_line_of chunk known = cut_from 0 known chunk

-- a closure that may be called in any state, with any line and any output
abbrev pub TakesAnyLine : {F L W : Type 0} → (F → L → W → Type 0) → Type 0
TakesAnyLine {F} {L} {W} pre = (state : F) (line : L) (out : W) → pre state line out
