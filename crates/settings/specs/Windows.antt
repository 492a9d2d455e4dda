-- Windows and kills: a window holds its start and not its end (document 01, "Arrival engine").
use Rattle.std.specs.Prelude.{Bool, ◌&&◌, cond, Option, Some, None, Result, Ok, Err, List, ℕ, leb, Float}
use Rattle.std.specs.Float.Ieee.{le, lt}
use Rattle.numbers.specs.Results.{and_then}
use Rattle.numbers.specs.Whole.{whole}
use Rattle.numbers.specs.declared.refusal.Refusal.{Refusal}
use Rattle.numbers.specs.declared.refusal.Refusal.TheVariants as refusal
use Rattle.values.specs.Blanks.{trimmed}
use Rattle.values.specs.Bytes.{bytes, same, split_once, colon}
use Rattle.values.specs.Parts.{colons_of}
use Rattle.values.specs.Whole.{parse_bounded_of}
use Rattle.settings.specs.declared.kill.KillStyle.{KillStyle}
use Rattle.settings.specs.declared.kill.KillStyle.TheVariants.{Rst, Hold}
use Rattle.settings.specs.declared.kill.TcpKill.{TcpKill}
use Rattle.settings.specs.declared.window.Window.{Window}

-- what fills the lists: an empty window, and a kill of it
abbrev pub no_window : Window
no_window = record { start_ms = 0; end_ms = 0 }

abbrev pub no_kill : TcpKill
no_kill = record { window = no_window; style = Hold }

unfoldable pub contains_of : Window → Float → Bool
contains_of w t = le (whole w.start_ms) t && lt t (whole w.end_ms)

-- a bound may have blanks around it
abbrev pub bound_of : List ℕ → Result ℕ Refusal
bound_of v = parse_bounded_of (trimmed v)

-- the first of the two bounds that is refused counts, then 16, where the window is empty
abbrev pub bounds_of : List ℕ → List ℕ → Result Window Refusal
bounds_of start end =
    and_then (bound_of start) (λ s. and_then (bound_of end) (λ e.
    cond (leb e s) (Err refusal.Window) (Ok (record { start_ms = s; end_ms = e }))))

-- the first colon parts the bounds
abbrev pub parted : Option (List ℕ × List ℕ) → Result Window Refusal
parted None = Err refusal.Colon
parted (Some p) = bounds_of p.0 p.1

abbrev pub parse_window_of : List ℕ → Result Window Refusal
parse_window_of v = parted (split_once colon v)

abbrev pub parse_style_of : List ℕ → Result KillStyle Refusal
parse_style_of v = cond (same v (bytes "rst")) (Ok Rst) (cond (same v (bytes "hold")) (Ok Hold) (Err refusal.KillStyle))

-- the window first, then the style
abbrev pub kill_parts : List ℕ → List ℕ → List ℕ → Result TcpKill Refusal
kill_parts start end style = and_then (bounds_of start end) (λ w. and_then (parse_style_of style) (λ s. Ok (record { window = w; style = s })))

-- colons part start, end and style; refusal 17 where they are not three
abbrev pub kill_parted : Option (List ℕ × List ℕ × List ℕ) → Result TcpKill Refusal
kill_parted None = Err refusal.KillParts
kill_parted (Some (start, end, style)) = kill_parts start end style

abbrev pub parse_kill_of : List ℕ → Result TcpKill Refusal
parse_kill_of v = kill_parted (colons_of v)
