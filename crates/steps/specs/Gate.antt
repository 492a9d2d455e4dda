-- Steps 2 and 3 of an arrival (document 01, "Arrival engine"), over the counted entries of the lists.
use Rattle.std.specs.Prelude.{Bool, true, false, ◌&&◌, cond, List, [], ◌∷◌, Float}
use Rattle.std.specs.Bool.{beq}
use Rattle.std.specs.List.{list_any}
use Rattle.settings.specs.Windows.{contains_of}
use Rattle.settings.specs.declared.kill.KillStyle.{KillStyle}
use Rattle.settings.specs.declared.kill.KillStyle.TheVariants.{Rst, Hold}
use Rattle.settings.specs.declared.kill.TcpKill.{TcpKill}
use Rattle.settings.specs.declared.window.Window.{Window}
use Rattle.steps.specs.declared.gate.Gate.{Gate}
use Rattle.steps.specs.declared.gate.Gate.TheVariants.{Open, Reset, Held, Blackout}

unfoldable pub style_gate_of : KillStyle → Gate
style_gate_of Rst = Reset
style_gate_of Hold = Held

-- step 2: of the kills whose windows hold the instant the first in the list counts
unfoldable pub kill_gate_of : List TcpKill → Float → Gate
kill_gate_of [] now = Open
kill_gate_of (k ∷ ks) now = cond (contains_of k.window now) (style_gate_of k.style) (kill_gate_of ks now)

-- whether some window holds the instant
unfoldable pub any_window_of : List Window → Float → Bool
any_window_of ws now = list_any (λ w. contains_of w now) ws

-- step 3: blackouts are asked where no kill decides
unfoldable pub gate_of : Gate → Bool → Gate
gate_of Open blackout = cond blackout Blackout Open
gate_of Reset blackout = Reset
gate_of Held blackout = Held
gate_of Blackout blackout = Blackout

unfoldable pub is_rst_of : KillStyle → Bool
is_rst_of Rst = true
is_rst_of Hold = false

-- whether some kill that resets, or one that holds, has a window that holds the instant
unfoldable pub kill_now_of : Bool → List TcpKill → Float → Bool
kill_now_of rst ks now = list_any (λ k. beq (is_rst_of k.style) rst && contains_of k.window now) ks
