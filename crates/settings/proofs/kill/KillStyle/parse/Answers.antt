-- Neither of the two words is the style.
use Rattle.std.proofs.Common.{◌≡◌, false, sym, ◌∙◌}
use Rattle.values.specs.Bytes.{bytes, same}
use Rattle.settings.proofs.kill.KillStyle.parse.Goals as goal

pub returns-else-eq-2 : goal.returns-else-eq-2
returns-else-eq-2 c =
    let rst : same c.args.v.now (bytes "rst") ≡ false = rw (← c.as_slice.ensures) (sym c.eq.ensures ∙ c.if-eq.false) in
    let hold : same c.args.v.now (bytes "hold") ≡ false = rw (← c.as_slice-else-eq.ensures) (sym c.eq-else-eq.ensures ∙ c.if-eq-2.false) in
    rw (rst, hold)
