-- Where none of the first three words is the value the fourth decides.
use Rattle.std.proofs.Common.{◌≡◌, false, sym, ◌∙◌}
use Rattle.values.specs.Bytes.{bytes, same}
use Rattle.options.proofs.scalars.says_yes.Goals as goal

pub returns : goal.returns
returns c =
    let one : same c.args.v.now (bytes "1") ≡ false = rw (← c.as_slice.ensures) (sym c.eq.ensures ∙ c.if-eq.false) in
    let yes : same c.args.v.now (bytes "true") ≡ false = rw (← c.as_slice-2.ensures) (sym c.eq-2.ensures ∙ c.if-eq-2.false) in
    let on : same c.args.v.now (bytes "yes") ≡ false = rw (← c.as_slice-3.ensures) (sym c.eq-3.ensures ∙ c.if-eq-3.false) in
    rw (one, yes, on, c.eq-4.ensures, c.as_slice-4.ensures)
