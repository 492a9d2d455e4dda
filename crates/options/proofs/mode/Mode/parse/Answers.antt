-- A text of another length is neither of the two words.
use Rattle.std.proofs.Common.{◌≡◌, false, arith}
use Rattle.values.specs.Bytes.{bytes, same}
use Rattle.values.specs.Laws.Scan.{same_length}
use Rattle.options.proofs.mode.Mode.parse.Goals as goal

pub returns-in_default : goal.returns-in_default
returns-in_default c =
    let udp : same c.args.v.now (bytes "udp") ≡ false = same_length c.args.v.now (bytes "udp") (λ e. omega (arith, e, c.in_default.len_below)) in
    let tcp : same c.args.v.now (bytes "tcp") ≡ false = same_length c.args.v.now (bytes "tcp") (λ e. omega (arith, e, c.in_default.len_below)) in
    rw (udp, tcp)

pub returns-in_default-7 : goal.returns-in_default-7
returns-in_default-7 c =
    let udp : same c.args.v.now (bytes "udp") ≡ false = same_length c.args.v.now (bytes "udp") (λ e. omega (arith, e, c.in_default.len_at_least)) in
    let tcp : same c.args.v.now (bytes "tcp") ≡ false = same_length c.args.v.now (bytes "tcp") (λ e. omega (arith, e, c.in_default.len_at_least)) in
    rw (udp, tcp)
