-- Each setting by its own test, in the order of the definition; the MTU as a u64 is the same number.
use Rattle.std.proofs.Common.{rules, ◌≡◌}
use Rattle.std.proofs.Math.Bool.{and_assoc}
use Rattle.judgement.specs.Scalars.{are_scalars_of}
use Rattle.judgement.proofs.scalars.are_scalars.Goals as goal

pub returns : goal.returns
unfolding are_scalars_of
returns c =
    let same : c.map.result ≡ c.args.cfg.now.mtu = search rules in
    rw (c.is_bounded-2.ensures, c.is_limit-2.ensures, same, c.is_bounded.ensures, c.is_limit.ensures, c.is_probability-3.ensures, c.is_time-3.ensures, c.is_probability-2.ensures, c.is_time-2.ensures, c.is_time.ensures, c.is_ge.ensures, c.is_probability.ensures)
    (simp and_assoc)
