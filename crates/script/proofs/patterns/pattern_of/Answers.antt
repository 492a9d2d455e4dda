-- Fewer than 16 digits are read, so one more fits 64 bits.
use Rattle.std.proofs.Common.{arith, rules, lit<}
use Rattle.script.proofs.Reading.{fits}
use Rattle.script.proofs.patterns.pattern_of.Goals as goal

pub overflow_mul-bits : goal.overflow_mul-bits
overflow_mul-bits c = omega (arith, fits _ _ 0 c.loop-byte.invariant.below (omega arith) (lit< tt))

pub overflow_add-bits : goal.overflow_add-bits
overflow_add-bits c = omega (arith, fits _ _ c.from.result c.loop-byte.invariant.below (omega arith) (search rules))
