-- Literals of the code are the whole numbers of the definitions.
use Rattle.std.specs.Prelude.{◌≡◌, refl}
use Rattle.std.specs.Float.{binary64}
use Rattle.std.specs.Float.Ieee.{of_int, of_bits}
use Rattle.numbers.specs.Whole.{whole}

pub zero_is : of_bits binary64 0 ≡ whole 0
unfolding of_int of_bits
zero_is = refl

pub eight_thousand_is : of_bits binary64 0x40BF_4000_0000_0000 ≡ whole 8000
unfolding of_int of_bits
eight_thousand_is = refl

pub one_is : of_bits binary64 0x3FF0_0000_0000_0000 ≡ whole 1
unfolding of_int of_bits
one_is = refl
