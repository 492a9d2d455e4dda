-- The shortest table has an entry for each copy exactly where each has.
use Rattle.std.proofs.Common.{◌≡◌, ℕ, refl, Bool, true, false, ◌&&◌, min, arith}
use Rattle.std.specs.Prelude.{leb}
use borrow.Author.Tests.{le-leb, lt-leb, leb-true, leb-false}
use Rattle.queue.specs.Refusals.{room_of}
use Rattle.queue.proofs.sizes.Sizes.have_room.Goals as goal

leb_min : (c a b : ℕ) → leb c (min a b) ≡ (leb c a && leb c b)
leb_min c a b = go (leb c a) refl (leb c b) refl
  where
    go : (x : Bool) → leb c a ≡ x → (y : Bool) → leb c b ≡ y → leb c (min a b) ≡ (x && y)
    go true ex true ey = le-leb c (min a b) (omega (arith, leb-true c a ex, leb-true c b ey))
    go true ex false ey = lt-leb c (min a b) (omega (arith, leb-false c b ey))
    go false ex y ey = lt-leb c (min a b) (omega (arith, leb-false c a ex))

pub returns : goal.returns
unfolding room_of
returns c =
    rw (c.min-shortest.ensures, c.min-6.ensures, c.min-5.ensures, c.min-4.ensures, c.min-3.ensures, c.min-2.ensures, c.min.ensures)
    (rw (leb_min, leb_min, leb_min, leb_min, leb_min, leb_min, leb_min))
