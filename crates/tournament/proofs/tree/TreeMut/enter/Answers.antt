-- A slot that fits has a leaf once the tree is widened.
use Rattle.std.proofs.Common.{◌≡◌, true, arith}
use Rattle.tournament.specs.Calls.{fits_of, enter_of}
use Rattle.tournament.proofs.CallSteps.{fits_is}
use Rattle.tournament.proofs.tree.TreeMut.enter.Goals as goal

pub widen-more-requires : goal.widen-more-requires
widen-more-requires c = let e : fits_of c.args.cap c.args.leaves c.args.slot ≡ true = cc in omega (arith, fits_is _ _ _ e)

pub place-requires : goal.place-requires
place-requires c = let e : fits_of c.args.cap c.args.leaves c.args.slot ≡ true = cc in let h = fits_is _ _ _ e in omega (arith, h, c.widen-more.ensures.leafed.0 (omega (arith, h)), c.widen-more.ensures.leafed.1)

pub returns-then-not-fits-clause-made : goal.returns-then-not-fits-clause-made
unfolding enter_of
returns-then-not-fits-clause-made c = rw (← c.fits.ensures, c.if-not-fits.true)

pub returns-clause-made : goal.returns-clause-made
unfolding enter_of
returns-clause-made c = rw (← c.fits.ensures, c.if-not-fits.false, c.place.ensures.made, c.widen-more.ensures.made)
