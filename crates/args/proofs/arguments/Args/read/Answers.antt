-- Each return is what the definition chooses by the same tests.
use Rattle.std.proofs.Common.{◌≡◌, List, ℕ, length, false, take_all, ltb-false}
use Rattle.values.specs.Bytes.{bytes, up_to, has, before_first, same, equals}
use Rattle.values.specs.Laws.Scan.{split_none, split_some}
use Rattle.args.specs.Arguments.{gathered}
use Rattle.args.specs.Left.{args_left}
use Rattle.args.specs.Laws.Arguments.{no_argument, first_argument}
use Rattle.args.specs.Laws.Dashes.{dashed_is}
use Rattle.args.proofs.arguments.Args.read.Goals as goal
use Rattle.args.proofs.arguments.Args.read.Goals.{After-eq}

pub returns-in-Some : goal.returns-in-Some
unfolding args_left gathered
returns-in-Some c =
    let h = split_some equals c.args.argument.now _ c.in-Some.ensures in
    rw (dashed_is, ← c.starts_with.ensures.value, c.if-not-starts_with.false, h.0, ← h.1, ← h.2, ← c.stripped.ensures)

-- an argument without `=` is all its key
before-none : (a : List ℕ) → has equals a ≡ false → before_first equals a ≡ a
before-none a h = take_all (up_to equals a) a (ltb-false (up_to equals a) (length a) h)

-- the test against `verbose`, as the definition has it
verbose-is : (c : After-eq) → same c.stripped-key.result.now (bytes "verbose") ≡ c.eq.result
verbose-is c = rw (c.eq.ensures, c.as_slice.ensures)

pub returns-then-eq : goal.returns-then-eq
unfolding args_left gathered
returns-then-eq c =
    let h = split_none equals c.args.argument.now c.in_default.ensures in
    rw (dashed_is, ← c.starts_with.ensures.value, c.if-not-starts_with.false, h, before-none c.args.argument.now h, ← c.stripped-key.ensures, verbose-is (goal.at.returns-then-eq c).After-eq, c.if-eq.true)

pub returns-in_default-split_once : goal.returns-in_default-split_once
returns-in_default-split_once c =
    let h = split_none equals c.args.argument.now c.in_default.ensures in
    let i = split_none 0 c.args.self.rest.now c.in_default-split_once.ensures in
    rw (dashed_is, ← c.starts_with.ensures.value, c.if-not-starts_with.false, h, before-none c.args.argument.now h, ← c.stripped-key.ensures, verbose-is (goal.at.returns-in_default-split_once c).After-eq, c.if-eq.false, no_argument c.args.self.rest.now i)

pub returns : goal.returns
unfolding args_left gathered
returns c =
    let h = split_none equals c.args.argument.now c.in_default.ensures in
    let i = split_some 0 c.args.self.rest.now _ c.in-Some-split_once.ensures in
    rw (dashed_is, ← c.starts_with.ensures.value, c.if-not-starts_with.false, h, before-none c.args.argument.now h, ← c.stripped-key.ensures, verbose-is (goal.at.returns c).After-eq, c.if-eq.false, first_argument c.args.self.rest.now i.0, ← i.1, ← i.2)
