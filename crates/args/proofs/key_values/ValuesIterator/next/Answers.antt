-- An argument of another key leaves the values to those behind it.
use Rattle.std.proofs.Common.{◌≡◌, ◌∙◌, refl, sym, ap, arith, eq-eqb, ne_eqb, ◌++◌, List, ◌∷◌, ℕ, cond, true, rules}
use Rattle.std.specs.Iterator.Adapters.{zip_first, zip_second}
use Rattle.std.specs.Slice.Iter.{iter_rest}
use Rattle.std.proofs.lemmas.Iterator.{empty_from_Zip}
use Rattle.values.specs.Bytes.{same}
use Rattle.values.specs.Laws.Scan.{same_length}
use Rattle.args.specs.Left.{args_left, values_left}
use Rattle.args.specs.Laws.Keys.{same_append}
use Rattle.args.proofs.Turns.{fewer}
use Rattle.args.proofs.ReadsGathered.{values_read, values_are}
use Rattle.args.proofs.key_values.ValuesIterator.next.Goals as goal
use Rattle.args.proofs.key_values.ValuesIterator.next.Goals.{After-strip_prefix, In-Some-strip_prefix, After-into_iter-byte-iterator}

pub args-2-init : goal.args-2-init
args-2-init c = sym (values_are c.args.self.now)

turn : (c : After-strip_prefix) → values_left c.args.self.now
    ≡ cond (same c.in-Ok-Pair.key.now (c.args-2.self.prefix.now ++ c.args-2.self.name.now)) (c.in-Ok-Pair.value.now ∷ values_read (c.args-2.self.prefix.now ++ c.args-2.self.name.now) (args_left c.next.new.self)) (values_read (c.args-2.self.prefix.now ++ c.args-2.self.name.now) (args_left c.next.new.self))
turn c =
    let h = rw c.in-Ok-Pair.is at c.in-Ok-Pair.field-0-is in
    c.args-2.invariant ∙ ap (values_read (c.args-2.self.prefix.now ++ c.args-2.self.name.now)) c.in-Some.ensures.steps ∙ rw (c.in-Ok-Pair.is, h)

-- the front of the key is the prefix, so its tail decides
tail-decides : (c : In-Some-strip_prefix) → same c.in-Ok-Pair.key.now (c.args-2.self.prefix.now ++ c.args-2.self.name.now) ≡ same c.in-Some-strip_prefix.tail.now c.args-2.self.name.now
tail-decides c = same_append c.in-Ok-Pair.key.now c.args-2.self.prefix.now c.args-2.self.name.now ∙ rw (c.in-Some-strip_prefix.ensures.cases.0, ← c.in-Some-strip_prefix.ensures.cases.1)

-- the value of the key, and then those that are left behind it
found : (c : In-Some-strip_prefix) → same c.in-Some-strip_prefix.tail.now c.args-2.self.name.now ≡ true
    → values_left c.args.self.now ≡ c.in-Ok-Pair.value.now ∷ values_left (record { args = c.next.new.self; prefix = c.args-2.self.prefix; name = c.args-2.self.name })
found c h = turn (goal.at.In-Some-strip_prefix c).After-strip_prefix ∙ rw (tail-decides c, h) (ap (λ (vs : List (List ℕ)). c.in-Ok-Pair.value.now ∷ vs) (values_are _))

pub args-2-preserved-in_default-strip_prefix : goal.args-2-preserved-in_default-strip_prefix
args-2-preserved-in_default-strip_prefix c =
    turn (goal.at.args-2-preserved-in_default-strip_prefix c).After-strip_prefix ∙ rw (same_append c.in-Ok-Pair.key.now c.args-2.self.prefix.now c.args-2.self.name.now, c.in_default-strip_prefix.ensures.cases)

pub args-2-preserved-then-tail-self : goal.args-2-preserved-then-tail-self
args-2-preserved-then-tail-self c =
    turn (goal.at.args-2-preserved-then-tail-self c).After-strip_prefix
    ∙ rw (tail-decides (goal.at.args-2-preserved-then-tail-self c).In-Some-strip_prefix, same_length c.in-Some-strip_prefix.tail.now c.args-2.self.name.now (λ e. omega (arith, e, c.if-tail-self.true)))

pub loop-byte-init : goal.loop-byte-init
loop-byte-init c =
    let tail : iter_rest (zip_first c.into_iter-byte-iterator.result) ≡ c.in-Some-strip_prefix.tail.now = search rules in
    let name : iter_rest (zip_second c.into_iter-byte-iterator.result) ≡ c.args-2.self.name.now = search rules in
    (rw (tail, name) (omega (arith, c.if-tail-self.false)), refl)

-- the tail and the name are what the comparison began with
compared : (c : After-into_iter-byte-iterator) → same (iter_rest (zip_first c.into_iter-byte-iterator.result)) (iter_rest (zip_second c.into_iter-byte-iterator.result)) ≡ same c.in-Some-strip_prefix.tail.now c.args-2.self.name.now
compared c =
    let tail : iter_rest (zip_first c.into_iter-byte-iterator.result) ≡ c.in-Some-strip_prefix.tail.now = search rules in
    let name : iter_rest (zip_second c.into_iter-byte-iterator.result) ≡ c.args-2.self.name.now = search rules in
    rw (tail, name)

pub loop-byte-preserved : goal.loop-byte-preserved
loop-byte-preserved c =
    let byte = c.in-Some-2.ensures.steps.0 in
    let wanted = c.in-Some-2.ensures.steps.1 in
    let lengths = rw (byte, wanted) at c.loop-byte.invariant.0 in
    (omega (arith, lengths), c.loop-byte.invariant.1 ∙ rw (byte, wanted, eq-eqb _ _ c.if-byte-wanted.false))

pub args-2-preserved : goal.args-2-preserved
args-2-preserved c =
    let byte = c.in-Some-2.ensures.steps.0 in
    let wanted = c.in-Some-2.ensures.steps.1 in
    turn (goal.at.args-2-preserved c).After-strip_prefix
    ∙ rw (tail-decides (goal.at.args-2-preserved c).In-Some-strip_prefix, ← compared (goal.at.args-2-preserved c).After-into_iter-byte-iterator, c.loop-byte.invariant.1, byte, wanted, ne_eqb _ _ c.if-byte-wanted.true)

pub returns-in-Some-clause-steps : goal.returns-in-Some-clause-steps
returns-in-Some-clause-steps c =
    let spent = empty_from_Zip _ c.next-in-loop-byte.new.self _ c.in-None.is c.next-in-loop-byte.ensures.steps c.loop-byte.invariant.0 in
    found (goal.at.returns-in-Some-clause-steps c).In-Some-strip_prefix (sym (compared (goal.at.returns-in-Some-clause-steps c).After-into_iter-byte-iterator) ∙ c.loop-byte.invariant.1 ∙ rw (spent.0, spent.1))

pub returns-in-Some-clause-goes : goal.returns-in-Some-clause-goes
returns-in-Some-clause-goes c =
    let spent = empty_from_Zip _ c.next-in-loop-byte.new.self _ c.in-None.is c.next-in-loop-byte.ensures.steps c.loop-byte.invariant.0 in
    let less = fewer _ _ _ (found (goal.at.returns-in-Some-clause-goes c).In-Some-strip_prefix (sym (compared (goal.at.returns-in-Some-clause-goes c).After-into_iter-byte-iterator) ∙ c.loop-byte.invariant.1 ∙ rw (spent.0, spent.1))) in
    search rules

pub returns-clause-steps : goal.returns-clause-steps
returns-clause-steps c =
    let k = values_read (c.args-2.self.prefix.now ++ c.args-2.self.name.now) in
    (c.args-2.invariant ∙ ap k c.in_default.ensures.steps.0, sym (values_are _) ∙ ap k c.in_default.ensures.steps.1)
