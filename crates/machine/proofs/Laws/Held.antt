-- The held list stands in the order in which its copies entered: their seqs go up and are below the next one. So one copy leaves at a release.
use Rattle.std.specs.Prelude.{◌≡◌, refl, ◌⊎◌, Bool, true, false, cond, List, [], ◌∷◌, ◌++◌, ℕ, suc, ◌+◌, ◌≤◌, ltb, eqb, Float, length}
use Rattle.std.proofs.Common.{sym, ap, inl, inr, arith, ne_eqb, eqb-true}
use Rattle.std.proofs.lemmas.Bool.{eqb-false}
use Rattle.numbers.specs.Laws.NotNan.{cond_has}
use Rattle.steps.specs.declared.decision.Decision.{Decision}
use Rattle.steps.specs.declared.decision.Decision.TheVariants.{DropRandom, DropGe, DropMtu, DropBlackout, DropKillHold, Enqueue, KillRst}
use Rattle.held.specs.Copies.{Copy, without, Mem}
use Rattle.machine.specs.Machine.{Machine, Creation, fresh_machine}
use Rattle.machine.specs.Calls.{Call}
use Rattle.machine.specs.Steps.{Step, Entry, enter_copy, follow, step}
use Rattle.machine.proofs.Laws.Cases.{Does, refuses, decides, releases, finds_none, rebinds, address_stays, tears, reports, step_does, enters_have}

-- the seqs of a list go up from lo or above, and are below hi
abbrev pub Ascends : ℕ → List Copy → ℕ → Type 0
Ascends lo [] hi = lo ≤ hi
Ascends lo (c ∷ l) hi = (lo ≤ c.seq) × Ascends (c.seq + 1) l hi

abbrev pub InOrder : Machine → Type 0
InOrder m = Ascends 0 m.held m.next_seq

-- ---- lists

ascends_from : (lo low : ℕ) (l : List Copy) (hi : ℕ) → low ≤ lo → Ascends lo l hi → Ascends low l hi
ascends_from lo low [] hi h a = omega arith
ascends_from lo low (c ∷ l) hi h a = (omega arith, a.1)

ascends_last : (lo : ℕ) (l : List Copy) (c : Copy) → Ascends lo l c.seq → Ascends lo (l ++ (c ∷ [])) (c.seq + 1)
ascends_last lo [] c a = (a, omega arith)
ascends_last lo (x ∷ l) c a = (a.0, ascends_last (x.seq + 1) l c a.1)

ascends_without : (seq lo : ℕ) (l : List Copy) (hi : ℕ) → Ascends lo l hi → Ascends lo (without seq l) hi
unfolding without
ascends_without seq lo [] hi a = a
ascends_without seq lo (c ∷ l) hi a =
    let rest : Ascends (c.seq + 1) (without seq l) hi = ascends_without seq (c.seq + 1) l hi a.1 in
    cond_has (λ (k : List Copy). Ascends lo k hi) (eqb c.seq seq) (ascends_from (c.seq + 1) lo (without seq l) hi (omega arith) rest) (a.0, rest)

-- none has a lower seq
without_lower : (seq lo : ℕ) (l : List Copy) (hi : ℕ) → seq + 1 ≤ lo → Ascends lo l hi → without seq l ≡ l
unfolding without
without_lower seq lo [] hi h a = refl
without_lower seq lo (c ∷ l) hi h a =
    rw (ne_eqb c.seq seq (λ (e : c.seq ≡ seq). omega arith)) (ap (λ (k : List Copy). c ∷ k) (without_lower seq (c.seq + 1) l hi (omega arith) a.1))

without_one : (c : Copy) (lo : ℕ) (l : List Copy) (hi : ℕ) → Ascends lo l hi → Mem c l → length (without c.seq l) + 1 ≡ length l
unfolding without
without_one c lo [] hi a k = absurd k
without_one c lo (x ∷ l) hi a k = go (eqb x.seq c.seq) refl k (λ (j : Mem c l). without_one c (x.seq + 1) l hi a.1 j)
  where
    go : (b : Bool) → eqb x.seq c.seq ≡ b → (c ≡ x) ⊎ Mem c l → (Mem c l → length (without c.seq l) + 1 ≡ length l)
        → length (cond b (without c.seq l) (x ∷ without c.seq l)) + 1 ≡ suc (length l)
    go true e j ih = let z : x.seq ≡ c.seq = eqb-true _ _ e in rw (without_lower c.seq (x.seq + 1) l hi (omega arith) a.1) (omega arith)
    go false e (inl j) ih = absurd (eqb-false _ _ e (ap (λ (y : Copy). y.seq) (sym j)))
    go false e (inr j) ih = omega (arith, ih j)

-- one copy less is held when a copy has left
pub one_leaves : (m : Machine) → InOrder m → (c : Copy) → Mem c m.held → length (without c.seq m.held) + 1 ≡ length m.held
one_leaves m h c k = without_one c 0 m.held m.next_seq h k

-- ---- steps

enter_order : (due now : Float) (route : ℕ) (bytes : List ℕ) (id : ℕ) (e : Entry) → InOrder e.then → InOrder (enter_copy due now route bytes id e).then
unfolding enter_copy
enter_order due now route bytes id e h = cond_has (λ (n : Entry). InOrder n.then) (ltb (length e.then.held) e.then.cap) (ascends_last 0 e.then.held _ h) h

follow_order : (m : Machine) (d : Decision) (now : Float) (bytes : List ℕ) (route : ℕ) → InOrder m → InOrder (follow m d now bytes route).then
unfolding follow
follow_order m DropRandom now bytes route h = h
follow_order m DropGe now bytes route h = h
follow_order m DropMtu now bytes route h = h
follow_order m DropBlackout now bytes route h = h
follow_order m DropKillHold now bytes route h = h
follow_order m (Enqueue due duplicated) now bytes route h = enters_have (λ (e : Entry). InOrder e.then) m due duplicated now bytes route (enter_order due now route bytes) h
follow_order m KillRst now bytes route h = omega arith

does_order : {m : Machine} {c : Call} {s : Step} → Does m c s → InOrder m → InOrder s.then
does_order (refuses c k r) h = h
does_order (decides now bytes route i l) h = follow_order _ _ now bytes route h
does_order {m} (releases now c k) h = ascends_without c.seq 0 m.held m.next_seq h
does_order (finds_none now) h = h
does_order (rebinds now) h = h
does_order (address_stays now) h = h
does_order tears h = omega arith
does_order reports h = h

pub step_order : (m : Machine) (c : Call) → InOrder m → InOrder (step m c).then
step_order m c h = does_order (step_does m c) h

pub fresh_order : (made : Creation) → InOrder (fresh_machine made)
unfolding fresh_machine
fresh_order made = omega arith

pub fresh_empty : (made : Creation) → length (fresh_machine made).held ≡ 0
unfolding fresh_machine
fresh_empty made = refl
