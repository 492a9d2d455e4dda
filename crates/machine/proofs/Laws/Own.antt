-- Each held copy is one that entered with its seq, and so is each that is handed out.
use Rattle.std.specs.Prelude.{◌≡◌, refl, ◌⊎◌, List, [], ◌∷◌, ◌++◌, ℕ, zero, suc, ◌+◌, ltb, Float, length, replicate}
use Rattle.std.proofs.Common.{sym, ap, ◌∙◌, subst, inl, inr, append-nil, append_assoc, length-append}
use Rattle.std.proofs.lemmas.List.{replicate-append-replicate}
use Rattle.numbers.specs.Laws.NotNan.{cond_has}
use Rattle.steps.specs.declared.decision.Decision.{Decision}
use Rattle.steps.specs.declared.decision.Decision.TheVariants.{DropRandom, DropGe, DropMtu, DropBlackout, DropKillHold, Enqueue, KillRst}
use Rattle.held.specs.Copies.{Copy, copy, without, Mem}
use Rattle.held.specs.Laws.Least.{mem_last, mem_without}
use Rattle.machine.specs.Machine.{Machine, Creation, fresh_machine}
use Rattle.machine.specs.Calls.{Call, arrive, release, rebind, teardown, report, released, refused}
use Rattle.machine.specs.Steps.{Step, Entry, enter_copy, follow, step, answers}
use Rattle.machine.specs.Arrivals.{Brought, brought, entered_by, At, HandsOut, EachOwn}
use Rattle.machine.proofs.Laws.Cases.{Does, refuses, decides, releases, finds_none, rebinds, address_stays, tears, reports, step_does, enters_have}

-- as many have entered as the next seq says, and each copy of the held list may be handed out as one of them
pub record Known (came : List Brought) (held : List Copy) (next : ℕ) : Type 0 where
  pub number : length came ≡ next
  pub own : (c : Copy) → Mem c held → HandsOut came (released c)

abbrev pub KnownTo : List Brought → Machine → Type 0
KnownTo came m = Known came m.held m.next_seq

-- ---- lists

at_before : {A : Type 0} (n : ℕ) (l r : List A) (x : A) → At n l x → At n (l ++ r) x
at_before zero [] r x a = absurd a
at_before (suc n) [] r x a = absurd a
at_before zero (y ∷ l) r x a = a
at_before (suc n) (y ∷ l) r x a = at_before n l r x a

at_end : {A : Type 0} (l : List A) (x : A) → At (length l) (l ++ (x ∷ [])) x
at_end [] x = refl
at_end (y ∷ l) x = at_end l x

one_more_lem : (came : List Brought) (n : ℕ) (b : Brought) → came ++ replicate n b ++ (b ∷ []) ≡ came ++ replicate (n + 1) b
one_more_lem came n b = append_assoc came (replicate n b) (b ∷ []) ∙ ap (λ (l : List Brought). came ++ l) (replicate-append-replicate n 1 b)

-- ---- what is known stays known

-- a copy enters at the end of both lists
known_enters : (came : List Brought) (held : List Copy) (next : ℕ) (due now : Float) (route id : ℕ) (bytes : List ℕ) → Known came held next
    → Known (came ++ (brought now bytes route ∷ [])) (held ++ (copy due next now route id (length bytes) bytes ∷ [])) (next + 1)
known_enters came held next due now route id bytes h =
    record {
      number = length-append came (b ∷ []) ∙ ap (λ (n : ℕ). n + 1) h.number;
      own = λ (c : Copy) (k : Mem c (held ++ (x ∷ []))). go c (mem_last held x c k);
    }
  where
    b : Brought
    b = brought now bytes route

    x : Copy
    x = copy due next now route id (length bytes) bytes

    go : (c : Copy) → Mem c held ⊎ (c ≡ x) → HandsOut (came ++ (b ∷ [])) (released c)
    go c (inl k) = (at_before c.seq came (b ∷ []) (brought c.arrival c.bytes c.route) (h.own c k).0, (h.own c k).1)
    go c (inr e) = subst (λ (y : Copy). HandsOut (came ++ (b ∷ [])) (released y)) (sym e) (subst (λ (n : ℕ). At n (came ++ (b ∷ [])) b) h.number (at_end came b), refl)

known_fewer : (came : List Brought) (held fewer : List Copy) (next : ℕ) → ((c : Copy) → Mem c fewer → Mem c held) → Known came held next → Known came fewer next
known_fewer came held fewer next f h = record { number = h.number; own = λ (c : Copy) (k : Mem c fewer). h.own c (f c k) }

known_none : (came : List Brought) (held : List Copy) (next : ℕ) → Known came held next → Known came [] next
known_none came held next h = known_fewer came held [] next (λ (c : Copy) (k : Mem c []). absurd k) h

-- no copy has come
nothing_came : {came : List Brought} {held : List Copy} {next : ℕ} → Known came held next → Known (came ++ []) held next
nothing_came {came} h = rw (append-nil came) h

-- ---- steps

module _ (came : List Brought) (due now : Float) (bytes : List ℕ) (route : ℕ) where
  abbrev KnownIn : Entry → Type 0
  KnownIn e = KnownTo (came ++ replicate e.entered (brought now bytes route)) e.then

  enter_known : (id : ℕ) (e : Entry) → KnownIn e → KnownIn (enter_copy due now route bytes id e)
  unfolding enter_copy
  enter_known id e h =
      cond_has KnownIn (ltb (length e.then.held) e.then.cap) (rw (← one_more_lem came e.entered (brought now bytes route)) (known_enters _ _ _ _ _ _ _ _ h)) h

-- what is handed out is known, and what is held then
pub record Owns (came : List Brought) (c : Call) (s : Step) : Type 0 where
  pub hands : HandsOut came s.answer
  pub known : KnownTo (came ++ entered_by c s.answer) s.then

refused_enters : (c : Call) (k : ℕ) → entered_by c (refused k) ≡ []
refused_enters (arrive now bytes route) k = refl
refused_enters (release now) k = refl
refused_enters (rebind now) k = refl
refused_enters teardown k = refl
refused_enters report k = refl

follow_owns : (came : List Brought) (m : Machine) (d : Decision) (now : Float) (bytes : List ℕ) (route : ℕ) → KnownTo came m → Owns came (arrive now bytes route) (follow m d now bytes route)
unfolding follow
follow_owns came m DropRandom now bytes route h = record { hands = tt; known = nothing_came h }
follow_owns came m DropGe now bytes route h = record { hands = tt; known = nothing_came h }
follow_owns came m DropMtu now bytes route h = record { hands = tt; known = nothing_came h }
follow_owns came m DropBlackout now bytes route h = record { hands = tt; known = nothing_came h }
follow_owns came m DropKillHold now bytes route h = record { hands = tt; known = nothing_came h }
follow_owns came m (Enqueue due duplicated) now bytes route h = record { hands = tt; known = enters_have (KnownIn came due now bytes route) m due duplicated now bytes route (enter_known came due now bytes route) (nothing_came h) }
follow_owns came m KillRst now bytes route h = record { hands = tt; known = nothing_came (known_none came m.held m.next_seq h) }

does_owns : (came : List Brought) {m : Machine} {c : Call} {s : Step} → Does m c s → KnownTo came m → Owns came c s
does_owns came {m} (refuses c k r) h = record { hands = tt; known = subst (λ (l : List Brought). KnownTo (came ++ l) m) (sym (refused_enters c k)) (nothing_came h) }
does_owns came (decides now bytes route i l) h = follow_owns came _ _ now bytes route h
does_owns came {m} (releases now c k) h =
    record {
      hands = h.own c k;
      known = nothing_came (known_fewer came m.held (without c.seq m.held) m.next_seq (mem_without c.seq m.held) h);
    }
does_owns came (finds_none now) h = record { hands = tt; known = nothing_came h }
does_owns came (rebinds now) h = record { hands = tt; known = nothing_came h }
does_owns came (address_stays now) h = record { hands = tt; known = nothing_came h }
does_owns came {m} tears h = record { hands = tt; known = nothing_came (known_none came m.held m.next_seq h) }
does_owns came reports h = record { hands = tt; known = nothing_came h }

pub step_owns : (came : List Brought) (m : Machine) (c : Call) → KnownTo came m → Owns came c (step m c)
step_owns came m c h = does_owns came (step_does m c) h

pub all_own : (came : List Brought) (m : Machine) → KnownTo came m → (cs : List Call) → EachOwn came cs (answers m cs)
unfolding answers
all_own came m h [] = tt
all_own came m h (c ∷ cs) =
    let o : Owns came c (step m c) = step_owns came m c h in
    (o.hands, all_own (came ++ entered_by c (step m c).answer) (step m c).then o.known cs)

pub fresh_known : (made : Creation) → KnownTo [] (fresh_machine made)
unfolding fresh_machine
fresh_known made = record { number = refl; own = λ (c : Copy) (k : Mem c []). absurd k }
