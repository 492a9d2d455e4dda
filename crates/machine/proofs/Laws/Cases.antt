-- What a step of each call can be, once for all laws.
use Rattle.std.specs.Prelude.{◌≡◌, refl, Bool, true, false, cond, List, [], ◌∷◌, ℕ, leb, Float, length}
use Rattle.std.proofs.Common.{inl, inr}
use Rattle.std.specs.Float.Ieee.{le}
use Rattle.numbers.specs.Checks.{check, first_failing}
use Rattle.numbers.specs.Instant.{is_instant_of}
use Rattle.numbers.specs.Laws.NotNan.{cond_has}
use Rattle.numbers.specs.Refusals.{refused_instant, refused_length, refused_counter}
use Rattle.accounts.specs.Accountant.{merged_of}
use Rattle.engine.specs.Changes.{rebound_of}
use Rattle.engine.specs.Decide.{decide_passed_of}
use Rattle.held.specs.Copies.{Copy, Mem, Leaving, no_copy, one_copy, leaving}
use Rattle.held.proofs.Due.{leaving_mem}
use Rattle.machine.specs.Machine.{Machine, in_range}
use Rattle.machine.specs.Calls.{Call, arrive, release, rebind, teardown, report, Refusal, released, none_due, rebound, tore_down, reported, refused}
use Rattle.machine.specs.Steps.{Step, step_to, unless_refused, unless, with_engine, Entry, entry, enter_copy, enter_copies, tear, follow, arrive_step, leave, hand_out, release_step, rebind_step, teardown_step, report_step, step}

-- the steps of each call: it may be refused, and a release or a rebind may find nothing to do
pub data Does (m : Machine) : Call → Step → Type 0 where
  refuses : (c : Call) (k : ℕ) → Refusal k → Does m c (step_to (refused k) m)
  decides : (now : Float) (bytes : List ℕ) (route : ℕ) → is_instant_of now ≡ true → leb (length bytes) m.width ≡ true
      → Does m (arrive now bytes route) (follow (with_engine m (decide_passed_of m.engine now (length bytes)).0) (decide_passed_of m.engine now (length bytes)).1 now bytes route)
  releases : (now : Float) (c : Copy) → Mem c m.held → Does m (release now) (step_to (released c) (leave m now c))
  finds_none : (now : Float) → Does m (release now) (step_to none_due m)
  rebinds : (now : Float) → Does m (rebind now) (step_to (rebound true) (with_engine m (rebound_of m.engine)))
  address_stays : (now : Float) → Does m (rebind now) (step_to (rebound false) m)
  tears : Does m teardown (step_to (tore_down (length m.held)) (tear m))
  reports : Does m report (step_to (reported (merged_of m.accounts m.engine.stats) (length m.held) m.torn) m)

-- a refused step, or else the one that was meant, and then the instant and the length have passed
in_range_does : (m : Machine) (c : Call) (b : Bool) {s : Step} → Does m c s → Does m c (unless_refused m (first_failing (check b refused_counter ∷ [])) s)
unfolding first_failing
in_range_does m c true d = d
in_range_does m c false d = refuses c refused_counter (inr (inr refl))

unless_does : (m : Machine) (c : Call) (instant short : Bool) {s : Step} → (instant ≡ true → short ≡ true → Does m c s) → Does m c (unless m instant short s)
unfolding unless first_failing
unless_does m c false l d = refuses c refused_instant (inl refl)
unless_does m c true false d = refuses c refused_length (inr (inl refl))
unless_does m c true true d = in_range_does m c (in_range m.engine m.accounts m.torn m.next_seq) (d refl refl)

hand_does : (m : Machine) (now : Float) (x : Leaving) → leaving now m.held ≡ x → Does m (release now) (hand_out m now x)
unfolding hand_out
hand_does m now no_copy e = finds_none now
hand_does m now (one_copy c) e = releases now c (leaving_mem now m.held c e)

pub step_does : (m : Machine) (c : Call) → Does m c (step m c)
unfolding step arrive_step release_step rebind_step teardown_step report_step
step_does m (arrive now bytes route) = unless_does m (arrive now bytes route) (is_instant_of now) (leb (length bytes) m.width) (decides now bytes route)
step_does m (release now) = unless_does m (release now) (is_instant_of now) true (λ i l. hand_does m now (leaving now m.held) refl)
step_does m (rebind now) = unless_does m (rebind now) (is_instant_of now) true (λ i l. cond_has (Does m (rebind now)) (le m.engine.next_rebind_ms now) (rebinds now) (address_stays now))
step_does m teardown = unless_does m teardown true true (λ i l. tears)
step_does m report = unless_does m report true true (λ i l. reports)

-- what a function gives of the branch taken is what it gives of each
pub either : {A B : Type 0} (f : A → B) (b : Bool) {x y : A} {u v : B} → f x ≡ u → f y ≡ v → f (cond b x y) ≡ cond b u v
either f true p q = p
either f false p q = q

-- what every copy carries on as it enters or overflows holds when all copies have
pub enters_have : (P : Entry → Type 0) (m : Machine) (due : Float) (duplicated : Bool) (now : Float) (bytes : List ℕ) (route : ℕ)
    → ((id : ℕ) (e : Entry) → P e → P (enter_copy due now route bytes id e)) → P (entry m 0 0) → P (enter_copies m due duplicated now bytes route)
unfolding enter_copies
enters_have P m due duplicated now bytes route f h = cond_has P duplicated (f 1 _ (f 0 _ h)) (f 0 _ h)
