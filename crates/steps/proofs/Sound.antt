-- A sound state stays one in an arrival, and a packet that it enqueues is not due before it.
use Rattle.std.specs.Prelude.{◌≡◌, Bool, true, false, ℕ, ◌≤◌, pos, Float, Option, Some, None}
use Rattle.std.proofs.Math.Dec.{T}
use Rattle.std.specs.Float.Ieee.{binary64, add, lt, le, of_int, fits}
use Rattle.std.specs.Float.Ieee.Fits.{add-fits}
use Rattle.numbers.specs.Whole.{whole}
use Rattle.numbers.specs.Laws.Both.{both_true}
use Rattle.numbers.specs.Laws.Kinds.{finite_fin, Plus, PlusFinite, plus_number, plus_finite_number, plus_finite_plus}
use Rattle.numbers.specs.Laws.NotNan.{cond_when, cond_has, mul_plus}
use Rattle.numbers.specs.Laws.Transitive.{le_trans}
use Rattle.numbers.specs.Laws.Extremes.{chosen_has, le_self}
use Rattle.numbers.specs.Laws.Bounded.{Bounded, nought}
use Rattle.numbers.specs.Laws.Products.{finite_below}
use Rattle.numbers.specs.Laws.Zero.{NotBelow, not_below_plus, not_below, above_zero, add_clear}
use Rattle.numbers.specs.Laws.Credit.{Credit}
use Rattle.draws.specs.declared.rng.Rng.{Rng}
use Rattle.draws.proofs.Fraction.{draw_plus}
use Rattle.values.specs.Whole.{is_bounded}
use Rattle.settings.specs.Judgement.{is_time}
use Rattle.numbers.specs.Limits.{max_length}
use Rattle.judgement.specs.Scalars.{is_rate}
use Rattle.steps.specs.declared.arrival.Arrival.{Arrival}
use Rattle.steps.specs.declared.arrival.ArrivalState.{ArrivalState}
use Rattle.options.specs.declared.config.DirectionConfig.{DirectionConfig}
use Rattle.steps.specs.declared.decision.Decision.{Decision}
use Rattle.steps.specs.declared.decision.Decision.TheVariants.{DropRandom, DropGe, DropMtu, DropBlackout, DropKillHold, Enqueue, KillRst}
use Rattle.steps.specs.declared.gate.Gate.{Gate}
use Rattle.steps.specs.declared.gate.Gate.TheVariants.{Open, Reset, Held, Blackout}
use Rattle.steps.specs.Chance.{chance_of}
use Rattle.steps.specs.Burst.{burst_loss_of}
use Rattle.steps.specs.Mtu.{exceeds_of}
use Rattle.steps.specs.Bucket.{last_refill_of}
use Rattle.steps.specs.Due.{jittered_of, reordered_of, waited_of, owed_of}
use Rattle.steps.specs.Arrival.{stopped_of, drawn_of, scheduled_of, from_mtu, from_ge, passed_of, arrived_of}
use Rattle.steps.specs.Laws.Credit.{charged_credit, wait_clear}

-- what refusal 29 lets through of the settings that times, rate and burst are
pub record SoundScalars (c : DirectionConfig) : Type 0 where
  pub delay : is_time c.delay_ms ≡ true
  pub jitter : is_time c.jitter_ms ≡ true
  pub reorder_delay : is_time c.reorder_delay_ms ≡ true
  pub rate : is_rate c.rate_bps ≡ true
  pub burst : is_bounded c.rate_burst_bytes ≡ true

-- the credit is finite and its debt at most 2 ^ 70, and the last refill is an instant
pub record SoundState (s : ArrivalState) : Type 0 where
  pub credit : Credit s.tokens
  pub last_fit : T (fits binary64 s.last_refill_ms)
  pub last : Bounded s.last_refill_ms

-- a due that is a number with a clear sign bit (so no NaN), not before the arrival
pub record From (now due : Float) : Type 0 where
  pub fit : T (fits binary64 due)
  pub clear : Plus due
  pub later : T (le now due)

-- the due of a decision that enqueues
abbrev pub DueFrom : Float → Decision → Type 0
DueFrom now (Enqueue due duplicate) = From now due
DueFrom now DropRandom = Unit {0}
DueFrom now DropGe = Unit {0}
DueFrom now DropMtu = Unit {0}
DueFrom now DropBlackout = Unit {0}
DueFrom now DropKillHold = Unit {0}
DueFrom now KillRst = Unit {0}

-- what holds after an arrival
abbrev Sound : Float → Arrival → Type 0
Sound now a = SoundState a.state × DueFrom now a.decision

-- ---- times

time_not_below : (x : Float) → is_time x ≡ true → NotBelow x
unfolding of_int
time_not_below x h = not_below x (rw (both_true (le nought x) _ h).0 tt)

time_above_zero : (x : Float) → is_time x ≡ true → T (lt (whole 0) x) → PlusFinite x
unfolding of_int
time_above_zero x h l = finite_below (above_zero x l) (finite_fin false 999999999999999 (pos 0)) (rw (both_true (le nought x) _ h).1 tt)

-- ---- the state

drawn_sound : (s : ArrivalState) (g : Rng) (bad : Bool) → SoundState s → SoundState (drawn_of s g bad)
drawn_sound s g bad h = record { credit = h.credit; last_fit = h.last_fit; last = h.last }

-- the last refill is the one before, or the arrival
last_refill_has : (P : Float → Type 0) {last now : Float} (rate : Option ℕ) → P last → P now → P (last_refill_of last rate now)
unfolding last_refill_of
last_refill_has P None p q = p
last_refill_has P (Some bps) p q = q

module _ {now : Float} (fit : T (fits binary64 now)) (bounded : Bounded now) where
  -- ---- the due

  at_once : From now now
  at_once = let clear = plus_finite_plus bounded.clear in record { fit = fit; clear = clear; later = le_self (plus_number clear) }

  -- a due that is put off by what is not below 0
  later_by : {due by : Float} → From now due → NotBelow by → From now (add binary64 due by)
  later_by {due} {by} d b =
      let more = add_clear binary64 d.fit d.clear b in
      record {
        fit = add-fits binary64 due by;
        clear = more.0;
        later = le_trans (plus_finite_number bounded.clear) (plus_number d.clear) (plus_number more.0) d.later more.1;
      }

  jittered_from : (g : Rng) {due : Float} (jitter : Float) → is_time jitter ≡ true → From now due → From now (jittered_of g due jitter).1
  unfolding jittered_of
  jittered_from g jitter h d =
      cond_when (λ (x : Rng × Float). From now x.1) (lt (whole 0) jitter)
      (λ t. later_by d (not_below_plus (mul_plus binary64 (draw_plus g) (time_above_zero jitter h t)))) d

  reordered_from : (hit : Bool) {due : Float} (delay : Float) → is_time delay ≡ true → From now due → From now (reordered_of hit due delay)
  unfolding reordered_of
  reordered_from hit delay h d = cond_has (From now) hit (later_by d (time_not_below delay h)) d

  waited_from : {tokens due : Float} (rate : Option ℕ) → is_rate rate ≡ true → Credit tokens → T (lt tokens (whole 0)) → From now due
      → From now (waited_of tokens rate now due)
  unfolding waited_of
  waited_from None h t l d = d
  waited_from (Some bps) h t l d = chosen_has (From now) _ d (later_by at_once (not_below_plus (wait_clear bps h t l)))

  owed_from : {tokens due : Float} (rate : Option ℕ) → is_rate rate ≡ true → Credit tokens → From now due → From now (owed_of tokens rate now due)
  unfolding owed_of
  owed_from {tokens} rate h t d = cond_when (From now) (lt tokens (whole 0)) (λ l. waited_from rate h t l d) d

  -- ---- the chain

  module _ (c : DirectionConfig) (len : ℕ) (sound : SoundScalars c) (short : len ≤ max_length) where
    scheduled_sound : (s : ArrivalState) → SoundState s → Sound now (scheduled_of c s now len)
    unfolding scheduled_of
    scheduled_sound s h =
        let rate = c.rate_bps in
        let credit = charged_credit rate c.rate_burst_bytes len sound.rate sound.burst short h.credit h.last_fit h.last fit bounded in
        let delayed = later_by at_once (time_not_below c.delay_ms sound.delay) in
        let jittered = jittered_from _ c.jitter_ms sound.jitter delayed in
        let put_off = reordered_from _ c.reorder_delay_ms sound.reorder_delay jittered in (
          record {
            credit = credit;
            last_fit = last_refill_has (λ (x : Float). T (fits binary64 x)) rate h.last_fit fit;
            last = last_refill_has Bounded rate h.last bounded;
          },
          owed_from rate sound.rate credit put_off,
        )

    mtu_sound : (s : ArrivalState) → SoundState s → Sound now (from_mtu c s now len)
    unfolding from_mtu stopped_of
    mtu_sound s h = cond_has (Sound now) (exceeds_of c.mtu len) (h, tt) (scheduled_sound s h)

    ge_sound : (s : ArrivalState) → SoundState s → Sound now (from_ge c s now len)
    unfolding from_ge stopped_of
    ge_sound s h =
        let burst = burst_loss_of s.rng s.ge_bad c.ge in
        let after = drawn_sound s burst.0 burst.1 h in
        cond_has (Sound now) burst.2 (after, tt) (mtu_sound _ after)

    passed_sound : (s : ArrivalState) → SoundState s → Sound now (passed_of c s now len)
    unfolding passed_of stopped_of
    passed_sound s h =
        let loss = chance_of s.rng c.loss in
        let after = drawn_sound s loss.0 s.ge_bad h in
        cond_has (Sound now) loss.1 (after, tt) (ge_sound _ after)

pub arrived_sound : (g : Gate) (c : DirectionConfig) (s : ArrivalState) (now : Float) (len : ℕ) → SoundScalars c → SoundState s → T (fits binary64 now) → Bounded now → len ≤ max_length
    → SoundState (arrived_of g c s now len).state × DueFrom now (arrived_of g c s now len).decision
unfolding arrived_of stopped_of
arrived_sound Open c s now len sound h fit bounded short = passed_sound fit bounded c len sound short s h
arrived_sound Reset c s now len sound h fit bounded short = (h, tt)
arrived_sound Held c s now len sound h fit bounded short = (h, tt)
arrived_sound Blackout c s now len sound h fit bounded short = (h, tt)
