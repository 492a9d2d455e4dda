-- The mode checks: a text whose options are taken one by one is refused where it slips, by the number of what it slips by, and else taken; and no other text is
-- refused by one of these numbers.
use Rattle.std.specs.Prelude.{◌≡◌, ◌<◌, refl, Bool, true, false, cond, Result, Ok, Err, MatchResult, IfOk, IfErr, List, ℕ}
use Rattle.std.proofs.Common.{arith, inl, inr}
use Rattle.std.proofs.lemmas.Result.{IfErr-weaker}
use Rattle.numbers.specs.Laws.Results.{Any, any_taken, then_taken, then_refused}
use Rattle.numbers.specs.Refusals.{number_of, EarlyIfRefused}
use Rattle.numbers.specs.Results.{and_then}
use Rattle.numbers.specs.declared.refusal.Refusal.{Refusal}
use Rattle.numbers.specs.declared.refusal.Refusal.TheVariants as refusal
use Rattle.values.specs.Bytes.{bytes}
use Rattle.options.specs.declared.config.Config.{Config}
use Rattle.options.specs.declared.config.DirectionConfig.{DirectionConfig}
use Rattle.options.specs.declared.mode.Mode.{Mode}
use Rattle.options.specs.declared.mode.Mode.TheVariants.{Udp, Tcp}
use Rattle.options.specs.declared.scalars.LineScalars.{LineScalars}
use Rattle.options.specs.Directions.{direction_of}
use Rattle.options.specs.Modes.{other_mode_of}
use Rattle.options.specs.Parse.{judged_text_of, config_with, config_of, refused_with, answered, parse_of}
use Rattle.options.specs.Scalars.{line_scalars_of}
use Rattle.options.specs.Slips.{has_kills, has_nat_changes, has_reorder, has_duplicate, Lacks, kill, nat_change, reorder, duplicate, Allowed, Slips, SlipsFirst, OptionsTaken, SlipOf, RefusalTold, BothAllowed}
use Rattle.options.specs.Laws.Early.{text_early, line_early, direction_early}

-- ---- one direction

-- of the three options that tcp lacks, those with a number below n are not there
before_tcp : (d : DirectionConfig) (n : ℕ) → (31 < n → has_nat_changes d ≡ false) → (32 < n → has_reorder d ≡ false) → (33 < n → has_duplicate d ≡ false)
    → (other : DirectionConfig → Bool) (l : Refusal) → Lacks Tcp other l → number_of l < n → other d ≡ false
before_tcp d n h i j _ _ nat_change b = h b
before_tcp d n h i j _ _ reorder b = i b
before_tcp d n h i j _ _ duplicate b = j b

before_udp : (d : DirectionConfig) (n : ℕ) → (20 < n → has_kills d ≡ false)
    → (other : DirectionConfig → Bool) (l : Refusal) → Lacks Udp other l → number_of l < n → other d ≡ false
before_udp d n h _ _ kill b = h b

allowed_tcp : (d : DirectionConfig) → has_nat_changes d ≡ false → has_reorder d ≡ false → has_duplicate d ≡ false → Allowed Tcp d
allowed_tcp d h i j _ _ nat_change = h
allowed_tcp d h i j _ _ reorder = i
allowed_tcp d h i j _ _ duplicate = j

allowed_udp : (d : DirectionConfig) → has_kills d ≡ false → Allowed Udp d
allowed_udp d h _ _ kill = h

-- what the check of a direction has to say: it is allowed, or slips by the refusal
abbrev Judged : Mode → DirectionConfig → Result (Unit {0}) Refusal → Type 0
Judged mode d r = MatchResult r (λ _. Allowed mode d) (λ k. Slips mode d k)

direction_told : (mode : Mode) (d : DirectionConfig) → Judged mode d (other_mode_of mode d)
direction_told Udp d = go (has_kills d) refl
  where
    go : (t : Bool) → has_kills d ≡ t → Judged Udp d (cond t (Err refusal.KillUnderUdp) (Ok tt))
    go true h = record { present = has_kills; lacks = kill; found = h; first = before_udp d 20 (λ b. absurd (omega (arith, b))) }
    go false h = allowed_udp d h
direction_told Tcp d = go (has_nat_changes d) (has_reorder d) (has_duplicate d) refl refl refl
  where
    go : (t u v : Bool) → has_nat_changes d ≡ t → has_reorder d ≡ u → has_duplicate d ≡ v
        → Judged Tcp d (cond t (Err refusal.NatChangeUnderTcp) (cond u (Err refusal.ReorderUnderTcp) (cond v (Err refusal.DuplicateUnderTcp) (Ok tt))))
    go true u v h i j = record {
      present = has_nat_changes;
      lacks = nat_change;
      found = h;
      first = before_tcp d 31 (λ b. absurd (omega (arith, b))) (λ b. absurd (omega (arith, b))) (λ b. absurd (omega (arith, b)));
    }
    go false true v h i j = record {
      present = has_reorder;
      lacks = reorder;
      found = i;
      first = before_tcp d 32 (λ b. h) (λ b. absurd (omega (arith, b))) (λ b. absurd (omega (arith, b)));
    }
    go false false true h i j = record { present = has_duplicate; lacks = duplicate; found = j; first = before_tcp d 33 (λ b. h) (λ b. i) (λ b. absurd (omega (arith, b))) }
    go false false false h i j = allowed_tcp d h i j

-- what slips is refused by the number of what it slips by
slip_judged : (mode : Mode) (d : DirectionConfig) (present : DirectionConfig → Bool) (k : Refusal) → Lacks mode present k → present d ≡ true
    → ((other : DirectionConfig → Bool) (l : Refusal) → Lacks mode other l → number_of l < number_of k → other d ≡ false)
    → other_mode_of mode d ≡ Err k
slip_judged _ d _ _ kill h first = rw h
slip_judged _ d _ _ nat_change h first = rw h
slip_judged _ d _ _ reorder h first = rw (first _ _ nat_change (omega arith), h)
slip_judged _ d _ _ duplicate h first = rw (first _ _ nat_change (omega arith), first _ _ reorder (omega arith), h)

allowed_judged : (mode : Mode) (d : DirectionConfig) → Allowed mode d → other_mode_of mode d ≡ Ok tt
allowed_judged Udp d h = rw (h _ _ kill)
allowed_judged Tcp d h = rw (h _ _ nat_change, h _ _ reorder, h _ _ duplicate)

-- ---- a text

early_told : {A : Type 0} (s : List ℕ) (r : Result A Refusal) → EarlyIfRefused r → IfErr r (RefusalTold s)
early_told s r h = IfErr-weaker r _ _ (λ k b. inl b) h

-- both directions are judged, the client's first
both_told : (s : List ℕ) (line : LineScalars) (c2s s2c : DirectionConfig) → OptionsTaken s line c2s s2c
    → (r t : Result (Unit {0}) Refusal) → Judged line.mode c2s r → Judged line.mode s2c t
    → IfErr (and_then r (λ _. and_then t (λ _. Ok (config_with line c2s s2c)))) (RefusalTold s)
both_told s line c2s s2c h (Err k) t p q = inr (record { line = line; c2s = c2s; s2c = s2c; taken = h; slips = inl p })
both_told s line c2s s2c h (Ok u) (Err k) p q = inr (record { line = line; c2s = c2s; s2c = s2c; taken = h; slips = inr (p, q) })
both_told s line c2s s2c h (Ok u) (Ok v) p q = tt

config_told : (s : List ℕ) → IfErr (config_of s) (RefusalTold s)
unfolding config_of
config_told s =
    then_refused (RefusalTold s) (judged_text_of s) _ (early_told s (judged_text_of s) (text_early s)) (λ _ g.
    then_refused (RefusalTold s) (line_scalars_of s) _ (early_told s (line_scalars_of s) (line_early s)) (λ line h.
    then_refused (RefusalTold s) (direction_of s (bytes "c2s-")) _ (early_told s (direction_of s (bytes "c2s-")) (direction_early s (bytes "c2s-"))) (λ c2s i.
    then_refused (RefusalTold s) (direction_of s (bytes "s2c-")) _ (early_told s (direction_of s (bytes "s2c-")) (direction_early s (bytes "s2c-"))) (λ s2c j.
    both_told s line c2s s2c (record { text_is = g; line_is = h; c2s_is = i; s2c_is = j })
    (other_mode_of line.mode c2s) (other_mode_of line.mode s2c) (direction_told line.mode c2s) (direction_told line.mode s2c)))))

-- whatever the text, its refusal comes before the mode checks or says how it slips
pub refused_told : (s : List ℕ) → IfErr (parse_of s).1 (RefusalTold s)
unfolding parse_of
refused_told s = go (config_of s) (config_told s)
  where
    go : (r : Result Config Refusal) → IfErr r (RefusalTold s) → IfErr (answered r).1 (RefusalTold s)
    go (Ok config) h = tt
    go (Err k) h = h

-- what is left of a text behind its options
config_checked : {s : List ℕ} {line : LineScalars} {c2s s2c : DirectionConfig} → OptionsTaken s line c2s s2c
    → config_of s ≡ and_then (other_mode_of line.mode c2s) (λ _. and_then (other_mode_of line.mode s2c) (λ _. Ok (config_with line c2s s2c)))
unfolding config_of
config_checked h = rw (h.text_is, h.line_is, h.c2s_is, h.s2c_is)

-- whatever text slips is refused by the number of what it slips by
pub slip_refused : (s : List ℕ) (k : Refusal) → SlipOf s k → parse_of s ≡ refused_with k
unfolding parse_of
slip_refused s k h = go h.slips
  where
    go : SlipsFirst h.line.mode h.c2s h.s2c k → answered (config_of s) ≡ refused_with k
    go (inl p) = rw (config_checked h.taken, slip_judged _ _ _ _ p.lacks p.found p.first)
    go (inr (a, p)) = rw (config_checked h.taken, allowed_judged _ _ a, slip_judged _ _ _ _ p.lacks p.found p.first)

-- whatever text has its options taken one by one and is allowed is taken with them
pub allowed_taken : (s : List ℕ) (line : LineScalars) (c2s s2c : DirectionConfig) → OptionsTaken s line c2s s2c → Allowed line.mode c2s → Allowed line.mode s2c
    → parse_of s ≡ (config_with line c2s s2c, Ok tt)
unfolding parse_of
allowed_taken s line c2s s2c h a b = rw (config_checked h, allowed_judged _ _ a, allowed_judged _ _ b)

allowing : (mode : Mode) (d : DirectionConfig) → IfOk (other_mode_of mode d) (λ _. Allowed mode d)
allowing mode d = go (other_mode_of mode d) (direction_told mode d)
  where
    go : (r : Result (Unit {0}) Refusal) → Judged mode d r → IfOk r (λ _. Allowed mode d)
    go (Ok u) h = h
    go (Err k) h = tt

config_allowed : (s : List ℕ) → IfOk (config_of s) BothAllowed
unfolding config_of
config_allowed s =
    then_taken Any BothAllowed (judged_text_of s) _ (any_taken _) (λ _ _.
    then_taken Any BothAllowed (line_scalars_of s) _ (any_taken _) (λ line _.
    then_taken Any BothAllowed (direction_of s (bytes "c2s-")) _ (any_taken _) (λ c2s _.
    then_taken Any BothAllowed (direction_of s (bytes "s2c-")) _ (any_taken _) (λ s2c _.
    then_taken (λ _. Allowed line.mode c2s) BothAllowed (other_mode_of line.mode c2s) _ (allowing line.mode c2s) (λ _ h.
    then_taken (λ _. Allowed line.mode s2c) BothAllowed (other_mode_of line.mode s2c) _ (allowing line.mode s2c) (λ _ i. (h, i)))))))

-- whatever text is taken has no option that its mode lacks
pub taken_allowed : (s : List ℕ) → IfOk (parse_of s).1 (λ _. BothAllowed (parse_of s).0)
unfolding parse_of
taken_allowed s = go (config_of s) (config_allowed s)
  where
    go : (r : Result Config Refusal) → IfOk r BothAllowed → IfOk (answered r).1 (λ _. BothAllowed (answered r).0)
    go (Ok config) h = h
    go (Err k) h = tt
