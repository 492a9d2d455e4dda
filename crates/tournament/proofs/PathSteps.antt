-- The turns of `climb` and `carry`, over plain variables.
use Rattle.std.proofs.Common.{◌≡◌, refl, sym, ap, ◌∙◌, List, Bool, true, false, cond, ℕ, zero, suc, ◌+◌, ◌/◌, ◌<◌, ◌≤◌, get_or, set, arith}
use Rattle.std.specs.Prelude.{Float}
use borrow.Author.Tests.{lt-ltb, le-ltb}
use Rattle.numbers.specs.Whole.{whole}
use Rattle.tournament.specs.Nodes.{slot_at_of, less_of, sibling}
use Rattle.tournament.specs.Paths.{better_of, carried_of, climbed_of}

-- what is left of the climb at (win, c) gives what the whole climb gives
pub record Climb (win₀ : List ℕ) (dues : List Float) (seqs : List ℕ) (n s : ℕ) (win : List ℕ) (c : ℕ) : Type 0 where
  pub fuel : ℕ
  pub enough : c ≤ fuel
  pub some : 0 < c
  pub below : c ≤ n + s
  pub same : climbed_of dues seqs n fuel win c s ≡ climbed_of dues seqs n (n + s) win₀ (n + s) s

pub climb_start : (win : List ℕ) (dues : List Float) (seqs : List ℕ) (n s : ℕ) → s < n → Climb win dues seqs n s win (n + s)
climb_start win dues seqs n s h = record { fuel = n + s; enough = omega arith; some = omega arith; below = omega arith; same = refl }

module _ (win₀ : List ℕ) (dues : List Float) (seqs : List ℕ) (n s : ℕ) (win : List ℕ) (c : ℕ) (l : Climb win₀ dues seqs n s win c) where
  pub climb_done : c ≤ 1 → win ≡ climbed_of dues seqs n (n + s) win₀ (n + s) s
  unfolding climbed_of
  climb_done h = go l.fuel l.same
    where
      go : (f : ℕ) → climbed_of dues seqs n f win c s ≡ climbed_of dues seqs n (n + s) win₀ (n + s) s → win ≡ climbed_of dues seqs n (n + s) win₀ (n + s) s
      go zero e = e
      go (suc f) e = rw (le-ltb 1 c h) at e

  pub climb_stop : (t : Bool) → 1 < c → t ≡ less_of dues seqs (slot_at_of win n (sibling c)) s → t ≡ true → win ≡ climbed_of dues seqs n (n + s) win₀ (n + s) s
  unfolding climbed_of
  climb_stop t h e y = go l.fuel l.same (sym e ∙ y)
    where
      go : (f : ℕ) → climbed_of dues seqs n f win c s ≡ climbed_of dues seqs n (n + s) win₀ (n + s) s → less_of dues seqs (slot_at_of win n (sibling c)) s ≡ true → win ≡ climbed_of dues seqs n (n + s) win₀ (n + s) s
      go zero e x = e
      go (suc f) e x = rw (lt-ltb 1 c h, x) at e

  pub climb_turn : (t : Bool) (win' : List ℕ) → 1 < c → t ≡ less_of dues seqs (slot_at_of win n (sibling c)) s → t ≡ false → win' ≡ set win (c / 2) s → Climb win₀ dues seqs n s win' (c / 2)
  unfolding climbed_of
  climb_turn t win' h e y ew = go l.fuel l.enough l.same (sym e ∙ y)
    where
      go : (f : ℕ) → c ≤ f → climbed_of dues seqs n f win c s ≡ climbed_of dues seqs n (n + s) win₀ (n + s) s → less_of dues seqs (slot_at_of win n (sibling c)) s ≡ false → Climb win₀ dues seqs n s win' (c / 2)
      go zero hf e x = absurd (omega arith)
      go (suc f) hf e x = record {
        fuel = f;
        enough = omega arith;
        some = omega arith;
        below = omega (arith, l.below);
        same = ap (λ (w : List ℕ). climbed_of dues seqs n f w (c / 2) s) ew ∙ (rw (lt-ltb 1 c h, x) at e);
      }

-- the same for the winner that is carried, with its due
pub record Carry (win₀ : List ℕ) (dues : List Float) (seqs : List ℕ) (n s : ℕ) (win : List ℕ) (c : ℕ) (best : ℕ × Float) : Type 0 where
  pub fuel : ℕ
  pub enough : c ≤ fuel
  pub some : 0 < c
  pub below : c ≤ n + s
  pub key : best.1 ≡ get_or dues best.0 (whole 0)
  pub same : carried_of dues seqs n fuel win c best.0 ≡ carried_of dues seqs n (n + s) win₀ (n + s) s

pub carry_start : (win : List ℕ) (dues : List Float) (seqs : List ℕ) (n s : ℕ) (due : Float) → s < n → due ≡ get_or dues s (whole 0) → Carry win dues seqs n s win (n + s) (s, due)
carry_start win dues seqs n s due h e = record { fuel = n + s; enough = omega arith; some = omega arith; below = omega arith; key = e; same = refl }

-- the one that is chosen of two slots, and its due
chosen : (t : Bool) (dues : List Float) (a b : ℕ × Float) → a.1 ≡ get_or dues a.0 (whole 0) → b.1 ≡ get_or dues b.0 (whole 0)
    → ((cond t a b).0 ≡ cond t a.0 b.0) × ((cond t a b).1 ≡ get_or dues (cond t a b).0 (whole 0))
chosen true dues a b ea eb = (refl, ea)
chosen false dues a b ea eb = (refl, eb)

module _ (win₀ : List ℕ) (dues : List Float) (seqs : List ℕ) (n s : ℕ) (win : List ℕ) (c : ℕ) (best : ℕ × Float) (l : Carry win₀ dues seqs n s win c best) where
  pub carry_done : c ≤ 1 → win ≡ carried_of dues seqs n (n + s) win₀ (n + s) s
  unfolding carried_of
  carry_done h = go l.fuel l.same
    where
      go : (f : ℕ) → carried_of dues seqs n f win c best.0 ≡ carried_of dues seqs n (n + s) win₀ (n + s) s → win ≡ carried_of dues seqs n (n + s) win₀ (n + s) s
      go zero e = e
      go (suc f) e = rw (le-ltb 1 c h) at e

  pub carry_turn : (t : Bool) (other next : ℕ × Float) (win' : List ℕ) → 1 < c → other.0 ≡ slot_at_of win n (sibling c) → other.1 ≡ get_or dues other.0 (whole 0)
      → t ≡ less_of dues seqs (slot_at_of win n (sibling c)) best.0 → next ≡ cond t other best → win' ≡ set win (c / 2) next.0 → Carry win₀ dues seqs n s win' (c / 2) next
  unfolding carried_of better_of
  carry_turn t other next win' h eo ed et en ew = go l.fuel l.enough l.same
    where
      choice : ((cond t other best).0 ≡ cond t other.0 best.0) × ((cond t other best).1 ≡ get_or dues (cond t other best).0 (whole 0))
      choice = chosen t dues other best ed l.key

      is_better : next.0 ≡ better_of dues seqs n win c best.0
      is_better = ap (λ (p : ℕ × Float). p.0) en ∙ choice.0 ∙ (λ i. cond (et i) (eo i) best.0)

      go : (f : ℕ) → c ≤ f → carried_of dues seqs n f win c best.0 ≡ carried_of dues seqs n (n + s) win₀ (n + s) s → Carry win₀ dues seqs n s win' (c / 2) next
      go zero hf e = absurd (omega arith)
      go (suc f) hf e = record {
        fuel = f;
        enough = omega arith;
        some = omega arith;
        below = omega (arith, l.below);
        key = rw en choice.1;
        same = (λ i. carried_of dues seqs n f ((ew ∙ ap (λ (x : ℕ). set win (c / 2) x) is_better) i) (c / 2) (is_better i)) ∙ (rw (lt-ltb 1 c h) at e);
      }
