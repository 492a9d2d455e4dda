-- The first of the kills that holds the instant decides; the loop leaves with its index.
use borrow.Author.Rules.{rules}
use native.Mathlib.Omega.{arith}
use mathlib.Core.Path.{◌≡◌, sym, ap, ◌∙◌}
use mathlib.Core.Bool.{Bool, true, false, cond}
use mathlib.Core.List.{List}
use Prim.Native.Nat.{ℕ, ◌+◌, ◌<◌}
use lib.Ieee.{Float}
use lib.ListN.{length, drop, get_or}
use Rattle.std.specs.Prelude.{Some}
use Rattle.std.proofs.Common.{subst, drop_of_length-le}
use Rattle.std.proofs.lemmas.List.{at_drop_more}
use Rattle.std.proofs.lemmas.Option.{none-some, same_Some}
use Rattle.settings.specs.Windows.{no_window, contains_of}
use Rattle.settings.specs.declared.kill.KillStyle.TheVariants.{Rst}
use Rattle.settings.specs.declared.kill.TcpKill.{TcpKill}
use Rattle.steps.specs.Gate.{style_gate_of, kill_gate_of}
use Rattle.steps.proofs.gate.kill_gate.Goals as goal
use Rattle.steps.proofs.gate.kill_gate.Goals.{Left-loop-i, else-loop-i-test, then-loop-i-test+then-contains}

-- what stands for an entry outside the list
abbrev outside : TcpKill
outside = record { window = no_window; style = Rst }

-- one kill on, as the test of its window comes out
turn : (kills : List TcpKill) (i : ℕ) (now : Float) (b : Bool) → i < length kills
    → kill_gate_of kills now ≡ kill_gate_of (drop i kills) now
    → contains_of (get_or kills i outside).window now ≡ b
    → kill_gate_of kills now ≡ cond b (style_gate_of (get_or kills i outside).style) (kill_gate_of (drop (i + 1) kills) now)
unfolding kill_gate_of
turn kills i now b h left test = left ∙ at_drop_more (λ (l : List TcpKill). kill_gate_of l now) kills i outside h ∙ rw test

-- the kill at an index that decides
record Decides (kills : List TcpKill) (i : ℕ) (now : Float) : Type 0 where
  within : i < length kills
  style : style_gate_of (get_or kills i outside).style ≡ kill_gate_of kills now

pub loop-i-preserved : goal.loop-i-preserved
loop-i-preserved c = record {
  undecided = c.loop-i.invariant.undecided;
  left = turn _ _ _ false (omega arith) c.loop-i.invariant.left (rw (← c.contains.ensures) c.if-contains.false);
}

decided : (c : Left-loop-i) (i : ℕ) → c.loop-i-test.deciding ≡ Some i → Decides c.args.kills.now i c.args.now_ms
decided c i is =
    elim c.loop-i-test.branch [
      | else-loop-i-test w ↦ absurd (none-some i (sym (w.deciding-is ∙ c.loop-i.invariant.undecided) ∙ is))
      | then-loop-i-test+then-contains w ↦
          subst (λ (k : ℕ). Decides c.args.kills.now k c.args.now_ms) (same_Some c.loop-i.i i (sym w.deciding-is ∙ is))
          (record {
            within = omega (arith, w.loop-i-test.true);
            style = sym (turn _ _ _ true (omega (arith, w.loop-i-test.true)) c.loop-i.invariant.left (rw (← w.contains.ensures) w.if-contains.true));
          })
    ]

pub offset_bounds-kills-i-in-Some : goal.offset_bounds-kills-i-in-Some
offset_bounds-kills-i-in-Some c =
    let within = (decided (goal.at.offset_bounds-kills-i-in-Some c).Left-loop-i _ c.in-Some.is).within in
    search (rules, within)

pub bounds-kills-i-in-Some : goal.bounds-kills-i-in-Some
bounds-kills-i-in-Some c = (decided (goal.at.bounds-kills-i-in-Some c).Left-loop-i _ c.in-Some.is).within

pub returns-in-Some : goal.returns-in-Some
returns-in-Some c = c.from.ensures ∙ (decided (goal.at.returns-in-Some c).Left-loop-i _ c.in-Some.is).style

pub returns-in-None : goal.returns-in-None
unfolding kill_gate_of
returns-in-None c =
    elim c.loop-i-test.branch [
      | else-loop-i-test w ↦
          let past = drop_of_length-le c.args.kills.now {i = c.loop-i.i} (omega (arith, w.loop-i-test.false)) in
          sym (c.loop-i.invariant.left ∙ ap (λ (l : List TcpKill). kill_gate_of l c.args.now_ms) past)
      | then-loop-i-test+then-contains w ↦ absurd (none-some _ (sym c.in-None.is ∙ w.deciding-is))
    ]
