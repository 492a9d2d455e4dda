-- Windows and kills that are read pass refusal 29's judgement, and no list has more than 128.
use Rattle.std.specs.Prelude.{◌≡◌, refl, Bool, true, false, cond, Option, Some, None, Result, Ok, Err, IfOk, List, [], ◌∷◌, ◌++◌, ℕ, ◌+◌, ◌<◌, ◌≤◌, leb, ltb, length, take, set}
use Rattle.std.proofs.Common.{add-one, arith, le-leb, lt-ltb, ltb-true, leb-false, length-set, take-suc-set}
use Rattle.numbers.specs.Laws.Both.{both, both_true}
use Rattle.numbers.specs.Laws.Results.{then_taken}
use Rattle.numbers.specs.Limits.{max_entries}
use Rattle.numbers.specs.Results.{and_then}
use Rattle.numbers.specs.declared.refusal.Refusal.{Refusal}
use Rattle.numbers.specs.declared.refusal.Refusal.TheVariants as refusal
use Rattle.values.specs.Bytes.{split_once, colon}
use Rattle.values.specs.Parts.{colons_of}
use Rattle.values.specs.Whole.{is_bounded}
use Rattle.settings.specs.declared.entries.Entries.{Entries}
use Rattle.settings.specs.declared.kill.KillStyle.{KillStyle}
use Rattle.settings.specs.declared.window.Window.{Window}
use Rattle.settings.specs.Judgement.{is_window, is_kill, all_of, is_list}
use Rattle.settings.specs.Lists.{no_entries, with_entry, with_value, entries_from, entries_of}
use Rattle.settings.specs.Windows.{no_window, no_kill, bounds_of, bound_of, parted, parse_window_of, parse_style_of, kill_parts, kill_parted, parse_kill_of}
use Rattle.settings.specs.Laws.Numbers.{bound_judged}
use Rattle.values.specs.Blanks.{trimmed}

-- the window of two bounds passes
bounds_judged : (a b : List ℕ) → IfOk (bounds_of a b) (λ w. is_window w ≡ true)
bounds_judged a b = then_taken _ _ (bound_of a) _ (bound_judged (trimmed a)) (λ s h. then_taken _ _ (bound_of b) _ (bound_judged (trimmed b)) (λ e k. go s e h k (leb e s) refl))
  where
    go : (s e : ℕ) → is_bounded s ≡ true → is_bounded e ≡ true → (t : Bool) → leb e s ≡ t
        → IfOk (cond t (Err refusal.Window) (Ok (record { start_ms = s; end_ms = e }))) (λ w. is_window w ≡ true)
    go s e h k true l = tt
    go s e h k false l = both _ _ (lt-ltb s e (leb-false e s l)) (both _ _ h k)

pub window_judged : (v : List ℕ) → IfOk (parse_window_of v) (λ w. is_window w ≡ true)
window_judged v = go (split_once colon v)
  where
    go : (o : Option (List ℕ × List ℕ)) → IfOk (parted o) (λ w. is_window w ≡ true)
    go None = tt
    go (Some p) = bounds_judged p.0 p.1

parts_judged : (a b c : List ℕ) → IfOk (kill_parts a b c) (λ k. is_kill k ≡ true)
parts_judged a b c = then_taken _ _ (bounds_of a b) _ (bounds_judged a b) (λ w h. go w h (parse_style_of c))
  where
    go : (w : Window) → is_window w ≡ true → (r : Result KillStyle Refusal) → IfOk (and_then r (λ s. Ok (record { window = w; style = s }))) (λ k. is_kill k ≡ true)
    go w h (Ok s) = h
    go w h (Err k) = tt

pub kill_judged : (v : List ℕ) → IfOk (parse_kill_of v) (λ k. is_kill k ≡ true)
kill_judged v = go (colons_of v)
  where
    go : (o : Option (List ℕ × List ℕ × List ℕ)) → IfOk (kill_parted o) (λ k. is_kill k ≡ true)
    go None = tt
    go (Some (a, b, c)) = parts_judged a b c

-- ---- lists of entries of any kind, each of which passes a test

module _ {E : Type 0} (passes : E → Bool) (parsed : List ℕ → Result E Refusal) (none : E) (each_passes : (v : List ℕ) → IfOk (parsed v) (λ e. passes e ≡ true)) where
  all_last : (l : List E) (e : E) → all_of passes l ≡ true → passes e ≡ true → all_of passes (l ++ (e ∷ [])) ≡ true
  all_last [] e h i = both _ _ i refl
  all_last (x ∷ l) e h i = both _ _ (both_true (passes x) (all_of passes l) h).0 (all_last l e (both_true (passes x) (all_of passes l) h).1 i)

  -- what holds of the entries gathered so far
  record Judged (l : Entries E) : Type 0 where
    size : length l.entries ≡ max_entries
    most : l.count ≤ max_entries
    each : all_of passes (take l.count l.entries) ≡ true

  none_judged : Judged (no_entries none)
  unfolding no_entries
  none_judged = record { size = refl; most = omega arith; each = refl }

  with_judged : (l : Entries E) → Judged l → (e : E) → passes e ≡ true → IfOk (with_entry l e) Judged
  unfolding with_entry
  with_judged l j e h = go (ltb l.count max_entries) refl
    where
      go : (t : Bool) → ltb l.count max_entries ≡ t → IfOk (cond t (Ok (record { entries = set l.entries l.count e; count = l.count + 1 })) (Err refusal.Entries)) Judged
      go false q = tt
      go true q =
          let room : l.count < max_entries = ltb-true l.count max_entries q in
          record {
            size = rw length-set j.size;
            most = omega arith;
            each = rw (add-one, take-suc-set l.entries l.count e (omega (arith, j.size))) (all_last (take l.count l.entries) e j.each h);
          }

  from_judged : (vs : List (List ℕ)) (l : Entries E) → Judged l → IfOk (entries_from parsed l vs) Judged
  from_judged [] l j = j
  from_judged (v ∷ vs) l j = then_taken _ _ (with_value parsed l v) _ (then_taken _ _ (parsed v) _ (each_passes v) (λ e h. with_judged l j e h)) (λ m k. from_judged vs m k)

  pub entries_judged : (vs : List (List ℕ)) → IfOk (entries_of parsed none vs) (λ l. is_list passes l.entries l.count ≡ true)
  unfolding entries_of
  entries_judged vs = go (entries_from parsed (no_entries none) vs) (from_judged vs (no_entries none) none_judged)
    where
      go : (r : Result (Entries E) Refusal) → IfOk r Judged → IfOk r (λ l. is_list passes l.entries l.count ≡ true)
      go (Ok l) j = both _ _ (le-leb _ max_entries j.most) j.each
      go (Err k) j = tt

pub windows_judged : (vs : List (List ℕ)) → IfOk (entries_of parse_window_of no_window vs) (λ l. is_list is_window l.entries l.count ≡ true)
windows_judged = entries_judged is_window parse_window_of no_window window_judged

pub kills_judged : (vs : List (List ℕ)) → IfOk (entries_of parse_kill_of no_kill vs) (λ l. is_list is_kill l.entries l.count ≡ true)
kills_judged = entries_judged is_kill parse_kill_of no_kill kill_judged
