-- A list of windows or kills that is refused is refused before the mode checks of the option text.
use Rattle.std.specs.Prelude.{refl, ltb, Result, List, [], ◌∷◌, ℕ}
use Rattle.numbers.specs.Laws.Results.{then_refused, cond_refused}
use Rattle.numbers.specs.Limits.{max_entries}
use Rattle.numbers.specs.Refusals.{EarlyIfRefused}
use Rattle.numbers.specs.declared.refusal.Refusal.{Refusal}
use Rattle.settings.specs.Lists.{no_entries, with_entry, with_value, entries_from, entries_of}
use Rattle.settings.specs.declared.entries.Entries.{Entries}

entry_early : {E : Type 0} (l : Entries E) (e : E) → EarlyIfRefused (with_entry l e)
unfolding with_entry
entry_early l e = cond_refused _ (ltb l.count max_entries) _ _ tt refl

entries_early : {E : Type 0} (parsed : List ℕ → Result E Refusal) (l : Entries E) (vs : List (List ℕ)) → ((v : List ℕ) → EarlyIfRefused (parsed v))
    → EarlyIfRefused (entries_from parsed l vs)
entries_early parsed l [] h = tt
entries_early parsed l (v ∷ vs) h =
    then_refused _ (with_value parsed l v) _ (then_refused _ (parsed v) _ (h v) (λ e _. entry_early l e)) (λ l _. entries_early parsed l vs h)

-- a list is refused so, where each of its values is
pub list_early : {E : Type 0} (parsed : List ℕ → Result E Refusal) (none : E) (vs : List (List ℕ)) → ((v : List ℕ) → EarlyIfRefused (parsed v))
    → EarlyIfRefused (entries_of parsed none vs)
unfolding entries_of
list_early parsed none vs h = entries_early parsed (no_entries none) vs h
