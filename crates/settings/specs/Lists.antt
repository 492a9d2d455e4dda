-- Blackouts and kills (document 01, "Records" and "Option text"): of each a direction has at most 128; one more is read and then refused by 19, if not by its own
-- refusal.
use Rattle.std.specs.Prelude.{cond, Result, Ok, Err, List, [], ◌∷◌, ℕ, ◌+◌, ltb, set, replicate}
use Rattle.numbers.specs.Limits.{max_entries}
use Rattle.numbers.specs.Results.{and_then}
use Rattle.numbers.specs.declared.refusal.Refusal.{Refusal}
use Rattle.numbers.specs.declared.refusal.Refusal.TheVariants as refusal
use Rattle.settings.specs.declared.entries.Entries.{Entries}

-- nothing gathered
unfoldable pub no_entries : {E : Type 0} → E → Entries E
no_entries none = record { entries = replicate max_entries none; count = 0 }

-- one entry more
unfoldable pub with_entry : {E : Type 0} → Entries E → E → Result (Entries E) Refusal
with_entry l e = cond (ltb l.count max_entries) (Ok (record { entries = set l.entries l.count e; count = l.count + 1 })) (Err refusal.Entries)

-- a value is read by `parsed`, and is then one entry more
abbrev pub with_value : {E : Type 0} → (List ℕ → Result E Refusal) → Entries E → List ℕ → Result (Entries E) Refusal
with_value parsed l v = and_then (parsed v) (λ e. with_entry l e)

-- the first refusal stays
abbrev pub entries_from : {E : Type 0} → (List ℕ → Result E Refusal) → Entries E → List (List ℕ) → Result (Entries E) Refusal
entries_from parsed l [] = Ok l
entries_from parsed l (v ∷ vs) = and_then (with_value parsed l v) (λ l. entries_from parsed l vs)

unfoldable pub entries_of : {E : Type 0} → (List ℕ → Result E Refusal) → E → List (List ℕ) → Result (Entries E) Refusal
entries_of parsed none vs = entries_from parsed (no_entries none) vs
