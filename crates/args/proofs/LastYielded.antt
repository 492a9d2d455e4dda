-- The last value that an iterator over a key's values gives.
use Rattle.std.specs.Prelude.{◌≡◌, refl, List, [], ◌∷◌, ℕ, map, Option, Some, None}
use Rattle.std.specs.Iterator.{Drains, YieldsFirstRef}
use Rattle.std.specs.List.{last_or}
use Rattle.std.specs.Option.{option_map}
use Rattle.std.proofs.Common.{ap, ◌∙◌}
use Rattle.std.proofs.lemmas.Iterator.{items_from_drains}
use Rattle.std.proofs.lemmas.Iterator.Consumers.{YieldsList-from_first}
use denote.Ref.{Bor}
use Rattle.args.specs.declared.key_values.Values.{Values}
use Rattle.args.specs.Arguments.{last_from}
use Rattle.args.specs.Left.{values_left}

abbrev now : Bor (List ℕ) → List ℕ
now v = v.now

last_now : (o : Option (Bor (List ℕ))) (vs : List (Bor (List ℕ))) → option_map now (last_or o vs) ≡ last_from (option_map now o) (map now vs)
last_now o [] = refl
last_now o (v ∷ vs) = last_now (Some v) vs

pub last_yielded : (r : Option (Bor (List ℕ))) (v : Values) → ((vs : List (Bor (List ℕ))) × Drains (YieldsFirstRef values_left) v vs × (r ≡ last_or None vs)) → option_map now r ≡ last_from None (values_left v)
last_yielded r v (vs, (u, (t, y, e)), h) =
    ap (option_map now) h ∙ last_now None vs ∙ ap (last_from None) (items_from_drains vs (t, y, λ _. (u, e)) (YieldsList-from_first now values_left (values_left v) refl))
