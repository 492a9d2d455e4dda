-- What is found of a key are its values in the text, one behind the other: what a layer above needs.
use Rattle.std.specs.Prelude.{◌≡◌, refl, Bool, true, false, cond, List, [], ◌∷◌, ◌++◌, ℕ, zero, suc, ◌+◌, ◌<◌, ◌≤◌, length, drop, Option, Some, None}
use Rattle.std.specs.Iterator.{YieldsFirstRef}
use Rattle.std.proofs.Common.{sym, ap, ◌∙◌, arith, ltb-true, length-drop, drop-drop, drop_of_length-le}
use denote.Ref.{Bor}
use Rattle.values.specs.Bytes.{bytes, up_to, has, before_first, behind_first, same, equals}
use Rattle.args.specs.declared.key_values.Values.{Values}
use Rattle.args.specs.Arguments.{dashed, key_of, Item, flag, pair, gathered, values_in, values_of}
use Rattle.args.specs.Left.{values_left}
use Rattle.args.specs.Laws.Arguments.{no_argument, first_argument}

-- whether there is something
abbrev pub is_there : {A : Type 0} → Option A → Bool
is_there None = false
is_there (Some x) = true

-- nothing is not there
never : {X : Type 0} → false ≡ true → X
never h = absurd cc

-- what is gathered first, and then what is gathered behind it
abbrev pub onward : Option Item → List Item → List Item
onward None is = []
onward (Some i) is = i ∷ is

-- what is gathered first of the text s, and the place in it from which the rest is gathered
pub record Turn (s : List ℕ) : Type 0 where
  pub item : Option Item
  pub place : ℕ
  pub same : (gathered s).items ≡ onward item (gathered (drop place s)).items
  pub further : is_there item ≡ true → 0 < place
  pub within : is_there item ≡ true → place ≤ length s

-- the zero byte that closes an argument is within the text
within_text : (s : List ℕ) → has 0 s ≡ true → up_to 0 s + 1 ≤ length s
within_text s h = omega (arith, ltb-true (up_to 0 s) (length s) h)

module _ (s : List ℕ) where
  -- the first argument, the place behind it and what is left there
  abbrev a : List ℕ
  a = before_first 0 s

  abbrev m : ℕ
  m = up_to 0 s + 1

  abbrev b : List ℕ
  b = drop m s

  abbrev n : ℕ
  n = up_to 0 b + 1

  within_both : has 0 s ≡ true → has 0 b ≡ true → m + n ≤ length s
  within_both e f = omega (arith, within_text s e, within_text b f, length-drop m s)

  cases : (t u v w x : Bool) → has 0 s ≡ t → dashed a ≡ u → has equals a ≡ v → same (key_of a) (bytes "verbose") ≡ w → has 0 b ≡ x → Turn s
  unfolding gathered
  cases false u v w x e1 e2 e3 e4 e5 = record { item = None; place = 0; same = rw (no_argument s e1); further = never; within = never }
  cases true false v w x e1 e2 e3 e4 e5 = record { item = None; place = 0; same = rw (first_argument s e1, e2); further = never; within = never }
  cases true true true w x e1 e2 e3 e4 e5 =
      record { item = Some (pair (key_of a) (behind_first equals a)); place = m; same = rw (first_argument s e1, e2, e3); further = λ _. omega arith; within = λ _. within_text s e1 }
  cases true true false true x e1 e2 e3 e4 e5 = record { item = Some flag; place = m; same = rw (first_argument s e1, e2, e3, e4); further = λ _. omega arith; within = λ _. within_text s e1 }
  cases true true false false false e1 e2 e3 e4 e5 = record { item = None; place = 0; same = rw (first_argument s e1, e2, e3, e4, no_argument b e5); further = never; within = never }
  cases true true false false true e1 e2 e3 e4 e5 =
      record { item = Some (pair (key_of a) (before_first 0 b)); place = m + n; same = rw (first_argument s e1, e2, e3, e4, first_argument b e5, drop-drop n m s); further = λ _. omega arith; within = λ _. within_both e1 e5 }

  pub turn_of : Turn s
  turn_of = cases _ _ _ _ _ refl refl refl refl refl

-- the values vs of the key k are those of a later place of the text s
pub record Later (k s : List ℕ) (vs : List (List ℕ)) : Type 0 where
  pub place : ℕ
  pub same : vs ≡ values_of k (drop place s)
  pub further : 0 < place
  pub within : place ≤ length s

module _ (k : List ℕ) where
  -- the values behind a later place m
  later_on : (s : List ℕ) (vs : List (List ℕ)) (m : ℕ) → 0 < m → m ≤ length s → Later k (drop m s) vs → Later k s vs
  later_on s vs m f w l =
      record { place = m + l.place; same = l.same ∙ ap (values_of k) (drop-drop l.place m s); further = omega (arith, f); within = omega (arith, l.within, length-drop m s, w) }

  module _ (s v : List ℕ) (vs : List (List ℕ)) where
    later_turn : (t : Turn s) (i : Option Item) → (gathered s).items ≡ onward i (gathered (drop t.place s)).items → (is_there i ≡ true → 0 < t.place) → (is_there i ≡ true → t.place ≤ length s)
        → values_of k s ≡ v ∷ vs → ((m : ℕ) → 0 < m → m ≤ length s → values_of k (drop m s) ≡ v ∷ vs → Later k (drop m s) vs) → Later k s vs
    unfolding values_of
    later_turn t None g f w e ih = absurd (let z = sym (ap (values_in k) g) ∙ e in cc)
    later_turn t (Some flag) g f w e ih = later_on s vs t.place (f refl) (w refl) (ih t.place (f refl) (w refl) (sym (ap (values_in k) g) ∙ e))
    later_turn t (Some (pair a x)) g f w e ih = mine (same a k) (sym (ap (values_in k) g) ∙ e)
      where
        mine : (u : Bool) → cond u (x ∷ values_of k (drop t.place s)) (values_of k (drop t.place s)) ≡ v ∷ vs → Later k s vs
        mine true h = record { place = t.place; same = cc; further = f refl; within = w refl }
        mine false h = later_on s vs t.place (f refl) (w refl) (ih t.place (f refl) (w refl) h)

  -- behind the first value of the key are the values of a later place
  pub later : (s v : List ℕ) (vs : List (List ℕ)) → values_of k s ≡ v ∷ vs → Later k s vs
  later s v vs = go (suc (length s)) s (omega arith)
    where
      go : (most : ℕ) (s : List ℕ) → length s < most → values_of k s ≡ v ∷ vs → Later k s vs
      go zero s h e = absurd (omega arith)
      go (suc most) s h e =
          later_turn s v vs (turn_of s) (turn_of s).item (turn_of s).same (turn_of s).further (turn_of s).within e (λ m f w d. go most (drop m s) (omega (arith, h, f, w, length-drop m s)) d)

-- the value that is given, and then the values behind it
abbrev pub hit_on : Option (Bor (List ℕ)) → List (List ℕ) → List (List ℕ)
hit_on None vs = []
hit_on (Some v) vs = v.now ∷ vs

-- the key whose values are told, and the text in which they are left
abbrev pub key : Values → List ℕ
key v = v.prefix.now ++ v.name.now

abbrev pub text : Values → List ℕ
text v = v.args.rest.now

-- a call of `next` on v gave r and left w: the values of the key in the text are the one that it gave and those from a place on, which is nearer to the end;
-- these are left in w
pub record Hits (v : Values) (r : Option (Bor (List ℕ))) (w : Values) : Type 0 where
  pub place : ℕ
  pub same : values_of (key v) (text v) ≡ hit_on r (values_of (key v) (drop place (text v)))
  pub left : values_left w ≡ values_of (key v) (drop place (text v))
  pub further : is_there r ≡ true → 0 < place
  pub within : place ≤ length (text v)

none_behind : (k s : List ℕ) → values_of k (drop (length s) s) ≡ []
unfolding values_of gathered
none_behind k s = rw (drop_of_length-le s {i = length s} (omega arith))

-- the value that `next` gives is the first one of the key from there on
pub hits : (v : Values) (r : Option (Bor (List ℕ))) (w : Values) → YieldsFirstRef values_left v r w → Hits v r w
unfolding values_left
hits v None w h = record { place = length (text v); same = h.0; left = h.1 ∙ sym (none_behind (key v) (text v)); further = never; within = omega arith }
hits v (Some x) w h = on (later (key v) (text v) x.now (values_left w) h)
  where
    on : Later (key v) (text v) (values_left w) → Hits v (Some x) w
    on l = record { place = l.place; same = h ∙ ap (λ (vs : List (List ℕ)). x.now ∷ vs) l.same; left = l.same; further = λ _. l.further; within = l.within }
