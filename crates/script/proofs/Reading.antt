-- What the loops over digits come to.
use Rattle.std.proofs.Common.{◌≡◌, ℕ, ◌+◌, ◌-◌, ◌*◌, ◌^◌, ◌<◌, ◌≤◌, List, [], ◌∷◌, ◌++◌, true, ◌==◌, eqb-true, length-take-le, length, get_or, slice_set, take, drop, Some, None, refl, sym, ap, ◌∙◌, arith, add-one, pow-suc, lit<, append_assoc, take_at, option_map, option_and_then}
use Rattle.std.proofs.lemmas.List.{take_all, length-drop, length-set, take_more_set}
use Rattle.std.specs.Prelude.{Option}
use Rattle.script.specs.Hex.{pair_of, decode_from, decode_of}
use native.Mathlib.Nat.{pow-le-pow_right}

-- all that is left behind a place
pub to_end : (s : List ℕ) (k : ℕ) → take (length s - k) (drop k s) ≡ drop k s
to_end s k = take_all (length s - k) (drop k s) (omega (arith, length-drop k s))

-- one digit more
pub more : (n i d : ℕ) → n < 16 ^ i → d < 16 → n * 16 + d < 16 ^ (i + 1)
more n i d h k = rw (add-one i, pow-suc 16 i) (omega arith)

reach : (i : ℕ) → i ≤ 15 → 16 ^ i ≤ 16 ^ 15
reach i k = pow-le-pow_right (lit< tt) k

-- up to 16 digits give a number of 64 bits
pub fits : (n i d : ℕ) → n < 16 ^ i → i < 16 → d < 16 → n * 16 + d < 2 ^ 64
fits n i d h j k = omega (arith, reach i (omega arith))

-- two digits go, and the text has their byte
pub goes : (t d : List ℕ) (p : ℕ) → 2 ≤ length d → pair_of (get_or d 0 0) (get_or d 1 0) ≡ Some p → decode_from (t ++ (p ∷ [])) (take (length d - 2) (drop 2 d)) ≡ decode_from t d
unfolding decode_from
goes t [] p h e = absurd (omega arith)
goes t (a ∷ []) p h e = absurd (omega arith)
goes t (a ∷ b ∷ s) p h e = rw (to_end (a ∷ b ∷ s) 2, e) refl

-- where n bytes are there already, the first n are the same whatever follows them
pub full : (n : ℕ) (t u d : List ℕ) → length t ≡ n → option_map (take n) (decode_from (t ++ u) d) ≡ option_map (take n) (decode_from t d)
unfolding decode_from
full n t u [] e = ap Some (take_at t u n e ∙ sym (take_all n t (omega arith)))
full n t u (a ∷ []) e = refl
full n t u (a ∷ b ∷ d) e = at (pair_of a b) (λ v. full n t v d e)
  where
    at : (o : Option ℕ) → ((v : List ℕ) → option_map (take n) (decode_from (t ++ v) d) ≡ option_map (take n) (decode_from t d))
        → option_map (take n) (option_and_then (λ byte. decode_from ((t ++ u) ++ (byte ∷ [])) d) o) ≡ option_map (take n) (option_and_then (λ byte. decode_from (t ++ (byte ∷ [])) d) o)
    at None r = refl
    at (Some byte) r = rw append_assoc (r (u ++ (byte ∷ [])) ∙ sym (r (byte ∷ [])))

-- the step of the loop: two digits go, and their byte is put behind those that are there
pub stores : (text rest digits : List ℕ) (count byte : ℕ) → count < length text → 2 ≤ length rest → pair_of (get_or rest 0 0) (get_or rest 1 0) ≡ Some byte
    → option_map (take (length text)) (decode_from (take count text) rest) ≡ option_map (take (length text)) (decode_of digits)
    → option_map (take (length (slice_set text count byte))) (decode_from (take (count + 1) (slice_set text count byte)) (take (length rest - 2) (drop 2 rest)))
    ≡ option_map (take (length (slice_set text count byte))) (decode_of digits)
stores text rest digits count byte h k is same =
    rw (length-set text count byte, take_more_set text count byte h) (ap (option_map (take (length text))) (goes (take count text) rest byte k is) ∙ same)

-- or there is no room for it
pub passes : (text rest digits : List ℕ) (count byte : ℕ) → length text ≤ count → count ≤ length text → 2 ≤ length rest → pair_of (get_or rest 0 0) (get_or rest 1 0) ≡ Some byte
    → option_map (take (length text)) (decode_from (take count text) rest) ≡ option_map (take (length text)) (decode_of digits)
    → option_map (take (length text)) (decode_from (take count text) (take (length rest - 2) (drop 2 rest))) ≡ option_map (take (length text)) (decode_of digits)
passes text rest digits count byte h within k is same =
    let long : length (take count text) ≡ length text = omega (arith, length-take-le count text within) in
    sym (full (length text) (take count text) (byte ∷ []) (take (length rest - 2) (drop 2 rest)) long)
    ∙ ap (option_map (take (length text))) (goes (take count text) rest byte k is) ∙ same

-- the end of the loop
pub ends : (text rest digits : List ℕ) (count n : ℕ) → (length rest == 0) ≡ true → count ≤ length text → length text ≡ n
    → option_map (take (length text)) (decode_from (take count text) rest) ≡ option_map (take (length text)) (decode_of digits)
    → Some (take count text) ≡ option_map (take n) (decode_of digits)
unfolding decode_from
ends text [] digits count n none within long same =
    ap Some (sym (take_all (length text) (take count text) (omega (arith, length-take-le count text within))))
    ∙ same ∙ ap (λ (m : ℕ). option_map (take m) (decode_of digits)) long
ends text (x ∷ rest) digits count n none within long same = absurd (omega (arith, eqb-true (length (x ∷ rest)) 0 none))
