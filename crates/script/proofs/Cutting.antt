-- What the cutting of a chunk comes to.
use Rattle.std.proofs.Common.{◌≡◌, ℕ, zero, suc, ◌+◌, ◌-◌, ◌≤◌, min, Bool, true, false, cond, List, [], ◌∷◌, ◌++◌, length, take, drop, nat_lt, ◌==◌, refl, sym, ap, ◌∙◌, arith, append_assoc, append-nil, length-append, length-take-le, take_at, take_all, take-take, lt-ltb, ltb-false, ltb-true, eq-eqb, eqb-true, true≢false, subst, All, ◌≢◌}
use Rattle.std.proofs.Math.Dec.{leb-suc-suc}
use Rattle.std.proofs.lemmas.List.Elements.{All-nil, All-cons}
use Rattle.values.specs.Bytes.{up_to, has, before_first}
use Rattle.values.specs.Laws.Scan.{before_length}
use Rattle.script.specs.declared.beyond.Beyond.{Beyond}
use Rattle.script.specs.declared.beyond.Beyond.TheVariants.{Nothing}
use Rattle.script.specs.declared.line.Cut.{Cut}
use Rattle.script.specs.Beyond.{further_of, all_further}
use Rattle.script.specs.Hex.{digit_of}
use Rattle.script.specs.Lines.{Known, nothing_known, with_byte_of, with_bytes, cut_from}

-- a chunk with a line feed ends the line there
cut_at_feed : (i : ℕ) (known : Known) (s : List ℕ) → has 10 s ≡ true → cut_from i known s ≡ (record { used = i + (up_to 10 s + 1); ended = true }, with_bytes known (before_first 10 s))
unfolding with_bytes cut_from
cut_at_feed i known [] h = cc
cut_at_feed i known (x ∷ s) h = at (x == 10) (cut_at_feed (i + 1) (with_byte_of known x) s) h
  where
    at : (t : Bool)
        → (has 10 s ≡ true → cut_from (i + 1) (with_byte_of known x) s ≡ (record { used = i + 1 + (up_to 10 s + 1); ended = true }, with_bytes (with_byte_of known x) (before_first 10 s)))
        → nat_lt (cond t 0 (suc (up_to 10 s))) (suc (length s)) ≡ true
        → cond t (record { used = i + 1; ended = true }, known) (cut_from (i + 1) (with_byte_of known x) s)
        ≡ (record { used = i + (cond t 0 (suc (up_to 10 s)) + 1); ended = true }, with_bytes known (take (cond t 0 (suc (up_to 10 s))) (x ∷ s)))
    at true r e = refl
    at false r e =
        let used : i + 1 + (up_to 10 s + 1) ≡ i + (suc (up_to 10 s) + 1) = omega arith in
        r (sym (leb-suc-suc _ _) ∙ e)
        ∙ ap (λ (n : ℕ). (record { used = n; ended = true }, with_bytes (with_byte_of known x) (take (up_to 10 s) s))) used

-- a chunk without one is taken whole
cut_whole : (i : ℕ) (known : Known) (s : List ℕ) → has 10 s ≡ false → cut_from i known s ≡ (record { used = i + length s; ended = false }, with_bytes known s)
unfolding with_bytes cut_from
cut_whole i known [] h =
    let used : i ≡ i + 0 = omega arith in
    ap (λ (n : ℕ). (record { used = n; ended = false }, known)) used
cut_whole i known (x ∷ s) h = at (x == 10) (cut_whole (i + 1) (with_byte_of known x) s) h
  where
    at : (t : Bool)
        → (has 10 s ≡ false → cut_from (i + 1) (with_byte_of known x) s ≡ (record { used = i + 1 + length s; ended = false }, with_bytes (with_byte_of known x) s))
        → nat_lt (cond t 0 (suc (up_to 10 s))) (suc (length s)) ≡ false
        → cond t (record { used = i + 1; ended = true }, known) (cut_from (i + 1) (with_byte_of known x) s)
        ≡ (record { used = i + suc (length s); ended = false }, with_bytes (with_byte_of known x) s)
    at true r e = cc (lt-ltb 0 (suc (length s)) (omega arith))
    at false r e =
        let used : i + 1 + length s ≡ i + suc (length s) = omega arith in
        r (sym (leb-suc-suc _ _) ∙ e)
        ∙ ap (λ (n : ℕ). (record { used = n; ended = false }, with_bytes (with_byte_of known x) s)) used

-- the same, of what stands before the line feed
pub cut_told : (known after : Known) (bytes chunk : List ℕ) → has 10 chunk ≡ true → bytes ≡ before_first 10 chunk → after ≡ with_bytes known bytes
    → (record { used = length bytes + 1; ended = true }, after) ≡ cut_from 0 known chunk
cut_told known after bytes chunk h e f =
    let used : length bytes + 1 ≡ 0 + (up_to 10 chunk + 1) = omega (arith, ap length e, before_length 10 chunk) in
    ap (λ (n : ℕ). (record { used = n; ended = true }, after)) used
    ∙ ap (λ (k : Known). (record { used = 0 + (up_to 10 chunk + 1); ended = true }, k)) (f ∙ ap (with_bytes known) e)
    ∙ sym (cut_at_feed 0 known chunk h)

pub whole_told : (known after : Known) (chunk : List ℕ) → has 10 chunk ≡ false → after ≡ with_bytes known chunk → (record { used = length chunk; ended = false }, after) ≡ cut_from 0 known chunk
whole_told known after chunk h f =
    let used : length chunk ≡ 0 + length chunk = omega arith in
    ap (λ (n : ℕ). (record { used = n; ended = false }, after)) used
    ∙ ap (λ (k : Known). (record { used = 0 + length chunk; ended = false }, k)) f
    ∙ sym (cut_whole 0 known chunk h)

-- as many bytes are kept as there is room for
appended : (k : List ℕ) (beyond : Beyond) (s : List ℕ) (n : ℕ) → n ≡ min (length s) (65536 - length k) → length k ≤ 65536
    → with_bytes (k, beyond) s ≡ (k ++ take n s, all_further beyond (drop n s))
unfolding with_bytes all_further
appended k beyond [] zero e h = rw (append-nil k) refl
appended k beyond [] (suc n) e h = absurd (omega arith)
appended k beyond (x ∷ s) zero e h =
    let full : nat_lt (length k) 65536 ≡ false = grind arith in
    rw full (appended k (further_of beyond (digit_of x)) s 0 (omega arith) h)
appended k beyond (x ∷ s) (suc n) e h =
    let room : nat_lt (length k) 65536 ≡ true = lt-ltb (length k) 65536 (omega arith) in
    let long : length (k ++ x ∷ []) ≡ length k + 1 = length-append k (x ∷ []) in
    rw room (appended (k ++ x ∷ []) beyond s n (omega arith) (omega arith) ∙ rw append_assoc refl)

-- the bytes that fit stand behind those that are kept
pub appended_to : (items bytes d copied front further post rest : List ℕ) (start fit len : ℕ) (beyond after : Beyond) → d ≡ items → length d ≡ 65536 → len ≡ 65536 → start ≤ 65536
    → fit ≡ min (length bytes) (65536 - start) → copied ≡ front → front ≡ take fit bytes → further ≡ drop fit bytes → after ≡ all_further beyond further
    → (take (start + fit) (take len ((take start d ++ (copied ++ post)) ++ rest)), after) ≡ with_bytes (take start items, beyond) bytes
appended_to items bytes d copied front further post rest start fit len beyond after is long whole fits least c f g h =
    let kept : length (take start items) ≡ start = omega (arith, ap length is, length-take-le start items (omega (arith, ap length is))) in
    let put : length copied ≡ fit = omega (arith, ap length (c ∙ f), length-take-le fit bytes (omega arith)) in
    let both : length (take start items ++ copied) ≡ start + fit = omega (arith, length-append (take start items) copied) in
    let joined : (take start items ++ (copied ++ post)) ++ rest ≡ (take start items ++ copied) ++ (post ++ rest) =
    ap (λ (l : List ℕ). l ++ rest) (sym (append_assoc (take start items) copied post)) ∙ append_assoc (take start items ++ copied) post rest in
    let cut : take (start + fit) (take len ((take start items ++ (copied ++ post)) ++ rest)) ≡ take start items ++ copied =
    take-take (start + fit) len ((take start items ++ (copied ++ post)) ++ rest) (omega arith)
    ∙ ap (take (start + fit)) joined ∙ take_at (take start items ++ copied) (post ++ rest) (start + fit) both in
    let first : take (start + fit) (take len ((take start d ++ (copied ++ post)) ++ rest)) ≡ take start items ++ take fit bytes =
    ap (λ (l : List ℕ). take (start + fit) (take len ((take start l ++ (copied ++ post)) ++ rest))) is
    ∙ cut ∙ ap (λ (l : List ℕ). take start items ++ l) (c ∙ f) in
    let second : after ≡ all_further beyond (drop fit bytes) = h ∙ ap (all_further beyond) g in
    let fewest : fit ≡ min (length bytes) (65536 - length (take start items)) = omega arith in
    ap (λ (l : List ℕ). (l, after)) first
    ∙ ap (λ (b : Beyond). (take start items ++ take fit bytes, b)) second
    ∙ sym (appended (take start items) beyond bytes fit fewest (omega arith))

positive : (m : ℕ) → nat_lt 0 (min m 65536) ≡ nat_lt 0 m
positive zero = refl
positive (suc m) = lt-ltb 0 (min (suc m) 65536) (omega arith) ∙ sym (lt-ltb 0 (suc m) (omega arith))

-- a line has begun where any byte has come
pub begun_is : (s : List ℕ) → nat_lt 0 (length (with_bytes nothing_known s).0) ≡ nat_lt 0 (length s)
begun_is s =
    let n = min (length s) 65536 in
    let long : length (take n s) ≡ n = length-take-le n s (omega arith) in
    ap (λ (k : Known). nat_lt 0 (length k.0)) (appended [] Nothing s n (omega arith) (omega arith)) ∙ ap (nat_lt 0) long ∙ positive (length s)

pub with_none : (known : Known) → with_bytes known [] ≡ known
unfolding with_bytes
with_none known = refl

-- bytes that come in two parts
pub with_both : (known : Known) (a b : List ℕ) → with_bytes known (a ++ b) ≡ with_bytes (with_bytes known a) b
unfolding with_bytes
with_both known [] b = refl
with_both known (x ∷ a) b = with_both (with_byte_of known x) a b

before_all : (s : List ℕ) → All (λ x. x ≢ 10) (before_first 10 s)
before_all [] = All-nil (λ x. x ≢ 10)
before_all (x ∷ s) = at (x == 10) refl (before_all s)
  where
    at : (t : Bool) → (x == 10) ≡ t → All (λ y. y ≢ 10) (before_first 10 s) → All (λ y. y ≢ 10) (take (cond t 0 (suc (up_to 10 s))) (x ∷ s))
    at true e r = All-nil (λ y. y ≢ 10)
    at false e r = All-cons (λ y. y ≢ 10) x (take (up_to 10 s) s) (λ is. true≢false (sym (eq-eqb x 10 is) ∙ e)) r

none_in : (s : List ℕ) → has 10 s ≡ false → All (λ x. x ≢ 10) s
none_in s h = subst (All (λ x. x ≢ 10)) (take_all (up_to 10 s) s (ltb-false (up_to 10 s) (length s) h)) (before_all s)

feed_there : (s : List ℕ) → has 10 s ≡ true → take (up_to 10 s + 1) s ≡ before_first 10 s ++ 10 ∷ []
feed_there [] h = cc
feed_there (x ∷ s) h = at (x == 10) refl h (feed_there s)
  where
    at : (t : Bool) → (x == 10) ≡ t → nat_lt (cond t 0 (suc (up_to 10 s))) (suc (length s)) ≡ true
        → (has 10 s ≡ true → take (up_to 10 s + 1) s ≡ before_first 10 s ++ 10 ∷ [])
        → take (cond t 0 (suc (up_to 10 s)) + 1) (x ∷ s) ≡ take (cond t 0 (suc (up_to 10 s))) (x ∷ s) ++ 10 ∷ []
    at true e h r = ap (λ (y : ℕ). y ∷ []) (eqb-true x 10 e)
    at false e h r =
        let more : suc (up_to 10 s) + 1 ≡ suc (up_to 10 s + 1) = omega arith in
        ap (λ (n : ℕ). take n (x ∷ s)) more ∙ ap (λ (l : List ℕ). x ∷ l) (r (sym (leb-suc-suc _ _) ∙ h))

-- what a cut takes of the chunk: more of the line, and its line feed where the line has ended
abbrev pub Takes : Known → Known → List ℕ → Cut → Type 0
Takes known after chunk cut = (given : List ℕ) × All (λ x. x ≢ 10) given × (after ≡ with_bytes known given)
    × (cut.used ≤ length chunk) × (take cut.used chunk ≡ cond cut.ended (given ++ 10 ∷ []) given)

pub cut_takes : (known after : Known) (chunk : List ℕ) (cut : Cut) → (cut, after) ≡ cut_from 0 known chunk → Takes known after chunk cut
cut_takes known after chunk cut is = at (has 10 chunk) refl
  where
    Whole : Cut × Known → Type 0
    Whole r = (given : List ℕ) × All (λ x. x ≢ 10) given × (r.1 ≡ with_bytes known given)
        × (r.0.used ≤ length chunk) × (take r.0.used chunk ≡ cond r.0.ended (given ++ 10 ∷ []) given)

    at : (t : Bool) → has 10 chunk ≡ t → Whole (cut, after)
    at true e = subst Whole (sym (is ∙ cut_at_feed 0 known chunk e)) (
      before_first 10 chunk,
      before_all chunk,
      refl,
      omega (arith, ltb-true (up_to 10 chunk) (length chunk) e),
      ap (λ (n : ℕ). take n chunk) {y = up_to 10 chunk + 1} (omega arith) ∙ feed_there chunk e,
    )
    at false e = subst Whole (sym (is ∙ cut_whole 0 known chunk e)) (
      chunk,
      none_in chunk e,
      refl,
      omega arith,
      take_all (0 + length chunk) chunk (omega arith),
    )
