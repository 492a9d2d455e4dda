-- Where a line ends among the bytes that a reader has left.
use Rattle.std.proofs.Common.{◌≡◌, ◌≢◌, ℕ, ◌+◌, ◌-◌, Bool, true, false, cond, List, [], ◌∷◌, ◌++◌, All, length, take, get_or, nat_lt, ◌==◌, Some, None, IfSome, refl, sym, ap, ◌∙◌, arith, append_assoc, append-nil, length-append, lt-ltb, ne_eqb, take_at, subst}
use Rattle.std.specs.Prelude.{Option}
use Rattle.std.proofs.Math.Seq.{get_or-append_seam}
use Rattle.std.proofs.lemmas.List.Elements.{All-get_or, All-append}
use Rattle.std.proofs.BufReadLemmas.{take_through-append, drop_through-append}
use Rattle.std.proofs.KnownBytes.{Consumes-trans, Consumes-kept}
use Rattle.std.specs.Io.KnownBytes.{Consumes, Keeps, IsAtEnd}
use Rattle.std.specs.Io.BufRead.{strip_last, DropsThrough}
use Rattle.script.specs.declared.line.Cut.{Cut}
use Rattle.script.specs.Lines.{Known, nothing_known, with_bytes, has_line, line_of}
use Rattle.script.proofs.Cutting.{Takes, with_both, begun_is}

-- the line feed at the end goes
feed_goes : (s : List ℕ) → strip_last 10 (s ++ 10 ∷ []) ≡ s
feed_goes s =
    let long : length (s ++ 10 ∷ []) - 1 ≡ length s = omega (arith, length-append s (10 ∷ [])) in
    let some : nat_lt 0 (length (s ++ 10 ∷ [])) ≡ true = lt-ltb 0 (length (s ++ 10 ∷ [])) (omega (arith, length-append s (10 ∷ []))) in
    rw (long, some, get_or-append_seam s 10 [] 0) (take_at s (10 ∷ []) (length s) refl)

-- a line without one stays
none_goes : (s : List ℕ) → All (λ x. x ≢ 10) s → strip_last 10 s ≡ s
none_goes [] h = refl
none_goes (x ∷ s) h =
    let last : (get_or (x ∷ s) (length (x ∷ s) - 1) 0 == 10) ≡ false = ne_eqb _ 10 (All-get_or (λ y. y ≢ 10) (x ∷ s) (length (x ∷ s) - 1) 0 (omega arith) h) in
    let some : nat_lt 0 (length (x ∷ s)) ≡ true = lt-ltb 0 (length (x ∷ s)) (omega arith) in
    rw (last, some) refl

-- a reader that gave s and a line feed has lost the line s
pub line_with_feed : (a b : Option (List ℕ)) (s : List ℕ) → Consumes a b (s ++ 10 ∷ []) → All (λ x. x ≢ 10) s
    → IfSome a (λ xs. (true ≡ has_line xs) × (s ≡ line_of xs)) × DropsThrough a b 10
line_with_feed None b s p all = (tt, tt)
line_with_feed (Some xs) None s p all = absurd p
line_with_feed (Some xs) (Some ys) s p all =
    let whole : xs ≡ s ++ 10 ∷ ys = p ∙ append_assoc s (10 ∷ []) ys in (
      (
        sym (lt-ltb 0 (length xs) (omega (arith, ap length whole, length-append s (10 ∷ ys)))),
        rw (whole, take_through-append 10 s (10 ∷ ys) all) (sym (feed_goes s)),
      ),
      rw (whole, drop_through-append 10 s (10 ∷ ys) all) refl,
    )

-- a reader that gave s and is at its end has lost the line s, which there is where s has bytes
pub line_at_end : (a b : Option (List ℕ)) (s : List ℕ) → Consumes a b s → All (λ x. x ≢ 10) s → IfSome a (λ _. IsAtEnd b)
    → IfSome a (λ xs. (nat_lt 0 (length s) ≡ has_line xs) × (s ≡ line_of xs)) × DropsThrough a b 10
line_at_end None b s p all end = (tt, tt)
line_at_end (Some xs) None s p all end = absurd p
line_at_end (Some xs) (Some ys) s p all end =
    let whole : xs ≡ s ++ [] = p ∙ ap (λ l. s ++ l) end in
    let same : xs ≡ s = whole ∙ append-nil s in (
      (
        rw same refl,
        rw (whole, take_through-append 10 s [] all, append-nil s) (sym (none_goes s all)),
      ),
      rw (whole, drop_through-append 10 s [] all, end) refl,
    )

weaken : (a : Option (List ℕ)) (P Q : List ℕ → Type 0) → ((xs : List ℕ) → P xs → Q xs) → IfSome a P → IfSome a Q
weaken None P Q f p = tt
weaken (Some xs) P Q f p = f xs p

-- a reader that shows nothing is at its end
at_rest : (a b c : Option (List ℕ)) (done : List ℕ) → Consumes a b done → Keeps b c → IfSome b (λ xs. xs ≡ []) → IfSome a (λ _. IsAtEnd c)
at_rest None b c done p q h = tt
at_rest (Some x) None c done p q h = absurd p
at_rest (Some x) (Some y) None done p q h = absurd q
at_rest (Some x) (Some y) (Some z) done p q h = q ∙ h

-- what has come of the line, with more of it
more_known : (before after : Known) (done given : List ℕ) → before ≡ with_bytes nothing_known done → after ≡ with_bytes before given → after ≡ with_bytes nothing_known (done ++ given)
more_known before after done given e f = f ∙ ap (λ (k : Known). with_bytes k given) e ∙ sym (with_both nothing_known done given)

-- the loop goes on
pub step_more : (a b c : Option (List ℕ)) (before after : Known) (chunk done : List ℕ) (cut : Cut) → Consumes a b done → All (λ x. x ≢ 10) done
    → before ≡ with_bytes nothing_known done → Takes before after chunk cut → cut.ended ≡ false → Consumes b c (take cut.used chunk)
    → (given : List ℕ) × Consumes a c given × All (λ x. x ≢ 10) given × (after ≡ with_bytes nothing_known given)
step_more a b c before after chunk done cut p all e t ended q =
    let (given, none, f, within, part) = t in
    let taken : take cut.used chunk ≡ given = part ∙ ap (λ (b : Bool). cond b (given ++ 10 ∷ []) given) ended in (
      done ++ given,
      Consumes-trans a b c done given p (subst (Consumes b c) taken q),
      All-append (λ x. x ≢ 10) done given all none,
      more_known before after done given e f,
    )

-- the loop ends at a line feed
pub step_feed : (a b c : Option (List ℕ)) (before after : Known) (chunk done : List ℕ) (cut : Cut) → Consumes a b done → All (λ x. x ≢ 10) done
    → before ≡ with_bytes nothing_known done → Takes before after chunk cut → cut.ended ≡ true → Consumes b c (take cut.used chunk)
    → IfSome a (λ xs. (true ≡ has_line xs) × (after ≡ with_bytes nothing_known (line_of xs))) × DropsThrough a c 10
step_feed a b c before after chunk done cut p all e t ended q =
    let (given, none, f, within, part) = t in
    let taken : take cut.used chunk ≡ given ++ 10 ∷ [] = part ∙ ap (λ (b : Bool). cond b (given ++ 10 ∷ []) given) ended in
    let both : Consumes a c (done ++ (given ++ 10 ∷ [])) = Consumes-trans a b c done (given ++ 10 ∷ []) p (subst (Consumes b c) taken q) in
    let line = line_with_feed a c (done ++ given) (subst (Consumes a c) (sym (append_assoc done given (10 ∷ []))) both) (All-append (λ x. x ≢ 10) done given all none) in (
      weaken a (λ xs. (true ≡ has_line xs) × (done ++ given ≡ line_of xs)) (λ xs. (true ≡ has_line xs) × (after ≡ with_bytes nothing_known (line_of xs)))
          (λ xs k. (k.0, more_known before after done given e f ∙ ap (with_bytes nothing_known) k.1)) line.0,
      line.1,
    )

-- the loop ends at the end of the input
pub step_end : (a b c : Option (List ℕ)) (known : Known) (shown done : List ℕ) (begun : Bool) → Consumes a b done → All (λ x. x ≢ 10) done
    → known ≡ with_bytes nothing_known done → begun ≡ nat_lt 0 (length known.0) → Keeps b c → IfSome b (λ xs. length shown ≡ 0 → xs ≡ []) → length shown ≡ 0
    → IfSome a (λ xs. (begun ≡ has_line xs) × (known ≡ with_bytes nothing_known (line_of xs))) × DropsThrough a c 10
step_end a b c known shown done begun p all e begins kept end none =
    let rest = at_rest a b c done p kept (weaken b (λ xs. length shown ≡ 0 → xs ≡ []) (λ xs. xs ≡ []) (λ xs k. k none) end) in
    let line = line_at_end a c done (Consumes-kept a b c done p kept) all rest in
    let some : begun ≡ nat_lt 0 (length done) = begins ∙ ap (λ (k : Known). nat_lt 0 (length k.0)) e ∙ begun_is done in (
      weaken a (λ xs. (nat_lt 0 (length done) ≡ has_line xs) × (done ≡ line_of xs)) (λ xs. (begun ≡ has_line xs) × (known ≡ with_bytes nothing_known (line_of xs)))
          (λ xs k. (some ∙ k.0, e ∙ ap (with_bytes nothing_known) k.1)) line.0,
      line.1,
    )
