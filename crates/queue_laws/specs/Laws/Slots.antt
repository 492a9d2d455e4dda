-- The bytes of slots, for every width: those just written are read back, and those of another slot stay.
use Rattle.std.specs.Prelude.{◌≡◌, ◌≢◌, List, ℕ, suc, ◌+◌, ◌-◌, ◌*◌, ◌<◌, ◌≤◌, get_or, take, drop}
use Rattle.std.proofs.Common.{sym, ap, ◌∙◌, subst, ⊎_elim, mul-le-mul_right, arith, length-take, length-drop, get_or-take, get_or-drop, ext_get_or, length-take-le, drop_at, take-add}
use Rattle.std.proofs.Math.ListN.{length, get_or-append}
use Rattle.std.proofs.lemmas.List.Edits.{length-paste, take-paste, drop-paste}
use Rattle.std.proofs.Math.Seq.{take-length}
use borrow.Author.Tests.{le-ltb, lt-ltb}
use Rattle.tables.specs.Slots.{filled_of, part_of, copied_of}
use Rattle.queue_laws.specs.Laws.Tree.{lt_cases}

-- a byte outside the part that was written is as it was
module _ (store : List ℕ) (start : ℕ) (bytes : List ℕ) (inside : start + length bytes ≤ length store) where
  byte_before : (i : ℕ) → i < start → get_or (copied_of store start bytes) i 0 ≡ get_or store i 0
  byte_before i h =
      sym (get_or-take (start + length bytes) (copied_of store start bytes) i 0 (omega arith))
      ∙ ap (λ (l : List ℕ). get_or l i 0) (take-paste store start bytes (length bytes) (omega arith) (omega arith))
      ∙ get_or-append (take start store) (take (length bytes) bytes) 0 i (rw (length-take-le start store (omega arith)) h)
      ∙ get_or-take start store i 0 h

  byte_after : (i : ℕ) → start + length bytes ≤ i → get_or (copied_of store start bytes) i 0 ≡ get_or store i 0
  byte_after i h =
      let e : start + length bytes + (i - (start + length bytes)) ≡ i = omega arith in
      subst (λ (k : ℕ). get_or (copied_of store start bytes) k 0 ≡ get_or store k 0) e
      (sym (get_or-drop (start + length bytes) (copied_of store start bytes) (i - (start + length bytes)) 0)
      ∙ ap (λ (l : List ℕ). get_or l (i - (start + length bytes)) 0) (drop-paste store start bytes (length bytes) (omega arith) (omega arith))
      ∙ get_or-drop (start + length bytes) store (i - (start + length bytes)) 0)

  copied_length : length (copied_of store start bytes) ≡ length store
  copied_length = length-paste store start bytes (length bytes) (omega arith) (omega arith)

  copied_there : take (length bytes) (drop start (copied_of store start bytes)) ≡ bytes
  copied_there =
      sym (drop_at (take start (copied_of store start bytes)) (take (length bytes) (drop start (copied_of store start bytes))) start (length-take-le start (copied_of store start bytes) (omega (arith, copied_length))))
      ∙ ap (λ (l : List ℕ). drop start l) (sym (take-add start (length bytes) (copied_of store start bytes)))
      ∙ ap (λ (l : List ℕ). drop start l) (take-paste store start bytes (length bytes) (omega arith) (omega arith))
      ∙ drop_at (take start store) (take (length bytes) bytes) start (length-take-le start store (omega arith))
      ∙ take-length bytes

-- two stores of one length that agree on a part have the same bytes there
part_same : (d e : List ℕ) (a m : ℕ) → length d ≡ length e → ((i : ℕ) → i < m → get_or d (a + i) 0 ≡ get_or e (a + i) 0) → take m (drop a d) ≡ take m (drop a e)
part_same d e a m l h = ext_get_or 0 (take m (drop a d)) (take m (drop a e)) (simp (length-take, length-drop, l)) at
  where
    at : (i : ℕ) → i < length (take m (drop a d)) → get_or (take m (drop a d)) i 0 ≡ get_or (take m (drop a e)) i 0
    at i k =
        let lt : i < m = omega (arith, length-take m (drop a d)) in
        get_or-take m (drop a d) i 0 lt ∙ get_or-drop a d i 0 ∙ h i lt ∙ sym (get_or-drop a e i 0) ∙ sym (get_or-take m (drop a e) i 0 lt)

bytes_same : (width : ℕ) (d e : List ℕ) (slot len : ℕ) → length d ≡ length e → (len ≤ width → take len (drop (slot * width) d) ≡ take len (drop (slot * width) e)) → part_of width d slot len ≡ part_of width e slot len
unfolding part_of
bytes_same width d e slot len l h = ⊎_elim (λ (k : width < len). rw (lt-ltb width len k)) (λ (k : len ≤ width). rw (l, h k)) (lt_cases width len)

-- a slot below the capacity has its bytes inside a store of that many slots
pub slot_inside : (width cap slot size : ℕ) → cap * width ≤ size → slot < cap → slot * width + width ≤ size
slot_inside width cap slot size room low = omega (arith, mul-le-mul_right {m = suc slot} {n = cap} width low)

module _ (width : ℕ) (store : List ℕ) (slot : ℕ) (bytes : List ℕ) (small : length bytes ≤ width) (room : slot * width + width ≤ length store) where
  filled_is : filled_of width store slot bytes ≡ copied_of store (slot * width) bytes
  unfolding filled_of
  filled_is = rw (le-ltb width (length bytes) small, le-ltb (length store) (slot * width + length bytes) (omega arith))

  pub filled_length : length (filled_of width store slot bytes) ≡ length store
  filled_length = rw filled_is (copied_length store (slot * width) bytes (omega arith))

  -- the slot has what was put there
  pub filled_here : part_of width (filled_of width store slot bytes) slot (length bytes) ≡ bytes
  unfolding part_of
  filled_here =
      rw (le-ltb width (length bytes) small, filled_length, le-ltb (length store) (slot * width + length bytes) (omega arith), filled_is)
      (copied_there store (slot * width) bytes (omega arith))

  -- every other slot's bytes stay
  pub filled_there : (other len : ℕ) → other ≢ slot → part_of width (filled_of width store slot bytes) other len ≡ part_of width store other len
  filled_there other len ne = bytes_same width (filled_of width store slot bytes) store other len filled_length (λ (h : len ≤ width).
      part_same (filled_of width store slot bytes) store (other * width) len filled_length (λ (i : ℕ) (k : i < len). rw filled_is (⊎_elim
      (λ (u : other < slot). byte_before store (slot * width) bytes (omega arith) (other * width + i) (omega (arith, mul-le-mul_right {m = suc other} {n = slot} width u)))
      (λ (u : slot ≤ other). byte_after store (slot * width) bytes (omega arith) (other * width + i) (omega (arith, mul-le-mul_right {m = suc slot} {n = other} width (omega arith))))
      (lt_cases other slot))))
