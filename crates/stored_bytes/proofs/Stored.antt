-- The cells that a store leaves. Assumes nothing.
use Rattle.std.proofs.Common.{◌≡◌, ℕ, ◌+◌, ◌-◌, ◌*◌, ◌/◌, ◌%◌, ◌^◌, ◌<◌, ◌≤◌, min, Bool, true, false, cond, ◌&&◌, ltb, leb, List, sym, ap, ◌∙◌, inr, arith}
use Rattle.std.proofs.lemmas.Bool.{le-leb, lt-ltb, lt-leb, le-ltb, and_from, and_left, and_right, cond-true, cond-false}
use Rattle.store.specs.Cells.{Cell, cell}
use Rattle.stored_bytes.specs.Bytes.{number, written, byte, byte_of, among, stored, renewed}
use Rattle.stored_bytes.proofs.Weights.{bits_bytes, number_same}
use Rattle.stored_bytes.proofs.Made.{byte_high, merged_is}
use Rattle.stored_bytes.proofs.Places.{byte_at}
use Rattle.stored_bytes.proofs.Renewed.{renewed_ext, renewed_up, renewed_apart, renewed_touched}

-- granule i once the low n bytes of v stand from a on
abbrev pub fresh : ℕ → List Cell → ℕ → ℕ → ℕ → ℕ → Cell
fresh f cells a n v i = (number (written (byte f cells) a n v) (8 * (f + i)) 8, false)

-- an address in a range, before it and beyond it
pub among_in : (a n x : ℕ) → a ≤ x → x < a + n → among a n x ≡ true
among_in a n x l h = and_from _ _ (le-leb a x l) (lt-ltb x (a + n) h)

pub among_before : (a n x : ℕ) → x < a → among a n x ≡ false
among_before a n x h = and_left _ _ (lt-leb a x h)

pub among_beyond : (a n x : ℕ) → a + n ≤ x → among a n x ≡ false
among_beyond a n x h = and_right _ _ (le-ltb x (a + n) h)

-- the word of granule i, of which the bytes s to e - 1 are new: in the n bytes from a on the byte at y is `there y`
module _ (f : ℕ) (xs : List Cell) (a n i s e old new w : ℕ) (there : ℕ → ℕ)
    (hs : 8 * (f + i) < a + n) (ht : a < 8 * (f + i) + 8) (hz : 0 < n) (es : s ≡ a - 8 * (f + i)) (ee : e ≡ min (a + n - 8 * (f + i)) 8)
    (eo : old ≡ (cell xs i).0) (fits : old < 2 ^ 64) (arrives : (k : ℕ) → s ≤ k → k < e → byte_of new (k - s) ≡ there (8 * (f + i) + k))
    (ew : w ≡ old % 256 ^ s + new % 256 ^ (e - s) * 256 ^ s + old / 256 ^ e * 256 ^ e) where
  stays : (k : ℕ) → k < 8 → among a n (8 * (f + i) + k) ≡ false
      → byte_of old k ≡ cond (among a n (8 * (f + i) + k)) (there (8 * (f + i) + k)) (byte f xs (8 * (f + i) + k))
  stays k h t =
      ap (λ (v : ℕ). byte_of v k) eo
      ∙ sym (byte_at f xs (8 * (f + i) + k) i k (omega arith) (omega arith))
      ∙ sym (cond-false (among a n (8 * (f + i) + k)) (there (8 * (f + i) + k)) (byte f xs (8 * (f + i) + k)) t)

  pub part_is : w ≡ number (λ y. cond (among a n y) (there y) (byte f xs y)) (8 * (f + i)) 8
  part_is = merged_is old new s e (omega arith) (omega arith) fits w (λ y. cond (among a n y) (there y) (byte f xs y)) (8 * (f + i)) ew
      (λ k h. stays k (omega arith) (among_before a n (8 * (f + i) + k) (omega arith)))
      (λ k l h. arrives k l h
      ∙ sym (cond-true (among a n (8 * (f + i) + k)) (there (8 * (f + i) + k)) (byte f xs (8 * (f + i) + k)) (among_in a n (8 * (f + i) + k) (omega arith) (omega arith))))
      (λ k l h. stays k h (among_beyond a n (8 * (f + i) + k) (omega arith)))

-- the same where they are the low bytes of v, all in the granule
pub written_is : (f : ℕ) (xs : List Cell) (a n i s e old v w : ℕ) → a ≡ 8 * (f + i) + s → e ≡ s + n → 0 < n → e ≤ 8 → s < 8 → old ≡ (cell xs i).0 → old < 2 ^ 64
    → w ≡ old % 256 ^ s + v % 256 ^ (e - s) * 256 ^ s + old / 256 ^ e * 256 ^ e → w ≡ (fresh f xs a n v i).0
written_is f xs a n i s e old v w ea ee hz e8 s8 eo fits ew =
    part_is f xs a n i s e old v w (λ y. byte_of v (y - a)) (omega arith) (omega arith) hz (omega arith) (omega arith) eo fits
    (λ k l h. let q : k - s ≡ 8 * (f + i) + k - a = omega arith in ap (byte_of v) q) ew

-- the bytes of v from a on, of which h are in the first granule, are written one granule after the other
module _ (f : ℕ) (xs ys zs : List Cell) (a n h v : ℕ) (hz : 0 < h) (hn : h < n) (n8 : n ≤ 8) (full : a % 8 + h ≡ 8) where
  -- of the first granule the bytes behind do not count
  first_same : (i : ℕ) → f + i ≡ a / 8 → fresh f xs a h v i ≡ fresh f xs a n v i
  first_same i q = ap (λ (w : ℕ). (w, false)) (number_same (written (byte f xs) a h v) (written (byte f xs) a n v) (8 * (f + i)) 8 (λ k l.
      ap (λ (t : Bool). cond t (byte_of v (8 * (f + i) + k - a)) (byte f xs (8 * (f + i) + k)))
      (ap (λ (t : Bool). leb a (8 * (f + i) + k) && t) (lt-ltb (8 * (f + i) + k) (a + h) (omega arith) ∙ sym (lt-ltb (8 * (f + i) + k) (a + n) (omega arith))))))

  next_same : (i : ℕ) → f + i ≡ a / 8 + 1 → cell ys i ≡ cell xs i → fresh f ys (a + h) (n - h) (v / 2 ^ (8 * h)) i ≡ fresh f xs a n v i
  next_same i q e = ap (λ (w : ℕ). (w, false)) (number_same (written (byte f ys) (a + h) (n - h) (v / 2 ^ (8 * h))) (written (byte f xs) a n v) (8 * (f + i)) 8 (λ k l.
      let y = 8 * (f + i) + k in
      let m : h + (y - (a + h)) ≡ y - a = omega arith in
      let d : y / 8 - f ≡ i = omega arith in
      let r : a + h + (n - h) ≡ a + n = omega arith in
      ap (λ (t : Bool). cond t (byte_of (v / 2 ^ (8 * h)) (y - (a + h))) (byte f ys y))
      (ap (λ (t : Bool). t && ltb y (a + h + (n - h))) (le-leb (a + h) y (omega arith) ∙ sym (le-leb a y (omega arith)))
      ∙ ap (λ (z : ℕ). leb a y && ltb y z) r)
      ∙ ap (λ (b : ℕ). cond (among a n y) b (byte f ys y))
      (ap (λ (z : ℕ). byte_of (v / z) (y - (a + h))) (bits_bytes h) ∙ byte_high v h (y - (a + h)) ∙ ap (byte_of v) m)
      ∙ ap (λ (b : ℕ). cond (among a n y) (byte_of v (y - a)) b)
      (ap (λ (c : Cell). byte_of c.0 (y % 8)) (ap (cell ys) d ∙ e ∙ ap (cell xs) (sym d)))))

  pub stored_parts : ys ≡ stored f xs a h v → zs ≡ stored f ys (a + h) (n - h) (v / 2 ^ (8 * h)) → zs ≡ stored f xs a n v
  stored_parts p q =
      let low = a / 8 - f in
      let mid = a / 8 + 1 - f in
      let high = (a + n + 7) / 8 - f in
      let new = fresh f xs a n v in
      let next = fresh f ys (a + h) (n - h) (v / 2 ^ (8 * h)) in
      let one : ys ≡ renewed new xs low mid =
      p ∙ sym (renewed_touched (fresh f xs a h v) f xs a h low mid hz (omega arith) (omega arith))
      ∙ renewed_ext new (fresh f xs a h v) xs low mid (λ k lo hi. first_same k (omega arith)) in
      let two : zs ≡ renewed next ys mid high = q ∙ sym (renewed_touched next f ys (a + h) (n - h) mid high (omega arith) (omega arith) (omega arith)) in
      renewed_up new next xs ys zs low mid high (omega arith) (omega arith) one two
      (λ k lo hi. next_same k (omega arith) (ap (λ (c : List Cell). cell c k) one ∙ renewed_apart new xs low mid k (inr lo)))
      ∙ renewed_touched new f xs a n low high (omega arith) (omega arith) (omega arith)
