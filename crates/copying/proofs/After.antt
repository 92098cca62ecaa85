-- What a granule is after the copy. Assumes nothing.
use Rattle.std.proofs.Common.{◌≡◌, ℕ, ◌+◌, ◌-◌, ◌*◌, ◌/◌, ◌%◌, ◌^◌, ◌<◌, ◌≤◌, min, Bool, true, false, cond, ◌&&◌, eqb, leb, List, sym, refl, ap, ◌∙◌, arith}
use Rattle.std.proofs.lemmas.Bool.{le-leb, and_parts, cond-true, cond-false, eqb-true, leb-true, eq-eqb}
use Rattle.store.specs.Cells.{Cell, cell}
use Rattle.stored_bytes.specs.Bytes.{number, byte, byte_of, among}
use Rattle.stored_bytes.proofs.Weights.{number_same}
use Rattle.stored_bytes.proofs.Made.{byte_number}
use Rattle.stored_bytes.proofs.Places.{byte_below, word_is}
use Rattle.stored_bytes.proofs.Stored.{among_in, among_before, among_beyond, part_is}
use Rattle.copying.specs.Copy.{byte_after, carried, source, arriving}

-- a tagged granule v arrives as it is where it goes, and else its word
chosen : (v : Cell) (goes : Bool) (w : ℕ) → (goes ≡ true → v.1 ≡ true) → v.0 ≡ w → (v.0, goes) ≡ cond goes v (w, false)
chosen v true w t e = ap (λ (b : Bool). (v.0, b)) (sym (t refl))
chosen v false w t e = ap (λ (k : ℕ). (k, false)) e

-- the bytes
module _ (f : ℕ) (xs : List Cell) (a b n : ℕ) where
  pub in_range : (x : ℕ) → a ≤ x → x < a + n → byte_after f xs a b n x ≡ byte f xs (x - a + b)
  in_range x l h = cond-true (among a n x) (byte f xs (x - a + b)) (byte f xs x) (among_in a n x l h)

  pub before : (x : ℕ) → x < a → byte_after f xs a b n x ≡ byte f xs x
  before x h = cond-false (among a n x) (byte f xs (x - a + b)) (byte f xs x) (among_before a n x h)

  pub beyond : (x : ℕ) → a + n ≤ x → byte_after f xs a b n x ≡ byte f xs x
  beyond x h = cond-false (among a n x) (byte f xs (x - a + b)) (byte f xs x) (among_beyond a n x h)

  -- a granule that lies whole in the range
  pub whole_is : (i w x : ℕ) → a ≤ 8 * (f + i) → 8 * (f + i) + 8 ≤ a + n → x ≡ 8 * (f + i) - a + b → w ≡ number (byte f xs) x 8
      → w ≡ number (byte_after f xs a b n) (8 * (f + i)) 8
  whole_is i w x l h q e = e ∙ shifted x (byte f xs) (byte_after f xs a b n) (8 * (f + i)) (λ k m.
      let p : x + k ≡ 8 * (f + i) + k - a + b = omega arith in
      ap (byte f xs) p ∙ sym (in_range (8 * (f + i) + k) (omega arith) (omega arith)))
    where
      shifted : (x : ℕ) (at new : ℕ → ℕ) (y : ℕ) → ((k : ℕ) → k < 8 → at (x + k) ≡ new (y + k)) → number at x 8 ≡ number new y 8
      shifted x at new y s = number_same (λ k. at (x + k)) (λ k. new (y + k)) 0 8 (λ k m. s (0 + k) (omega arith))

  -- a granule of which some bytes stay
  pub mixed_is : (i old new s e w : ℕ) → 8 * (f + i) < a + n → a < 8 * (f + i) + 8 → 0 < n → s ≡ a - 8 * (f + i) → e ≡ min (a + n - 8 * (f + i)) 8
      → old ≡ (cell xs i).0 → old < 2 ^ 64 → (x : ℕ) → x ≡ 8 * (f + i) + s - a + b → new ≡ number (byte f xs) x 8
      → w ≡ old % 256 ^ s + new % 256 ^ (e - s) * 256 ^ s + old / 256 ^ e * 256 ^ e → w ≡ number (byte_after f xs a b n) (8 * (f + i)) 8
  mixed_is i old new s e w hs ht hz es ee eo fits x ex en =
      part_is f xs a n i s e old new w (λ y. byte f xs (y - a + b)) hs ht hz es ee eo fits (λ k l h.
      let d : k - s < 8 = omega arith in
      let p : x + (k - s) ≡ 8 * (f + i) + k - a + b = omega arith in
      ap (λ (v : ℕ). byte_of v (k - s)) en ∙ byte_number (byte f xs) x 8 (byte_below f xs) (k - s) d ∙ ap (byte f xs) p)

-- what is carried
module _ (passes : ℕ → Bool) (f : ℕ) (xs : List Cell) (a b n : ℕ) where
  pub parts : (j : ℕ) → carried passes f xs a b n j ≡ true → (a % 8 ≡ b % 8) × (b ≤ 8 * (f + j)) × (8 * (f + j) + 8 ≤ b + n)
  parts j t =
      let p = and_parts (eqb (a % 8) (b % 8)) _ t in
      let q = and_parts (leb b (8 * (f + j))) _ p.1 in
      let r = and_parts (leb (8 * (f + j) + 8) (b + n)) _ q.1 in
      (eqb-true _ _ p.0, leb-true _ _ q.0, leb-true _ _ r.0)

  -- one that lies whole in the range, at the same remainder: if its tag and word allow it
  pub whole_carried : (j : ℕ) → a % 8 ≡ b % 8 → b ≤ 8 * (f + j) → 8 * (f + j) + 8 ≤ b + n → carried passes f xs a b n j ≡ ((cell xs j).1 && passes (cell xs j).0)
  whole_carried j m l h =
      ap (λ (v : Bool). v && (leb b (8 * (f + j)) && (leb (8 * (f + j) + 8) (b + n) && ((cell xs j).1 && passes (cell xs j).0)))) (eq-eqb _ _ m)
      ∙ ap (λ (v : Bool). v && (leb (8 * (f + j) + 8) (b + n) && ((cell xs j).1 && passes (cell xs j).0))) (le-leb _ _ l)
      ∙ ap (λ (v : Bool). v && ((cell xs j).1 && passes (cell xs j).0)) (le-leb _ _ h)

  -- nothing is carried to granule i: the bytes arrive
  pub plain : (i w : ℕ) → carried passes f xs a b n (source a b i) ≡ false → w ≡ number (byte_after f xs a b n) (8 * (f + i)) 8
      → (w, false) ≡ arriving passes f xs a b n i
  plain i w t e =
      ap (λ (v : ℕ). (v, false)) e
      ∙ sym (cond-false (carried passes f xs a b n (source a b i)) (cell xs (source a b i)) (number (byte_after f xs a b n) (8 * (f + i)) 8, false) t)

  -- granule i lies whole in the range, and granule j of the source stands there
  module _ (i j : ℕ) (l : a ≤ 8 * (f + i)) (h : 8 * (f + i) + 8 ≤ a + n) (at : 8 * (f + j) ≡ 8 * (f + i) - a + b) where
    pub carried_is : carried passes f xs a b n (source a b i) ≡ ((cell xs j).1 && passes (cell xs j).0)
    carried_is =
        let s : source a b i ≡ j = omega arith in
        whole_carried (source a b i) (omega arith) (omega arith) (omega arith) ∙ ap (λ (k : ℕ). (cell xs k).1 && passes (cell xs k).0) s

    pub whole_arrives : (v : Cell) (goes : Bool) → v ≡ cell xs j → v.0 < 2 ^ 64 → goes ≡ (v.1 && passes v.0) → (v.0, goes) ≡ arriving passes f xs a b n i
    whole_arrives v goes is fits e =
        let s : j ≡ source a b i = omega arith in
        let word = word_is f xs (8 * (f + j)) j v.0 refl (ap (λ (d : Cell). d.0) is) fits in
        let moved = whole_is f xs a b n i v.0 (8 * (f + j)) l h at word in
        let all = e ∙ ap (λ (d : Cell). d.1 && passes d.0) is ∙ sym carried_is in
        chosen v goes _ (λ t. (and_parts v.1 _ (sym e ∙ t)).0) moved
        ∙ ap (λ (d : Cell). cond goes d (number (byte_after f xs a b n) (8 * (f + i)) 8, false)) (is ∙ ap (cell xs) s)
        ∙ ap (λ (t : Bool). cond t (cell xs (source a b i)) (number (byte_after f xs a b n) (8 * (f + i)) 8, false)) all
