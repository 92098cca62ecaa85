-- Granules copied one after the other. Assumes nothing.
use Rattle.std.proofs.Common.{◌≡◌, ℕ, ◌+◌, ◌-◌, ◌*◌, ◌/◌, ◌%◌, ◌<◌, ◌≤◌, Bool, true, false, cond, ◌&&◌, eqb, leb, ◌⊎◌, List, set, sym, refl, ap, ◌∙◌, inl, inr, ⊎_elim, arith}
use Rattle.std.proofs.lemmas.Bool.{cases_lt}
use Rattle.store.specs.Cells.{Cell, cell}
use Rattle.stored_bytes.specs.Bytes.{number, byte, byte_of, renewed}
use Rattle.stored_bytes.proofs.Weights.{number_same}
use Rattle.stored_bytes.proofs.Renewed.{renewed_none, renewed_bounds, renewed_apart, renewed_one, renewed_up, renewed_down}
use Rattle.copying.specs.Copy.{byte_after, carried, source, arriving}
use Rattle.copying.proofs.After.{in_range, before, beyond}

-- what arrives at a granule is of its own cell and of those that it is read from
module _ (passes : ℕ → Bool) (f : ℕ) (xs ys : List Cell) (a b n : ℕ) where
  byte_same : (x : ℕ) → cell ys (x / 8 - f) ≡ cell xs (x / 8 - f) → byte f ys x ≡ byte f xs x
  byte_same x e = ap (λ (c : Cell). byte_of c.0 (x % 8)) e

  byte_after_same : (x : ℕ) → cell ys (x / 8 - f) ≡ cell xs (x / 8 - f) → (a ≤ x → cell ys ((x - a + b) / 8 - f) ≡ cell xs ((x - a + b) / 8 - f))
      → byte_after f ys a b n x ≡ byte_after f xs a b n x
  byte_after_same x own src = ⊎_elim
      (λ (h : x < a). before f ys a b n x h ∙ byte_same x own ∙ sym (before f xs a b n x h))
      (λ (l : a ≤ x). ⊎_elim
      (λ (h : x < a + n). in_range f ys a b n x l h ∙ byte_same (x - a + b) (src l) ∙ sym (in_range f xs a b n x l h))
      (λ (h : a + n ≤ x). beyond f ys a b n x h ∙ byte_same x own ∙ sym (beyond f xs a b n x h))
      (cases_lt x (a + n)))
      (cases_lt x a)

  -- of a list that agrees at every place that the granule is of
  module _ (i : ℕ) (own : cell ys i ≡ cell xs i) (there : cell ys (source a b i) ≡ cell xs (source a b i))
      (src : (y : ℕ) → 8 * (f + i) ≤ y → y < 8 * (f + i) + 8 → a ≤ y → cell ys ((y - a + b) / 8 - f) ≡ cell xs ((y - a + b) / 8 - f)) where
    carried_same : carried passes f ys a b n (source a b i) ≡ carried passes f xs a b n (source a b i)
    carried_same =
        ap (λ (c : Cell). eqb (a % 8) (b % 8) && (leb b (8 * (f + source a b i)) && (leb (8 * (f + source a b i) + 8) (b + n) && (c.1 && passes c.0)))) there

    arriving_same : arriving passes f ys a b n i ≡ arriving passes f xs a b n i
    arriving_same =
        let w : number (byte_after f ys a b n) (8 * (f + i)) 8 ≡ number (byte_after f xs a b n) (8 * (f + i)) 8 =
        number_same (byte_after f ys a b n) (byte_after f xs a b n) (8 * (f + i)) 8 (λ k h.
        let d : (8 * (f + i) + k) / 8 - f ≡ i = omega arith in
        byte_after_same (8 * (f + i) + k) (ap (cell ys) d ∙ own ∙ sym (ap (cell xs) d)) (src (8 * (f + i) + k) (omega arith) (omega arith))) in
        ap (λ (t : Bool). cond t (cell ys (source a b i)) (number (byte_after f ys a b n) (8 * (f + i)) 8, false)) carried_same
        ∙ ap (λ (c : Cell). cond (carried passes f xs a b n (source a b i)) c (number (byte_after f ys a b n) (8 * (f + i)) 8, false)) there
        ∙ ap (λ (v : ℕ). cond (carried passes f xs a b n (source a b i)) (cell xs (source a b i)) (v, false)) w

-- a turn: granule i of the cells ys, of which those from low to high - 1 were copied, becomes what arrives by ys
module _ (passes : ℕ → Bool) (f g : ℕ) (xs ys zs : List Cell) (to from n low high i : ℕ) (c : Bool) (same : g ≡ f)
    (made : ys ≡ renewed (arriving passes f xs (8 * f + to) (8 * f + from) n) xs low high)
    (after : zs ≡ set ys i (arriving passes g ys (8 * g + to) (8 * g + from) n i))
    (came : c ≡ carried passes g ys (8 * g + to) (8 * g + from) n (source (8 * g + to) (8 * g + from) i)) where
  abbrev a : ℕ
  a = 8 * f + to

  abbrev b : ℕ
  b = 8 * f + from

  kept : (k : ℕ) → (k < low) ⊎ (high ≤ k) → cell ys k ≡ cell xs k
  kept k o = ap (λ (l : List Cell). cell l k) made ∙ renewed_apart (arriving passes f xs a b n) xs low high k o

  -- by what the cells were, if none that granule i is of was copied before
  module _ (o : (i < low) ⊎ (high ≤ i)) (there : (source a b i < low) ⊎ (high ≤ source a b i))
      (src : (y : ℕ) → 8 * (f + i) ≤ y → y < 8 * (f + i) + 8 → a ≤ y → ((y - a + b) / 8 - f < low) ⊎ (high ≤ (y - a + b) / 8 - f)) where
    cells : zs ≡ renewed (arriving passes f xs a b n) ys i (i + 1)
    cells =
        after
        ∙ ap (λ (h : ℕ). set ys i (arriving passes h ys (8 * h + to) (8 * h + from) n i)) same
        ∙ renewed_one (arriving passes f xs a b n) ys i _ (arriving_same passes f xs ys a b n i (kept i o) (kept _ there) (λ y p q s. kept _ (src y p q s)))

    carries : c ≡ carried passes f xs a b n (source a b i)
    carries =
        came
        ∙ ap (λ (h : ℕ). carried passes h ys (8 * h + to) (8 * h + from) n (source (8 * h + to) (8 * h + from) i)) same
        ∙ carried_same passes f xs ys a b n i (kept i o) (kept _ there) (λ y p q s. kept _ (src y p q s))

  -- upward, to no higher address
  module _ (down : to ≤ from) (here : high ≡ i) (lo : low ≤ i) where
    up_cells : zs ≡ renewed (arriving passes f xs a b n) xs low (i + 1)
    up_cells =
        let new = arriving passes f xs a b n in
        renewed_up new new xs ys zs low high (i + 1) (omega arith) (omega arith) made
        (cells (inr (omega arith)) (inr (omega arith)) (λ y p q s. inr (omega arith)) ∙ renewed_bounds new ys i (i + 1) high (i + 1) (sym here) refl)
        (λ k l h. refl)

    up_carries : c ≡ carried passes f xs a b n (source a b i)
    up_carries = carries (inr (omega arith)) (inr (omega arith)) (λ y p q s. inr (omega arith))

  -- downward, to a higher address
  module _ (up : from < to) (here : low ≡ i + 1) (hi : low ≤ high) where
    down_cells : zs ≡ renewed (arriving passes f xs a b n) xs i high
    down_cells =
        let new = arriving passes f xs a b n in
        renewed_down new new xs ys zs i low high (omega arith) hi made
        (cells (inl (omega arith)) (inl (omega arith)) (λ y p q s. inl (omega arith)) ∙ renewed_bounds new ys i (i + 1) i low refl (sym here))
        (λ k l h. refl)

    down_carries : c ≡ carried passes f xs a b n (source a b i)
    down_carries = carries (inl (omega arith)) (inl (omega arith)) (λ y p q s. inl (omega arith))

-- the granules that were copied before turn k of those from low to high - 1: from the lowest up, or from the highest down
abbrev pub first_copied : Bool → ℕ → ℕ → ℕ → ℕ
first_copied up low high k = cond up low (low + (high - k))

abbrev pub last_copied : Bool → ℕ → ℕ → ℕ → ℕ
last_copied up low high k = cond up k high

-- turn k, at granule i
module _ (passes : ℕ → Bool) (f g : ℕ) (xs ys zs : List Cell) (to from n low high k i : ℕ) (c : Bool) (same : g ≡ f) (past : low ≤ k) (more : k < high)
    (after : zs ≡ set ys i (arriving passes g ys (8 * g + to) (8 * g + from) n i))
    (came : c ≡ carried passes g ys (8 * g + to) (8 * g + from) n (source (8 * g + to) (8 * g + from) i)) where
  abbrev new : ℕ → Cell
  new = arriving passes f xs (8 * f + to) (8 * f + from) n

  pub turn_cells : (up : Bool) → (up ≡ true → to ≤ from) → (up ≡ false → from < to) → i ≡ cond up k (low + (high - 1 - k))
      → ys ≡ renewed new xs (first_copied up low high k) (last_copied up low high k)
      → zs ≡ renewed new xs (first_copied up low high (k + 1)) (last_copied up low high (k + 1))
  turn_cells true t u e made =
      up_cells passes f g xs ys zs to from n low k i c same made after came (t refl) (sym e) (omega arith)
      ∙ renewed_bounds new xs low (i + 1) low (k + 1) refl (omega arith)
  turn_cells false t u e made =
      down_cells passes f g xs ys zs to from n (low + (high - k)) high i c same made after came (u refl) (omega arith) (omega arith)
      ∙ renewed_bounds new xs i high (low + (high - (k + 1))) high (omega arith) refl

  pub turn_carries : (up : Bool) → (up ≡ true → to ≤ from) → (up ≡ false → from < to) → i ≡ cond up k (low + (high - 1 - k))
      → ys ≡ renewed new xs (first_copied up low high k) (last_copied up low high k)
      → c ≡ carried passes f xs (8 * f + to) (8 * f + from) n (source (8 * f + to) (8 * f + from) i)
  turn_carries true t u e made = up_carries passes f g xs ys zs to from n low k i c same made after came (t refl) (sym e) (omega arith)
  turn_carries false t u e made = down_carries passes f g xs ys zs to from n (low + (high - k)) high i c same made after came (u refl) (omega arith) (omega arith)

-- none is copied before the first turn, and all are after the last
pub none_yet : (up : Bool) (new : ℕ → Cell) (xs : List Cell) (low high : ℕ) → low ≤ high → xs ≡ renewed new xs (first_copied up low high low) (last_copied up low high low)
none_yet true new xs low high l = renewed_none new xs low
none_yet false new xs low high l = renewed_none new xs high ∙ renewed_bounds new xs high high (low + (high - low)) high (omega arith) refl

pub all_done : (up : Bool) (new : ℕ → Cell) (xs : List Cell) (low high k : ℕ) → k ≡ high → renewed new xs (first_copied up low high k) (last_copied up low high k) ≡ renewed new xs low high
all_done true new xs low high k e = renewed_bounds new xs low k low high refl e
all_done false new xs low high k e = renewed_bounds new xs (low + (high - k)) high low high (omega arith) refl
