-- Cells that are made new one after the other. Assumes nothing.
use Rattle.std.proofs.Common.{◌≡◌, ℕ, ◌+◌, ◌-◌, ◌*◌, ◌/◌, ◌<◌, ◌≤◌, min, max, Bool, true, false, cond, ◌&&◌, ltb, leb, ◌⊎◌, List, length, set, replicate, sym, refl, ap, ◌∙◌, inl, inr, ⊎_elim, arith}
use lib.ListN.{get_or-replicate, length-replicate}
use Rattle.std.proofs.lemmas.List.{get_or_past, ext_get_or, set-get_or}
use Rattle.std.proofs.lemmas.Bool.{cases_Bool, false_from_ne_true, cases_lt, and_parts, and_from, ltb-true, leb-true, lt-ltb, le-leb, le-ltb, cond-true, cond-false, ltb-false}
use Rattle.store.specs.Cells.{Cell, cell, listed}
use Rattle.store.proofs.Listed.{length_listed, get_d_listed, same_listed, set_listed}
use Rattle.stored_bytes.specs.Bytes.{touched, renewed, overlaid}

-- granules of word 0, untagged
abbrev pub none : ℕ → Cell
none i = (0, false)

pub same_test : (b c : Bool) → (b ≡ true → c ≡ true) → (c ≡ true → b ≡ true) → b ≡ c
same_test true c f g = sym (f refl)
same_test false c f g = sym (false_from_ne_true c (λ e. let z : ◌≡◌ {A = Bool} false true = g e in Rattle.std.proofs.lemmas.Bool.false≢true z))

listed_ext : (n : ℕ) (f g : ℕ → Cell) → ((k : ℕ) → k < n → f k ≡ g k) → listed n f ≡ listed n g
listed_ext n f g h = same_listed n (listed n f) g (length_listed n f) (λ k l. get_d_listed n f k (0, false) l ∙ h k l)

inside : (low j i : ℕ) → (leb low i && ltb i j) ≡ true → (low ≤ i) × (i < j)
inside low j i h = let p = and_parts (leb low i) (ltb i j) h in (leb-true _ _ p.0, ltb-true _ _ p.1)

outside : (low j i : ℕ) → ((low ≤ i) × (i < j) → ⊥) → (leb low i && ltb i j) ≡ false
outside low j i n = false_from_ne_true _ (λ h. n (inside low j i h))

pub length_renewed : (new : ℕ → Cell) (cells : List Cell) (low high : ℕ) → length (renewed new cells low high) ≡ length cells
length_renewed new cells low high = length_listed (length cells) _

pub renewed_bounds : (new : ℕ → Cell) (cells : List Cell) (low high low' high' : ℕ) → low ≡ low' → high ≡ high' → renewed new cells low high ≡ renewed new cells low' high'
renewed_bounds new cells low high low' high' p q = ap (λ (l : ℕ). renewed new cells l high) p ∙ ap (renewed new cells low') q

-- one of the granules that are new, and one that is not
pub renewed_in : (new : ℕ → Cell) (cells : List Cell) (low high k : ℕ) → k < length cells → low ≤ k → k < high → cell (renewed new cells low high) k ≡ new k
renewed_in new cells low high k l lo hi =
    get_d_listed (length cells) _ k (0, false) l ∙ cond-true _ _ _ (and_from _ _ (le-leb low k lo) (lt-ltb k high hi))

pub renewed_apart : (new : ℕ → Cell) (cells : List Cell) (low high k : ℕ) → (k < low) ⊎ (high ≤ k) → cell (renewed new cells low high) k ≡ cell cells k
renewed_apart new cells low high k o = ⊎_elim
    (λ (l : k < length cells). get_d_listed (length cells) _ k (0, false) l
    ∙ cond-false _ _ _ (outside low high k (λ p. let a = p.0 in let b = p.1 in ⊎_elim (λ (h : k < low). omega arith) (λ (h : high ≤ k). omega arith) o)))
    (λ (l : length cells ≤ k).
    let e = length_renewed new cells low high in
    let m : length (renewed new cells low high) ≤ k = omega arith in
    get_or_past (renewed new cells low high) k (0, false) m ∙ sym (get_or_past cells k (0, false) l))
    (cases_lt k (length cells))

-- cells are known by those two
renewed_by : (new : ℕ → Cell) (xs zs : List Cell) (low high : ℕ) → length zs ≡ length xs
    → ((k : ℕ) → k < length xs → low ≤ k → k < high → cell zs k ≡ new k) → ((k : ℕ) → (k < low) ⊎ (high ≤ k) → cell zs k ≡ cell xs k)
    → zs ≡ renewed new xs low high
renewed_by new xs zs low high e f g = ext_get_or (0, false) zs (renewed new xs low high) (e ∙ sym (length_renewed new xs low high)) (λ k l.
    let m : k < length xs = omega arith in
    ⊎_elim
    (λ (h : k < low). g k (inl h) ∙ sym (renewed_apart new xs low high k (inl h)))
    (λ (lo : low ≤ k). ⊎_elim
    (λ (hi : k < high). f k m lo hi ∙ sym (renewed_in new xs low high k m lo hi))
    (λ (h : high ≤ k). g k (inr h) ∙ sym (renewed_apart new xs low high k (inr h)))
    (cases_lt k high))
    (cases_lt k low))

pub renewed_ext : (new new' : ℕ → Cell) (xs : List Cell) (low high : ℕ) → ((k : ℕ) → low ≤ k → k < high → new' k ≡ new k) → renewed new' xs low high ≡ renewed new xs low high
renewed_ext new new' xs low high e =
    renewed_by new xs (renewed new' xs low high) low high (length_renewed new' xs low high)
    (λ k l lo hi. renewed_in new' xs low high k l lo hi ∙ e k lo hi) (renewed_apart new' xs low high)

-- two rows of new granules, one behind the other: the lower one was made first, or the upper one
module _ (new new' : ℕ → Cell) (xs ys zs : List Cell) (low mid high : ℕ) (lm : low ≤ mid) (mh : mid ≤ high) where
  pub renewed_up : ys ≡ renewed new xs low mid → zs ≡ renewed new' ys mid high → ((k : ℕ) → mid ≤ k → k < high → new' k ≡ new k) → zs ≡ renewed new xs low high
  renewed_up p q e =
      let s = ap length p ∙ length_renewed new xs low mid in
      renewed_by new xs zs low high (ap length q ∙ length_renewed new' ys mid high ∙ s)
      (λ k l lo hi.
      let m : k < length ys = omega arith in
      ap (λ (c : List Cell). cell c k) q ∙ ⊎_elim
      (λ (h : k < mid). renewed_apart new' ys mid high k (inl h) ∙ ap (λ (c : List Cell). cell c k) p ∙ renewed_in new xs low mid k l lo h)
      (λ (h : mid ≤ k). renewed_in new' ys mid high k m h hi ∙ e k h hi)
      (cases_lt k mid))
      (λ k o.
      ap (λ (c : List Cell). cell c k) q
      ∙ renewed_apart new' ys mid high k (⊎_elim (λ (h : k < low). inl (omega arith)) (λ (h : high ≤ k). inr h) o)
      ∙ ap (λ (c : List Cell). cell c k) p
      ∙ renewed_apart new xs low mid k (⊎_elim (λ (h : k < low). inl h) (λ (h : high ≤ k). inr (omega arith)) o))

  pub renewed_down : ys ≡ renewed new xs mid high → zs ≡ renewed new' ys low mid → ((k : ℕ) → low ≤ k → k < mid → new' k ≡ new k) → zs ≡ renewed new xs low high
  renewed_down p q e =
      let s = ap length p ∙ length_renewed new xs mid high in
      renewed_by new xs zs low high (ap length q ∙ length_renewed new' ys low mid ∙ s)
      (λ k l lo hi.
      let m : k < length ys = omega arith in
      ap (λ (c : List Cell). cell c k) q ∙ ⊎_elim
      (λ (h : k < mid). renewed_in new' ys low mid k m lo h ∙ e k lo h)
      (λ (h : mid ≤ k). renewed_apart new' ys low mid k (inr h) ∙ ap (λ (c : List Cell). cell c k) p ∙ renewed_in new xs mid high k l h hi)
      (cases_lt k mid))
      (λ k o.
      ap (λ (c : List Cell). cell c k) q
      ∙ renewed_apart new' ys low mid k (⊎_elim (λ (h : k < low). inl h) (λ (h : high ≤ k). inr (omega arith)) o)
      ∙ ap (λ (c : List Cell). cell c k) p
      ∙ renewed_apart new xs mid high k (⊎_elim (λ (h : k < low). inl (omega arith)) (λ (h : high ≤ k). inr h) o))

pub renewed_none : (new : ℕ → Cell) (cells : List Cell) (low : ℕ) → cells ≡ renewed new cells low low
renewed_none new cells low =
    same_listed (length cells) cells _ refl (λ k l. sym (cond-false _ _ _ (outside low low k (λ p. let a = p.0 in let b = p.1 in omega arith))))

-- the one that comes next is as it was
pub renewed_here : (new : ℕ → Cell) (cells : List Cell) (low j : ℕ) → cell (renewed new cells low j) j ≡ cell cells j
renewed_here new cells low j = renewed_apart new cells low j j (inr (omega arith))

pub renewed_more : (new : ℕ → Cell) (cells : List Cell) (low j : ℕ) (w : Cell) → low ≤ j → w ≡ new j
    → set (renewed new cells low j) j w ≡ renewed new cells low (j + 1)
renewed_more new cells low j w lo e =
    sym (set_listed (length cells) (λ i. cond (leb low i && ltb i j) (new i) (cell cells i)) (λ i. cond (leb low i && ltb i (j + 1)) (new i) (cell cells i)) j w
    (cond-true _ _ _ (and_from _ _ (le-leb low j lo) (lt-ltb j (j + 1) (omega arith))) ∙ sym e)
    (λ k l ne. ap (λ (b : Bool). cond b (new k) (cell cells k))
    (same_test _ _
    (λ t. let p = inside low (j + 1) k t in let a = p.0 in let b = p.1 in and_from _ _ (le-leb low k a) (lt-ltb k j (omega arith)))
    (λ t. let p = inside low j k t in let a = p.0 in let b = p.1 in and_from _ _ (le-leb low k a) (lt-ltb k (j + 1) (omega arith))))))

-- one alone
pub renewed_one : (new : ℕ → Cell) (cells : List Cell) (j : ℕ) (w : Cell) → w ≡ new j → set cells j w ≡ renewed new cells j (j + 1)
renewed_one new cells j w e = ap (λ (c : List Cell). set c j w) (renewed_none new cells j) ∙ renewed_more new cells j j w (omega arith) e

touched_index : (f a n i : ℕ) → 0 < n → touched a n (f + i) ≡ (leb (a / 8 - f) i && ltb i ((a + n + 7) / 8 - f))
touched_index f a n i z = same_test _ _
    (λ t. let h = ltb-true (max a (8 * (f + i))) (min (a + n) (8 * (f + i) + 8)) t in
    and_from _ _ (le-leb (a / 8 - f) i (omega arith)) (lt-ltb i ((a + n + 7) / 8 - f) (omega arith)))
    (λ t. let p = inside (a / 8 - f) ((a + n + 7) / 8 - f) i t in let x = p.0 in let y = p.1 in lt-ltb (max a (8 * (f + i))) (min (a + n) (8 * (f + i) + 8)) (omega arith))

-- the granules that n bytes touch are in a row
pub renewed_touched : (new : ℕ → Cell) (f : ℕ) (cells : List Cell) (a n low high : ℕ) → 0 < n → low ≡ a / 8 - f → high ≡ (a + n + 7) / 8 - f
    → renewed new cells low high ≡ overlaid new f cells a n
renewed_touched new f cells a n low high z p q =
    renewed_bounds new cells low high (a / 8 - f) ((a + n + 7) / 8 - f) p q
    ∙ listed_ext (length cells) _ _ (λ k l. ap (λ (b : Bool). cond b (new k) (cell cells k)) (sym (touched_index f a n k z)))

-- no bytes touch no granule
pub overlaid_none : (new : ℕ → Cell) (f : ℕ) (cells : List Cell) (a n : ℕ) → n ≡ 0 → cells ≡ overlaid new f cells a n
overlaid_none new f cells a n z =
    same_listed (length cells) cells _ refl (λ k l. sym (cond-false _ _ _ (le-ltb (max a (8 * (f + k))) (min (a + n) (8 * (f + k) + 8)) (omega arith))))

pub renewed_clear : (cells : List Cell) → renewed none cells 0 (length cells) ≡ replicate (length cells) (0, false)
renewed_clear cells =
    ext_get_or (0, false) _ _ (length_listed (length cells) (λ i. cond (leb 0 i && ltb i (length cells)) (0, false) (cell cells i)) ∙ sym (length-replicate (length cells) (0, false)))
    (λ k l.
    let e = length_listed (length cells) (λ i. cond (leb 0 i && ltb i (length cells)) (0, false) (cell cells i)) in
    let m : k < length cells = omega arith in
    get_d_listed (length cells) _ k (0, false) m ∙ cond-true _ _ _ (and_from _ _ (le-leb 0 k (omega arith)) (lt-ltb _ _ m))
    ∙ sym (get_or-replicate (length cells) k (0, false) (0, false) m))

-- one that is new as it was
pub renewed_same : (new : ℕ → Cell) (cells : List Cell) (low j : ℕ) → low ≤ j → new j ≡ cell cells j → renewed new cells low j ≡ renewed new cells low (j + 1)
renewed_same new cells low j lo e =
    sym (set-get_or (renewed new cells low j) j (0, false))
    ∙ ap (set (renewed new cells low j) j) (renewed_here new cells low j)
    ∙ renewed_more new cells low j (cell cells j) lo (sym e)
