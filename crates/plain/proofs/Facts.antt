-- What an accepted call found, and where its new words and tags stand. Assumes nothing.
use Rattle.std.proofs.Common.{◌≡◌, ℕ, zero, suc, ◌+◌, ◌*◌, ◌/◌, ◌%◌, ◌^◌, ◌<◌, ◌≤◌, min, max, Bool, true, false, cond, not, eqb, leb, ◌≢◌, ◌⊎◌, List, [], ◌∷◌, map, length, get_or, set, replicate, Some, None, Ok, Option, Result, unwrap_or, sym, refl, ap, ◌∙◌, subst, inl, inr, ⊎_elim, arith}
use lib.Bits.{bit_and}
use Rattle.std.proofs.lemmas.List.{get_or-set_same, get_or-set_other, set_past, get_or_past, get_or-replicate, length-replicate}
use Rattle.std.proofs.lemmas.Bool.{both_ways, and_parts, or_cases, not-true, leb-true, ltb-true, eqb-true, eq-eqb, cases_eq, cases_lt}
use Rattle.std.proofs.lemmas.Nat.{and_shr, and_mod, and_le_l}
use Rattle.std.specs.Option.{ok_or}
use Rattle.capability.specs.declared.refusal.Refusal.{Refusal}
use Rattle.capability.specs.declared.refusal.Refusal.TheVariants.{Untagged, NotCapability, NoRoom, Misaligned, OutOfBounds}
use Rattle.capability.specs.declared.types.Capability.{Capability}
use Rattle.capability.specs.declared.types.Right.{Right}
use Rattle.capability.specs.declared.types.Right.TheVariants.{LoadData, StoreData, LoadCapabilities, StoreCapabilities, Global, StoreLocal}
use Rattle.capability.specs.Formats.{Meaning, over}
use Rattle.capability.specs.Rights.{weight, includes}
use Rattle.store.specs.Cells.{Cell, cell, listed, length_listed}
use Rattle.store.proofs.Listed.{get_d_listed}
use Rattle.stored_bytes.specs.Bytes.{touched}
use Rattle.plain.specs.declared.types.Slot.{Slot}
use Rattle.plain.specs.declared.types.Sweep.{Sweep}
use Rattle.plain.specs.declared.types.Sweep.TheVariants.{Shut, Open}
use Rattle.plain.specs.Least.{IsLeast}
use Rattle.plain.specs.Blocks.{Entry, apart_all, free_at}
use Rattle.plain.specs.Memory.{Plain, usable, granule_of, slot, test, tagged_in, inside, room, pointed, covered, in_store, word_condemned, spared, cleaned, cursor_of}
use Rattle.plain.specs.Guarantee.{in_use}
use Rattle.plain.proofs.Leasts.{least_is}

pub was_some : {A : Type 0} (o : Option A) (e : Refusal) (a : A) → ok_or o e ≡ Ok a → o ≡ Some a
was_some None e a q = cc
was_some (Some x) e a q = cc

was_tested : {A : Type 0} (b : Bool) (e : Refusal) (r : Result A Refusal) (a : A) → test b e r ≡ Ok a → (b ≡ true) × (r ≡ Ok a)
was_tested true e r a q = (refl, q)
was_tested false e r a q = cc

-- a value that a test chose
pub chosen : {A : Type 0} (b : Bool) (v x y : A) → v ≡ cond b x y → ((b ≡ true) × (v ≡ x)) ⊎ ((b ≡ false) × (v ≡ y))
chosen true v x y e = inl (refl, e)
chosen false v x y e = inr (refl, e)

-- USED CAPABILITIES

module _ (m : Meaning) (s : Plain) where
  pub was_tagged : (a : ℕ) (k : Capability) → tagged_in m s.slots a ≡ Ok k → ((slot s a).tag ≡ true) × (m.capability (slot s a).word ≡ Some k)
  was_tagged a k e =
      let r = was_tested (slot s a).tag Untagged (ok_or (m.capability (slot s a).word) NotCapability) k e in
      (r.0, was_some (m.capability (slot s a).word) NotCapability k r.1)

  pub used : (a : ℕ) (k : Capability) → tagged_in m s.slots a ≡ Ok k → in_use m s a ≡ k
  used a k e = ap (λ (o : Option Capability). unwrap_or o (over 0 0 0)) (was_tagged a k e).1

pub was_inside : (k : Capability) (x n : ℕ) → inside k x n ≡ true → (k.base ≤ x) × (x + n ≤ k.top)
was_inside k x n e = let r = and_parts (leb k.base x) (leb (x + n) k.top) e in (leb-true _ _ r.0, leb-true _ _ r.1)

pub was_pointed : (s : Plain) (k : Capability) (i : ℕ) → pointed s.first k ≡ Ok i → (k.base ≤ k.address) × (k.address + 8 ≤ k.top) × (granule_of s.first k.address ≡ i)
was_pointed s k i e =
    let p = was_tested (eqb (k.address % 8) 0) Misaligned _ i e in
    let q = was_tested (inside k k.address 8) OutOfBounds (Ok (granule_of s.first k.address)) i p.1 in
    let r = was_inside k k.address 8 q.0 in
    let e = q.1 in
    (r.0, r.1, cc)

pub was_covered : (s : Plain) (k : Capability) (n : ℕ) → covered s.first s.cells k n ≡ true → 0 < n → (k.base ≤ k.address) × (k.address + n ≤ k.top)
was_covered s k n e l =
    ⊎_elim (λ q. let z = eqb-true n 0 q in absurd (omega arith))
    (λ q. was_inside k k.address n (and_parts (inside k k.address n) (in_store s.first s.cells k.address n) q).0)
    (or_cases (eqb n 0) _ e)

pub was_touched : (a n g : ℕ) → touched a n g ≡ true → (0 < n) × (8 * g < a + n)
was_touched a n g e = let l = ltb-true (max a (8 * g)) (min (a + n) (8 * g + 8)) e in (omega arith, omega arith)

pub was_open : (w : Sweep) (n : ℕ) → cursor_of w ≡ Ok n → w ≡ Open n
was_open Shut n e = cc
was_open (Open x) n e = cc

-- where a new block stands
pub was_room : (m : Meaning) (f : ℕ) (cells : List Cell) (bs : List Entry) (unit size x : ℕ) → ok_or (room m f cells bs unit size) NoRoom ≡ Ok x
    → (8 * f ≤ x) × (x + size ≤ 8 * (f + usable m f cells)) × (apart_all x (x + size) bs ≡ true)
was_room m f cells bs unit size x e =
    let high : ℕ = 8 * (f + usable m f cells) in
    let fits : ℕ → Bool = free_at bs (8 * f) high unit size in
    let r = (subst (IsLeast (high + 1) fits) (was_some _ NoRoom x e) (least_is (high + 1) fits)).1 in
    let p = and_parts (eqb (x % unit) 0) _ r in
    let q = and_parts (leb (8 * f) x) _ p.1 in
    let t = and_parts (leb (x + size) high) (apart_all x (x + size) bs) q.1 in
    (leb-true _ _ q.0, leb-true _ _ t.0, t.1)

-- RIGHTS

abbrev exponent : Right → ℕ
exponent LoadData = 0
exponent StoreData = 1
exponent LoadCapabilities = 2
exponent StoreCapabilities = 3
exponent Global = 4
exponent StoreLocal = 5

weight_is : (r : Right) → weight r ≡ 2 ^ exponent r
weight_is LoadData = refl
weight_is StoreData = refl
weight_is LoadCapabilities = refl
weight_is StoreCapabilities = refl
weight_is Global = refl
weight_is StoreLocal = refl

bit_of_both : (a b k : ℕ) → bit_and a b / 2 ^ k % 2 ≤ a / 2 ^ k % 2
bit_of_both a b k =
    let e : bit_and a b / 2 ^ k % 2 ≡ bit_and (a / 2 ^ k % 2) (b / 2 ^ k % 2) = ap (λ x. x % 2) (and_shr a b k) ∙ and_mod (a / 2 ^ k) (b / 2 ^ k) 1 in
    let l = and_le_l (a / 2 ^ k % 2) (b / 2 ^ k % 2) in
    omega arith

-- a right of a restricted capability is one that it had
pub had_right : (a mask : ℕ) (r : Right) → includes (bit_and a mask) r ≡ true → includes a r ≡ true
had_right a mask r e =
    let w = weight_is r in
    let one : bit_and a mask / weight r % 2 ≡ 1 = eqb-true (bit_and a mask / weight r % 2) 1 e in
    let l : bit_and a mask / weight r % 2 ≤ a / weight r % 2 = subst (λ x. bit_and a mask / x % 2 ≤ a / x % 2) (sym w) (bit_of_both a mask (exponent r)) in
    eq-eqb (a / weight r % 2) 1 (omega arith)

-- WORDS AND TAGS IN LISTS

module _ {X : Type 0} (d : X) (tag : X → Bool) (bare : tag d ≡ false) where
  -- a tagged element of a list with one element set is the new one, or as it was
  pub set_was : (l : List X) (i j : ℕ) (v : X) → tag (get_or (set l i v) j d) ≡ true
      → ((j ≡ i) × (get_or (set l i v) j d ≡ v)) ⊎ ((j ≢ i) × (get_or (set l i v) j d ≡ get_or l j d))
  set_was l i j v t =
      ⊎_elim
      (λ (e : j ≡ i). ⊎_elim
      (λ lt. inl (e, subst (λ k. get_or (set l i v) k d ≡ v) (sym e) (get_or-set_same l i v d lt)))
      (λ ge. let past : length l ≤ j = omega arith in
      let is : get_or (set l i v) j d ≡ d = ap (λ (x : List X). get_or x j d) (set_past l i v ge) ∙ get_or_past l j d past in
      absurd (both_ways _ bare (sym (ap tag is) ∙ t)))
      (cases_lt i (length l)))
      (λ ne. inr (ne, get_or-set_other l i j v d ne))
      (cases_eq j i)

  pub replicate_bare : (n i : ℕ) → tag (get_or (replicate n d) i d) ≡ true → ⊥
  replicate_bare n i t =
      let past : n ≤ i → get_or (replicate n d) i d ≡ d = λ ge. get_or_past (replicate n d) i d (omega (arith, length-replicate n d)) in
      let is : get_or (replicate n d) i d ≡ d = ⊎_elim (get_or-replicate n i d d) past (cases_lt i n) in
      both_ways _ bare (sym (ap tag is) ∙ t)

pub listed_was : (n : ℕ) (f : ℕ → Cell) (i : ℕ) → (cell (listed n f) i).1 ≡ true → cell (listed n f) i ≡ f i
listed_was n f i t =
    ⊎_elim (get_d_listed n f i (0, false))
    (λ ge. let past : length (listed n f) ≤ i = omega (arith, length_listed n f) in
    absurd (both_ways _ (ap (λ (x : Cell). x.1) (get_or_past (listed n f) i (0, false) past)) t))
    (cases_lt i n)

pub spared_was : (m : Meaning) (bs : List Entry) (w : ℕ) (tag : Bool) → spared m bs w tag ≡ true → (tag ≡ true) × (word_condemned m bs w ≡ false)
spared_was m bs w tag t = let p = and_parts tag (not (word_condemned m bs w)) t in (p.0, not-true _ p.1)

pub cleaned_at : (m : Meaning) (bs : List Entry) (l : List Slot) (j : ℕ)
    → get_or (map (cleaned m bs) l) j (record { word = 0; tag = false }) ≡ cleaned m bs (get_or l j (record { word = 0; tag = false }))
cleaned_at m bs [] zero = refl
cleaned_at m bs [] (suc j) = refl
cleaned_at m bs (x ∷ xs) zero = refl
cleaned_at m bs (x ∷ xs) (suc j) = cleaned_at m bs xs j
