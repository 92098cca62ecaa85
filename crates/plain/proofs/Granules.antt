-- Calls that change granules: where each tagged word comes from. Assumes nothing.
use Rattle.std.proofs.Common.{◌≡◌, ℕ, ◌+◌, ◌-◌, ◌*◌, ◌/◌, ◌%◌, ◌<◌, ◌≤◌, Bool, true, false, cond, not, ◌&&◌, ◌||◌, eqb, ltb, leb, List, length, set, Ok, sym, refl, ap, ◌∙◌, subst, inl, inr, ⊎_elim, arith}
use Rattle.std.proofs.lemmas.List.{length-set}
use Rattle.std.proofs.lemmas.Bool.{both_ways, and_parts, and_from, and_left, and_cases, eq-eqb, ne_eqb, cond-true, cond-false, leb-false, ltb-false, not-true}
use Rattle.capability.specs.declared.types.Capability.{Capability}
use Rattle.capability.specs.declared.types.Right.TheVariants.{LoadCapabilities, StoreCapabilities, StoreLocal}
use Rattle.capability.specs.Formats.{Meaning, Lawful}
use Rattle.capability.specs.Rights.{has}
use Rattle.store.specs.Cells.{Cell, cell, length_listed}
use Rattle.stored_bytes.specs.Bytes.{touched, stored}
use Rattle.copying.specs.Copy.{carried, source, copied}
use Rattle.plain.specs.declared.types.Call.{Call}
use Rattle.plain.specs.declared.types.Call.TheVariants.{Store, Put, Copy, Advance}
use Rattle.plain.specs.declared.types.Sweep.{Sweep}
use Rattle.plain.specs.Memory.{Plain, usable, granule_of, tagged_in, with_cells, word_condemned, is_global, pointed, may_carry, covered, cursor_of, passed}
use Rattle.plain.specs.Guarantee.{Place, in_slot, in_granule, at, Gift, from_place, nothing, in_use, target, gives, after, Accepts}
use Rattle.plain.proofs.Did.{after_advance}
use Rattle.plain.proofs.Facts.{chosen, was_tagged, used, was_pointed, was_covered, was_touched, was_open, set_was, listed_was, spared_was}
use Rattle.plain.proofs.Events.{quiet_code, kept, taken}
use Rattle.plain.proofs.Good.{same_capability, Passed, Clean, less_same, Shaped, Good, Source, Next, stays, quietly}

-- a granule below the end of the usable ones
pointed_below : (f e base address top : ℕ) → 8 * f ≤ base → base ≤ address → address + 8 ≤ top → top ≤ 8 * (f + e) → address / 8 - f < e
pointed_below f e base address top a b c d = omega arith

touched_below : (f e address n top i : ℕ) → 8 * (f + i) < address + n → address + n ≤ top → top ≤ 8 * (f + e) → i < e
touched_below f e address n top i a b c = omega arith

-- a granule that was not passed before the cursor stood here
not_passed : (low high i : ℕ) → (leb low i && ltb i high) ≡ false → i < high → i < low
not_passed low high i e l =
    ⊎_elim (λ q. let k = leb-false low i q in omega arith) (λ q. let k = ltb-false i high q in omega arith) (and_cases (leb low i) (ltb i high) e)

-- a copy of n bytes by the capabilities k and l: whether it carries a granule to granule i, what it gives that, and what it leaves
abbrev sent : Meaning → Plain → ℕ → Capability → Capability → ℕ → Bool
sent m t n k l i = carried (may_carry m t.blocks k l) t.first t.cells k.address l.address n (source k.address l.address i)

abbrev sends : Meaning → Plain → ℕ → Capability → Capability → ℕ → Gift
sends m t n k l i = cond (touched k.address n (t.first + i) && sent m t n k l i) (from_place (in_granule (source k.address l.address i))) nothing

abbrev pub after_copy : Meaning → Plain → ℕ → Capability → Capability → Plain
after_copy m t n k l = with_cells t (copied (may_carry m t.blocks k l) t.first t.cells k.address l.address n)

-- a carried granule is tagged, and its word's block is not condemned
sent_was : (m : Meaning) (t : Plain) (n : ℕ) (k l : Capability) (i : ℕ) → sent m t n k l i ≡ true
    → ((cell t.cells (source k.address l.address i)).1 ≡ true) × (word_condemned m t.blocks (cell t.cells (source k.address l.address i)).0 ≡ false)
sent_was m t n k l i e =
    let from : ℕ = source k.address l.address i in
    let w : ℕ = (cell t.cells from).0 in
    let p = and_parts (eqb (k.address % 8) (l.address % 8)) _ e in
    let q = and_parts (leb l.address (8 * (t.first + from))) _ p.1 in
    let r = and_parts (leb (8 * (t.first + from) + 8) (l.address + n)) _ q.1 in
    let v = and_parts (cell t.cells from).1 (may_carry m t.blocks k l w) r.1 in
    let x = and_parts (has LoadCapabilities l) _ v.1 in
    let y = and_parts (has StoreCapabilities k) _ x.1 in
    let z = and_parts (is_global m w || has StoreLocal k) (not (word_condemned m t.blocks w)) y.1 in
    (v.0, not-true _ z.1)

module _ (m : Meaning) (s : Plain) (h : List Call) (g : Good m s h (after m s h)) where
  shaped_cells : (cells : List Cell) → length cells ≡ length (after m s h).cells → Shaped m s (with_cells (after m s h) cells)
  shaped_cells cells e = record { first = g.shaped.first; granules = e ∙ g.shaped.granules; slots = g.shaped.slots }

  -- a capability in use has only bytes of usable granules
  in_use_usable : (a : ℕ) (k : Capability) → tagged_in m (after m s h).slots a ≡ Ok k
      → (8 * s.first ≤ k.base) × (k.top ≤ 8 * (s.first + usable m s.first s.cells))
  in_use_usable a k e =
      let was = was_tagged m (after m s h) a k e in
      let d = g.places (in_slot a) was.0 in
      let b = g.standing d.owner d.recorded in
      let is = same_capability _ d.capability k d.reads was.1 in
      let base = ap (λ (x : Capability). x.base) is in
      let top = ap (λ (x : Capability). x.top) is in
      (omega (arith, d.low, b.low), omega (arith, d.high, b.high))

  module _ (laws : Lawful m) where
    -- store
    pub next_stores : (a n v x : ℕ) → Accepts m s h (Store a n v) 0 → Next m s h (Store a n v) (with_cells (after m s h) (stored (after m s h).first (after m s h).cells x n v))
    next_stores a n v x acc =
        quietly m s h (Store a n v) laws g _ (quiet_code m s h (Store a n v) refl) refl refl (shaped_cells _ (length_listed _ _)) sources
      where
        sources : (p : Place) → (at (with_cells (after m s h) (stored (after m s h).first (after m s h).cells x n v)) p).1 ≡ true
            → Source m s h (Store a n v) (Clean (after m s h)) (with_cells (after m s h) (stored (after m s h).first (after m s h).cells x n v)) p
        sources (in_slot j) z = stays m s h (Store a n v) _ g (in_slot j) refl (kept m s h (Store a n v) (in_slot j) 0 acc refl) (λ k. k) z
        sources (in_granule i) z =
            ⊎_elim
            (λ r. absurd (both_ways _ (ap (λ (y : Cell). y.1) r.1) z))
            (λ r. stays m s h (Store a n v) _ g (in_granule i) r.1 (kept m s h (Store a n v) (in_granule i) 0 acc refl) (λ k. k) z)
            (chosen (touched x n ((after m s h).first + i)) _ _ _ (listed_was _ _ i z))

    -- put
    pub next_puts : (a b : ℕ) (k : Capability) (x : ℕ) → tagged_in m (after m s h).slots a ≡ Ok k → pointed (after m s h).first k ≡ Ok x → Accepts m s h (Put a b) 0
        → Next m s h (Put a b) (with_cells (after m s h) (set (after m s h).cells x (at (after m s h) (in_slot b))))
    next_puts a b k x e points acc =
        quietly m s h (Put a b) laws g _ (quiet_code m s h (Put a b) refl) refl refl (shaped_cells _ (length-set (after m s h).cells x _)) sources
      where
        was : (k.base ≤ k.address) × (k.address + 8 ≤ k.top) × (granule_of (after m s h).first k.address ≡ x)
        was = was_pointed (after m s h) k x points

        is : target m (after m s h) a ≡ x
        is = ap (λ (y : Capability). granule_of (after m s h).first y.address) (used m (after m s h) a k e) ∙ was.2

        below : x < usable m s.first s.cells
        below =
            let u = in_use_usable a k e in
            subst (λ y. y < usable m s.first s.cells) (ap (λ y. k.address / 8 - y) (sym g.shaped.first) ∙ was.2)
            (pointed_below s.first _ k.base k.address k.top u.0 was.0 was.1 u.1)

        sources : (p : Place) → (at (with_cells (after m s h) (set (after m s h).cells x (at (after m s h) (in_slot b)))) p).1 ≡ true
            → Source m s h (Put a b) (Clean (after m s h)) (with_cells (after m s h) (set (after m s h).cells x (at (after m s h) (in_slot b)))) p
        sources (in_slot j) z = stays m s h (Put a b) _ g (in_slot j) refl (kept m s h (Put a b) (in_slot j) 0 acc refl) (λ y. y) z
        sources (in_granule i) z =
            ⊎_elim
            (λ new. record {
              trace = record { from = in_slot b; tagged = sym (ap (λ (y : Cell). y.1) new.1) ∙ z; less = less_same m _ _ (ap (λ (y : Cell). y.0) new.1) };
              descends = taken m s h (Put a b) (in_granule i) (in_slot b) 0 acc (cond-true _ _ _ (eq-eqb i _ (new.0 ∙ sym is)));
              clean = λ _. inl tt;
              lies = subst (λ y. y < usable m s.first s.cells) (sym new.0) below;
            })
            (λ old. stays m s h (Put a b) _ g (in_granule i) old.1 (kept m s h (Put a b) (in_granule i) 0 acc (cond-false _ _ _ (ne_eqb i _ (λ q. old.0 (q ∙ is))))) (λ y. y) z)
            (set_was (0, false) (λ (y : Cell). y.1) refl (after m s h).cells x i (at (after m s h) (in_slot b)) z)

    -- copy
    module _ (a b n count : ℕ) (k l : Capability) (ea : tagged_in m (after m s h).slots a ≡ Ok k) (eb : tagged_in m (after m s h).slots b ≡ Ok l)
        (covers : (covered (after m s h).first (after m s h).cells k n && covered (after m s h).first (after m s h).cells l n) ≡ true) (acc : Accepts m s h (Copy a b n) count) where
      copy_gives : (i : ℕ) → gives m (after m s h) (Copy a b n) count (in_granule i) ≡ sends m (after m s h) n k l i
      copy_gives i =
          ap (λ (x : Capability). sends m (after m s h) n x (in_use m (after m s h) b) i) (used m (after m s h) a k ea)
          ∙ ap (λ (y : Capability). sends m (after m s h) n k y i) (used m (after m s h) b l eb)

      copy_below : (i : ℕ) → touched k.address n ((after m s h).first + i) ≡ true → i < usable m s.first s.cells
      copy_below i e =
          let t = was_touched k.address n ((after m s h).first + i) e in
          let r = was_covered (after m s h) k n (and_parts (covered (after m s h).first (after m s h).cells k n) (covered (after m s h).first (after m s h).cells l n) covers).0 t.0 in
          let f = g.shaped.first in
          touched_below s.first _ k.address n k.top i (omega (arith, t.1)) r.1 (in_use_usable a k ea).1

      copy_sources : (p : Place) → (at (after_copy m (after m s h) n k l) p).1 ≡ true → Source m s h (Copy a b n) (Clean (after m s h)) (after_copy m (after m s h) n k l) p
      copy_sources (in_slot j) z = stays m s h (Copy a b n) _ g (in_slot j) refl (kept m s h (Copy a b n) (in_slot j) count acc refl) (λ x. x) z
      copy_sources (in_granule i) z =
          ⊎_elim
          (λ r. ⊎_elim
          (λ q. let was = sent_was m (after m s h) n k l i q.0 in record {
            trace = record { from = in_granule (source k.address l.address i); tagged = was.0; less = less_same m _ _ (ap (λ (x : Cell). x.0) q.1) };
            descends = taken m s h (Copy a b n) (in_granule i) _ count acc (copy_gives i ∙ cond-true _ _ _ (and_from _ _ r.0 q.0));
            clean = λ _. inr was.1;
            lies = copy_below i r.0;
          })
          (λ q. absurd (both_ways _ (ap (λ (x : Cell). x.1) q.1) z))
          (chosen (sent m (after m s h) n k l i) _ _ _ r.1))
          (λ r. stays m s h (Copy a b n) _ g (in_granule i) r.1 (kept m s h (Copy a b n) (in_granule i) count acc (copy_gives i ∙ cond-false _ _ _ (and_left _ _ r.0))) (λ x. x) z)
          (chosen (touched k.address n ((after m s h).first + i)) _ _ _ (listed_was _ _ i z))

      pub next_copies : Next m s h (Copy a b n) (after_copy m (after m s h) n k l)
      next_copies = quietly m s h (Copy a b n) laws g _ (quiet_code m s h (Copy a b n) refl) refl refl (shaped_cells _ (length_listed _ _)) copy_sources

    -- advance
    module _ (n count cursor : ℕ) (open_at : cursor_of (after m s h).sweep ≡ Ok cursor) (acc : Accepts m s h (Advance n) count) where
      advance_sources : (p : Place) → (at (after_advance m (after m s h) cursor n) p).1 ≡ true → Source m s h (Advance n) (Clean (after m s h)) (after_advance m (after m s h) cursor n) p
      advance_sources (in_slot j) z = stays m s h (Advance n) _ g (in_slot j) refl (kept m s h (Advance n) (in_slot j) count acc refl) (λ x. x) z
      advance_sources (in_granule i) z =
          ⊎_elim
          (λ r. let was = spared_was m (after m s h).blocks _ _ (sym (ap (λ (x : Cell). x.1) r.1) ∙ z) in record {
            trace = record { from = in_granule i; tagged = was.0; less = less_same m _ _ (ap (λ (x : Cell). x.0) r.1) };
            descends = kept m s h (Advance n) (in_granule i) count acc refl;
            clean = λ _. inr was.1;
            lies = (g.places (in_granule i) was.0).lies;
          })
          (λ r. stays m s h (Advance n) _ g (in_granule i) r.1 (kept m s h (Advance n) (in_granule i) count acc refl)
          (λ l. subst (λ (w : Sweep). Passed w i) (sym (was_open _ cursor open_at)) (not_passed cursor (cursor + passed m (after m s h) cursor n) i r.0 l)) z)
          (chosen (leb cursor i && ltb i (cursor + passed m (after m s h) cursor n)) _ _ _ (listed_was _ _ i z))

      pub next_advances : Next m s h (Advance n) (after_advance m (after m s h) cursor n)
      next_advances =
          quietly m s h (Advance n) laws g _ (quiet_code m s h (Advance n) refl) refl refl
          (record { first = g.shaped.first; granules = length_listed _ _ ∙ g.shaped.granules; slots = g.shaped.slots }) advance_sources
