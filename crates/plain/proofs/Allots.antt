-- Allocate: a new block, its capability in a slot, its granules blank. Assumes nothing.
use Rattle.std.proofs.Common.{◌≡◌, ℕ, ◌+◌, ◌*◌, ◌<◌, ◌≤◌, true, false, ◌⊎◌, List, ◌∷◌, length, Some, sym, refl, ap, ◌∙◌, subst, inl, inr, ⊎_elim, arith}
use Rattle.std.proofs.lemmas.List.{length-set, get_or-set_same}
use Rattle.std.proofs.lemmas.Bool.{both_ways, eq-eqb, ne_eqb, cond-true, cond-false}
use Rattle.capability.specs.declared.types.Capability.{Capability}
use Rattle.capability.specs.Formats.{Meaning, Lawful}
use Rattle.store.specs.Cells.{Cell, length_listed}
use Rattle.stored_bytes.specs.Bytes.{touched}
use Rattle.plain.specs.declared.types.Call.{Call}
use Rattle.plain.specs.declared.types.Call.TheVariants.{Allocate}
use Rattle.plain.specs.declared.types.Slot.{Slot}
use Rattle.plain.specs.declared.types.State.TheVariants.{Live}
use Rattle.plain.specs.Blocks.{Entry, Mem, apart_all}
use Rattle.plain.specs.Memory.{Plain, usable, with_block}
use Rattle.plain.specs.Guarantee.{Place, in_slot, in_granule, at, after, Accepts, descent, Holds, Allocates, Frees, Opens, Closes, BlockOf, Freed, ClosedAfter}
use Rattle.plain.proofs.Facts.{chosen, set_was, listed_was}
use Rattle.plain.proofs.Tables.{mem_push, push_mem, Tidy, tidy_push, room_apart}
use Rattle.plain.proofs.Events.{same_answer, earlier, closed_freed, not_frees, not_opens, not_closes, kept, begun, status_kept}
use Rattle.plain.proofs.Good.{same_capability, pair_of, Clean, whole, Lies, Standing, Found, Held, Good, Source, Next, stays, held_on}

same_slot : (a b x y : ℕ) → Allocate a x ≡ Allocate b y → b ≡ a
same_slot a b x y e = cc

module _ (m : Meaning) (s : Plain) (h : List Call) (a size x bytes w : ℕ) where
  abbrev allot : Call
  allot = Allocate a size

  abbrev new : Entry
  new = record { start = x; end = x + bytes; serial = (after m s h).next; state = Live }

  abbrev left : Plain
  left = with_block (after m s h) a x bytes w

  -- a place that the call gives the new block's capability
  record New (p : Place) : Type 0 where
    reads : m.capability (at left p).0 ≡ Some (whole new)
    descends : descent m s (allot ∷ h) p ≡ Some (after m s h).next
    lies : Lies m s p

  module _ (laws : Lawful m) (g : Good m s h (after m s h)) (acc : Accepts m s h allot (after m s h).next) (ea : after m s (allot ∷ h) ≡ left) (ha : a < 16)
      (low : 8 * s.first ≤ x) (high : x + bytes ≤ 8 * (s.first + usable m s.first s.cells)) (free : apart_all x (x + bytes) (after m s h).blocks ≡ true)
      (reads : m.capability w ≡ Some (whole new)) where
    -- what it leaves in its slot
    slot_holds : Holds m s (allot ∷ h) (in_slot a) (whole new)
    slot_holds =
        subst (λ (t : Plain). ((at t (in_slot a)).1 ≡ true) × (m.capability (at t (in_slot a)).0 ≡ Some (whole new))) (sym ea)
        (ap (λ (v : Cell). v.1) is, ap (λ (v : Cell). m.capability v.0) is ∙ reads)
      where
        is : at left (in_slot a) ≡ (w, true)
        is =
            let l : a < length (after m s h).slots = omega (arith, g.shaped.slots) in
            pair_of _ _ (get_or-set_same (after m s h).slots a (record { word = w; tag = true }) (record { word = 0; tag = false }) l)

    allocates : Allocates m s (after m s h).next (whole new) h allot
    allocates = record { a = a; size = size; is = refl; accepted = acc; left = slot_holds }

    -- it allocates nothing else
    only_new : (n : ℕ) (k : Capability) → Allocates m s n k h allot → (n ≡ (after m s h).next) × (k ≡ whole new)
    only_new n k b =
        let slot_is : b.a ≡ a = same_slot a b.a size b.size b.is in
        let here : Holds m s (allot ∷ h) (in_slot a) k = subst (λ i. Holds m s (allot ∷ h) (in_slot i) k) slot_is b.left in
        (same_answer _ n _ b.accepted acc, same_capability _ k (whole new) here.1 slot_holds.1)

    no_frees : (n : ℕ) → Frees m s n h allot → ⊥
    no_frees = not_frees m s h allot (λ z. omega arith)

    no_opens : Opens m s h allot → ⊥
    no_opens = not_opens m s h allot (λ z. omega arith)

    no_closes : Closes m s h allot → ⊥
    no_closes = not_closes m s h allot (λ z. omega arith)

    not_yet : Freed m s (after m s h).next (allot ∷ h) → ⊥
    not_yet f = let l = g.spent (after m s h).next (earlier _ _ allot h f (no_frees (after m s h).next)) in omega arith

    standing_new : Standing m s (allot ∷ h) new
    standing_new = record { born = inl (allocates, tt); stands = λ d. not_yet (closed_freed m s _ (allot ∷ h) d); status = not_yet; low = low; high = high }

    standing_old : (b : Entry) → Mem b (after m s h).blocks → Standing m s (allot ∷ h) b
    standing_old b hb =
        let e = g.standing b hb in
        record {
          born = inr e.born;
          stands = λ d. e.stands (earlier _ _ allot h d no_closes);
          status = status_kept m s h allot b.state b.serial (no_frees b.serial) no_opens e.status;
          low = e.low;
          high = e.high;
        }

    found : (n : ℕ) (k : Capability) → BlockOf m s n k (allot ∷ h) → (ClosedAfter m s n (allot ∷ h) → ⊥) → Found m s left.blocks n k
    found n k (inl b) stands =
        let is = only_new n k b.0 in
        record {
          block = new;
          recorded = push_mem (after m s h).blocks new new (inr refl);
          serial = sym is.0;
          start = sym (ap (λ (c : Capability). c.base) is.1);
          end = sym (ap (λ (c : Capability). c.top) is.1);
        }
    found n k (inr b) stands =
        let f = g.complete n k b (λ d. stands (inr d)) in
        record { block = f.block; recorded = push_mem (after m s h).blocks new f.block (inl f.recorded); serial = f.serial; start = f.start; end = f.end }

    used : (n : ℕ) (k : Capability) → BlockOf m s n k (allot ∷ h) → n < (after m s h).next + 1
    used n k (inl b) = let e = (only_new n k b.0).0 in omega arith
    used n k (inr b) = let l = g.used n k b in omega arith

    single : (n : ℕ) (k l : Capability) → BlockOf m s n k (allot ∷ h) → BlockOf m s n l (allot ∷ h) → k ≡ l
    single n k l (inl b) (inl c) = (only_new n k b.0).1 ∙ sym (only_new n l c.0).1
    single n k l (inl b) (inr c) = let e = (only_new n k b.0).0 in let u = g.used n l c in absurd (omega arith)
    single n k l (inr b) (inl c) = let e = (only_new n l c.0).0 in let u = g.used n k b in absurd (omega arith)
    single n k l (inr b) (inr c) = g.single n k l b c

    tidy : Tidy left.blocks
    tidy = tidy_push (after m s h).blocks new g.tidy (λ b hb. (
      λ e. let l = g.used b.serial _ (g.standing b hb).born in omega arith,
      λ y p q. ⊎_elim (λ l. omega arith) (λ l. omega arith) (room_apart x (x + bytes) (after m s h).blocks b free hb),
    ))

    sources : (p : Place) → (at left p).1 ≡ true → Source m s h allot (Clean (after m s h)) left p ⊎ New p
    sources (in_slot j) z =
        ⊎_elim
        (λ r. inr (record {
          reads = ap (λ (v : Slot). m.capability v.word) r.1 ∙ reads;
          descends = begun m s h allot (in_slot j) (after m s h).next acc (cond-true _ _ _ (eq-eqb j a r.0));
          lies = tt;
        }))
        (λ r. inl (stays m s h allot left g (in_slot j) (pair_of _ _ r.1) (kept m s h allot (in_slot j) (after m s h).next acc (cond-false _ _ _ (ne_eqb j a r.0))) (λ k. k) z))
        (set_was (record { word = 0; tag = false }) (λ (v : Slot). v.tag) refl (after m s h).slots a j (record { word = w; tag = true }) z)
    sources (in_granule i) z =
        ⊎_elim
        (λ r. absurd (both_ways _ (ap (λ (v : Cell). v.1) r.1) z))
        (λ r. inl (stays m s h allot left g (in_granule i) r.1 (kept m s h allot (in_granule i) (after m s h).next acc refl) (λ k. k) z))
        (chosen (touched x bytes ((after m s h).first + i)) _ _ _ (listed_was _ _ i z))

    held : (p : Place) → Source m s h allot (Clean (after m s h)) left p ⊎ New p → Held m s (allot ∷ h) left p
    held p (inl f) =
        let d = g.places f.trace.from f.trace.tagged in
        held_on m s h allot laws g left (Clean (after m s h)) p f tidy d.owner (push_mem (after m s h).blocks new d.owner (inl d.recorded)) d refl refl refl d.alive
    held p (inr f) = record {
      capability = whole new;
      reads = f.reads;
      owner = new;
      recorded = push_mem (after m s h).blocks new new (inr refl);
      low = omega arith;
      high = omega arith;
      descends = f.descends;
      alive = λ _. refl;
      lies = f.lies;
    }

    pub next_allots : Next m s h allot left
    next_allots = record {
      good = record {
        shaped = record { first = g.shaped.first; granules = length_listed _ _ ∙ g.shaped.granules; slots = length-set (after m s h).slots a _ ∙ g.shaped.slots };
        tidy = tidy;
        standing = λ b hb. ⊎_elim (standing_old b) (λ (e : b ≡ new). subst (Standing m s (allot ∷ h)) (sym e) standing_new) (mem_push (after m s h).blocks new b hb);
        complete = found;
        used = used;
        spent = λ n f. let l = g.spent n (earlier _ _ allot h f (no_frees n)) in omega arith;
        single = single;
        places = λ p z. held p (sources p z);
      };
      traced = λ p z. ⊎_elim (λ f. inl f.trace) (λ (f : New p). inr (record { serial = (after m s h).next; capability = whole new; allocates = allocates; reads = f.reads })) (sources p z);
    }
