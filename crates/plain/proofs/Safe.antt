-- The guarantee holds after every history. Assumes nothing.
use Rattle.std.proofs.Common.{◌≡◌, ℕ, true, false, ◌⊎◌, List, [], ◌∷◌, Some, sym, refl, ap, ◌∙◌, subst, inl, inr, ⊎_elim, arith}
use Rattle.std.proofs.lemmas.Bool.{ltb-true}
use Rattle.capability.specs.declared.refusal.Refusal.TheVariants.{NotCarried}
use Rattle.capability.specs.declared.types.Capability.{Capability}
use Rattle.capability.specs.declared.types.Right.{Right}
use Rattle.capability.specs.Formats.{Meaning, Lawful, rounded}
use Rattle.capability.specs.Rights.{has}
use Rattle.store.specs.Cells.{Cell}
use Rattle.plain.specs.declared.types.Call.{Call}
use Rattle.plain.specs.declared.types.Slot.{Slot}
use Rattle.plain.specs.Blocks.{Entry}
use Rattle.plain.specs.Memory.{Plain, Outcome, started}
use Rattle.plain.specs.Step.{step}
use Rattle.plain.specs.Guarantee.{Place, in_slot, in_granule, at, Covers, after, descent, Allocates, ClosedAfter, Owned, Reaches, Safe, AlwaysSafe}
use Rattle.plain.proofs.Did.{Did, refused, looks, allots, frees, derives, stores, fetches, puts, copies, opens, advances, closes, did}
use Rattle.plain.proofs.Facts.{was_some, was_room, replicate_bare}
use Rattle.plain.proofs.Tables.{same_byte}
use Rattle.plain.proofs.Good.{same_capability, whole, Good, Traced, Fresh, Next}
use Rattle.plain.proofs.Slots.{next_refused, next_looks, next_derives, next_fetches}
use Rattle.plain.proofs.Granules.{next_stores, next_puts, next_copies, next_advances}
use Rattle.plain.proofs.Turns.{usable_same, next_frees, next_opens, next_closes}
use Rattle.plain.proofs.Allots.{next_allots}

module _ (m : Meaning) (s : Plain) (laws : Lawful m) where
  -- one more call
  next : (h : List Call) (c : Call) (o : Outcome) → step m (after m s h) c ≡ o → Did m (after m s h) c o → Good m s h (after m s h) → Next m s h c o.after
  next h c o eq (refused e) g = next_refused m s h g laws c e (ap (λ (x : Outcome). x.answer) eq)
  next h c o eq (looks n l) g = next_looks m s h g laws c n l (ap (λ (x : Outcome). x.answer) eq)
  next h c o eq (allots {a} {size} unit x w ha room wrote) g =
      let was = was_room m (after m s h).first (after m s h).cells (after m s h).blocks unit (rounded size unit) x room in
      let f = g.shaped.first in
      let u = usable_same m s h g in
      next_allots m s h a size x (rounded size unit) w laws g (ap (λ (y : Outcome). y.answer) eq) (ap (λ (y : Outcome). y.after) eq) (ltb-true _ _ ha)
      (omega (arith, was.0)) (omega (arith, was.1)) was.2 (laws.read_write _ w (was_some _ NotCarried w wrote))
  next h c o eq (frees {a} k i place live) g = next_frees m s h g laws a k i place live (ap (λ (x : Outcome). x.answer) eq)
  next h c o eq (derives {a = a} {b = b} {k = k} {l = l} w d e wrote) g = next_derives m s h g laws c a b k l w d e wrote (ap (λ (x : Outcome). x.answer) eq)
  next h c o eq (stores {a} {n} {v} x) g = next_stores m s h g laws a n v x (ap (λ (y : Outcome). y.answer) eq)
  next h c o eq (fetches {a} {b} n k i e points) g = next_fetches m s h g laws a b n k i e points (ap (λ (x : Outcome). x.answer) eq)
  next h c o eq (puts {a} {b} k i e points) g = next_puts m s h g laws a b k i e points (ap (λ (x : Outcome). x.answer) eq)
  next h c o eq (copies {a} {b} {n} count k l ea eb covers) g = next_copies m s h g laws a b n count k l ea eb covers (ap (λ (x : Outcome). x.answer) eq)
  next h c o eq (opens n) g = next_opens m s h g laws n (ap (λ (x : Outcome). x.answer) eq)
  next h c o eq (advances {n} count cursor open_at) g = next_advances m s h g laws n count cursor open_at (ap (λ (x : Outcome). x.answer) eq)
  next h c o eq (closes n cursor open_at end) g = next_closes m s h g laws n cursor open_at end (ap (λ (x : Outcome). x.answer) eq)

  next_call : (h : List Call) (c : Call) → Good m s h (after m s h) → Next m s h c (after m s (c ∷ h))
  next_call h c g = next h c _ refl (did m (after m s h) c) g

  -- what the invariant gives
  module _ (h : List Call) (g : Good m s h (after m s h)) where
    owned : (p : Place) → (at (after m s h) p).1 ≡ true → Owned m s h p
    owned p z =
        let d = g.places p z in
        let e = g.standing d.owner d.recorded in
        let some = laws.bounds d.capability _ (laws.write_read d.capability _ d.reads) in
        record {
          capability = d.capability;
          holds = (z, d.reads);
          serial = d.owner.serial;
          bytes = whole d.owner;
          recorded = record { born = e.born; stands = e.stands };
          inside = (d.low, d.high);
          descends = d.descends;
          only = λ n k r within.
              let f = g.complete n k r.born r.stands in
              let is = same_byte (after m s h).blocks g.tidy f.block d.owner f.recorded d.recorded d.capability.base
              (omega (arith, f.start, within.0), omega (arith, f.end, within.1, some.0)) (d.low, omega (arith, d.high, some.0)) in
              sym f.serial ∙ ap (λ (x : Entry). x.serial) is;
        }

    revoked : (n : ℕ) → ClosedAfter m s n h → (p : Place) → (at (after m s h) p).1 ≡ true → descent m s h p ≡ Some n → ⊥
    revoked n closed p z e =
        let d = g.places p z in
        let f = d.descends in
        let is : d.owner.serial ≡ n = cc in
        (g.standing d.owner d.recorded).stands (subst (λ x. ClosedAfter m s x h) (sym is) closed)

    grows : (c : Call) (x : ℕ) (r : Right) → Reaches m s (c ∷ h) x r → Reaches m s h x r ⊎ ((n : ℕ) × (k : Capability) × Allocates m s n k h c × Covers k x)
    grows c x r reach = ⊎_elim before newly ((next_call h c g).traced reach.place reach.holds.0)
      where
        before : Traced m s h c (after m s (c ∷ h)) reach.place → Reaches m s h x r ⊎ ((n : ℕ) × (k : Capability) × Allocates m s n k h c × Covers k x)
        before t =
            let d = g.places t.from t.tagged in
            let l = t.less d.capability d.reads in
            let is : l.capability ≡ reach.capability = same_capability _ _ _ l.reads reach.holds.1 in
            let covers = subst (λ (k : Capability). Covers k x) (sym is) reach.covers in
            inl (record {
              place = t.from;
              capability = d.capability;
              holds = (t.tagged, d.reads);
              covers = (omega (arith, covers.0, l.within.0), omega (arith, covers.1, l.within.1));
              permits = l.rights r (ap (has r) is ∙ reach.permits);
            })

        newly : Fresh m s h c (after m s (c ∷ h)) reach.place → Reaches m s h x r ⊎ ((n : ℕ) × (k : Capability) × Allocates m s n k h c × Covers k x)
        newly f =
            let is : f.capability ≡ reach.capability = same_capability _ _ _ f.reads reach.holds.1 in
            inr (f.serial, f.capability, f.allocates, subst (λ (k : Capability). Covers k x) (sym is) reach.covers)

    safe : Safe m s h
    safe = record {
      owned = owned;
      revoked = revoked;
      grows = grows;
      one_block = λ n k l b c. let is = g.single n k l b c in
          (let e = ap (λ (x : Capability). x.base) is in omega arith, let e = ap (λ (x : Capability). x.top) is in omega arith);
      in_usable = λ n k r.
          let f = g.complete n k r.born r.stands in
          let b = g.standing f.block f.recorded in
          (omega (arith, f.start, b.low), omega (arith, f.end, b.high));
      in_table = λ n k r. let f = g.complete n k r.born r.stands in (f.block, f.recorded, f.serial, f.start, f.end);
      of_table = λ b hb. let e = g.standing b hb in (whole b, record { born = e.born; stands = e.stands }, refl, refl);
    }

  -- the invariant holds after every history, if it does of the state that it begins in
  good : Good m s [] s → (h : List Call) → Good m s h (after m s h)
  good g [] = g
  good g (c ∷ h) = (next_call h c (good g h)).good

-- a memory just started
begins : (m : Meaning) (first count serial : ℕ) → Good m (started first count serial) [] (started first count serial)
begins m first count serial = record {
  shaped = record { first = refl; granules = refl; slots = refl };
  tidy = tt;
  standing = λ b hb. absurd hb;
  complete = λ n k b. absurd b;
  used = λ n k b. absurd b;
  spent = λ n f. absurd f;
  single = λ n k l b. absurd b;
  places = λ p z. absurd (untagged p z);
}
  where
    untagged : (p : Place) → (at (started first count serial) p).1 ≡ true → ⊥
    untagged (in_slot i) z = replicate_bare (record { word = 0; tag = false }) (λ (x : Slot). x.tag) refl 16 i z
    untagged (in_granule i) z = replicate_bare (0, false) (λ (x : Cell). x.1) refl count i z

pub always_safe : AlwaysSafe
always_safe m laws first count serial h = safe m (started first count serial) laws h (good m (started first count serial) laws (begins m first count serial) h)
