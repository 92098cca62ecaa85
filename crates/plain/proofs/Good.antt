-- What holds of the state after every history: the invariant, and how a call keeps it. Assumes nothing.
use Rattle.std.proofs.Common.{◌≡◌, ℕ, ◌+◌, ◌*◌, ◌<◌, ◌≤◌, Bool, true, false, ◌⊎◌, List, ◌∷◌, map, length, Some, Option, sym, refl, ap, ◌∙◌, subst, inl, inr, ⊎_elim, arith}
use Rattle.std.proofs.lemmas.List.{map-id}
use Rattle.capability.specs.declared.types.Capability.{Capability}
use Rattle.capability.specs.declared.types.Right.{Right}
use Rattle.capability.specs.Formats.{Meaning, Lawful}
use Rattle.capability.specs.Rights.{has, all_rights}
use Rattle.plain.specs.declared.types.Call.{Call}
use Rattle.store.specs.Cells.{Cell}
use Rattle.plain.specs.declared.types.Slot.{Slot}
use Rattle.plain.specs.declared.types.State.{State}
use Rattle.plain.specs.declared.types.Sweep.{Sweep}
use Rattle.plain.specs.declared.types.Sweep.TheVariants.{Shut, Open}
use Rattle.plain.specs.Blocks.{Entry, Mem, is_condemned}
use Rattle.plain.specs.Memory.{Plain, usable, word_condemned}
use Rattle.plain.specs.Guarantee.{Place, in_slot, in_granule, at, Within, after, descent, Allocates, Frees, Closes, BlockOf, Freed, ClosedAfter}
use Rattle.plain.proofs.Tables.{mem_map, map_mem, Spans, Tidy, restated, tidy_map, owner_spared}
use Rattle.plain.proofs.Events.{earlier, Quiet, Status, status_kept}

pub same_capability : (o : Option Capability) (k l : Capability) → o ≡ Some k → o ≡ Some l → k ≡ l
same_capability o k l p q = cc

pub pair_of : (v w : Slot) → v ≡ w → ◌≡◌ {A = Cell} (v.word, v.tag) (w.word, w.tag)
pair_of v w e = ap (λ (x : Slot). (x.word, x.tag)) e

-- which places a sweep has passed: every slot; every granule below the cursor; and all where no sweep is open
abbrev pub Passed : Sweep → ℕ → Type 0
Passed Shut i = Unit {0}
Passed (Open cursor) i = i < cursor

abbrev pub Clean : Plain → Place → Type 0
Clean t (in_slot i) = Unit {0}
Clean t (in_granule i) = Passed t.sweep i

-- the capability over a whole block
abbrev pub whole : Entry → Capability
whole b = record { base = b.start; top = b.end; address = b.start; rights = all_rights }

module _ (m : Meaning) where
  -- a word reads as a capability that has no bytes or rights but those of another
  pub record Derived (w : ℕ) (l : Capability) : Type 0 where
    pub capability : Capability
    pub reads : m.capability w ≡ Some capability
    pub within : Within capability l
    pub rights : (r : Right) → has r capability ≡ true → has r l ≡ true

  -- no bytes or rights but those of another word
  abbrev pub Less : ℕ → ℕ → Type 0
  Less w v = (l : Capability) → m.capability v ≡ Some l → Derived w l

  pub less_same : (w v : ℕ) → w ≡ v → Less w v
  less_same w v e l reads = record {
    capability = l;
    reads = ap m.capability e ∙ reads;
    within = (omega arith, omega arith);
    rights = λ r h. h;
  }

module _ (m : Meaning) (s : Plain) where
  -- the place is a slot or a usable granule
  abbrev pub Lies : Place → Type 0
  Lies (in_slot i) = Unit {0}
  Lies (in_granule i) = i < usable m s.first s.cells

  -- a block of the table, and what has happened to it
  pub record Standing (h : List Call) (b : Entry) : Type 0 where
    pub born : BlockOf m s b.serial (whole b) h
    pub stands : ClosedAfter m s b.serial h → ⊥
    pub status : Status m s h b.state b.serial
    pub low : 8 * s.first ≤ b.start
    pub high : b.end ≤ 8 * (s.first + usable m s.first s.cells)

  -- a block of the table has this serial and these bytes
  pub record Found (bs : List Entry) (n : ℕ) (k : Capability) : Type 0 where
    pub block : Entry
    pub recorded : Mem block bs
    pub serial : block.serial ≡ n
    pub start : block.start ≡ k.base
    pub end : block.end ≡ k.top

  -- a word that stands, tagged, at a place, and the block that it comes from
  pub record Held (h : List Call) (t : Plain) (p : Place) : Type 0 where
    pub capability : Capability
    pub reads : m.capability (at t p).0 ≡ Some capability
    pub owner : Entry
    pub recorded : Mem owner t.blocks
    pub low : owner.start ≤ capability.base
    pub high : capability.top ≤ owner.end
    pub descends : descent m s h p ≡ Some owner.serial
    pub alive : Clean t p → is_condemned owner.state ≡ false
    pub lies : Lies p

  pub record Shaped (t : Plain) : Type 0 where
    pub first : t.first ≡ s.first
    pub granules : length t.cells ≡ length s.cells
    pub slots : length t.slots ≡ 16

  pub record Good (h : List Call) (t : Plain) : Type 0 where
    pub shaped : Shaped t
    pub tidy : Tidy t.blocks
    pub standing : (b : Entry) → Mem b t.blocks → Standing h b
    pub complete : (n : ℕ) (k : Capability) → BlockOf m s n k h → (ClosedAfter m s n h → ⊥) → Found t.blocks n k
    pub used : (n : ℕ) (k : Capability) → BlockOf m s n k h → n < t.next
    pub spent : (n : ℕ) → Freed m s n h → n < t.next
    pub single : (n : ℕ) (k l : Capability) → BlockOf m s n k h → BlockOf m s n l h → k ≡ l
    pub places : (p : Place) → (at t p).1 ≡ true → Held h t p

  module _ (h : List Call) (c : Call) where
    -- where the word of a place was, before c, that is tagged after it
    pub record Traced (u : Plain) (p : Place) : Type 0 where
      pub from : Place
      pub tagged : (at (after m s h) from).1 ≡ true
      pub less : Less m (at u p).0 (at (after m s h) from).0

    -- and its descent. If the place is clean, then its source was, as K says, or the word is spared.
    pub record Source (K : Place → Type 0) (u : Plain) (p : Place) : Type 0 where
      pub trace : Traced u p
      pub descends : descent m s (c ∷ h) p ≡ descent m s h trace.from
      pub clean : Clean u p → K trace.from ⊎ (word_condemned m u.blocks (at (after m s h) trace.from).0 ≡ false)
      pub lies : Lies p

    -- or the word is that of a block that c allocated
    pub record Fresh (u : Plain) (p : Place) : Type 0 where
      pub serial : ℕ
      pub capability : Capability
      pub allocates : Allocates m s serial capability h c
      pub reads : m.capability (at u p).0 ≡ Some capability

    -- what is to show of each call
    pub record Next (u : Plain) : Type 0 where
      pub good : Good (c ∷ h) u
      pub traced : (p : Place) → (at u p).1 ≡ true → Traced u p ⊎ Fresh u p

    -- a place that a call leaves as it was
    pub stays : (u : Plain) → Good h (after m s h) → (p : Place) → at u p ≡ at (after m s h) p → descent m s (c ∷ h) p ≡ descent m s h p
        → (Clean u p → Clean (after m s h) p) → (at u p).1 ≡ true → Source (Clean (after m s h)) u p
    stays u g p e d k z =
        let tagged : (at (after m s h) p).1 ≡ true = sym (ap (λ (x : ℕ × Bool). x.1) e) ∙ z in
        record {
          trace = record { from = p; tagged = tagged; less = less_same m _ _ (ap (λ (x : ℕ × Bool). x.0) e) };
          descends = d;
          clean = λ x. inl (k x);
          lies = (g.places p tagged).lies;
        }

    module _ (laws : Lawful m) (g : Good h (after m s h)) (u : Plain) where
      -- what is held goes on being held, in a block with the same bytes and serial
      pub held_on : (K : Place → Type 0) (p : Place) (f : Source K u p) → Tidy u.blocks
          → (b : Entry) → Mem b u.blocks → (d : Held h (after m s h) f.trace.from) → b.serial ≡ d.owner.serial → b.start ≡ d.owner.start → b.end ≡ d.owner.end
          → (K f.trace.from → is_condemned b.state ≡ false) → Held (c ∷ h) u p
      held_on K p f tidy b hb d es eb ee keep =
          let l = f.trace.less d.capability d.reads in
          let some = laws.bounds d.capability _ (laws.write_read d.capability _ d.reads) in
          let spans : Spans b d.capability.base = (omega (arith, d.low), omega (arith, d.high, some.0)) in
          record {
            capability = l.capability;
            reads = l.reads;
            owner = b;
            recorded = hb;
            low = omega (arith, d.low, l.within.0);
            high = omega (arith, d.high, l.within.1);
            descends = f.descends ∙ d.descends ∙ ap Some (sym es);
            alive = λ x. ⊎_elim keep (owner_spared m u.blocks tidy b hb _ d.capability d.reads spans) (f.clean x);
            lies = f.lies;
          }

      -- a call that allocates nothing and closes nothing, and may change the states of blocks
      pub remade : (K : Place → Type 0) (state : Entry → State) → u.blocks ≡ map (restated state) (after m s h).blocks → u.next ≡ (after m s h).next → Shaped u
          → ((n : ℕ) (k : Capability) → Allocates m s n k h c → ⊥) → ((n : ℕ) → Frees m s n h c → n < (after m s h).next) → (Closes m s h c → ⊥)
          → ((b : Entry) → Mem b (after m s h).blocks → Status m s (c ∷ h) (state b) b.serial)
          → ((b : Entry) (p : Place) → (Clean (after m s h) p → is_condemned b.state ≡ false) → K p → is_condemned (state b) ≡ false)
          → ((p : Place) → (at u p).1 ≡ true → Source K u p) → Next u
      remade K state eb en shaped na nf nc status keep sources = record { good = good; traced = λ p z. inl (sources p z).trace }
        where
          tidy : Tidy u.blocks
          tidy = subst Tidy (sym eb) (tidy_map state (after m s h).blocks g.tidy)

          stood : (b : Entry) → Mem b (after m s h).blocks → Standing (c ∷ h) (restated state b)
          stood b hb =
              let e = g.standing b hb in
              record { born = inr e.born; stands = λ x. e.stands (earlier _ _ c h x nc); status = status b hb; low = e.low; high = e.high }

          born : (n : ℕ) (k : Capability) → BlockOf m s n k (c ∷ h) → BlockOf m s n k h
          born n k x = earlier _ _ c h x (na n k)

          spent : (n : ℕ) → Freed m s n (c ∷ h) → n < u.next
          spent n (inl x) = let l = nf n x.0 in omega arith
          spent n (inr x) = let l = g.spent n x in omega arith

          good : Good (c ∷ h) u
          good = record {
            shaped = shaped;
            tidy = tidy;
            standing = λ b hb. let x = mem_map (restated state) (after m s h).blocks b (subst (Mem b) eb hb) in subst (Standing (c ∷ h)) (sym x.2) (stood x.0 x.1);
            complete = λ n k x ng.
                let y = g.complete n k (born n k x) (λ z. ng (inr z)) in
                record {
                  block = restated state y.block;
                  recorded = subst (Mem (restated state y.block)) (sym eb) (map_mem (restated state) (after m s h).blocks y.block y.recorded);
                  serial = y.serial;
                  start = y.start;
                  end = y.end;
                };
            used = λ n k x. let l = g.used n k (born n k x) in omega arith;
            spent = spent;
            single = λ n k l x y. g.single n k l (born n k x) (born n l y);
            places = λ p z.
                let x = sources p z in
                let d = g.places x.trace.from x.trace.tagged in
                held_on K p x tidy (restated state d.owner) (subst (Mem (restated state d.owner)) (sym eb) (map_mem (restated state) (after m s h).blocks d.owner d.recorded)) d refl refl refl
                (keep d.owner x.trace.from d.alive);
          }

      -- a call by which no block comes or goes
      pub quietly : Quiet m s h c → u.blocks ≡ (after m s h).blocks → u.next ≡ (after m s h).next → Shaped u
          → ((p : Place) → (at u p).1 ≡ true → Source (Clean (after m s h)) u p) → Next u
      quietly q eb en shaped sources =
          remade (Clean (after m s h)) (λ b. b.state) (eb ∙ sym (map-id (after m s h).blocks)) en shaped q.allocates (λ n x. absurd (q.frees n x)) q.closes
          (λ b hb. status_kept m s h c b.state b.serial (q.frees b.serial) q.opens (g.standing b hb).status) (λ b p alive k. alive k) sources
