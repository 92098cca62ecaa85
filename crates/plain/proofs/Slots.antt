-- Calls that change nothing or one slot: where each tagged word comes from. Assumes nothing.
use Rattle.std.proofs.Common.{◌≡◌, ℕ, true, false, cond, eqb, ◌⊎◌, List, Some, Ok, Err, sym, refl, ap, ◌∙◌, subst, inl, inr, ⊎_elim, arith}
use Rattle.std.proofs.lemmas.List.{length-set}
use Rattle.std.proofs.lemmas.Bool.{eq-eqb, ne_eqb, cond-true, cond-false}
use Rattle.capability.specs.declared.refusal.Refusal.{Refusal}
use Rattle.capability.specs.declared.refusal.Refusal.TheVariants.{NotCarried}
use Rattle.capability.specs.declared.types.Capability.{Capability}
use Rattle.capability.specs.declared.types.Right.{Right}
use Rattle.capability.specs.Formats.{Meaning, Lawful, written}
use Rattle.capability.specs.Rights.{has}
use Rattle.store.specs.Cells.{Cell}
use Rattle.plain.specs.declared.types.Call.{Call}
use Rattle.plain.specs.declared.types.Call.TheVariants.{Fetch}
use Rattle.plain.specs.declared.types.Slot.{Slot}
use Rattle.plain.specs.Memory.{Plain, granule_of, slot, tagged_in, with_slot, word_condemned, fetched, pointed}
use Rattle.plain.specs.Step.{step}
use Rattle.plain.specs.Guarantee.{Place, in_slot, in_granule, at, from_place, nothing, target, gives, Within, after, Accepts}
use Rattle.plain.proofs.Did.{Looks, loads, asks, tallies, Derives, moves, narrows, restricts}
use Rattle.plain.proofs.Facts.{was_some, was_tagged, used, was_inside, was_pointed, had_right, set_was, spared_was}
use Rattle.plain.proofs.Events.{code, quiet_refused, quiet_code, kept, taken, kept_refused}
use Rattle.plain.proofs.Good.{same_capability, pair_of, Clean, Derived, Less, less_same, Shaped, Good, Source, Next, stays, quietly}

-- the bytes and rights of a capability made from another, and what the call gives
derived_within : {c : Call} {a b : ℕ} {k l : Capability} → Derives c a b k l → Within l k
derived_within moves = (omega arith, omega arith)
derived_within {k = k} (narrows {x = x} {n = n} i) = was_inside k x n i
derived_within restricts = (omega arith, omega arith)

derived_rights : {c : Call} {a b : ℕ} {k l : Capability} → Derives c a b k l → (r : Right) → has r l ≡ true → has r k ≡ true
derived_rights moves r h = h
derived_rights (narrows i) r h = h
derived_rights {k = k} (restricts {mask = mask}) r h = had_right k.rights mask r h

derived_code : {c : Call} {a b : ℕ} {k l : Capability} → Derives c a b k l → code c ≡ 4
derived_code moves = refl
derived_code (narrows i) = refl
derived_code restricts = refl

module _ (m : Meaning) (t : Plain) where
  derived_slot : {c : Call} {a b : ℕ} {k l : Capability} → Derives c a b k l → (j : ℕ) → gives m t c 0 (in_slot j) ≡ cond (eqb j a) (from_place (in_slot b)) nothing
  derived_slot moves j = refl
  derived_slot (narrows i) j = refl
  derived_slot restricts j = refl

  derived_granule : {c : Call} {a b : ℕ} {k l : Capability} → Derives c a b k l → (i : ℕ) → gives m t c 0 (in_granule i) ≡ nothing
  derived_granule moves i = refl
  derived_granule (narrows x) i = refl
  derived_granule restricts i = refl

  looks_gives : {c : Call} → Looks c → (n : ℕ) (p : Place) → gives m t c n p ≡ nothing
  looks_gives loads n p = refl
  looks_gives asks n p = refl
  looks_gives tallies n p = refl

looks_code : {c : Call} → Looks c → code c ≡ 4
looks_code loads = refl
looks_code asks = refl
looks_code tallies = refl

module _ (m : Meaning) (s : Plain) (h : List Call) (g : Good m s h (after m s h)) where
  shaped_slots : (a : ℕ) (v : Slot) → Shaped m s (with_slot (after m s h) a v)
  shaped_slots a v = record { first = g.shaped.first; granules = g.shaped.granules; slots = length-set (after m s h).slots a v ∙ g.shaped.slots }

  module _ (c : Call) where
    -- a call that sets slot a to what place q gives
    slot_sources : (a n : ℕ) (v : Slot) (q : Place) → Accepts m s h c n
        → ((j : ℕ) → gives m (after m s h) c n (in_slot j) ≡ cond (eqb j a) (from_place q) nothing) → ((i : ℕ) → gives m (after m s h) c n (in_granule i) ≡ nothing)
        → (v.tag ≡ true → ((at (after m s h) q).1 ≡ true) × Less m v.word (at (after m s h) q).0
        × (Clean (after m s h) q ⊎ (word_condemned m (after m s h).blocks (at (after m s h) q).0 ≡ false)))
        → (p : Place) → (at (with_slot (after m s h) a v) p).1 ≡ true → Source m s h c (Clean (after m s h)) (with_slot (after m s h) a v) p
    slot_sources a n v q acc gs gg facts (in_slot j) z =
        ⊎_elim
        (λ new. let e = pair_of _ _ new.1 in
        let f = facts (sym (ap (λ (x : Cell). x.1) e) ∙ z) in
        record {
          trace = record { from = q; tagged = f.0; less = subst (λ w. Less m w (at (after m s h) q).0) (sym (ap (λ (x : Cell). x.0) e)) f.1 };
          descends = taken m s h c (in_slot j) q n acc (gs j ∙ cond-true _ _ _ (eq-eqb j a new.0));
          clean = λ _. f.2;
          lies = tt;
        })
        (λ old. stays m s h c _ g (in_slot j) (pair_of _ _ old.1) (kept m s h c (in_slot j) n acc (gs j ∙ cond-false _ _ _ (ne_eqb j a old.0))) (λ k. k) z)
        (set_was (record { word = 0; tag = false }) (λ (x : Slot). x.tag) refl (after m s h).slots a j v z)
    slot_sources a n v q acc gs gg facts (in_granule i) z = stays m s h c _ g (in_granule i) refl (kept m s h c (in_granule i) n acc (gg i)) (λ k. k) z

  module _ (laws : Lawful m) where
    -- refused
    pub next_refused : (c : Call) (e : Refusal) → (step m (after m s h) c).answer ≡ Err e → Next m s h c (after m s h)
    next_refused c e q =
        quietly m s h c laws g (after m s h) (quiet_refused m s h c e q) refl refl g.shaped (λ p z. stays m s h c _ g p refl (kept_refused m s h c p e q) (λ k. k) z)

    -- load, whose and tally
    pub next_looks : (c : Call) (n : ℕ) → Looks c → Accepts m s h c n → Next m s h c (after m s h)
    next_looks c n l acc =
        quietly m s h c laws g (after m s h) (quiet_code m s h c (looks_code l)) refl refl g.shaped
        (λ p z. stays m s h c _ g p refl (kept m s h c p n acc (looks_gives m (after m s h) l n p)) (λ k. k) z)

    -- move, narrow and restrict
    pub next_derives : (c : Call) (a b : ℕ) (k l : Capability) (w : ℕ) → Derives c a b k l → tagged_in m (after m s h).slots b ≡ Ok k → written m l ≡ Ok w → Accepts m s h c 0
        → Next m s h c (with_slot (after m s h) a (record { word = w; tag = true }))
    next_derives c a b k l w d e wrote acc =
        quietly m s h c laws g _ (quiet_code m s h c (derived_code d)) refl refl (shaped_slots a _)
        (slot_sources c a 0 (record { word = w; tag = true }) (in_slot b) acc (derived_slot m (after m s h) d) (derived_granule m (after m s h) d)
        (λ _. (was.0, less, inl tt)))
      where
        was : ((slot (after m s h) b).tag ≡ true) × (m.capability (slot (after m s h) b).word ≡ Some k)
        was = was_tagged m (after m s h) b k e

        less : Less m w (slot (after m s h) b).word
        less x reads =
            let is : k ≡ x = same_capability _ k x was.1 reads in
            subst (Derived m w) is (record {
              capability = l;
              reads = laws.read_write l w (was_some (m.word l) NotCarried w wrote);
              within = derived_within d;
              rights = derived_rights d;
            })

    -- fetch
    pub next_fetches : (a b n : ℕ) (k : Capability) (i : ℕ) → tagged_in m (after m s h).slots b ≡ Ok k → pointed (after m s h).first k ≡ Ok i → Accepts m s h (Fetch a b) n
        → Next m s h (Fetch a b) (with_slot (after m s h) a (fetched m (after m s h) i))
    next_fetches a b n k i e points acc =
        quietly m s h (Fetch a b) laws g _ (quiet_code m s h (Fetch a b) refl) refl refl (shaped_slots a _)
        (slot_sources (Fetch a b) a n (fetched m (after m s h) i) (in_granule i) acc
        (λ j. ap (λ x. cond (eqb j a) (from_place (in_granule x)) nothing) is) (λ j. refl)
        (λ tagged. let f = spared_was m (after m s h).blocks _ _ tagged in (f.0, less_same m _ _ refl, inr f.1)))
      where
        is : target m (after m s h) b ≡ i
        is = ap (λ (x : Capability). granule_of (after m s h).first x.address) (used m (after m s h) b k e) ∙ (was_pointed (after m s h) k i points).2
