-- Free, open and close: blocks turn freed, turn condemned, and leave the record. Assumes nothing.
use Rattle.std.proofs.Common.{◌≡◌, ℕ, ◌-◌, ◌/◌, ◌<◌, min, Bool, true, false, cond, not, eqb, leb, List, ◌∷◌, length, set, Ok, sym, refl, ap, ◌∙◌, subst, inl, inr, arith}
use Rattle.std.proofs.lemmas.List.{length-map}
use Rattle.std.proofs.lemmas.Bool.{eqb-true, eqb-false, leb-true, not-true, not_from_false}
use Rattle.capability.specs.declared.refusal.Refusal.TheVariants.{NotLive}
use Rattle.capability.specs.declared.types.Capability.{Capability}
use Rattle.capability.specs.Formats.{Meaning, Lawful}
use Rattle.plain.specs.declared.types.Call.{Call}
use Rattle.plain.specs.declared.types.Call.TheVariants.{Free, Open, Close}
use Rattle.plain.specs.declared.types.State.{State}
use Rattle.plain.specs.declared.types.State.TheVariants.{Freed}
use Rattle.plain.specs.declared.types.Sweep.{Sweep}
use Rattle.plain.specs.Blocks.{Entry, Mem, entry_at, lookup, is_live, is_condemned, in_state, opened_state}
use Rattle.plain.specs.Memory.{Plain, usable, with_blocks, block_place, opened, cursor_of}
use Rattle.plain.specs.Guarantee.{Place, in_slot, in_granule, at, after, Accepts, BlockOf, ClosedAfter}
use Rattle.plain.specs.Guarantee as guarantee
use Rattle.plain.proofs.Did.{after_open, after_close}
use Rattle.plain.proofs.Facts.{was_some, was_open, spared_was, cleaned_at}
use Rattle.plain.proofs.Tables.{mem_kept, kept_mem, index_mem, Tidy, same_serial, tidy_kept, freeing, freed_by_serial, looked_up}
use Rattle.plain.proofs.Events.{same_answer, earlier, not_allocates, not_frees, not_opens, not_closes, kept, Status, status_kept, status_freed, status_opened, unopened, opened_since}
use Rattle.plain.proofs.Good.{pair_of, Passed, Clean, less_same, Standing, Found, Held, Good, Source, Next, stays, held_on, remade}

-- the state of a block after another, or it, was freed
freeing_live : (b : Bool) (st : State) → is_condemned st ≡ false → is_condemned (cond b Freed st) ≡ false
freeing_live true st e = refl
freeing_live false st e = e

module _ (m : Meaning) (s : Plain) (h : List Call) (g : Good m s h (after m s h)) where
  pub usable_same : usable m (after m s h).first (after m s h).cells ≡ usable m s.first s.cells
  usable_same = ap (λ x. min (length (after m s h).cells) (m.span / 8 - x)) g.shaped.first ∙ ap (λ x. min x (m.span / 8 - s.first)) g.shaped.granules

  -- free
  module _ (laws : Lawful m) (a : ℕ) (k : Capability) (i : ℕ) (place : block_place (after m s h) k ≡ Ok i) (live : is_live (entry_at (after m s h).blocks i).state ≡ true)
      (acc : Accepts m s h (Free a) (entry_at (after m s h).blocks i).serial) where
    abbrev freed : Entry
    freed = entry_at (after m s h).blocks i

    abbrev after_free : Plain
    after_free = with_blocks (after m s h) (set (after m s h).blocks i (in_state freed Freed))

    within : i < length (after m s h).blocks
    within = looked_up (after m s h).blocks k i (was_some (lookup (after m s h).blocks k) NotLive i place)

    recorded : Mem freed (after m s h).blocks
    recorded = index_mem (after m s h).blocks i within

    free_status : (b : Entry) → Mem b (after m s h).blocks → (v : Bool) → eqb b.serial freed.serial ≡ v → Status m s (Free a ∷ h) (cond v Freed b.state) b.serial
    free_status b hb true e =
        let same = eqb-true b.serial freed.serial e in
        let is = same_serial (after m s h).blocks g.tidy b freed hb recorded same in
        status_freed m s h (Free a) b.state b.serial (record { a = a; is = refl; accepted = acc ∙ ap Ok (sym same) }) (not_opens m s h (Free a) (λ z. omega arith))
        (ap (λ (x : Entry). is_live x.state) is ∙ live) (g.standing b hb).status
    free_status b hb false e =
        status_kept m s h (Free a) b.state b.serial (λ f. eqb-false _ _ e (same_answer _ _ _ f.accepted acc)) (not_opens m s h (Free a) (λ z. omega arith)) (g.standing b hb).status

    free_sources : (p : Place) → (at after_free p).1 ≡ true → Source m s h (Free a) (Clean (after m s h)) after_free p
    free_sources (in_slot j) z = stays m s h (Free a) _ g (in_slot j) refl (kept m s h (Free a) (in_slot j) _ acc refl) (λ x. x) z
    free_sources (in_granule j) z = stays m s h (Free a) _ g (in_granule j) refl (kept m s h (Free a) (in_granule j) _ acc refl) (λ x. x) z

    pub next_frees : Next m s h (Free a) after_free
    next_frees =
        remade m s h (Free a) laws g _ (Clean (after m s h)) (freeing freed.serial) (freed_by_serial (after m s h).blocks i g.tidy within) refl
        (record { first = g.shaped.first; granules = g.shaped.granules; slots = g.shaped.slots })
        (not_allocates m s h (Free a) (λ z. omega arith))
        (λ n f. let e = same_answer _ n freed.serial f.accepted acc in let l = g.used freed.serial _ (g.standing freed recorded).born in omega arith)
        (not_closes m s h (Free a) (λ z. omega arith))
        (λ b hb. free_status b hb _ refl)
        (λ b p alive clean. freeing_live (eqb b.serial freed.serial) b.state (alive clean))
        free_sources

  -- open
  module _ (laws : Lawful m) (n : ℕ) (acc : Accepts m s h Open n) where
    open_sources : (p : Place) → (at (after_open m (after m s h)) p).1 ≡ true → Source m s h Open (λ _. ⊥) (after_open m (after m s h)) p
    open_sources (in_slot j) z =
        let e = pair_of _ _ (cleaned_at m (opened (after m s h).blocks) (after m s h).slots j) in
        let was = spared_was m (opened (after m s h).blocks) _ _ (sym (ap (λ (x : ℕ × Bool). x.1) e) ∙ z) in
        record {
          trace = record { from = in_slot j; tagged = was.0; less = less_same m _ _ (ap (λ (x : ℕ × Bool). x.0) e) };
          descends = kept m s h Open (in_slot j) n acc refl;
          clean = λ _. inr was.1;
          lies = tt;
        }
    open_sources (in_granule i) z = record {
      trace = record { from = in_granule i; tagged = z; less = less_same m _ _ refl };
      descends = kept m s h Open (in_granule i) n acc refl;
      clean = λ l. absurd (omega arith);
      lies = (g.places (in_granule i) z).lies;
    }

    pub next_opens : Next m s h Open (after_open m (after m s h))
    next_opens =
        remade m s h Open laws g _ (λ _. ⊥) (λ b. opened_state b.state) refl refl
        (record { first = g.shaped.first; granules = g.shaped.granules; slots = length-map (after m s h).slots _ ∙ g.shaped.slots })
        (not_allocates m s h Open (λ z. omega arith))
        (λ x f. absurd (not_frees m s h Open (λ z. omega arith) x f))
        (not_closes m s h Open (λ z. omega arith))
        (λ b hb. status_opened m s h Open b.state b.serial (not_frees m s h Open (λ z. omega arith) b.serial) (record { is = refl; answer = n; accepted = acc }) (g.standing b hb).status)
        (λ b p alive none. absurd none)
        open_sources

  -- close
  module _ (laws : Lawful m) (n cursor : ℕ) (open_at : cursor_of (after m s h).sweep ≡ Ok cursor) (end : leb (usable m (after m s h).first (after m s h).cells) cursor ≡ true)
      (acc : Accepts m s h Close n) where
    abbrev spares : Entry → Bool
    spares b = not (is_condemned b.state)

    -- everything tagged has been passed
    all_passed : (p : Place) → (at (after m s h) p).1 ≡ true → Clean (after m s h) p
    all_passed (in_slot j) z = tt
    all_passed (in_granule i) z =
        let l = (g.places (in_granule i) z).lies in
        let e = leb-true _ _ end in
        let u = usable_same in
        subst (λ (w : Sweep). Passed w i) (sym (was_open _ cursor open_at)) (omega arith)

    close_sources : (p : Place) → (at (after_close (after m s h)) p).1 ≡ true → Source m s h Close (Clean (after m s h)) (after_close (after m s h)) p
    close_sources (in_slot j) z = stays m s h Close _ g (in_slot j) refl (kept m s h Close (in_slot j) n acc refl) (λ x. x) z
    close_sources (in_granule i) z = stays m s h Close _ g (in_granule i) refl (kept m s h Close (in_granule i) n acc refl) (λ _. all_passed (in_granule i) z) z

    close_standing : (b : Entry) → Mem b (after m s h).blocks → is_condemned b.state ≡ false → Standing m s (Close ∷ h) b
    close_standing b hb spared =
        let e = g.standing b hb in
        record {
          born = inr e.born;
          stands = elim [ inl d ↦ unopened m s h b.state b.serial e.status spared d.1 | inr d ↦ e.stands d ];
          status = status_kept m s h Close b.state b.serial (not_frees m s h Close (λ z. omega arith) b.serial) (not_opens m s h Close (λ z. omega arith)) e.status;
          low = e.low;
          high = e.high;
        }

    close_found : (x : ℕ) (k : Capability) (f : Found m s (after m s h).blocks x k) → (ClosedAfter m s x (Close ∷ h) → ⊥) → (v : Bool) → is_condemned f.block.state ≡ v
        → Found m s (after_close (after m s h)).blocks x k
    close_found x k f stands true e =
        absurd (stands (inl (
          record { is = refl; answer = n; accepted = acc },
          subst (λ y. guarantee.OpenedAfter m s y h) f.serial (opened_since m s h f.block.state f.block.serial (g.standing f.block f.recorded).status e),
        )))
    close_found x k f stands false e = record {
      block = f.block;
      recorded = kept_mem spares (after m s h).blocks f.block f.recorded (not_from_false _ e);
      serial = f.serial;
      start = f.start;
      end = f.end;
    }

    born : (x : ℕ) (k : Capability) → BlockOf m s x k (Close ∷ h) → BlockOf m s x k h
    born x k b = earlier _ _ Close h b (not_allocates m s h Close (λ z. omega arith) x k)

    tidy : Tidy (after_close (after m s h)).blocks
    tidy = tidy_kept spares (after m s h).blocks g.tidy

    close_places : (p : Place) → (at (after_close (after m s h)) p).1 ≡ true → Held m s (Close ∷ h) (after_close (after m s h)) p
    close_places p z =
        let f = close_sources p z in
        let d = g.places f.trace.from f.trace.tagged in
        let alive = d.alive (all_passed f.trace.from f.trace.tagged) in
        held_on m s h Close laws g _ (Clean (after m s h)) p f tidy d.owner (kept_mem spares (after m s h).blocks d.owner d.recorded (not_from_false _ alive)) d refl refl refl (λ _. alive)

    pub next_closes : Next m s h Close (after_close (after m s h))
    next_closes = record {
      good = record {
        shaped = record { first = g.shaped.first; granules = g.shaped.granules; slots = g.shaped.slots };
        tidy = tidy;
        standing = λ b hb. let r = mem_kept spares (after m s h).blocks b hb in close_standing b r.0 (not-true _ r.1);
        complete = λ x k b stands. close_found x k (g.complete x k (born x k b) (λ z. stands (inr z))) stands _ refl;
        used = λ x k b. g.used x k (born x k b);
        spent = λ x f. g.spent x (earlier _ _ Close h f (not_frees m s h Close (λ z. omega arith) x));
        single = λ x k l p q. g.single x k l (born x k p) (born x l q);
        places = close_places;
      };
      traced = λ p z. inl (close_sources p z).trace;
    }
