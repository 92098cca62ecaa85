-- What a call can have done, case by case. Assumes nothing.
use Rattle.std.proofs.Common.{◌≡◌, ℕ, ◌+◌, Bool, true, false, not, ◌&&◌, ltb, leb, map, set, Ok, Err, filter, Result, refl}
use lib.Bits.{bit_and}
use Rattle.std.specs.Option.{ok_or}
use Rattle.capability.specs.declared.refusal.Refusal.{Refusal}
use Rattle.capability.specs.declared.refusal.Refusal.TheVariants.{NoRoom}
use Rattle.capability.specs.declared.types.Capability.{Capability}
use Rattle.capability.specs.Formats.{Meaning, with_rights, over, rounded, written}
use Rattle.capability.specs.Rights.{all_rights}
use Rattle.stored_bytes.specs.Bytes.{stored, renewed}
use Rattle.copying.specs.Copy.{copied}
use Rattle.plain.specs.declared.types.Call.{Call}
use Rattle.plain.specs.declared.types.Call.TheVariants.{Allocate, Free, Move, Narrow, Restrict, Load, Store, Fetch, Put, Copy, Open, Advance, Close, Whose, Tally}
use Rattle.plain.specs.declared.types.State.TheVariants.{Freed}
use Rattle.plain.specs.declared.types.Sweep.TheVariants.{Shut}
use Rattle.plain.specs.Blocks.{entry_at, is_live, is_condemned, in_state}
use Rattle.plain.specs.Memory.{Plain, Outcome, refuse, accept, demand, given, slot_count, usable, slot, tagged_in, inside, with_slot, with_blocks, with_cells, room, with_block, block_place, fetched, pointed, may_carry, covered, cursor_of, opened, cleaned, swept, passed}
use Rattle.plain.specs.Step.{step}
use Rattle.plain.specs.declared.types.Sweep.TheVariants as sweeps

-- what open, advance and close leave
abbrev pub after_open : Meaning → Plain → Plain
after_open m s = record {
  slots = map (cleaned m (opened s.blocks)) s.slots;
  blocks = opened s.blocks;
  next = s.next;
  sweep = sweeps.Open 0;
  first = s.first;
  cells = s.cells;
}

abbrev pub after_advance : Meaning → Plain → ℕ → ℕ → Plain
after_advance m s cursor n = record {
  slots = s.slots;
  blocks = s.blocks;
  next = s.next;
  sweep = sweeps.Open (cursor + passed m s cursor n);
  first = s.first;
  cells = renewed (swept m s.blocks s.cells) s.cells cursor (cursor + passed m s cursor n);
}

abbrev pub after_close : Plain → Plain
after_close s = record {
  slots = s.slots;
  blocks = filter (λ b. not (is_condemned b.state)) s.blocks;
  next = s.next;
  sweep = Shut;
  first = s.first;
  cells = s.cells;
}

-- calls that change nothing
pub data Looks : Call → Type 0 where
  loads : {a width : ℕ} → Looks (Load a width)
  asks : {a : ℕ} → Looks (Whose a)
  tallies : Looks Tally

-- calls that make slot a's capability, the last, from slot b's
pub data Derives : Call → ℕ → ℕ → Capability → Capability → Type 0 where
  moves : {a b x : ℕ} {k : Capability} → Derives (Move a b x) a b k (record { base = k.base; top = k.top; address = x; rights = k.rights })
  narrows : {a b x n : ℕ} {k : Capability} → inside k x n ≡ true → Derives (Narrow a b x n) a b k (over x n k.rights)
  restricts : {a b mask : ℕ} {k : Capability} → Derives (Restrict a b mask) a b k (with_rights k (bit_and k.rights mask))

pub data Did (m : Meaning) (s : Plain) : Call → Outcome → Type 0 where
  refused : {c : Call} (e : Refusal) → Did m s c (refuse s e)
  looks : {c : Call} (n : ℕ) → Looks c → Did m s c (accept n s)
  allots : {a size : ℕ} (unit x w : ℕ) → ltb a slot_count ≡ true → ok_or (room m s.first s.cells s.blocks unit (rounded size unit)) NoRoom ≡ Ok x
      → written m (over x (rounded size unit) all_rights) ≡ Ok w → Did m s (Allocate a size) (accept s.next (with_block s a x (rounded size unit) w))
  frees : {a : ℕ} (k : Capability) (i : ℕ) → block_place s k ≡ Ok i → is_live (entry_at s.blocks i).state ≡ true
      → Did m s (Free a) (accept (entry_at s.blocks i).serial (with_blocks s (set s.blocks i (in_state (entry_at s.blocks i) Freed))))
  derives : {c : Call} {a b : ℕ} {k l : Capability} (w : ℕ) → Derives c a b k l → tagged_in m s.slots b ≡ Ok k → written m l ≡ Ok w
      → Did m s c (accept 0 (with_slot s a (record { word = w; tag = true })))
  stores : {a n v : ℕ} (x : ℕ) → Did m s (Store a n v) (accept 0 (with_cells s (stored s.first s.cells x n v)))
  fetches : {a b : ℕ} (n : ℕ) (k : Capability) (i : ℕ) → tagged_in m s.slots b ≡ Ok k → pointed s.first k ≡ Ok i → Did m s (Fetch a b) (accept n (with_slot s a (fetched m s i)))
  puts : {a b : ℕ} (k : Capability) (i : ℕ) → tagged_in m s.slots a ≡ Ok k → pointed s.first k ≡ Ok i
      → Did m s (Put a b) (accept 0 (with_cells s (set s.cells i ((slot s b).word, (slot s b).tag))))
  copies : {a b n : ℕ} (count : ℕ) (k l : Capability) → tagged_in m s.slots a ≡ Ok k → tagged_in m s.slots b ≡ Ok l → (covered s.first s.cells k n && covered s.first s.cells l n) ≡ true
      → Did m s (Copy a b n) (accept count (with_cells s (copied (may_carry m s.blocks k l) s.first s.cells k.address l.address n)))
  opens : (n : ℕ) → Did m s Open (accept n (after_open m s))
  advances : {n : ℕ} (count cursor : ℕ) → cursor_of s.sweep ≡ Ok cursor → Did m s (Advance n) (accept count (after_advance m s cursor n))
  closes : (n cursor : ℕ) → cursor_of s.sweep ≡ Ok cursor → leb (usable m s.first s.cells) cursor ≡ true → Did m s Close (accept n (after_close s))

demand_did : {m : Meaning} {s : Plain} {c : Call} (b : Bool) (e : Refusal) (o : Outcome) → (b ≡ true → Did m s c o) → Did m s c (demand b e s o)
demand_did true e o k = k refl
demand_did false e o k = refused e

given_did : {A : Type 0} {m : Meaning} {s : Plain} {c : Call} (r : Result A Refusal) (k : A → Outcome) → ((a : A) → r ≡ Ok a → Did m s c (k a)) → Did m s c (given r s k)
given_did (Ok a) k f = f a refl
given_did (Err e) k f = refused e

pub did : (m : Meaning) (s : Plain) (c : Call) → Did m s c (step m s c)
unfolding step
did m s (Allocate a size) = search (demand_did, given_did, allots) depth 20
did m s (Free a) = search (demand_did, given_did, frees) depth 16
did m s (Move a b x) = search (demand_did, given_did, derives, moves) depth 16
did m s (Narrow a b x n) = search (demand_did, given_did, derives, narrows) depth 16
did m s (Restrict a b mask) = search (demand_did, given_did, derives, restricts) depth 16
did m s (Load a width) = search (given_did, looks, loads) depth 12
did m s (Store a n v) = search (given_did, stores) depth 12
did m s (Fetch a b) = search (demand_did, given_did, fetches) depth 16
did m s (Put a b) = search (demand_did, given_did, puts) depth 16
did m s (Copy a b n) = search (demand_did, given_did, copies) depth 16
did m s Open = search (demand_did, opens) depth 12
did m s (Advance n) = search (given_did, advances) depth 12
did m s Close = search (demand_did, given_did, closes) depth 12
did m s (Whose a) = search (demand_did, given_did, looks, asks) depth 12
did m s Tally = looks _ tallies
