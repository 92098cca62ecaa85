-- What holds after every list of calls. A history is such a list, its last call first.
use Rattle.std.specs.Prelude.{◌≡◌, ℕ, ◌+◌, ◌*◌, ◌<◌, ◌≤◌, Bool, true, cond, ◌&&◌, ◌⊎◌, List, [], ◌∷◌, Some, None, Ok, Err, Option, Result, ◌==◌, ◌≢◌}
use Rattle.std.specs.Option.{unwrap_or}
use Rattle.capability.specs.declared.refusal.Refusal.{Refusal}
use Rattle.capability.specs.declared.types.Capability.{Capability}
use Rattle.capability.specs.declared.types.Right.{Right}
use Rattle.capability.specs.Formats.{Meaning, Lawful, over}
use Rattle.capability.specs.Rights.{has}
use Rattle.store.specs.Cells.{Cell, cell}
use Rattle.stored_bytes.specs.Bytes.{touched}
use Rattle.copying.specs.Copy.{carried, source}
use Rattle.plain.specs.declared.types.Call.{Call}
use Rattle.plain.specs.declared.types.Call.TheVariants.{Allocate, Free, Move, Narrow, Restrict, Load, Store, Fetch, Put, Copy, Open, Advance, Close, Whose, Tally}
use Rattle.plain.specs.Blocks.{Entry, Mem}
use Rattle.plain.specs.Memory.{Plain, slot, started, granule_of, usable, may_carry}
use Rattle.plain.specs.Step.{step}

-- where a word and its tag can stand: in a slot, or in a granule of the store
pub data Place : Type 0 where
  in_slot : ℕ → Place
  in_granule : ℕ → Place

abbrev pub at : Plain → Place → Cell
at s (in_slot i) = ((slot s i).word, (slot s i).tag)
at s (in_granule i) = cell s.cells i

-- what an accepted call gives a place: descent from a new block, or the descent of another place
pub data Gift : Type 0 where
  from_block : ℕ → Gift
  from_place : Place → Gift
  nothing : Gift

-- the capability in slot a, as an accepted call that uses it has it
abbrev pub in_use : Meaning → Plain → ℕ → Capability
in_use m s a = unwrap_or (m.capability (slot s a).word) (over 0 0 0)

-- the granule at the address of slot a's capability
abbrev pub target : Meaning → Plain → ℕ → ℕ
target m s a = granule_of s.first (in_use m s a).address

-- a copy of n bytes from slot b's address to slot a's carries a granule to granule i
abbrev pub arrives : Meaning → Plain → ℕ → ℕ → ℕ → ℕ → Bool
arrives m s a b n i =
    touched (in_use m s a).address n (s.first + i)
    && carried (may_carry m s.blocks (in_use m s a) (in_use m s b)) s.first s.cells (in_use m s a).address (in_use m s b).address n
    (source (in_use m s a).address (in_use m s b).address i)

-- what an accepted call gives a place, by the state before it and its answer n. The slot of an allocate descends from block n.
-- Slot a takes over the descent of slot b in a move, a narrow and a restrict, and that of the granule in a fetch; a granule
-- that of the slot in a put, and that of the granule carried to it in a copy. No other call gives descent to any place.
abbrev pub gives : Meaning → Plain → Call → ℕ → Place → Gift
gives m s (Allocate a size) n (in_slot i) = cond (i == a) (from_block n) nothing
gives m s (Allocate a size) n (in_granule i) = nothing
gives m s (Free a) n p = nothing
gives m s (Move a b address) n (in_slot i) = cond (i == a) (from_place (in_slot b)) nothing
gives m s (Move a b address) n (in_granule i) = nothing
gives m s (Narrow a b base length) n (in_slot i) = cond (i == a) (from_place (in_slot b)) nothing
gives m s (Narrow a b base length) n (in_granule i) = nothing
gives m s (Restrict a b mask) n (in_slot i) = cond (i == a) (from_place (in_slot b)) nothing
gives m s (Restrict a b mask) n (in_granule i) = nothing
gives m s (Load a width) n p = nothing
gives m s (Store a width value) n p = nothing
gives m s (Fetch a b) n (in_slot i) = cond (i == a) (from_place (in_granule (target m s b))) nothing
gives m s (Fetch a b) n (in_granule i) = nothing
gives m s (Put a b) n (in_slot i) = nothing
gives m s (Put a b) n (in_granule i) = cond (i == target m s a) (from_place (in_slot b)) nothing
gives m s (Copy a b length) n (in_slot i) = nothing
gives m s (Copy a b length) n (in_granule i) =
    cond (arrives m s a b length i) (from_place (in_granule (source (in_use m s a).address (in_use m s b).address i))) nothing
gives m s Open n p = nothing
gives m s (Advance count) n p = nothing
gives m s Close n p = nothing
gives m s (Whose a) n p = nothing
gives m s Tally n p = nothing

-- a refused call gives nothing
abbrev pub gift : Meaning → Plain → Result ℕ Refusal → Call → Place → Gift
gift m s (Ok n) c p = gives m s c n p
gift m s (Err e) c p = nothing

abbrev pub follow : Gift → (Place → Option ℕ) → Place → Option ℕ
follow (from_block n) before p = Some n
follow (from_place q) before p = before q
follow nothing before p = before p

-- at some point of the history, an event E happened, and P held right before it. An event is told by what came before a call,
-- and the call.
abbrev pub After : (List Call → Type 0) → (List Call → Call → Type 0) → List Call → Type 0
After P E [] = ⊥
After P E (c ∷ h) = (E h c × P h) ⊎ After P E h

-- an event happened
abbrev pub Once : (List Call → Call → Type 0) → List Call → Type 0
Once E = After (λ h. Unit {0}) E

-- a capability covers the bytes from its base to top - 1
abbrev pub Covers : Capability → ℕ → Type 0
Covers c x = (c.base ≤ x) × (x < c.top)

-- all bytes of c are bytes of b
abbrev pub Within : Capability → Capability → Type 0
Within c b = (b.base ≤ c.base) × (c.top ≤ b.top)

-- m is the meaning of the format, and s the state that the history begins in
module _ (m : Meaning) (s : Plain) where
  -- the state after a history
  abbrev pub after : List Call → Plain
  after [] = s
  after (c ∷ h) = (step m (after h) c).after

  -- the call c, made after h, is accepted with this answer
  abbrev pub Accepts : List Call → Call → ℕ → Type 0
  Accepts h c n = (step m (after h) c).answer ≡ Ok n

  -- the block, by its serial, from whose allocate a place descends: a place keeps only the last descent given to it
  abbrev pub descent : List Call → Place → Option ℕ
  descent [] p = None
  descent (c ∷ h) p = follow (gift m (after h) (step m (after h) c).answer c p) (descent h) p

  -- a tagged place holds the capability that its word reads as
  abbrev pub Holds : List Call → Place → Capability → Type 0
  Holds h p k = ((at (after h) p).1 ≡ true) × (m.capability (at (after h) p).0 ≡ Some k)

  -- c is an allocate that answers n, and k is the capability that it leaves in its slot
  pub record Allocates (n : ℕ) (k : Capability) (h : List Call) (c : Call) : Type 0 where
    pub a : ℕ
    pub size : ℕ
    pub is : c ≡ Allocate a size
    pub accepted : Accepts h c n
    pub left : Holds (c ∷ h) (in_slot a) k

  -- c is a free that answers n
  pub record Frees (n : ℕ) (h : List Call) (c : Call) : Type 0 where
    pub a : ℕ
    pub is : c ≡ Free a
    pub accepted : Accepts h c n

  -- c opens a sweep
  pub record Opens (h : List Call) (c : Call) : Type 0 where
    pub is : c ≡ Open
    pub answer : ℕ
    pub accepted : Accepts h c answer

  -- c closes the sweep that is open
  pub record Closes (h : List Call) (c : Call) : Type 0 where
    pub is : c ≡ Close
    pub answer : ℕ
    pub accepted : Accepts h c answer

  -- block n is the one whose allocate answered n, and its bytes are those of the capability k
  abbrev pub BlockOf : ℕ → Capability → List Call → Type 0
  BlockOf n k = Once (Allocates n k)

  -- block n was freed
  abbrev pub Freed : ℕ → List Call → Type 0
  Freed n = Once (Frees n)

  -- a sweep opened after block n was freed
  abbrev pub OpenedAfter : ℕ → List Call → Type 0
  OpenedAfter n = After (Freed n) Opens

  -- a sweep that opened after block n was freed has closed
  abbrev pub ClosedAfter : ℕ → List Call → Type 0
  ClosedAfter n = After (OpenedAfter n) Closes

  -- block n is on record, with the bytes of k: it was allocated, and no sweep that opened after it was freed has closed
  pub record OnRecord (n : ℕ) (k : Capability) (h : List Call) : Type 0 where
    pub born : BlockOf n k h
    pub stands : ClosedAfter n h → ⊥

  -- the place holds a capability that lies wholly inside exactly one block on record, the one from whose allocate it descends
  pub record Owned (h : List Call) (p : Place) : Type 0 where
    pub capability : Capability
    pub holds : Holds h p capability
    pub serial : ℕ
    pub bytes : Capability
    pub recorded : OnRecord serial bytes h
    pub inside : Within capability bytes
    pub descends : descent h p ≡ Some serial
    pub only : (n : ℕ) (k : Capability) → OnRecord n k h → Within capability k → n ≡ serial

  -- reach: some tagged capability, in a slot or granule, covers the byte x and has the right r
  pub record Reaches (h : List Call) (x : ℕ) (r : Right) : Type 0 where
    pub place : Place
    pub capability : Capability
    pub holds : Holds h place capability
    pub covers : Covers capability x
    pub permits : has r capability ≡ true

  -- the guarantee
  pub record Safe (h : List Call) : Type 0 where
    -- every tagged slot and granule holds a capability inside exactly one block on record, the one that it descends from
    pub owned : (p : Place) → (at (after h) p).1 ≡ true → Owned h p
    -- for every sweep closed by then, nothing tagged descends from a block that was freed before that sweep opened
    pub revoked : (n : ℕ) → ClosedAfter n h → (p : Place) → (at (after h) p).1 ≡ true → descent h p ≢ Some n
    -- whatever call comes next, what is then in reach was in reach before, or is a byte of the block that the call allocated
    pub grows : (c : Call) (x : ℕ) (r : Right) → Reaches (c ∷ h) x r → Reaches h x r ⊎ ((n : ℕ) × (k : Capability) × Allocates n k h c × Covers k x)
    -- allocates that answered the same serial have the same bytes: the bounds of each lie within the other's
    pub one_block : (n : ℕ) (k l : Capability) → BlockOf n k h → BlockOf n l h → Within k l
    -- the bytes of every block on record are bytes of usable granules
    pub in_usable : (n : ℕ) (k : Capability) → OnRecord n k h → (8 * s.first ≤ k.base) × (k.top ≤ 8 * (s.first + usable m s.first s.cells))
    -- every block on record stands in the table, with its serial and its bytes
    pub in_table : (n : ℕ) (k : Capability) → OnRecord n k h → (b : Entry) × Mem b (after h).blocks × (b.serial ≡ n) × (b.start ≡ k.base) × (b.end ≡ k.top)
    -- and every block of the table is on record
    pub of_table : (b : Entry) → Mem b (after h).blocks → (k : Capability) × OnRecord b.serial k h × (k.base ≡ b.start) × (k.top ≡ b.end)

-- for every format that shows its laws, every store, every first serial and every history
abbrev pub AlwaysSafe : Type 0
AlwaysSafe = (m : Meaning) → Lawful m → (first count serial : ℕ) (h : List Call) → Safe m (started first count serial) h
