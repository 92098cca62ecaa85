-- The plain memory: its state, and what each call answers and leaves. m is the meaning of the format.
use Rattle.std.specs.Prelude.{◌≡◌, ℕ, ◌+◌, ◌-◌, ◌*◌, ◌/◌, ◌%◌, ◌^◌, ◌<◌, ◌≤◌, min, Bool, true, false, not, ◌&&◌, ◌||◌, List, [], ◌∷◌, ◌++◌, map, length, replicate, Some, None, Ok, Err, sum_by, count_by, filter, Option, Result, ◌==◌, bit_and, nat_le, nat_lt, slice_index_or, slice_set}
use Rattle.std.specs.Option.{ok_or}
use Rattle.capability.specs.declared.refusal.Refusal.{Refusal}
use Rattle.capability.specs.declared.refusal.Refusal.TheVariants.{NoSuchSlot, BadParameter, Untagged, MissingRight, Misaligned, OutOfBounds, NotLive, NotWholeBlock, TableFull, SerialsExhausted, NoRoom, SweepOpen, SweepShut, SweepUnfinished}
use Rattle.capability.specs.declared.types.Capability.{Capability}
use Rattle.capability.specs.declared.types.Right.{Right}
use Rattle.capability.specs.declared.types.Right.TheVariants.{LoadData, StoreData, LoadCapabilities, StoreCapabilities, Global, StoreLocal}
use Rattle.capability.specs.Formats.{Meaning, with_rights, over, rounded, written, reading, unit_for}
use Rattle.capability.specs.Rights.{has, all_rights}
use Rattle.store.specs.Cells.{Cell, cell}
use Rattle.stored_bytes.specs.Bytes.{number, byte, renewed, stored, blanked}
use Rattle.copying.specs.Copy.{copied, carried_count}
use Rattle.plain.specs.declared.types.Slot.{Slot}
use Rattle.plain.specs.declared.types.State.TheVariants.{Live, Freed}
use Rattle.plain.specs.declared.types.Sweep.{Sweep}
use Rattle.plain.specs.declared.types.Sweep.TheVariants.{Shut, Open}
use Rattle.plain.specs.Blocks.{Entry, entry_at, lookup, size_of, is_live, is_freed, is_condemned, in_state, opened_state, is_whole, lowest_free}

-- how many slots there are
abbrev pub slot_count : ℕ
slot_count = 16

-- how many blocks can be on record at a time
abbrev pub block_limit : ℕ
block_limit = 64

-- serials are below this
abbrev pub serial_limit : ℕ
serial_limit = 2 ^ 32

pub record Plain : Type 0 where
  -- the slots; a memory has slot_count of them (crates/slots/src/slots.rt)
  pub slots : List Slot
  -- the blocks on record; a memory has at most block_limit (crates/table/src/table.rt)
  pub blocks : List Entry
  -- the next serial
  pub next : ℕ
  -- shut, or open with a cursor
  pub sweep : Sweep
  -- the store: the number of its first granule, and its granules
  pub first : ℕ
  pub cells : List Cell

-- what a call answers, and what it leaves
pub record Outcome : Type 0 where
  pub answer : Result ℕ Refusal
  pub after : Plain

-- a memory just started over a store: no block, the sweep shut, every slot and granule word 0, untagged
abbrev pub started : ℕ → ℕ → ℕ → Plain
started first count serial = record {
  slots = replicate slot_count (record { word = 0; tag = false });
  blocks = [];
  next = serial;
  sweep = Shut;
  first = first;
  cells = replicate count (0, false);
}

-- a refusal leaves all as it was
abbrev pub refuse : Plain → Refusal → Outcome
refuse s e = record { answer = Err e; after = s }

abbrev pub accept : ℕ → Plain → Outcome
accept n s = record { answer = Ok n; after = s }

-- goes on where the test passes, and is refused else
abbrev pub demand : Bool → Refusal → Plain → Outcome → Outcome
demand true e s o = o
demand false e s o = refuse s e

-- goes on with what was found, and is refused else
abbrev pub given : {A : Type 0} → Result A Refusal → Plain → (A → Outcome) → Outcome
given (Ok a) s k = k a
given (Err e) s k = refuse s e

-- the same two for an answer alone
abbrev pub test : {A : Type 0} → Bool → Refusal → Result A Refusal → Result A Refusal
test true e r = r
test false e r = Err e

abbrev pub found : {A B : Type 0} → Result A Refusal → (A → Result B Refusal) → Result B Refusal
found (Ok a) k = k a
found (Err e) k = Err e

-- how many granules are usable: granule i is if it ends within the span, 8·(first + i) + 8 ≤ span
abbrev pub usable : Meaning → ℕ → List Cell → ℕ
usable m first cells = min (length cells) (m.span / 8 - first)

-- it counts them: granule i is below it exactly where the store has it and it ends within the span
abbrev pub CountsUsable : Type 0
CountsUsable = (m : Meaning) (first : ℕ) (cells : List Cell) (i : ℕ)
    → (i < usable m first cells → (i < length cells) × (8 * (first + i) + 8 ≤ m.span))
    × ((i < length cells) → 8 * (first + i) + 8 ≤ m.span → i < usable m first cells)

-- the granule, by its place in a store with this first granule, that has the byte at address x; for an address below the
-- store, which no capability of a program has, place 0
abbrev pub granule_of : ℕ → ℕ → ℕ
granule_of first x = x / 8 - first

-- slot a
abbrev pub slot_in : List Slot → ℕ → Slot
slot_in slots a = slice_index_or slots a (record { word = 0; tag = false })

abbrev pub slot : Plain → ℕ → Slot
slot s a = slot_in s.slots a

-- the capability in slot a, which is to be used: the slot is tagged, and its capability is what its word reads as
abbrev pub tagged_in : Meaning → List Slot → ℕ → Result Capability Refusal
tagged_in m slots a = test (slot_in slots a).tag Untagged (reading m (slot_in slots a).word)

-- n bytes from x on are all inside the bounds
abbrev pub inside : Capability → ℕ → ℕ → Bool
inside c x n = nat_le c.base x && nat_le (x + n) c.top

-- the state with other slots, blocks or granules
abbrev pub with_slot : Plain → ℕ → Slot → Plain
with_slot s a v = record { slots = slice_set s.slots a v; blocks = s.blocks; next = s.next; sweep = s.sweep; first = s.first; cells = s.cells }

abbrev pub with_blocks : Plain → List Entry → Plain
with_blocks s bs = record { slots = s.slots; blocks = bs; next = s.next; sweep = s.sweep; first = s.first; cells = s.cells }

abbrev pub with_cells : Plain → List Cell → Plain
with_cells s v = record { slots = s.slots; blocks = s.blocks; next = s.next; sweep = s.sweep; first = s.first; cells = v }

-- ALLOCATE

-- where a new block of so many bytes stands: at the lowest multiple of the unit where they are usable and overlap no block
abbrev pub room : Meaning → ℕ → List Cell → List Entry → ℕ → ℕ → Option ℕ
room m first cells blocks unit bytes = lowest_free blocks (8 * first) (8 * (first + usable m first cells)) unit bytes

-- the state once a block of so many bytes stands at x, its capability's word w in slot a: the block is live and has the next
-- serial, which rises by one, and its granules are word 0, untagged
abbrev pub with_block : Plain → ℕ → ℕ → ℕ → ℕ → Plain
with_block s a x size w = record {
  slots = slice_set s.slots a (record { word = w; tag = true });
  blocks = s.blocks ++ (record { start = x; end = x + size; serial = s.next; state = Live } ∷ []);
  next = s.next + 1;
  sweep = s.sweep;
  first = s.first;
  cells = blanked s.first s.cells x size;
}

-- slot a gets the capability over the whole block, its address at the start, with every right; the answer is the serial. The
-- last refusal is the format's and never comes: by the law of the unit the format carries this capability.
abbrev pub call_allocate : Meaning → Plain → ℕ → ℕ → Outcome
call_allocate m s a size =
    demand (nat_lt a slot_count) NoSuchSlot s
    (given (unit_for m size) s (λ unit.
    demand (nat_lt (length s.blocks) block_limit) TableFull s
    (demand (nat_lt s.next serial_limit) SerialsExhausted s
    (given (ok_or (room m s.first s.cells s.blocks unit (rounded size unit)) NoRoom) s (λ x.
    given (written m (over x (rounded size unit) all_rights)) s (λ w.
    accept s.next (with_block s a x (rounded size unit) w)))))))

-- FREE, WHOSE AND TALLY

-- the block of a capability that is freed or asked for; that there is none never comes, and counts as not live
abbrev pub block_place : Plain → Capability → Result ℕ Refusal
block_place s c = ok_or (lookup s.blocks c) NotLive

-- the block turns freed, if it is live and the capability is the whole of it, whatever its address and rights
abbrev pub call_free : Meaning → Plain → ℕ → Outcome
call_free m s a =
    demand (nat_lt a slot_count) NoSuchSlot s
    (given (tagged_in m s.slots a) s (λ c.
    given (block_place s c) s (λ i.
    demand (is_live (entry_at s.blocks i).state) NotLive s
    (demand (is_whole c (entry_at s.blocks i)) NotWholeBlock s
    (accept (entry_at s.blocks i).serial (with_blocks s (slice_set s.blocks i (in_state (entry_at s.blocks i) Freed))))))))

-- the serial of the block
abbrev pub call_whose : Meaning → Plain → ℕ → Outcome
call_whose m s a =
    demand (nat_lt a slot_count) NoSuchSlot s
    (given (tagged_in m s.slots a) s (λ c.
    given (block_place s c) s (λ i.
    accept (entry_at s.blocks i).serial s)))

-- the bytes summed over every block on record
abbrev pub call_tally : Plain → Outcome
call_tally s = accept (sum_by size_of s.blocks) s

-- MOVE, NARROW AND RESTRICT

-- slot a becomes a capability, if the format carries it
abbrev pub becomes : Meaning → Plain → ℕ → Capability → Outcome
becomes m s a c = given (written m c) s (λ w. accept 0 (with_slot s a (record { word = w; tag = true })))

-- b's capability with address x
abbrev pub call_move : Meaning → Plain → ℕ → ℕ → ℕ → Outcome
call_move m s a b x =
    demand (nat_lt a slot_count) NoSuchSlot s
    (demand (nat_lt b slot_count) NoSuchSlot s
    (given (tagged_in m s.slots b) s (λ c.
    becomes m s a (record { base = c.base; top = c.top; address = x; rights = c.rights }))))

-- b's capability with base and address x and top x + n, all inside its bounds
abbrev pub call_narrow : Meaning → Plain → ℕ → ℕ → ℕ → ℕ → Outcome
call_narrow m s a b x n =
    demand (nat_lt a slot_count) NoSuchSlot s
    (demand (nat_lt b slot_count) NoSuchSlot s
    (demand (nat_le 1 n) BadParameter s
    (given (tagged_in m s.slots b) s (λ c.
    demand (inside c x n) OutOfBounds s
    (becomes m s a (over x n c.rights))))))

-- b's capability with only those rights that are also in the mask
abbrev pub call_restrict : Meaning → Plain → ℕ → ℕ → ℕ → Outcome
call_restrict m s a b mask =
    demand (nat_lt a slot_count) NoSuchSlot s
    (demand (nat_lt b slot_count) NoSuchSlot s
    (demand (nat_le mask all_rights) BadParameter s
    (given (tagged_in m s.slots b) s (λ c.
    becomes m s a (with_rights c (bit_and c.rights mask))))))

-- LOAD AND STORE

-- loads and stores are 1, 2, 4 or 8 bytes wide
abbrev pub is_width : ℕ → Bool
is_width n = n == 1 || (n == 2 || (n == 4 || n == 8))

-- the address from which slot a may use n bytes with a right
abbrev pub access : Meaning → List Slot → ℕ → Right → ℕ → Result ℕ Refusal
access m slots a right n =
    test (nat_lt a slot_count) NoSuchSlot
    (test (is_width n) BadParameter
    (found (tagged_in m slots a) (λ c.
    test (has right c) MissingRight
    (test (inside c c.address n) OutOfBounds
    (Ok c.address)))))

-- the n bytes at the address, the lowest first
abbrev pub call_load : Meaning → Plain → ℕ → ℕ → Outcome
call_load m s a n = given (access m s.slots a LoadData n) s (λ x. accept (number (byte s.first s.cells) x n) s)

-- the low n bytes of v are written at the address, and each touched granule is untagged
abbrev pub call_store : Meaning → Plain → ℕ → ℕ → ℕ → Outcome
call_store m s a n v = given (access m s.slots a StoreData n) s (λ x. accept 0 (with_cells s (stored s.first s.cells x n v)))

-- FETCH AND PUT

-- there is a place, and the block at it is condemned
abbrev pub place_condemned : List Entry → Option ℕ → Bool
place_condemned bs None = false
place_condemned bs (Some i) = is_condemned (entry_at bs i).state

-- there is a capability, and the block that holds its base is condemned
abbrev pub capability_condemned : List Entry → Option Capability → Bool
capability_condemned bs None = false
capability_condemned bs (Some c) = place_condemned bs (lookup bs c)

-- a word's block is condemned: that of the capability that the word reads as
abbrev pub word_condemned : Meaning → List Entry → ℕ → Bool
word_condemned m bs w = capability_condemned bs (m.capability w)

-- a tag, but not that of a condemned block's word
abbrev pub spared : Meaning → List Entry → ℕ → Bool → Bool
spared m bs w tag = tag && not (word_condemned m bs w)

-- a word reads as a capability with the right global
abbrev pub capability_global : Option Capability → Bool
capability_global None = false
capability_global (Some c) = has Global c

abbrev pub is_global : Meaning → ℕ → Bool
is_global m w = capability_global (m.capability w)

-- the granule at a capability's address: a multiple of 8, its eight bytes inside the bounds
abbrev pub pointed : ℕ → Capability → Result ℕ Refusal
pointed first c =
    test (c.address % 8 == 0) Misaligned
    (test (inside c c.address 8) OutOfBounds
    (Ok (granule_of first c.address)))

abbrev pub truth : Bool → ℕ
truth true = 1
truth false = 0

-- the granule at b's address goes to slot a with its tag, but untagged if its word's block is condemned
abbrev pub fetched : Meaning → Plain → ℕ → Slot
fetched m s i = record { word = (cell s.cells i).0; tag = spared m s.blocks (cell s.cells i).0 (cell s.cells i).1 }

abbrev pub call_fetch : Meaning → Plain → ℕ → ℕ → Outcome
call_fetch m s a b =
    demand (nat_lt a slot_count) NoSuchSlot s
    (demand (nat_lt b slot_count) NoSuchSlot s
    (given (tagged_in m s.slots b) s (λ c.
    demand (has LoadCapabilities c) MissingRight s
    (given (pointed s.first c) s (λ i.
    accept (truth (fetched m s i).tag) (with_slot s a (fetched m s i)))))))

-- a capability that is tagged and not global may be stored only by the right to store local ones
abbrev pub may_put : Meaning → Capability → Slot → Bool
may_put m c v = not v.tag || (is_global m v.word || has StoreLocal c)

-- b's word and tag go to the granule at a's address
abbrev pub call_put : Meaning → Plain → ℕ → ℕ → Outcome
call_put m s a b =
    demand (nat_lt a slot_count) NoSuchSlot s
    (demand (nat_lt b slot_count) NoSuchSlot s
    (given (tagged_in m s.slots a) s (λ c.
    demand (has StoreCapabilities c && may_put m c (slot s b)) MissingRight s
    (given (pointed s.first c) s (λ i.
    accept 0 (with_cells s (slice_set s.cells i ((slot s b).word, (slot s b).tag))))))))

-- COPY

-- a tagged granule's word may be carried from b to a: b has the right to load capabilities and a the right to store them, the
-- word is global or a has the right to store local ones, and its block is not condemned
abbrev pub may_carry : Meaning → List Entry → Capability → Capability → ℕ → Bool
may_carry m bs ca cb w =
    has LoadCapabilities cb && (has StoreCapabilities ca && ((is_global m w || has StoreLocal ca) && not (word_condemned m bs w)))

-- n bytes from x on are bytes of the store. This is so of the bytes of every capability that a program has (in_usable of the
-- guarantee), so it refuses nothing there; a copy asks it all the same, since copying is defined on the bytes of the store.
abbrev pub in_store : ℕ → List Cell → ℕ → ℕ → Bool
in_store first cells x n = nat_le (8 * first) x && nat_le (x + n) (8 * (first + length cells))

-- a range of n bytes at a capability's address may be used; a range of none may, whatever the address
abbrev pub covered : ℕ → List Cell → Capability → ℕ → Bool
covered first cells c n = n == 0 || (inside c c.address n && in_store first cells c.address n)

-- n bytes go from b's address to a's; the answer is the number of granules carried
abbrev pub call_copy : Meaning → Plain → ℕ → ℕ → ℕ → Outcome
call_copy m s a b n =
    demand (nat_lt a slot_count) NoSuchSlot s
    (demand (nat_lt b slot_count) NoSuchSlot s
    (given (tagged_in m s.slots a) s (λ ca.
    given (tagged_in m s.slots b) s (λ cb.
    demand (has StoreData ca && has LoadData cb) MissingRight s
    (demand (covered s.first s.cells ca n && covered s.first s.cells cb n) OutOfBounds s
    (accept (carried_count (may_carry m s.blocks ca cb) s.first s.cells ca.address cb.address n)
    (with_cells s (copied (may_carry m s.blocks ca cb) s.first s.cells ca.address cb.address n))))))))

-- OPEN, ADVANCE AND CLOSE

abbrev pub is_shut : Sweep → Bool
is_shut Shut = true
is_shut (Open cursor) = false

-- the cursor of an open sweep
abbrev pub cursor_of : Sweep → Result ℕ Refusal
cursor_of Shut = Err SweepShut
cursor_of (Open cursor) = Ok cursor

-- freed blocks turn condemned
abbrev pub opened : List Entry → List Entry
opened bs = map (λ b. in_state b (opened_state b.state)) bs

-- a slot of a condemned block is untagged and keeps its word
abbrev pub cleaned : Meaning → List Entry → Slot → Slot
cleaned m bs v = record { word = v.word; tag = spared m bs v.word v.tag }

-- the answer is the number of blocks that turn condemned
abbrev pub call_open : Meaning → Plain → Outcome
call_open m s =
    demand (is_shut s.sweep) SweepOpen s
    (accept (count_by (λ b. is_freed b.state) s.blocks)
    (record {
      slots = map (cleaned m (opened s.blocks)) s.slots;
      blocks = opened s.blocks;
      next = s.next;
      sweep = Open 0;
      first = s.first;
      cells = s.cells;
    }))

-- a granule of a condemned block is untagged and keeps its word
abbrev pub swept : Meaning → List Entry → List Cell → ℕ → Cell
swept m bs cells i = ((cell cells i).0, spared m bs (cell cells i).0 (cell cells i).1)

-- how many granules are passed: n, or those that remain of the usable ones
abbrev pub passed : Meaning → Plain → ℕ → ℕ → ℕ
passed m s cursor n = min n (usable m s.first s.cells - cursor)

abbrev pub call_advance : Meaning → Plain → ℕ → Outcome
call_advance m s n =
    given (cursor_of s.sweep) s (λ cursor.
    accept (passed m s cursor n)
    (record {
      slots = s.slots;
      blocks = s.blocks;
      next = s.next;
      sweep = Open (cursor + passed m s cursor n);
      first = s.first;
      cells = renewed (swept m s.blocks s.cells) s.cells cursor (cursor + passed m s cursor n);
    }))

-- condemned blocks leave the record; the answer is their bytes
abbrev pub call_close : Meaning → Plain → Outcome
call_close m s =
    given (cursor_of s.sweep) s (λ cursor.
    demand (nat_le (usable m s.first s.cells) cursor) SweepUnfinished s
    (accept (sum_by size_of (filter (λ b. is_condemned b.state) s.blocks))
    (record {
      slots = s.slots;
      blocks = filter (λ b. not (is_condemned b.state)) s.blocks;
      next = s.next;
      sweep = Shut;
      first = s.first;
      cells = s.cells;
    })))

-- a call that answered r and left t did what is defined
abbrev pub Matches : Outcome → Result ℕ Refusal → Plain → Type 0
Matches o r t = ◌≡◌ {A = Outcome} (record { answer = r; after = t }) o
