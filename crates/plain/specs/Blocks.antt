-- Blocks on record, and where a new one may stand.
use Rattle.std.specs.Prelude.{◌≡◌, ℕ, ◌+◌, ◌-◌, ◌%◌, Bool, true, false, ◌&&◌, ◌||◌, ◌⊎◌, List, [], ◌∷◌, length, Option, ◌==◌, nat_le, nat_lt, slice_index_or}
use Rattle.capability.specs.declared.types.Capability.{Capability}
use Rattle.plain.specs.declared.types.State.{State}
use Rattle.plain.specs.declared.types.State.TheVariants.{Live, Freed, Condemned}
use Rattle.plain.specs.Least.{least}

-- a block: its bytes are those from start to end - 1, its serial is what its allocate answered
pub record Entry : Type 0 where
  pub start : ℕ
  pub end : ℕ
  pub serial : ℕ
  pub state : State

-- a block stands in the table
abbrev pub Mem : Entry → List Entry → Type 0
Mem b [] = ⊥
Mem b (x ∷ xs) = (b ≡ x) ⊎ Mem b xs

-- the block at a place of the table
abbrev pub entry_at : List Entry → ℕ → Entry
entry_at bs i = slice_index_or bs i (record { start = 0; end = 0; serial = 0; state = Live })

-- the block holds the byte at x
abbrev pub holds : Entry → ℕ → Bool
holds b x = nat_le b.start x && nat_lt x b.end

-- the place of the block that holds the base of a capability, or none
abbrev pub lookup : List Entry → Capability → Option ℕ
lookup bs c = least (length bs) (λ i. holds (entry_at bs i) c.base)

-- how many bytes a block has
abbrev pub size_of : Entry → ℕ
size_of b = b.end - b.start

abbrev pub is_live : State → Bool
is_live Live = true
is_live Freed = false
is_live Condemned = false

abbrev pub is_freed : State → Bool
is_freed Live = false
is_freed Freed = true
is_freed Condemned = false

abbrev pub is_condemned : State → Bool
is_condemned Live = false
is_condemned Freed = false
is_condemned Condemned = true

-- a block in another state
abbrev pub in_state : Entry → State → Entry
in_state b st = record { start = b.start; end = b.end; serial = b.serial; state = st }

-- what becomes of a state when a sweep opens: freed turns condemned
abbrev pub opened_state : State → State
opened_state Live = Live
opened_state Freed = Condemned
opened_state Condemned = Condemned

-- the bounds are the whole block
abbrev pub is_whole : Capability → Entry → Bool
is_whole c b = c.base == b.start && c.top == b.end

-- none of the bytes from x to e - 1 is the block's
abbrev pub apart : ℕ → ℕ → Entry → Bool
apart x e b = nat_le e b.start || nat_le b.end x

abbrev pub apart_all : ℕ → ℕ → List Entry → Bool
apart_all x e [] = true
apart_all x e (b ∷ bs) = apart x e b && apart_all x e bs

-- so many bytes from x on would do for a new block: x is a multiple of the unit, they lie between low and high, and none is a block's, whatever its state
abbrev pub free_at : List Entry → ℕ → ℕ → ℕ → ℕ → ℕ → Bool
free_at bs low high unit size x = x % unit == 0 && (nat_le low x && (nat_le (x + size) high && apart_all x (x + size) bs))

-- the lowest such x
abbrev pub lowest_free : List Entry → ℕ → ℕ → ℕ → ℕ → Option ℕ
lowest_free bs low high unit size = least (high + 1) (free_at bs low high unit size)
