-- What a copy of bytes leaves, over the cells of a store whose first granule has the number f. n bytes go from address b to
-- address a, as if all were read first.
use Rattle.std.specs.Prelude.{◌≡◌, ℕ, zero, suc, ◌+◌, ◌-◌, ◌*◌, ◌/◌, ◌%◌, ◌^◌, ◌<◌, Bool, false, cond, ◌&&◌, List, length, ◌==◌, nat_le}
use Rattle.store.specs.Cells.{Cell, cell}
use Rattle.stored_bytes.specs.Bytes.{number, byte, among, overlaid}

-- a test answers, on each word of 64 bits, what the function of words does
abbrev pub Computes : (ℕ → Bool → Type 0) → (ℕ → Bool) → Type 0
Computes post passes = (w : ℕ) (answer : Bool) → w < 2 ^ 64 → post w answer → answer ≡ passes w

-- the byte at x afterwards: in the range, the one that stood as far from b as x is from a
abbrev pub byte_after : ℕ → List Cell → ℕ → ℕ → ℕ → ℕ → ℕ
byte_after f cells a b n x = cond (among a n x) (byte f cells (x - a + b)) (byte f cells x)

-- granule i of the source is carried: the two addresses stand alike in their granules, all eight bytes of it are copied, and
-- it is tagged with a word that passes the test
abbrev pub carried : (ℕ → Bool) → ℕ → List Cell → ℕ → ℕ → ℕ → ℕ → Bool
carried passes f cells a b n i =
    (a % 8 == b % 8) && (nat_le b (8 * (f + i)) && (nat_le (8 * (f + i) + 8) (b + n) && ((cell cells i).1 && passes (cell cells i).0)))

-- the granule of the source that stands as far from b's as granule i from a's; this matters where a and b stand alike in theirs
abbrev pub source : ℕ → ℕ → ℕ → ℕ
source a b i = i + b / 8 - a / 8

-- granule i afterwards, where the bytes touch it: the granule carried there, or the bytes that then stand there, untagged
abbrev pub arriving : (ℕ → Bool) → ℕ → List Cell → ℕ → ℕ → ℕ → ℕ → Cell
arriving passes f cells a b n i =
    cond (carried passes f cells a b n (source a b i)) (cell cells (source a b i)) (number (byte_after f cells a b n) (8 * (f + i)) 8, false)

-- the cells afterwards
abbrev pub copied : (ℕ → Bool) → ℕ → List Cell → ℕ → ℕ → ℕ → List Cell
copied passes f cells a b n = overlaid (arriving passes f cells a b n) f cells a n

-- how many numbers below n pass a test
abbrev pub count : (ℕ → Bool) → ℕ → ℕ
count test zero = 0
count test (suc n) = cond (test n) 1 0 + count test n

-- how many granules are carried
abbrev pub carried_count : (ℕ → Bool) → ℕ → List Cell → ℕ → ℕ → ℕ → ℕ
carried_count passes f cells a b n = count (carried passes f cells a b n) (length cells)
