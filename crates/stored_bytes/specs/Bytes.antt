-- The bytes that a store's granules hold, and what writing bytes leaves. f is the number of the first granule.
use Rattle.std.specs.Prelude.{ℕ, zero, suc, ◌+◌, ◌-◌, ◌*◌, ◌/◌, ◌%◌, ◌^◌, min, max, Bool, false, cond, ◌&&◌, List, length, nat_le, nat_lt}
use Rattle.store.specs.Cells.{Cell, cell, listed}

-- g 0 + g 1 + .. + g (n - 1)
abbrev pub total : ℕ → (ℕ → ℕ) → ℕ
total zero g = 0
total (suc n) g = total n g + g n

-- the number that the n bytes from address x on make, the lowest first
abbrev pub number : (ℕ → ℕ) → ℕ → ℕ → ℕ
number byte_at x n = total n (λ k. byte_at (x + k) * 256 ^ k)

-- byte j of a number, 0 the lowest
abbrev pub byte_of : ℕ → ℕ → ℕ
byte_of w j = w / 256 ^ j % 256

-- the byte at address x: granule i has the addresses 8·(f + i) to 8·(f + i) + 7. Past the store it is 0; below the store, where
-- no capability of a program reaches, it is one of granule 0.
abbrev pub byte : ℕ → List Cell → ℕ → ℕ
byte f cells x = byte_of (cell cells (x / 8 - f)).0 (x % 8)

-- x is one of the n addresses from a on
abbrev pub among : ℕ → ℕ → ℕ → Bool
among a n x = nat_le a x && nat_lt x (a + n)

-- some byte of granule number g is one of the n from a on
abbrev pub touched : ℕ → ℕ → ℕ → Bool
touched a n g = nat_lt (max a (8 * g)) (min (a + n) (8 * g + 8))

-- granules low to high - 1 are new, and the others are as they were
abbrev pub renewed : (ℕ → Cell) → List Cell → ℕ → ℕ → List Cell
renewed new cells low high = listed (length cells) (λ i. cond (nat_le low i && nat_lt i high) (new i) (cell cells i))

-- each granule that the n bytes from a on touch is new, and the others are as they were
abbrev pub overlaid : (ℕ → Cell) → ℕ → List Cell → ℕ → ℕ → List Cell
overlaid new f cells a n = listed (length cells) (λ i. cond (touched a n (f + i)) (new i) (cell cells i))

-- the byte at x once the low n bytes of v stand from a on
abbrev pub written : (ℕ → ℕ) → ℕ → ℕ → ℕ → ℕ → ℕ
written old a n v x = cond (among a n x) (byte_of v (x - a)) (old x)

-- once the low n bytes of v stand from a on: a touched granule has the bytes that then stand there, and is untagged
abbrev pub stored : ℕ → List Cell → ℕ → ℕ → ℕ → List Cell
stored f cells a n v = overlaid (λ i. (number (written (byte f cells) a n v) (8 * (f + i)) 8, false)) f cells a n

-- the granules of the n bytes from a on are word 0, untagged
abbrev pub blanked : ℕ → List Cell → ℕ → ℕ → List Cell
blanked f cells a n = overlaid (λ i. (0, false)) f cells a n
