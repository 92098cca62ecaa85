-- What the two buffers of a flat store mean, and what they hold once a granule is set.
use Rattle.std.specs.Prelude.{ℕ, zero, suc, ◌+◌, ◌-◌, ◌*◌, ◌/◌, ◌%◌, ◌^◌, ◌≤◌, min, Bool, cond, List, [], ◌∷◌, ◌++◌, map, length, drop, ◌==◌, nat_lt, slice_index, slice_set}
use Rattle.std.proofs.Common.{arith}
use Rattle.std.specs.Borrow.{GName}
use mir.Val.{bool_byte}
use Rattle.std.specs.List.{range_with_len}
use Rattle.store.specs.Cells.{Cell, Kept, listed, length_listed}

-- the sum of what f says of each number below n
abbrev pub total : ℕ → (ℕ → ℕ) → ℕ
total zero f = 0
total (suc n) f = total n f + f n

-- the word of granule i: the bytes 8i to 8i + 7, the lowest first
abbrev pub word_at : List ℕ → ℕ → ℕ
word_at bytes i = total 8 (λ k. slice_index bytes (8 * i + k) * 256 ^ k)

-- bit k of a byte
abbrev pub bit : ℕ → ℕ → ℕ
bit b k = b / 2 ^ k % 2

-- tag bit i: bit i modulo 8 of tag byte i / 8
abbrev pub tag_bit : List ℕ → ℕ → ℕ
tag_bit tags i = bit (slice_index tags (i / 8)) (i % 8)

-- the tag of granule i: tag bit i is 1
abbrev pub tag_at : List ℕ → ℕ → Bool
tag_at tags i = tag_bit tags i == 1

-- the largest count up to 8,192 that fits both buffers
abbrev pub fitting : List ℕ → List ℕ → ℕ
fitting bytes tags = min 8192 (min (length bytes / 8) (length tags * 8))

-- the word and the tag of each granule
abbrev pub flat_cells : List ℕ → List ℕ → List Cell
flat_cells bytes tags = listed (fitting bytes tags) (λ i. (word_at bytes i, tag_at tags i))

-- the bytes with the word of granule i changed to w: its bytes are those of w, the lowest first, and every other is as it was
unfoldable pub with_word : List ℕ → ℕ → ℕ → List ℕ
with_word bytes i w =
    map (λ p. cond (p / 8 == i) (w / 256 ^ (p % 8) % 256) (slice_index bytes p)) (range_with_len 0 (length bytes))

-- the byte with bit k changed to v
abbrev pub with_bit : ℕ → ℕ → ℕ → ℕ
with_bit b k v = b - bit b k * 2 ^ k + v * 2 ^ k

-- the tags with that of granule i changed to t
abbrev pub with_tag : List ℕ → ℕ → Bool → List ℕ
with_tag tags i t = slice_set tags (i / 8) (with_bit (slice_index tags (i / 8)) (i % 8) (bool_byte t))

-- what the buffers hold after a set of granule i: where there is no such granule, what they held
abbrev pub data_after : List ℕ → List ℕ → ℕ → ℕ → List ℕ
data_after bytes tags i w = cond (nat_lt i (fitting bytes tags)) (with_word bytes i w) bytes

abbrev pub tags_after : List ℕ → List ℕ → ℕ → Bool → List ℕ
tags_after bytes tags i t = cond (nat_lt i (fitting bytes tags)) (with_tag tags i t) tags

-- what the buffers hold besides n granules: the bytes behind the last granule, and the tag bits behind its tag
unfoldable pub left_over : ℕ → List ℕ → List ℕ → List ℕ
left_over n bytes tags = drop (8 * n) bytes ++ map (tag_bit tags) (range_with_len n (8 * length tags - n))

-- what no call changes: the references to the buffers, and what they hold besides the granules
abbrev pub flat_kept : GName → GName → List ℕ → List ℕ → Kept
flat_kept data_name tags_name bytes tags = record {
  references = data_name ∷ tags_name ∷ [];
  rest = left_over (fitting bytes tags) bytes tags;
}

-- there are at most 8,192
pub flat_short : (bytes tags : List ℕ) → length (flat_cells bytes tags) ≤ 8192
flat_short bytes tags = omega (arith, length_listed (fitting bytes tags) (λ i. (word_at bytes i, tag_at tags i)))
