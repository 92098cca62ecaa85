-- What the records of a word store mean, and what they are once a granule is set.
use Rattle.std.specs.Prelude.{ℕ, ◌≤◌, min, Bool, cond, not, List, [], ◌∷◌, length, drop, ◌==◌, nat_lt, slice_index_or, slice_set}
use Rattle.std.proofs.Common.{arith}
use Rattle.std.specs.Borrow.{GName}
use mir.Val.{bool_byte}
use Rattle.store.specs.Cells.{Cell, Kept, listed, length_listed}
use Rattle.words.specs.declared.Granule.{Granule}

-- a record's word, and its tag: mark 0 is untagged, and any other is tagged
abbrev pub meaning : Granule → Cell
meaning g = (g.word, not (g.mark == 0))

-- record i
abbrev pub record_at : List Granule → ℕ → Granule
record_at gs i = slice_index_or gs i (record { word = 0; mark = 0 })

-- the largest count up to 8,192 that fits
abbrev pub fitting : List Granule → ℕ
fitting gs = min 8192 (length gs)

-- the word and the tag of each granule
abbrev pub record_cells : List Granule → List Cell
record_cells gs = listed (fitting gs) (λ i. meaning (record_at gs i))

-- the record of a word and a tag: mark 1 if tagged, and else 0
abbrev pub record_of : ℕ → Bool → Granule
record_of w t = record { word = w; mark = bool_byte t }

-- the records after a set of granule i: only record i is another, and where there is no such granule, none is
abbrev pub records_after : List Granule → ℕ → ℕ → Bool → List Granule
records_after gs i w t = cond (nat_lt i (fitting gs)) (slice_set gs i (record_of w t)) gs

-- the word and the mark of each record, one after the other
abbrev pub numbers : List Granule → List ℕ
numbers [] = []
numbers (g ∷ gs) = g.word ∷ g.mark ∷ numbers gs

-- what no call changes: the reference to the records, and the records behind the last granule
abbrev pub records_kept : GName → List Granule → Kept
records_kept granules gs = record { references = granules ∷ []; rest = numbers (drop (fitting gs) gs) }

-- there are at most 8,192
pub records_short : (gs : List Granule) → length (record_cells gs) ≤ 8192
records_short gs = omega (arith, length_listed (fitting gs) (λ i. meaning (record_at gs i)))
