-- What a store means: the number of its first granule, and the word and tag of each granule.
use Rattle.std.specs.Prelude.{◌≡◌, ℕ, zero, suc, ◌+◌, Bool, false, cond, List, map, length, Ok, Err, Result, nat_lt, slice_index_or, refl}
use Rattle.std.proofs.Common.{ap}
use Rattle.std.specs.Borrow.{GName}
use Rattle.std.proofs.lemmas.List.{length-map}
use Rattle.std.specs.List.{range_with_len}
use Rattle.capability.specs.declared.refusal.Refusal.{Refusal}
use Rattle.capability.specs.declared.refusal.Refusal.TheVariants.{NoSuchGranule}

-- a granule's word and its tag
abbrev pub Cell : Type 0
Cell = ℕ × Bool

-- granule i of the cells, and word 0, untagged, past the last
abbrev pub cell : List Cell → ℕ → Cell
cell cells i = slice_index_or cells i (0, false)

-- an answer where i is below the count, and else refusal 31
abbrev pub within : {A : Type 0} → List Cell → ℕ → A → Result A Refusal
within cells i answer = cond (nat_lt i (length cells)) (Ok answer) (Err NoSuchGranule)

-- What no call changes. By the references, the lender of a store's buffers knows that they are still the ones that are written;
-- by the rest, that nothing in them is written besides the granules.
pub record Kept : Type 0 where
  -- the names of the references that the store holds, its own before those of a store below it
  pub references : List GName
  -- what is behind them besides the granules, as numbers
  pub rest : List ℕ

-- the list of n cells of which f says each
unfoldable pub listed : ℕ → (ℕ → Cell) → List Cell
listed n f = map f (range_with_len 0 n)

length_counting : (a n : ℕ) → length (range_with_len a n) ≡ n
length_counting a zero = refl
length_counting a (suc n) = ap suc (length_counting (a + 1) n)

pub length_listed : (n : ℕ) (f : ℕ → Cell) → length (listed n f) ≡ n
unfolding listed
length_listed n f = simp (length-map, length_counting)
