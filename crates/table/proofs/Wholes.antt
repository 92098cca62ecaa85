-- Blocks that are whole, in a table that changes. Assumes nothing.
use Rattle.std.proofs.Common.{◌≡◌, ℕ, ◌≤◌, List, ◌++◌, take, drop, arith, length-take}
use Rattle.std.proofs.lemmas.List.Elements.{All-same, All-append, All-take, All-drop, All-map}
use Rattle.std.specs.List.{All}
use Rattle.plain.specs.Blocks.{Entry, in_state, opened_state}
use Rattle.plain.specs.Memory.{opened}
use Rattle.table.specs.Recorded.{Whole, Sound}

-- at most the first 64 of whole blocks are sound
pub sound_first : (n : ℕ) (bs : List Entry) → n ≤ 64 → All Whole bs → Sound (take n bs)
sound_first n bs l h = (omega (arith, length-take n bs), All-take Whole n bs h)

-- a sweep that opens leaves the bounds of a block
pub opened_whole : (n : ℕ) (bs es : List Entry) → es ≡ opened (take n bs) ++ drop n bs → All Whole bs → All Whole es
opened_whole n bs es e h =
    All-same Whole es _ e
    (All-append Whole _ _ (All-map Whole (λ (b : Entry). in_state b (opened_state b.state)) (take n bs) (All-take Whole n bs h)) (All-drop Whole n bs h))
