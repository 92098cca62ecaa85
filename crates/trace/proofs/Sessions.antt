-- The granules of a run.
use Rattle.std.proofs.Common.{◌≡◌, ℕ, ◌+◌, ◌*◌, ◌/◌, ◌%◌, ◌≤◌, min, List, length, Result, ◌∙◌, subst, arith}
use Rattle.capability.specs.Formats.{Meaning}
use Rattle.store.specs.Cells.{length_listed}
use Rattle.flat.specs.Flat.{word_at, tag_at, fitting, flat_cells}
use Rattle.words.specs.Records.{meaning, record_at, record_cells}
use Rattle.words.specs.Records as records
use Rattle.words.specs.declared.Granule.{Granule}
use Rattle.trace.specs.Run.{session, Appends}

pub flat_count : (bytes tags : List ℕ) (n : ℕ) → n ≤ 8192 → length bytes ≡ 8 * n → length tags ≡ n / 8 + min 1 (n % 8) →
    length (flat_cells bytes tags) ≡ n
flat_count bytes tags n few b t =
    length_listed (fitting bytes tags) (λ i. (word_at bytes i, tag_at tags i)) ∙ omega arith

pub records_count : (gs : List Granule) (n : ℕ) → n ≤ 8192 → length gs ≡ n → length (record_cells gs) ≡ n
records_count gs n few e = length_listed (records.fitting gs) (λ i. meaning (record_at gs i)) ∙ omega arith

-- a run over so many granules
pub counted : {X Y : Type 0} (r : Result X Y) (m : Meaning) (first k n : ℕ) (out all : List ℕ) (ls : List (List ℕ)) → k ≡ n →
    Appends r out all (session m first k ls) → Appends r out all (session m first n ls)
counted r m first k n out all ls e h = subst (λ j. Appends r out all (session m first j ls)) e h
