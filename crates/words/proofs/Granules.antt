-- The granules of the records: one that is set, and the others as they were. Assumes nothing.
use Rattle.std.proofs.Common.{◌≡◌, ℕ, ◌<◌, Bool, true, false, not, eqb, List, [], ◌∷◌, length, drop, set, refl, ap, ◌∙◌, arith}
use base.Fml.{GName}
use mir.Val.{bool_byte}
use Rattle.std.proofs.lemmas.List.{length-set, get_or-set_same, get_or-set_other, drop-set-lt}
use Rattle.store.specs.Cells.{listed, length_listed}
use Rattle.store.proofs.Listed.{set_listed}
use Rattle.words.specs.declared.Granule.{Granule}
use Rattle.words.specs.Records.{meaning, record_at, fitting, record_cells, record_of, numbers, records_kept}

pub length_records : (gs : List Granule) → length (record_cells gs) ≡ fitting gs
length_records gs = length_listed _ _

mark_tag : (t : Bool) → not (eqb (bool_byte t) 0) ≡ t
mark_tag true = refl
mark_tag false = refl

pub records_set : (gs : List Granule) (i w : ℕ) (t : Bool) → i < length gs
    → record_cells (set gs i (record_of w t)) ≡ set (record_cells gs) i (w, t)
records_set gs i w t h =
    let none : Granule = record { word = 0; mark = 0 } in
    let n : fitting (set gs i (record_of w t)) ≡ fitting gs = omega (arith, length-set gs i (record_of w t)) in
    ap (λ m. listed m (λ k. meaning (record_at (set gs i (record_of w t)) k))) n
    ∙ set_listed (fitting gs) (λ k. meaning (record_at gs k)) (λ k. meaning (record_at (set gs i (record_of w t)) k)) i (w, t)
    (ap meaning (get_or-set_same gs i (record_of w t) none h) ∙ ap (λ b. (w, b)) (mark_tag t))
    (λ k l ne. ap meaning (get_or-set_other gs i k (record_of w t) none ne))

-- a record below the count is set: those behind stay
pub records_kept_lem : (name : GName) (gs : List Granule) (i : ℕ) (g : Granule) → i < fitting gs → records_kept name (set gs i g) ≡ records_kept name gs
records_kept_lem name gs i g h =
    let n : fitting (set gs i g) ≡ fitting gs = omega (arith, length-set gs i g) in
    let behind : drop (fitting (set gs i g)) (set gs i g) ≡ drop (fitting gs) gs =
    ap (λ m. drop m (set gs i g)) n ∙ drop-set-lt (fitting gs) gs i g h in
    ap (λ xs. record { references = name ∷ []; rest = numbers xs }) behind
