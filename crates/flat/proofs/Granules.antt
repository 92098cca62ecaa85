-- The granules of the two buffers: one that is set, and the others as they were. Assumes nothing.
use Rattle.std.proofs.Common.{◌≡◌, ℕ, zero, suc, ◌+◌, ◌-◌, ◌*◌, ◌/◌, ◌%◌, ◌^◌, ◌<◌, ◌≤◌, Bool, List, [], ◌∷◌, ◌++◌, map, length, get_or, drop, set, Err, refl, ap, ◌∙◌, arith}
use base.Fml.{GName}
use mir.Val.{bool_byte}
use Rattle.std.specs.List.{range_with_len}
use Rattle.std.proofs.lemmas.List.{length-set}
use Rattle.capability.specs.declared.refusal.Refusal.{Refusal}
use Rattle.store.specs.Cells.{Cell, within, listed, length_listed}
use Rattle.store.proofs.Listed.{set_listed}
use Rattle.store.proofs.Within.{within_err}
use Rattle.flat.specs.Flat.{word_at, with_word, tag_bit, tag_at, with_bit, with_tag, fitting, flat_cells, left_over, flat_kept}
use Rattle.flat.proofs.Words.{length_with_word, word_same, word_other, behind_word}
use Rattle.flat.proofs.Tags.{tag_same, bit_kept, tag_other}

pub length_flat : (bytes tags : List ℕ) → length (flat_cells bytes tags) ≡ fitting bytes tags
length_flat bytes tags = length_listed _ _

-- a granule that they lack
pub lacks : {A : Type 0} (bytes tags : List ℕ) (i : ℕ) (v : A) (e : Refusal) → Err e ≡ within (flat_cells bytes tags) i v → fitting bytes tags ≤ i
lacks bytes tags i v e h = omega (arith, within_err (flat_cells bytes tags) i v e h, length_flat bytes tags)

-- a granule that they have
pub has : (bytes tags : List ℕ) (i : ℕ) → i < length (flat_cells bytes tags) → i < fitting bytes tags
has bytes tags i h = omega (arith, h, length_flat bytes tags)

same_cell : (v w : ℕ) (s t : Bool) → v ≡ w → s ≡ t → ◌≡◌ {A = Cell} (v, s) (w, t)
same_cell v w s t p q = cc

length_with_tag : (tags : List ℕ) (i : ℕ) (t : Bool) → length (with_tag tags i t) ≡ length tags
length_with_tag tags i t = length-set tags (i / 8) (with_bit (get_or tags (i / 8) 0) (i % 8) (bool_byte t))

same_count : (bytes tags : List ℕ) (i w : ℕ) (t : Bool) → i < fitting bytes tags → fitting (with_word bytes i w) (with_tag tags i t) ≡ fitting bytes tags
same_count bytes tags i w t h = omega (arith, length_with_word bytes i w (omega arith), length_with_tag tags i t)

pub flat_set : (bytes tags : List ℕ) (i w : ℕ) (t : Bool) → i < fitting bytes tags → w < 2 ^ 64
    → flat_cells (with_word bytes i w) (with_tag tags i t) ≡ set (flat_cells bytes tags) i (w, t)
flat_set bytes tags i w t h s =
    let f : 8 * i + 8 ≤ length bytes = omega arith in
    let u : i < 8 * length tags = omega arith in
    let n = same_count bytes tags i w t h in
    ap (λ m. listed m (λ k. (word_at (with_word bytes i w) k, tag_at (with_tag tags i t) k))) n
    ∙ set_listed (fitting bytes tags) (λ k. (word_at bytes k, tag_at tags k))
    (λ k. (word_at (with_word bytes i w) k, tag_at (with_tag tags i t) k)) i (w, t)
    (same_cell _ _ _ _ (word_same bytes i w f s) (tag_same tags i t u))
    (λ k l ne. same_cell _ _ _ _ (word_other bytes i w f k (omega arith) ne) (tag_other tags i t u k ne))

same_numbers : (f g : ℕ → ℕ) (a n : ℕ) → ((k : ℕ) → a ≤ k → f k ≡ g k) → map f (range_with_len a n) ≡ map g (range_with_len a n)
same_numbers f g a zero h = refl
same_numbers f g a (suc n) h =
    let e = h a (omega arith) in
    let r = same_numbers f g (a + 1) n (λ k l. h k (omega arith)) in
    cc

-- a granule is set: the references stay, and what the buffers hold besides the granules
pub flat_kept_lem : (d e : GName) (bytes tags : List ℕ) (i w : ℕ) (t : Bool) → i < fitting bytes tags
    → flat_kept d e (with_word bytes i w) (with_tag tags i t) ≡ flat_kept d e bytes tags
unfolding left_over
flat_kept_lem d e bytes tags i w t h =
    let n : ℕ = fitting bytes tags in
    let new : List ℕ = with_word bytes i w in
    let marked : List ℕ = with_tag tags i t in
    let u : i < 8 * length tags = omega arith in
    let words : drop (8 * n) new ≡ drop (8 * n) bytes = behind_word bytes i w (omega arith) n h in
    let long : 8 * length marked - n ≡ 8 * length tags - n = omega (arith, length_with_tag tags i t) in
    let bits : map (tag_bit marked) (range_with_len n (8 * length marked - n)) ≡ map (tag_bit tags) (range_with_len n (8 * length tags - n)) =
    ap (λ m. map (tag_bit marked) (range_with_len n m)) long
    ∙ same_numbers (tag_bit marked) (tag_bit tags) n (8 * length tags - n) (λ k l. bit_kept tags i t u k (λ q. let z : ⊥ = omega arith in z)) in
    ap (λ xs. record { references = d ∷ e ∷ []; rest = xs })
    (ap (λ m. left_over m new marked) (same_count bytes tags i w t h)
    ∙ ap (λ xs. xs ++ map (tag_bit marked) (range_with_len n (8 * length marked - n))) words
    ∙ ap (λ xs. drop (8 * n) bytes ++ xs) bits)
