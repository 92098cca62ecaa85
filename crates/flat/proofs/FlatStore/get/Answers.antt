use Rattle.std.proofs.Common.{◌<◌, arith}
use Rattle.std.proofs.lemmas.Bool.{lt-ltb}
use Rattle.store.specs.Cells.{length_listed}
use Rattle.store.proofs.Listed.{get_d_listed}
use Rattle.flat.specs.Flat.{fitting}
use Rattle.flat.proofs.Granules.{has}
use Rattle.flat.proofs.FlatStore.get.Goals as goal

pub word_at-requires : goal.word_at-requires
word_at-requires c =
    let h = has _ _ _ c.in_ok-k.ensures.there.1 in
    record { in_data = omega arith; in_store = omega arith }

pub tag_at-requires : goal.tag_at-requires
tag_at-requires c = let h = has _ _ _ c.in_ok-k.ensures.there.1 in omega arith

pub returns : goal.returns
returns c =
    let p = c.in_ok-k.ensures.there in
    let h : c.args.i < fitting c.args.self.now.«data».now c.args.self.now.tags.now = omega (arith, p.0, has _ _ _ p.1) in
    let w = c.word_at.ensures in
    let t = c.tag_at.ensures in
    simp (length_listed, get_d_listed, lt-ltb, w, t, p.0)
