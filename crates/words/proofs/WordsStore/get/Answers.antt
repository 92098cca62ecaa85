use Rattle.std.proofs.Common.{◌<◌, List, arith}
use Rattle.std.proofs.lemmas.Bool.{lt-ltb}
use Rattle.store.specs.Cells.{length_listed}
use Rattle.store.proofs.Listed.{get_d_listed}
use Rattle.words.specs.declared.Granule.{Granule}
use Rattle.words.specs.Records.{fitting}
use Rattle.words.proofs.Granules.{length_records}
use Rattle.words.proofs.WordsStore.get.Goals as goal

pub bounds-self-k : goal.bounds-self-k
bounds-self-k c =
    let there = c.in_ok-k.ensures.there.1 in
    omega (arith, there, length_records c.args.self.now.granules.now)

pub returns : goal.returns
returns c =
    let gs : List Granule = c.args.self.now.granules.now in
    let p = c.in_ok-k.ensures.there in
    let h : c.args.i < fitting gs = omega (arith, p.0, p.1, length_records gs) in
    let w = c.into.ensures in
    simp (length_listed, get_d_listed, lt-ltb, w, p.0)
