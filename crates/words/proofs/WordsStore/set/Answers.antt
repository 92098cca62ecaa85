use Rattle.std.proofs.Common.{◌≡◌, ◌<◌, ◌≤◌, List, length, set, refl, ap, ◌∙◌, arith}
use Rattle.std.proofs.lemmas.Bool.{cond_below, cond_above}
use Rattle.store.proofs.Within.{within_err}
use Rattle.words.specs.declared.Granule.{Granule}
use Rattle.words.specs.Records.{fitting, record_cells, record_of}
use Rattle.words.proofs.Granules.{length_records, records_set, records_kept_lem}
use Rattle.words.proofs.WordsStore.set.Goals as goal

pub bounds-self-k : goal.bounds-self-k
bounds-self-k c =
    let there = c.in_ok-k.ensures.there.1 in
    omega (arith, there, length_records c.args.self.now.granules.now)

pub returns : goal.returns
returns c =
    let gs : List Granule = c.args.self.now.granules.now in
    let i = c.args.i in
    let k = c.in_ok-k.k in
    let p = c.in_ok-k.ensures.there in
    let at : i < length (record_cells gs) = omega (arith, p.0, p.1) in
    let h : i < fitting gs = omega (arith, at, length_records gs) in
    let written : set gs k (record { word = c.args.word; mark = c.from-mark.result }) ≡ set gs i (record_of c.args.word c.args.tag) =
    ap (λ j. set gs j (record { word = c.args.word; mark = c.from-mark.result })) p.0
    ∙ ap (λ m. set gs i (record { word = c.args.word; mark = m })) c.from-mark.ensures in
    record {
      outcome = cond_below _ _ _ _ at;
      after = ap record_cells written ∙ records_set gs i c.args.word c.args.tag (omega (arith, h));
      fixed = refl;
      held = records_kept_lem c.args.self.now.granules.ghost_name gs k _ (omega (arith, h, p.0));
      records = written ∙ cond_below _ _ _ _ h;
    }

pub returns-in_err-k-clause-records : goal.returns-in_err-k-clause-records
returns-in_err-k-clause-records c =
    let gs : List Granule = c.args.self.now.granules.now in
    let b = within_err (record_cells gs) c.args.i c.args.i _ c.in_err-k.ensures.is in
    let h : fitting gs ≤ c.args.i = omega (arith, length_records gs) in
    cond_above _ _ _ _ _ h refl
