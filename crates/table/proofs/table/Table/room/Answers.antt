use Rattle.std.proofs.Common.{◌≡◌, ℕ, ◌+◌, ◌<◌, ◌≤◌, true, List, length, get_or, Some, None, sym, refl, ap, ◌∙◌, inl, inr, ⊎_elim, arith}
use Rattle.std.proofs.lemmas.Bool.{cases_lt}
use Rattle.std.proofs.lemmas.List.{get_or_default}
use Rattle.plain.specs.Blocks.{Entry, entry_at, free_at, lowest_free}
use Rattle.plain.proofs.Leasts.{is_least}
use Rattle.table.proofs.Rooms.{room_of, of_room, passed, meets, round_none, round_all}
use Rattle.table.proofs.table.Table.room.Goals as goal
use Rattle.table.proofs.table.Table.room.Goals.{then-place-blocks, else-place-blocks}

read : (bs : List Entry) (i : ℕ) (b : Entry) → i < length bs → b ≡ get_or bs i b → b ≡ entry_at bs i
read bs i b h is = is ∙ sym (get_or_default bs i _ b h)

pub starts-init : goal.starts-init
starts-init c =
    let bs = c.recorded-blocks.result.now in
    let n = c.next_multiple-start.ensures in (
      omega (arith, n.even),
      omega (arith, n.past),
      omega (arith, n.near),
      λ y l t. let r = room_of bs c.args.low c.args.high c.args.unit c.args.size y t in
          let f = n.first y r.even r.above in omega arith,
      ⊎_elim (λ (o : 0 < length bs). inl o) (λ (o : length bs ≤ 0). inr (omega arith)) (cases_lt 0 (length bs)),
    )

pub scan-init : goal.scan-init
scan-init c = (refl, round_none _ _ _ c.starts.invariant.4)

pub returns-then-top-high-clause-is : goal.returns-then-top-high-clause-is
returns-then-top-high-clause-is c =
    let bs = c.recorded-blocks.result.now in
    is_least (c.args.high + 1) (free_at bs c.args.low c.args.high c.args.unit c.args.size) None
    (λ y h t. ⊎_elim (λ (b : y < c.starts.start). c.starts.invariant.3 y b t)
    (λ (b : c.starts.start ≤ y). let u : y + c.args.size ≤ c.args.high = (room_of bs c.args.low c.args.high c.args.unit c.args.size y t).under in omega arith)
    (cases_lt y c.starts.start))
    ∙ ap (λ (es : List Entry). lowest_free es c.args.low c.args.high c.args.unit c.args.size) c.recorded-blocks.ensures.all

pub starts-preserved : goal.starts-preserved
starts-preserved c =
    let bs = c.recorded-blocks.result.now in
    let b = c.index-blocks-place.result in
    let n = c.next_multiple-start-then-not-is_apart.ensures in
    let met = meets c.scan.start _ b c.if-not-is_apart.ensures in
    let end : c.block.inside.end ≡ b.end = ap (λ (e : Entry). e.end) c.block.view_is in
    let here : c.scan.place < length bs = omega arith in (
      omega (arith, n.even),
      omega (arith, n.past, met.1),
      omega (arith, n.near),
      passed bs c.args.low c.args.high c.args.unit c.args.size c.starts.start c.next_multiple-start-then-not-is_apart.result c.scan.place b
          here (read bs c.scan.place b here c.index-blocks-place.is) (omega (arith, met.0))
          (λ y e l. n.first y e (omega arith)) c.starts.invariant.3,
      elim c.if-place-blocks.branch [
        | then-place-blocks w ↦ inl (omega (arith, w.place-is, w.if-place-blocks.true))
        | else-place-blocks w ↦ inl (omega (arith, w.place-is))
      ],
    )

pub returns-then-clear-blocks-clause-is : goal.returns-then-clear-blocks-clause-is
returns-then-clear-blocks-clause-is c =
    let bs = c.recorded-blocks.result.now in
    let s = c.starts.start in
    let room : free_at bs c.args.low c.args.high c.args.unit c.args.size s ≡ true =
    of_room bs c.args.low c.args.high c.args.unit c.args.size s (record {
      even = c.starts.invariant.0;
      above = omega arith;
      under = omega arith;
      clear = round_all _ _ _ _ c.scan.invariant.1 c.if-clear-blocks.true;
    }) in
    ap Some c.scan.invariant.0
    ∙ is_least (c.args.high + 1) (free_at bs c.args.low c.args.high c.args.unit c.args.size) (Some s) (omega arith, room, λ y h t. c.starts.invariant.3 y h t)
    ∙ ap (λ (es : List Entry). lowest_free es c.args.low c.args.high c.args.unit c.args.size) c.recorded-blocks.ensures.all
