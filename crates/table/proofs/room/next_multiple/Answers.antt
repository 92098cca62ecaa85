use Rattle.std.proofs.Common.{refl}
use Rattle.table.proofs.Rooms.{multiple_past, multiple_near, multiple_even, multiple_first}
use Rattle.table.proofs.room.next_multiple.Goals as goal

pub returns : goal.returns
returns c = record {
  is = refl;
  past = multiple_past c.args.x c.args.unit c.requires.unit_given;
  near = multiple_near c.args.x c.args.unit c.requires.unit_given;
  even = multiple_even _ c.args.unit c.requires.unit_given;
  first = λ y e l. multiple_first c.args.x c.args.unit y c.requires.unit_given e l;
}
