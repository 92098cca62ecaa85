use Rattle.std.proofs.Common.{◌≡◌, true, take}
use Rattle.std.specs.Str.{all_ascii_digits}
use Rattle.text.specs.Fields.{value_of}
use Rattle.text.proofs.fields.number.Given as goal

abbrev pub invariant-loop-byte : goal.invariant-loop-byte
invariant-loop-byte l =
    (all_ascii_digits (take l.byte-index l.digits) ≡ true) × (l.value ≡ value_of (take l.byte-index l.digits))
