-- The number of each refusal.
use Rattle.std.specs.Prelude.{ℕ}
use Rattle.capability.specs.declared.refusal.Refusal.{Refusal}
use Rattle.capability.specs.declared.refusal.Refusal.TheVariants.{InputTooLong, LineLength, FieldForm, NumberTooLarge, NotListed, FieldMissing, FieldUnneeded, NoSuchSlot, BadParameter, Untagged, MissingRight, Misaligned, OutOfBounds, NotCarried, NotLive, NotWholeBlock, TableFull, SerialsExhausted, NoRoom, SweepOpen, SweepShut, SweepUnfinished, NoSuchGranule, NotCapability}

abbrev pub number : Refusal → ℕ
number InputTooLong = 1
number LineLength = 2
number FieldForm = 3
number NumberTooLarge = 4
number NotListed = 5
number FieldMissing = 6
number FieldUnneeded = 7
number NoSuchSlot = 11
number BadParameter = 12
number Untagged = 13
number MissingRight = 14
number Misaligned = 15
number OutOfBounds = 16
number NotCarried = 17
number NotLive = 18
number NotWholeBlock = 19
number TableFull = 20
number SerialsExhausted = 21
number NoRoom = 22
number SweepOpen = 23
number SweepShut = 24
number SweepUnfinished = 25
number NoSuchGranule = 31
number NotCapability = 32
