-- Any call on the plain memory.
use Rattle.capability.specs.Formats.{Meaning}
use Rattle.plain.specs.declared.types.Call.{Call}
use Rattle.plain.specs.declared.types.Call.TheVariants.{Allocate, Free, Move, Narrow, Restrict, Load, Store, Fetch, Put, Copy, Open, Advance, Close, Whose, Tally}
use Rattle.plain.specs.Memory.{Plain, Outcome, call_allocate, call_free, call_move, call_narrow, call_restrict, call_load, call_store, call_fetch, call_put, call_copy, call_open, call_advance, call_close, call_whose, call_tally}

unfoldable pub step : Meaning → Plain → Call → Outcome
step m s (Allocate a size) = call_allocate m s a size
step m s (Free a) = call_free m s a
step m s (Move a b address) = call_move m s a b address
step m s (Narrow a b base length) = call_narrow m s a b base length
step m s (Restrict a b mask) = call_restrict m s a b mask
step m s (Load a width) = call_load m s a width
step m s (Store a width value) = call_store m s a width value
step m s (Fetch a b) = call_fetch m s a b
step m s (Put a b) = call_put m s a b
step m s (Copy a b length) = call_copy m s a b length
step m s Open = call_open m s
step m s (Advance count) = call_advance m s count
step m s Close = call_close m s
step m s (Whose a) = call_whose m s a
step m s Tally = call_tally s
