-- The guarantee at a memory's start. Assumes nothing.
use Rattle.std.proofs.Common.{◌≡◌, ℕ, List, sym, subst}
use Rattle.capability.specs.Formats.{Meaning, Lawful}
use Rattle.plain.specs.declared.types.Call.{Call}
use Rattle.plain.specs.Guarantee.{Safe}
use Rattle.plain.specs.Memory.{Plain, started}
use Rattle.plain.proofs.Safe.{always_safe}

pub safe_start : (m : Meaning) → Lawful m → (s : Plain) (first count serial : ℕ) → s ≡ started first count serial → (h : List Call) → Safe m s h
safe_start m laws s first count serial e h = subst (λ (t : Plain). Safe m t h) (sym e) (always_safe m laws first count serial h)
