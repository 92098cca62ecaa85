-- What a line says.
use Rattle.std.specs.Prelude.{ℕ, Bool, false, cond, List, [], ◌∷◌, Ok, Err, Result, ◌==◌}
use Rattle.std.specs.Option.{ok_or}
use Rattle.capability.specs.declared.refusal.Refusal.TheVariants.{NotListed, FieldMissing}
use Rattle.plain.specs.declared.types.Call.{Call}
use Rattle.text.specs.declared.fields.Fields.{Fields}
use Rattle.lines.specs.declared.fault.Fault.{Fault}
use Rattle.lines.specs.declared.checks.Limits.{Limits}
use Rattle.lines.specs.declared.codes.Code.{Code}
use Rattle.lines.specs.declared.line.Line.{Line}
use Rattle.lines.specs.declared.line.Line.TheVariants as line
use Rattle.lines.specs.Checks.{found, number, check, picked, unlisted, required, fields_in}
use Rattle.lines.specs.Codes.{row, code_of}

-- P has 32 bits, and Q has 64
abbrev pub line_limits : Limits
line_limits = record { p = 4294967295; q = 18446744073709551615 }

-- the code of a line: a filled one is listed, and it is not blank
abbrev pub code_in : Fields → Result Code Fault
code_in f =
    found (check (record { code = unlisted code_of f.code; a = false; b = false; p = false; q = false }) NotListed) (λ _.
    ok_or (picked code_of f.code) (record { refusal = FieldMissing; answer = 1 }))

-- the call that a line asks for
abbrev pub call_in : List ℕ → Result Call Fault
call_in line =
    found (fields_in line_limits line) (λ f.
    found (code_in f) (λ code.
    found (required (row code).needs f) (λ _.
    Ok ((row code).call (number f.a) (number f.b) (number f.p) (number f.q)))))

-- a remark as its bytes, a call, or a fault
pub data Said : Type 0 where
  remark : List ℕ → Said
  call : Call → Said
  fault : Fault → Said

abbrev pub outcome : Result Call Fault → Said
outcome (Ok c) = call c
outcome (Err f) = fault f

-- a line begins with `*`, byte 42
abbrev pub starred : List ℕ → Bool
starred [] = false
starred (c ∷ cs) = c == 42

-- what a line says that is not the first: one that begins with `*` is a remark, and every other asks for a call
abbrev pub saying : List ℕ → Said
saying line = cond (starred line) (remark line) (outcome (call_in line))

-- what a line that was read says
abbrev pub said : Line → Said
said (line.Remark bytes) = remark bytes.now
said (line.Call c) = call c
said (line.Fault f) = fault f
