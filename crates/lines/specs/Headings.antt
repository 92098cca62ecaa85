-- What the first line says.
use Rattle.std.specs.Prelude.{ℕ, true, false, List, [], ◌∷◌, Ok, Option, Result, nat_eq}
use Rattle.std.specs.Option.{ok_or}
use Rattle.capability.specs.declared.refusal.Refusal.TheVariants.{NotListed, FieldMissing}
use Rattle.text.specs.declared.fields.Fields.{Fields}
use Rattle.lines.specs.declared.fault.Fault.{Fault}
use Rattle.lines.specs.declared.checks.Limits.{Limits}
use Rattle.lines.specs.declared.checks.Marks.{Marks}
use Rattle.lines.specs.declared.heading.FormatKind.{FormatKind}
use Rattle.lines.specs.declared.heading.FormatKind.TheVariants.{Compact, Exact}
use Rattle.lines.specs.declared.heading.Heading.{Heading}
use Rattle.lines.specs.declared.heading.StoreKind.{StoreKind}
use Rattle.lines.specs.declared.heading.StoreKind.TheVariants.{Flat, Words}
use Rattle.lines.specs.Checks.{found, number, check, picked, unlisted, required, fields_in}
use Rattle.lines.specs.Codes.{first_with}

-- at most 8,192 granules, and a first granule of 32 bits
abbrev pub heading_limits : Limits
heading_limits = record { p = 8192; q = 4294967295 }

-- the number of each format
abbrev pub format_number : FormatKind → ℕ
format_number Compact = 1
format_number Exact = 2

abbrev pub format_of : ℕ → Option FormatKind
format_of n = first_with (λ k. nat_eq n (format_number k)) (Compact ∷ Exact ∷ [])

-- the number of each store
abbrev pub store_number : StoreKind → ℕ
store_number Flat = 1
store_number Words = 2

abbrev pub store_of : ℕ → Option StoreKind
store_of n = first_with (λ k. nat_eq n (store_number k)) (Flat ∷ Words ∷ [])

-- the format and the store, in the fields of the code and of a: filled ones are listed, and then neither is blank
abbrev pub kinds_in : Fields → Result (FormatKind × StoreKind) Fault
kinds_in f =
    found (check (record { code = unlisted format_of f.code; a = unlisted store_of f.a; b = false; p = false; q = false }) NotListed) (λ _.
    found (ok_or (picked format_of f.code) (record { refusal = FieldMissing; answer = 1 })) (λ format.
    found (ok_or (picked store_of f.a) (record { refusal = FieldMissing; answer = 3 })) (λ store.
    Ok (format, store))))

-- every field but b is needed
abbrev pub heading_needs : Marks
heading_needs = record { code = true; a = true; b = false; p = true; q = true }

-- the heading: format, store, granules in P, first granule in Q
abbrev pub heading_in : List ℕ → Result Heading Fault
heading_in line =
    found (fields_in heading_limits line) (λ f.
    found (kinds_in f) (λ kinds.
    found (required heading_needs f) (λ _.
    Ok (record { format = kinds.0; store = kinds.1; granules = number f.p; first = number f.q }))))
