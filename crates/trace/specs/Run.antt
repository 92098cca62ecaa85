-- A whole run: from the bytes of an input to the bytes that answer them.
use Rattle.std.specs.Prelude.{◌≡◌, ℕ, ◌+◌, cond, List, [], ◌∷◌, ◌++◌, length, Ok, Err, Result, OnOk, nat_lt}
use Rattle.capability.specs.Formats.{Meaning}
use Rattle.capability.specs.Refusals.{number as refusal_number}
use Rattle.capability.specs.declared.refusal.Refusal.{Refusal}
use Rattle.capability.specs.declared.refusal.Refusal.TheVariants.{InputTooLong}
use Rattle.compact.specs.Compact.{compact}
use Rattle.exact.specs.Exact.{exact}
use Rattle.plain.specs.Memory.{Plain, started, usable}
use Rattle.plain.specs.Step.{step}
use Rattle.text.specs.Answers.{answer_line, remark_line}
use Rattle.text.specs.Lines.{lines}
use Rattle.lines.specs.declared.fault.Fault.{Fault}
use Rattle.lines.specs.declared.heading.FormatKind.{FormatKind}
use Rattle.lines.specs.declared.heading.FormatKind.TheVariants.{Compact, Exact}
use Rattle.lines.specs.declared.heading.Heading.{Heading}
use Rattle.lines.specs.Calls.{Said, remark, call, fault, saying}
use Rattle.lines.specs.Headings.{heading_in}

-- a text was appended, or memory was wanting
abbrev pub Appends : {X Y : Type 0} → Result X Y → List ℕ → List ℕ → List ℕ → Type 0
Appends r before after text = OnOk r (after ≡ before ++ text)

-- the answer line of a fault: its refusal, and the number that goes with it
abbrev pub fault_line : ℕ → Fault → List ℕ
fault_line k f = answer_line k (refusal_number f.refusal) f.answer

-- the answer line of a call: refusal 0 and its answer, or its refusal and answer 0
abbrev pub outcome_line : ℕ → Result ℕ Refusal → List ℕ
outcome_line k (Ok n) = answer_line k 0 n
outcome_line k (Err e) = answer_line k (refusal_number e) 0

-- what is written for line k, by the memory before it: a remark is written back
abbrev pub reply_to : Meaning → Plain → ℕ → Said → List ℕ
reply_to m s k (remark bytes) = remark_line bytes
reply_to m s k (call c) = outcome_line k (step m s c).answer
reply_to m s k (fault f) = fault_line k f

-- the memory after it: only a call changes it
abbrev pub left_by : Meaning → Plain → Said → Plain
left_by m s (remark bytes) = s
left_by m s (call c) = (step m s c).after
left_by m s (fault f) = s

-- what is written for lines, from line k on
abbrev pub replies : Meaning → Plain → ℕ → List (List ℕ) → List ℕ
replies m s k [] = []
replies m s k (line ∷ ls) = reply_to m s k (saying line) ++ replies m (left_by m s (saying line)) (k + 1) ls

-- what each format means
abbrev pub meaning_of : FormatKind → Meaning
meaning_of Compact = compact
meaning_of Exact = exact

-- what is written for a memory and the lines after the heading: the heading answers the usable granules
abbrev pub answers : Meaning → Plain → List (List ℕ) → List ℕ
answers m s ls = answer_line 1 0 (usable m s.first s.cells) ++ replies m s 2 ls

-- the memory is just started over a store: its first granule, and how many there are; serials begin at 1
abbrev pub session : Meaning → ℕ → ℕ → List (List ℕ) → List ℕ
session m first granules ls = answers m (started first granules 1) ls

-- after a heading that is refused nothing more is written; the two stores answer alike
abbrev pub headed : Result Heading Fault → List (List ℕ) → List ℕ
headed (Ok h) ls = session (meaning_of h.format) h.first h.granules ls
headed (Err f) ls = fault_line 1 f

-- the first line is the heading; every input has one
abbrev pub run_of : List (List ℕ) → List ℕ
run_of [] = []
run_of (line ∷ ls) = headed (heading_in line) ls

-- what is written for an input: one of more than 65,536 bytes gets a lone line numbered 0
abbrev pub transcribed : List ℕ → List ℕ
transcribed input = cond (nat_lt 65536 (length input)) (answer_line 0 (refusal_number InputTooLong) 0) (run_of (lines input))
