-- The text report of a reply, and the status that the program ends with.
use Rattle.std.specs.Prelude.{ℕ, ◌+◌, List, [], ◌∷◌, ◌++◌, if◌then◌else◌, codes, decimal}
use Rattle.std.specs.Fmt.{signed_decimal}
use Rattle.std.specs.Str.{bytes_eq}
use Rattle.c_core.specs.declared.number.Spot.{Spot}
use Rattle.c_core.specs.declared.number.IntType.{IntType}
use Rattle.c_core.specs.declared.number.IntType.TheVariants.{Bool, Char, SChar, UChar, Short, UShort, Int, UInt, Long, ULong, LongLong, ULongLong}
use Rattle.c_meaning.specs.declared.run.Draw.{Draw}
use Rattle.c_meaning.specs.declared.run.Duty.{Duty}
use Rattle.c_meaning.specs.declared.run.DutyKind.{DutyKind}
use Rattle.c_meaning.specs.declared.run.DutyKind.TheVariants.{Location, Entry, Kept, Property}
use Rattle.c_meaning.specs.declared.verdict.Verdict.{Verdict}
use Rattle.c_meaning.specs.declared.verdict.Verdict.TheVariants.{ViolationConfirmed, ViolationNot, CorrectnessConfirmed, CorrectnessNot, Undecided}
use Rattle.c_meaning.specs.declared.verdict.Reason.{Reason}
use Rattle.c_meaning.specs.declared.verdict.Reason.TheVariants.{Ended, Undefined, Unmatched}
use Rattle.c_meaning.specs.declared.verdict.Cause.{Cause}
use Rattle.c_meaning.specs.declared.verdict.Cause.TheVariants.{Steps, Cells, Conflicts}
use Rattle.wv_report.specs.declared.reply.Reply.{Reply}
use Rattle.wv_report.specs.declared.reply.Reply.TheVariants.{Verdict as Judged, Refused, ReadFault}

-- a line feed ends each line
abbrev pub line : List ℕ → List ℕ
line text = text ++ 10 ∷ []

-- line and column
abbrev pub place : Spot → List ℕ
place spot = decimal spot.line ++ 58 ∷ [] ++ decimal spot.column

-- ISO C11 6.2.5, in one spelling each
abbrev pub type_name : IntType → List ℕ
type_name Bool = codes "_Bool"
type_name Char = codes "char"
type_name SChar = codes "signed char"
type_name UChar = codes "unsigned char"
type_name Short = codes "short"
type_name UShort = codes "unsigned short"
type_name Int = codes "int"
type_name UInt = codes "unsigned int"
type_name Long = codes "long"
type_name ULong = codes "unsigned long"
type_name LongLong = codes "long long"
type_name ULongLong = codes "unsigned long long"

-- a drawn value: the place of the call or object, its type, the value
abbrev pub value_line : Draw → List ℕ
value_line draw = line (codes "value " ++ place draw.spot ++ codes " " ++ type_name draw.ty ++ codes " " ++ signed_decimal draw.value)

-- a line for each drawn value
abbrev pub value_lines : List Draw → List ℕ
value_lines [] = []
value_lines (draw ∷ draws) = value_line draw ++ value_lines draws

-- the event that passes the follow of a segment, both by number
abbrev pub segment_line : ℕ → ℕ → List ℕ
segment_line segment event = line (codes "segment " ++ decimal segment ++ codes " event " ++ decimal event)

-- a line for each segment, the first having this number
abbrev pub segment_lines : ℕ → List ℕ → List ℕ
segment_lines segment [] = []
segment_lines segment (event ∷ events) = segment_line segment event ++ segment_lines (segment + 1) events

-- values that were found, and below them the event of each segment
abbrev pub found_text : List Draw → List ℕ → List ℕ
found_text draws positions = line (codes "values found") ++ value_lines draws ++ segment_lines 1 positions

-- why a violation isn't confirmed
abbrev pub reason_text : Reason → List ℕ
reason_text Ended = codes "ended"
reason_text (Undefined spot) = codes "undefined " ++ place spot
reason_text Unmatched = codes "unmatched"

-- a word for each kind of obligation
abbrev pub kind_name : DutyKind → List ℕ
kind_name Location = codes "location"
kind_name Entry = codes "entry"
kind_name Kept = codes "kept"
kind_name Property = codes "property"

-- what ran out: steps, cells, or derived clauses at an obligation
abbrev pub cause_text : Cause → List ℕ
cause_text (Steps count) = codes "steps " ++ decimal count
cause_text Cells = codes "cells"
cause_text (Conflicts index count) = codes "conflicts " ++ decimal count ++ codes " obligation " ++ decimal index

-- the line for a violation that isn't confirmed
abbrev pub reason_line : Reason → List ℕ
reason_line reason = line (codes "reason " ++ reason_text reason)

-- the kind of an obligation and its place, which end their line
abbrev pub placed_kind : Duty → List ℕ
placed_kind duty = line (kind_name duty.kind ++ codes " " ++ place duty.spot)

-- an obligation by its number, its kind and its place
abbrev pub obligation_line : ℕ → Duty → List ℕ
obligation_line index duty = codes "obligation " ++ decimal index ++ codes " " ++ placed_kind duty

-- the answer, and below it what it rests on
abbrev pub verdict_lines : Verdict → List ℕ
verdict_lines (ViolationConfirmed draws positions) = line (codes "violation confirmed") ++ value_lines draws ++ segment_lines 1 positions
verdict_lines (ViolationNot reason unfixed) = line (codes "violation not confirmed") ++ reason_line reason ++ line (codes "unfixed " ++ decimal unfixed)
verdict_lines (CorrectnessConfirmed count) = line (codes "correctness confirmed") ++ line (codes "obligations " ++ decimal count)
verdict_lines (CorrectnessNot index duty draws) = line (codes "correctness not confirmed") ++ obligation_line index duty ++ value_lines draws
verdict_lines (Undecided cause) = line (codes "undecided " ++ cause_text cause)

-- a detail and a blank before it, where there is one
abbrev pub detail_text : List ℕ → List ℕ
detail_text [] = []
detail_text (byte ∷ bytes) = 32 ∷ byte ∷ bytes

-- a refusal by its code, and its detail where there is one
abbrev pub refusal_line : List ℕ → List ℕ → List ℕ
refusal_line code detail = line (codes "refused " ++ code ++ detail_text detail)

-- the whole text report
abbrev pub text_of : Reply → List ℕ
text_of (Judged verdict) = verdict_lines verdict
text_of (Refused code detail) = refusal_line code detail
text_of (ReadFault which) = line (codes "fault read " ++ which)

-- 0 confirmed, 1 not confirmed, 2 undecided, 3 refused, 4 a read fault, 7 bad usage
abbrev pub status_of : Reply → ℕ
status_of (Judged (ViolationConfirmed draws positions)) = 0
status_of (Judged (CorrectnessConfirmed count)) = 0
status_of (Judged (ViolationNot reason unfixed)) = 1
status_of (Judged (CorrectnessNot index duty draws)) = 1
status_of (Judged (Undecided cause)) = 2
status_of (Refused code detail) = if bytes_eq code (codes "usage") then 7 else 3
status_of (ReadFault which) = 4
