-- The JSON report of a reply: one compact object, whose keys stand in ascending order, and a line feed.
use Rattle.std.specs.Prelude.{ℕ, ◌-◌, ◌^◌, ℤ, pos, neg_ℤ, ◌≤ℤ◌, List, [], ◌++◌, map, codes}
use Rattle.std.specs.List.{All}
use Rattle.serde_json.specs.Data.{Data, number, unsigned, string, array, object, member, no_members}
use Rattle.serde_json.specs.Find.{of_integer}
use Rattle.serde_json.specs.View.{items_of}
use Rattle.serde_json.specs.Written.{compact_text}
use Rattle.c_meaning.specs.declared.run.Draw.{Draw}
use Rattle.c_meaning.specs.declared.run.Duty.{Duty}
use Rattle.c_meaning.specs.declared.verdict.Verdict.{Verdict}
use Rattle.c_meaning.specs.declared.verdict.Verdict.TheVariants.{ViolationConfirmed, ViolationNot, CorrectnessConfirmed, CorrectnessNot, Undecided}
use Rattle.c_meaning.specs.declared.verdict.Reason.{Reason}
use Rattle.c_meaning.specs.declared.verdict.Cause.{Cause}
use Rattle.wv_report.specs.Report.{line, type_name, kind_name, reason_text, cause_text}
use Rattle.wv_report.specs.declared.reply.Reply.{Reply}
use Rattle.wv_report.specs.declared.reply.Reply.TheVariants.{Verdict as Judged, Refused, ReadFault}

-- a number of at least 0
abbrev pub count_json : ℕ → Data
count_json n = number (unsigned n)

-- a draw with its place, its type and its value
unfoldable pub draw_json : Draw → Data
draw_json draw =
    object (member (codes "column") (count_json draw.spot.column)
    (member (codes "line") (count_json draw.spot.line)
    (member (codes "type") (string (type_name draw.ty))
    (member (codes "value") (number (of_integer draw.value)) no_members))))

-- the draws in their order
abbrev pub draws_json : List Draw → Data
draws_json draws = array (items_of (map draw_json draws))

-- the numbers of events, one for each segment
abbrev pub positions_json : List ℕ → Data
positions_json positions = array (items_of (map count_json positions))

-- the event of each segment, and each drawn value
unfoldable pub confirmed_json : List Draw → List ℕ → Data
confirmed_json draws positions =
    object (member (codes "answer") (string (codes "violation confirmed"))
    (member (codes "positions") (positions_json positions)
    (member (codes "values") (draws_json draws) no_members)))

-- why a violation isn't confirmed, and how many draws the witness left open
unfoldable pub unconfirmed_json : Reason → ℕ → Data
unconfirmed_json reason unfixed =
    object (member (codes "answer") (string (codes "violation not confirmed"))
    (member (codes "reason") (string (reason_text reason))
    (member (codes "unfixed") (count_json unfixed) no_members)))

-- how many obligations hold
unfoldable pub correct_json : ℕ → Data
correct_json count =
    object (member (codes "answer") (string (codes "correctness confirmed"))
    (member (codes "obligations") (count_json count) no_members))

-- the least obligation that fails, and values for which it does
unfoldable pub incorrect_json : ℕ → Duty → List Draw → Data
incorrect_json index duty draws =
    object (member (codes "answer") (string (codes "correctness not confirmed"))
    (member (codes "column") (count_json duty.spot.column)
    (member (codes "kind") (string (kind_name duty.kind))
    (member (codes "line") (count_json duty.spot.line)
    (member (codes "obligation") (count_json index)
    (member (codes "values") (draws_json draws) no_members))))))

-- an undecided verdict, by what ran out
unfoldable pub cause_json : Cause → Data
cause_json cause =
    object (member (codes "answer") (string (codes "undecided"))
    (member (codes "cause") (string (cause_text cause)) no_members))

-- each verdict has an object of its own
unfoldable pub verdict_json : Verdict → Data
verdict_json (ViolationConfirmed draws positions) = confirmed_json draws positions
verdict_json (ViolationNot reason unfixed) = unconfirmed_json reason unfixed
verdict_json (CorrectnessConfirmed count) = correct_json count
verdict_json (CorrectnessNot index duty draws) = incorrect_json index duty draws
verdict_json (Undecided cause) = cause_json cause

-- the detail is empty where there is none
unfoldable pub refusal_json : List ℕ → List ℕ → Data
refusal_json code detail =
    object (member (codes "answer") (string (codes "refused"))
    (member (codes "code") (string code)
    (member (codes "detail") (string detail) no_members)))

-- a file that couldn't be read
unfoldable pub fault_json : List ℕ → Data
fault_json which =
    object (member (codes "answer") (string (codes "fault"))
    (member (codes "detail") (string (codes "read " ++ which)) no_members))

-- the object of a reply
unfoldable pub reply_json : Reply → Data
reply_json (Judged verdict) = verdict_json verdict
reply_json (Refused code detail) = refusal_json code detail
reply_json (ReadFault which) = fault_json which

-- the whole JSON report
unfoldable pub json_of : Reply → List ℕ
json_of reply = line (compact_text (reply_json reply))

-- the drawn values that a report lists
abbrev pub verdict_draws : Verdict → List Draw
verdict_draws (ViolationConfirmed draws positions) = draws
verdict_draws (ViolationNot reason unfixed) = []
verdict_draws (CorrectnessConfirmed count) = []
verdict_draws (CorrectnessNot index duty draws) = draws
verdict_draws (Undecided cause) = []

abbrev pub reply_draws : Reply → List Draw
reply_draws (Judged verdict) = verdict_draws verdict
reply_draws (Refused code detail) = []
reply_draws (ReadFault which) = []

-- a whole number from -2^63 to 2^64 - 1
abbrev pub IsJsonInteger : ℤ → Type 0
IsJsonInteger n = (neg_ℤ (pos (2 ^ 63)) ≤ℤ n) × (n ≤ℤ pos (2 ^ 64 - 1))

-- every drawn value of the report is one
abbrev pub HasJsonIntegers : Reply → Type 0
HasJsonIntegers reply = All (λ draw. IsJsonInteger draw.value) (reply_draws reply)
