-- What the judge of invariants answers decides the reply.
use Rattle.std.proofs.Common.{◌≡◌, ℕ, List, Result, Ok, Err, IfOk, ap}
use Rattle.c_core.specs.View.{program_view}
use Rattle.c_core.specs.declared.program.Program.{Program}
use Rattle.c_meaning.specs.Duties.{Placed}
use Rattle.c_meaning.specs.declared.verdict.Verdict.{Verdict}
use Rattle.sym_duties.specs.Answers.{IsFault, names_of}
use Rattle.sym_duties.specs.declared.fault.SymFault.{SymFault}
use Rattle.wv_report.specs.declared.reply.Reply.{Reply}
use Rattle.wv_report.specs.declared.reply.Reply.TheVariants.{Verdict as Judged}
use Rattle.witval.specs.Refusals.{IsObligationRefusal}
use Rattle.witval.specs.Tasks.{IsRightOnSets, RightOnPlaced}

pub told : (conflicts : ℕ) (program : Program) (I : List Placed) (verdict shown : Verdict) → IsRightOnSets conflicts (program_view program) I verdict → shown ≡ verdict
    → RightOnPlaced conflicts program I (Judged shown)
told conflicts program I verdict shown right e = (Ok verdict, right, ap Judged e)

pub not_told : {E : Type 0} (conflicts : ℕ) (program : Program) (I : List Placed) (fault : SymFault) (result : Result Reply E)
    → IsFault (program_view program) (names_of program.functions) I fault → IfOk result (IsObligationRefusal fault) → IfOk result (RightOnPlaced conflicts program I)
not_told conflicts program I fault (Ok reply) is refused = (Err fault, is, refused)
not_told conflicts program I fault (Err e) is refused = tt
