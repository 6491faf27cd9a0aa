-- What a program and invariant sets about it ask for where those invariants are wanted that hold up together.
use Rattle.std.specs.Prelude.{◌≡◌, ℕ, ◌+◌, List, [], ◌∷◌, length, cond}
use Rattle.c_core.specs.View.{program_view}
use Rattle.c_core.specs.declared.program.Program.{Program}
use Rattle.c_core.specs.Scope.{is_in}
use Rattle.c_meaning.specs.Duties.{Placed}
use Rattle.c_meaning.specs.Placing.{placed_view}
use Rattle.c_meaning.specs.declared.verdict.Cause.TheVariants.{Conflicts}
use Rattle.c_meaning.specs.declared.verdict.Verdict.TheVariants.{Undecided}
use Rattle.sym_duties.specs.Answers.{names_of}
use Rattle.way_invariants.specs.Invariants.{BindsInvariants}
use Rattle.wv_report.specs.declared.reply.Reply.TheVariants.{Verdict as Judged}
use Rattle.wv_schema.specs.declared.witness.Content.{Content}
use Rattle.wv_schema.specs.declared.witness.Content.TheVariants.{Violation, Invariants}
use Rattle.wv_schema.specs.declared.witness.Entry.{Entry}
use Rattle.wv_schema.specs.declared.witness.Invariant.{Invariant}
use Rattle.wv_schema.specs.declared.witness.Witness.{Witness}
use Rattle.wv_weed.specs.Weeded.{Weeds}
use Rattle.wv_weed.specs.declared.weeding.Weeded.{Weeded}
use Rattle.wv_weed.specs.declared.weeding.Weeded.TheVariants.{Kept, Spent}
use Rattle.witval.specs.Refusals.{IsBindRefusal, IsObligationRefusal}
use Rattle.witval.specs.Stages.{◌>>=◌, answered, itself, refusing}
use Rattle.witval.specs.Writing.{IsWritten}
use Rattle.witval.specs.declared.output.Output.{Output}
use Rattle.witval.specs.declared.output.Output.TheVariants.{Report}

-- ---- a witness with some of its invariants, all of which are numbered in their order, from 1

-- of invariants numbered from i on, those with these numbers
abbrev pub kept_from : ℕ → List ℕ → List Invariant → List Invariant
kept_from i ns [] = []
kept_from i ns (v ∷ vs) = cond (is_in i ns) (v ∷ kept_from (i + 1) ns vs) (kept_from (i + 1) ns vs)

-- the same of what an entry claims; a violation sequence has no invariants
abbrev pub kept_claims : ℕ → List ℕ → Content → Content
kept_claims i ns (Violation segments) = Violation segments
kept_claims i ns (Invariants invariants) = Invariants (kept_from i ns invariants)

-- how many invariants an entry has
abbrev pub claims_of : Content → ℕ
claims_of (Violation segments) = 0
claims_of (Invariants invariants) = length invariants

-- an entry stays, also where none of its invariants does
abbrev pub kept_entry : ℕ → List ℕ → Entry → Entry
kept_entry i ns entry = record { metadata = entry.metadata; content = kept_claims i ns entry.content }

-- the same of each entry
abbrev pub kept_entries : ℕ → List ℕ → List Entry → List Entry
kept_entries i ns [] = []
kept_entries i ns (e ∷ es) = kept_entry i ns e ∷ kept_entries (i + claims_of e.content) ns es

-- the witness with the invariants of these numbers, and no others
abbrev pub kept_in : List ℕ → Witness → Witness
kept_in ns witness = record { entries = kept_entries 1 ns witness.entries }

-- ---- the output

-- the output for what was weeded: the witness with the invariants of the greatest inductive set alone; or the open obligation
abbrev pub TellsWeeded : ℕ → Witness → Weeded → Output → Type 0
TellsWeeded conflicts witness (Kept ns) output = IsWritten (kept_in ns witness) output
TellsWeeded conflicts witness (Spent left number at) output = output ≡ Report (Judged (Undecided (Conflicts number conflicts)))

-- the output for invariants, bound to the program
abbrev pub WeedsPlaced : ℕ → Witness → Program → List Placed → Output → Type 0
WeedsPlaced conflicts witness program I = do
  weeded ← answered (Weeds conflicts (program_view program) (names_of program.functions) I) itself (refusing IsObligationRefusal)
  TellsWeeded conflicts witness weeded

-- the output for a program and invariant sets about it, with a budget of conflicts for each obligation
abbrev pub WeedsSets : ℕ → Witness → Program → Output → Type 0
WeedsSets conflicts witness program = do
  invariants ← answered (BindsInvariants (program_view program) witness) placed_view (refusing IsBindRefusal)
  WeedsPlaced conflicts witness program invariants
