-- A stage of a reply whose every answer but want of memory is known.
use Rattle.std.proofs.Common.{◌≡◌, ℕ, List, Result, Ok, Err, sym, subst}
use Rattle.c_check.specs.Checking.{Answers as CheckAnswers}
use Rattle.c_core.specs.Tree as t
use Rattle.c_core.specs.View.{program_view}
use Rattle.c_core.specs.declared.number.DataModel.{DataModel}
use Rattle.c_core.specs.declared.number.Property.{Property}
use Rattle.c_core.specs.declared.program.Program.{Program}
use Rattle.c_parser.specs.Parsing.{Answers as ParserAnswers, IsFound, source_view}
use Rattle.c_parser.specs.Tree.{Item}
use Rattle.c_parser.specs.declared.fault.ParseFault.{ParseFault}
use Rattle.c_parser.specs.declared.fault.ParseFault.TheVariants as parse
use Rattle.c_parser.specs.declared.item.Source.{Source}
use Rattle.c_tokens.specs.Reading.{Answers as TokensAnswers, Ending, NoToken, BadDirective, Tokens, Whole}
use Rattle.c_tokens.specs.declared.token.Token.{Token}
use Rattle.c_tokens.specs.declared.token.TokenFault.{TokenFault}
use Rattle.c_tokens.specs.declared.token.TokenFault.TheVariants as token
use Rattle.check_rules.specs.Checked.{program_of}
use Rattle.check_rules.specs.declared.fault.CheckFault.{CheckFault}
use Rattle.check_rules.specs.declared.fault.CheckFault.TheVariants as check
use Rattle.c_meaning.specs.Duties.{Placed}
use Rattle.c_meaning.specs.Placing.{placed_view}
use Rattle.c_meaning.specs.declared.run.PlacedInvariant.{PlacedInvariant}
use Rattle.c_meaning.specs.declared.verdict.Verdict.{Verdict as VerdictOf}
use Rattle.demo_binding.specs.Bound.{AreSegments, ArePlaced}
use Rattle.demo_checks.specs.Checked.{IsProgramOf}
use Rattle.way_bind.specs.declared.fault.BindFault.{BindFault}
use Rattle.way_bind.specs.declared.fault.BindFault.TheVariants as bind
use Rattle.way_match.specs.Points.{BoundSegment}
use Rattle.way_match.specs.View.{segments_view}
use Rattle.way_match.specs.declared.point.Bound.{Bound}
use Rattle.wv_report.specs.declared.reply.Reply.{Reply}
use Rattle.demo_verdicts.specs.Confirming.{IsVerdict}
use Rattle.sym_duties.specs.Answers.{CanBeJudged}
use Rattle.sym_duties.specs.declared.fault.SymFault.{SymFault}
use Rattle.sym_duties.specs.declared.fault.SymFault.TheVariants as fault
use Rattle.witval.specs.Refusals.{IsTokenRefusal, IsSyntaxRefusal, IsCheckRefusal, IsBindRefusal, IsObligationRefusal}
use Rattle.witval.specs.Tasks.{JudgesSets, RightOnPlaced, Tells}
use Rattle.witval.specs.Stages.{answered, itself, known, refusing}
use Rattle.witval.specs.declared.output.Output.{Output}
use Rattle.witval.specs.declared.output.Output.TheVariants.{Report}

-- a text has one outcome
abbrev pub OneOutcome : Type 0
OneOutcome = (text : List ℕ) (ts us : List Token) (end other : Ending) → Tokens text ts end → Tokens text us other → (ts ≡ us) × (end ≡ other)

-- the tokens of a text are found
pub on_tokens : OneOutcome → (text : List ℕ) (ts : List Token) → Tokens text ts Whole → (within : List Token → Output → Type 0) (reply : Reply) →
    answered (TokensAnswers text) itself (refusing IsTokenRefusal) within (Report reply) → within ts (Report reply)
on_tokens one text ts is within reply (answer, right, told) = by answer right told
  where
    by : (answer : Result (List Token) TokenFault) → TokensAnswers text answer → known itself (refusing IsTokenRefusal) answer within (Report reply) → within ts (Report reply)
    by (Ok found) right told = subst (λ us. within us (Report reply)) (one text found ts Whole Whole right is).0 told
    by (Err (token.Token line column)) right told = let both = (one text right.0 ts (NoToken (record { line = line; column = column })) Whole right.1 is).1 in absurd (cc)
    by (Err (token.Directive line)) right told = let both = (one text right.0 ts (BadDirective line) Whole right.1 is).1 in absurd (cc)
    by (Err token.OutOfMemory) right told = absurd told

-- the items of tokens are found
pub on_items : (ts : List Token) (items : List Item) → ((answer : Result Source ParseFault) → ParserAnswers ts answer → IsFound answer items) → (within : List Item → Output → Type 0) (reply : Reply) →
    answered (ParserAnswers ts) source_view (refusing IsSyntaxRefusal) within (Report reply) → within items (Report reply)
on_items ts items all within reply (answer, right, told) = by answer (all answer right) told
  where
    by : (answer : Result Source ParseFault) → IsFound answer items → known source_view (refusing IsSyntaxRefusal) answer within (Report reply) → within items (Report reply)
    by (Ok s) found told = subst (λ xs. within xs (Report reply)) found told
    by (Err (parse.Syntax line column)) found told = absurd found
    by (Err parse.OutOfMemory) found told = absurd told

-- the program of items is found
pub record Found (p : t.Program) (within : Program → Output → Type 0) (reply : Reply) : Type 0 where
  pub program : Program
  pub is : program_view program ≡ p
  pub told : within program (Report reply)

pub on_program : (m : DataModel) (property : Property) (items : List Item) → ((answer : Result Program CheckFault) → CheckAnswers m property items answer → IsProgramOf m property items answer) →
    (within : Program → Output → Type 0) (reply : Reply) → answered (CheckAnswers m property items) itself (refusing IsCheckRefusal) within (Report reply) → Found (program_of m property items) within reply
on_program m property items all within reply (answer, right, told) = by answer (all answer right) told
  where
    by : (answer : Result Program CheckFault) → IsProgramOf m property items answer → known itself (refusing IsCheckRefusal) answer within (Report reply) → Found (program_of m property items) within reply
    by (Ok p) is told = record { program = p; is = is.0; told = told }
    by (Err (check.Refused code spot)) is told = absurd is
    by (Err check.OutOfMemory) is told = absurd told

-- the segments of a witness are found
pub on_segments : (IsAnswer : Result Bound BindFault → Type 0) (ss : List BoundSegment) → ((answer : Result Bound BindFault) → IsAnswer answer → AreSegments ss answer) →
    (within : List BoundSegment → Reply → Type 0) (reply : Reply) → answered IsAnswer segments_view IsBindRefusal within reply → within ss reply
on_segments IsAnswer ss all within reply (answer, right, told) = by answer (all answer right) told
  where
    by : (answer : Result Bound BindFault) → AreSegments ss answer → known segments_view IsBindRefusal answer within reply → within ss reply
    by (Ok bound) is told = subst (λ xs. within xs reply) is told
    by (Err (bind.NoPlace number)) is told = absurd is
    by (Err (bind.Expression number)) is told = absurd is
    by (Err (bind.Scope number)) is told = absurd is
    by (Err bind.OutOfMemory) is told = absurd told

-- the invariants of a witness are found
pub on_placed : (IsAnswer : Result (List PlacedInvariant) BindFault → Type 0) (xs : List Placed) → ((answer : Result (List PlacedInvariant) BindFault) → IsAnswer answer → ArePlaced xs answer) →
    (within : List Placed → Reply → Type 0) (reply : Reply) → answered IsAnswer placed_view IsBindRefusal within reply → within xs reply
on_placed IsAnswer xs all within reply (answer, right, told) = by answer (all answer right) told
  where
    by : (answer : Result (List PlacedInvariant) BindFault) → ArePlaced xs answer → known placed_view IsBindRefusal answer within reply → within xs reply
    by (Ok ys) is told = subst (λ zs. within zs reply) is told
    by (Err (bind.NoPlace number)) is told = absurd is
    by (Err (bind.Expression number)) is told = absurd is
    by (Err (bind.Scope number)) is told = absurd is
    by (Err bind.OutOfMemory) is told = absurd told

-- invariants that can be judged have a verdict
pub on_judged : (conflicts : ℕ) (program : Program) (xs : List Placed) → CanBeJudged (program_view program) xs → (reply : Reply) → RightOnPlaced conflicts program xs reply → IsVerdict reply
on_judged conflicts program xs can reply (answer, right, told) = by answer right told
  where
    by : (answer : Result VerdictOf SymFault) → JudgesSets conflicts program xs answer → known itself IsObligationRefusal answer Tells reply → IsVerdict reply
    by (Ok verdict) right told = subst IsVerdict (sym told) tt
    by (Err (fault.Recursion name)) right told = absurd (can.straight right.number right.first.0)
    by (Err fault.TooBig) right told = absurd (can.fits right.1)
    by (Err fault.OutOfMemory) right told = absurd told
