-- The parts of statements, with at most b brackets open at one place and parts of the height h at most.
use Rattle.std.specs.Prelude.{ℕ, false, List, Option, map}
use Rattle.std.specs.Option.{option_map}
use Rattle.c_tokens.specs.declared.token.Token.{Token}
use Rattle.c_parser.specs.Tree.{Exp, Stm, Else, ArmLabel, Arm}
use Rattle.c_parser.specs.Signs.{conditional, expr}
use Rattle.c_parser.specs.ReadExpressions.{Read, read, within}
use Rattle.c_parser.specs.Statements.{Parts}
use Rattle.c_parser.specs.ReadStatements.{Start, AtSemicolon, AtBrace, AtBreak, AtContinue, AtReturn, AtIf, AtWhile, AtDo, AtFor, AtSwitch, AtLabel, AtExpression, header_within, braced_within, armed_within, statement_level, statement_from, in_parens, else_part, returned, do_test, header_in_parens, arms_in_braces, read_label, read_arm_body, read_arm}
use Rattle.c_parser.specs.View.{expr_view}
use Rattle.c_parser.specs.SourceView.{first_view, label_view, stmt_view}
use Rattle.c_parser.specs.declared.tree.RawArm.{RawArm, out-RawArm}
use Rattle.c_parser.specs.declared.headers.Header.{Header}
use Rattle.c_parser.specs.declared.statements.Start.{Start as Raw}
use Rattle.c_parser.specs.declared.statements.Start.TheVariants as raw

module _ (b h : ℕ) where
  abbrev pub statement_in : List Token → Read Stm
  statement_in = statement_level b (braced_within b) (armed_within b) h false

  abbrev pub statement_of : Start → List Token → Read Stm
  statement_of = statement_from (read b h expr) (within b h expr) (header_within b h) (braced_within b h) (armed_within b h) statement_in

  abbrev pub expression_in_parens : List Token → Read Exp
  expression_in_parens = in_parens (read b h expr) (within b h expr) (header_within b h) (braced_within b h) (armed_within b h) statement_in

  abbrev pub else_of : List Token → Read Else
  else_of = else_part (read b h expr) (within b h expr) (header_within b h) (braced_within b h) (armed_within b h) statement_in

  abbrev pub value_of_return : List Token → Read (Option Exp)
  value_of_return = returned (read b h expr) (within b h expr) (header_within b h) (braced_within b h) (armed_within b h) statement_in

  abbrev pub test_of_do : List Token → Read Exp
  test_of_do = do_test (read b h expr) (within b h expr) (header_within b h) (braced_within b h) (armed_within b h) statement_in

  abbrev pub header_of_for : List Token → Read Parts
  header_of_for = header_in_parens (read b h expr) (within b h expr) (header_within b h) (braced_within b h) (armed_within b h) statement_in

  abbrev pub arms_of_switch : List Token → Read (List Arm)
  arms_of_switch = arms_in_braces (read b h expr) (within b h expr) (header_within b h) (braced_within b h) (armed_within b h) statement_in

  abbrev pub label_in : List Token → Read ArmLabel
  label_in = read_label (read b h conditional) statement_in

  abbrev pub body_in : List Token → Read (List Stm)
  body_in = read_arm_body (read b h conditional) statement_in

  abbrev pub arm_in : List Token → Read Arm
  arm_in = read_arm (read b h conditional) statement_in

abbrev pub header_view : Header → Parts
header_view p = (first_view p.first, option_map expr_view p.test, option_map expr_view p.step)

abbrev pub start_view : Raw → Start
start_view raw.Semicolon = AtSemicolon
start_view raw.Brace = AtBrace
start_view raw.Break = AtBreak
start_view raw.Continue = AtContinue
start_view raw.Return = AtReturn
start_view raw.If = AtIf
start_view raw.While = AtWhile
start_view raw.Do = AtDo
start_view raw.For = AtFor
start_view raw.Switch = AtSwitch
start_view raw.Label = AtLabel
start_view raw.Expression = AtExpression

-- an arm that was read, as the one of definitions
abbrev pub raw_arm_view : RawArm → Arm
raw_arm_view a = record { spot = (out-RawArm a).spot; label = label_view (out-RawArm a).label; body = map stmt_view (out-RawArm a).body }
