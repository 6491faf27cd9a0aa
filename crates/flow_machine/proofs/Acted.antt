-- Actions that do several parts in turn.
use Rattle.std.proofs.Common.{◌≡◌, ℕ, ℤ, List, Option, Some, Result, ap, ap₂, ◌∙◌, subst}
use Rattle.std.specs.Option.{unwrap_or}
use Rattle.c_core.specs.Types.{fit}
use Rattle.c_core.specs.Operators.{apply_of, apply_one_of}
use Rattle.c_core.specs.declared.number.BinOp.{BinOp}
use Rattle.c_core.specs.declared.number.DataModel.TheVariants.{Lp64}
use Rattle.c_core.specs.declared.number.Done.{Done}
use Rattle.c_core.specs.declared.number.IntType.{IntType}
use Rattle.c_core.specs.declared.number.Spot.{Spot}
use Rattle.c_core.specs.declared.number.UnOp.{UnOp}
use Rattle.c_meaning.specs.declared.run.Event.{Event}
use Rattle.c_meaning.specs.Acts.{Go}
use Rattle.c_meaning.specs.Cells.{Cell}
use Rattle.c_meaning.specs.Run.{State}
use Rattle.c_meaning.specs.Run as runs
use Rattle.c_meaning.specs.Watching.{seen_by}
use Rattle.run_state.specs.Interpreting.{where_of, same}
use Rattle.run_state.specs.declared.machine.Halt.{Halt}
use Rattle.flow_code.specs.declared.code.Action.TheVariants.{Operate, OperateOne, Select, Input, Return}
use Rattle.flow_code.specs.declared.code.Code.{Code}
use Rattle.flow_code.specs.declared.code.Into.{Into}
use Rattle.flow_code.specs.declared.code.Operand.{Operand}
use Rattle.flow_code.specs.declared.code.Source.{Source}
use Rattle.flow_code.specs.declared.code.Word.{Word}
use Rattle.flow_code.specs.Tables.{address_in}
use Rattle.flow_code.specs.Words.{type_of_word}
use Rattle.flow_laws.specs.Machines.{Control}
use Rattle.flow_laws.specs.Acting.{program_in, right_of, value_of, stack_of, finished, input_given, top, below, way_by, sent, converted, left_by, acted}
use Rattle.flow_machine.specs.Views.{Acts, answer_finished}
use Rattle.flow_machine.proofs.Giving.{goes_there}

module _ (c : Code) (S : Type 0) (after : Event → List Cell → S → S) where
  -- a binary operator, whose operands are taken before it computes
  pub operated : (o : BinOp) (word count : Word) (a b : Operand) (from : Source) (x : Into) (k l m n : Control) (s u : State S) (w v : ℤ) (d : Done) (q : Result (Unit {0}) Halt)
      → w ≡ value_of b k.stack s.cells → l ≡ record k { stack = stack_of b k.stack } → v ≡ value_of a l.stack s.cells → m ≡ record l { stack = stack_of a l.stack }
      → d ≡ apply_of Lp64 o (type_of_word word) (fit Lp64 (type_of_word word) v) (right_of o word count w) → Acts q n u (answer_finished c S after from v d x m s)
      → Acts q n u (acted c S after (Operate o word count a b from x) k s)
  operated o word count a b from x k l m n s u w v d q ew el ev em ed g = rw (ed, ev, ew, em, el) at g

  -- a unary operator
  pub operated_one : (o : UnOp) (word : Word) (a : Operand) (from : Source) (x : Into) (k m n : Control) (s u : State S) (v : ℤ) (d : Done) (q : Result (Unit {0}) Halt)
      → v ≡ value_of a k.stack s.cells → m ≡ record k { stack = stack_of a k.stack } → d ≡ apply_one_of Lp64 o (type_of_word word) (fit Lp64 (type_of_word word) v)
      → Acts q n u (answer_finished c S after from v d x m s) → Acts q n u (acted c S after (OperateOne o word a from x) k s)
  operated_one o word a from x k m n s u v d q ev em ed g = rw (ed, ev, em) at g

  -- an answer that is there goes on
  pub answered_on : (from : Source) (left v : ℤ) (d : Done) (x : Into) (k n : Control) (s t u : State S) (q : Result (Unit {0}) Halt)
      → runs.answered (program_in c) S (seen_by after) (where_of from.around) from.spot d s ≡ Go v t → Acts q n u (finished c S after left v x k t) → Acts q n u (answer_finished c S after from left d x k s)
  answered_on from left v d x k n s t u q r g =
      goes_there same v n t u (runs.answered (program_in c) S (seen_by after) (where_of from.around) from.spot d s) (λ y p. finished c S after left y x k p) q r g

  -- a value from outside
  pub input_finished : (spot close : Spot) (ty : IntType) (x : Into) (k n : Control) (s t u : State S) (v : ℤ) (q : Result (Unit {0}) Halt)
      → input_given c S after spot close ty s ≡ Go v t → Acts q n u (finished c S after v v x k t) → Acts q n u (acted c S after (Input spot close ty x) k s)
  input_finished spot close ty x k n s t u v q r g = goes_there same v n t u (input_given c S after spot close ty s) (λ y p. finished c S after y y x k p) q r g

  -- a value off the stack leads to its address in a table, if it has one there
  pub selected : (at : Spot) (cases : List (ℤ × ℕ)) (other : ℕ) (k n : Control) (s u : State S) (v : ℤ) (o : Option ℕ) (q : Result (Unit {0}) Halt)
      → v ≡ top k.stack → o ≡ address_in cases v → Acts q n u (sent c S after at (way_by o v) (unwrap_or o other) k s) → Acts q n u (acted c S after (Select at cases other) k s)
  selected at cases other k n s u v o q ev eo g =
      subst (λ r. Acts q n u r) (ap₂ (λ w p. sent c S after at (way_by p w) (unwrap_or p other) k s) ev (eo ∙ ap (λ w. address_in cases w) ev)) g

  -- a function is left with the value on top of the stack, converted
  pub returned : (ty : Option IntType) (k l n : Control) (s u : State S) (v w : ℤ) (q : Result (Unit {0}) Halt) → v ≡ top k.stack → l ≡ record k { stack = below k.stack } → w ≡ converted c S after ty v
      → Acts q n u (left_by c S after l.frames (Some w) l s) → Acts q n u (acted c S after (Return ty) k s)
  returned ty k l n s u v w q ev el ew g = rw (ew, ev, el) at g
