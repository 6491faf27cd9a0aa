-- What actions compute, in the words of the meaning: a code has its program's model and property.
use Rattle.std.proofs.Common.{◌≡◌, ℕ, ℤ, pos, Bool, false, List, ◌∷◌, Option, Some, None, refl, ap, ◌∙◌}
use Rattle.c_core.specs.Types.{fit, promote_of}
use Rattle.c_core.specs.Operators.{apply_of, apply_one_of, type_for, right_type_for}
use Rattle.c_core.specs.Tree.{Program}
use Rattle.c_core.specs.declared.number.BinOp.{BinOp}
use Rattle.c_core.specs.declared.number.UnOp.{UnOp}
use Rattle.c_core.specs.declared.number.DataModel.TheVariants.{Lp64}
use Rattle.c_core.specs.declared.number.Done.{Done}
use Rattle.c_core.specs.declared.number.Done.TheVariants.{Value, Overflow, Undefined as NoValue}
use Rattle.c_core.specs.declared.number.IntType.{IntType}
use Rattle.c_core.specs.declared.number.Property.{Property}
use Rattle.c_core.specs.declared.number.Property.TheVariants.{UnreachCall, NoOverflow}
use Rattle.c_core.specs.declared.number.Spot.{Spot}
use Rattle.c_meaning.specs.declared.run.Event.{Event}
use Rattle.c_meaning.specs.Cells.{Cell, read}
use Rattle.c_meaning.specs.Acts.{Go, bind}
use Rattle.c_meaning.specs.Meaning.{Site, Where}
use Rattle.c_meaning.specs.Eval.{operate}
use Rattle.c_meaning.specs.Run.{State, index_below, in_row}
use Rattle.c_meaning.specs.Run as run
use Rattle.c_meaning.specs.Watching.{seen_by}
use Rattle.run_state.specs.Interpreting.{where_of}
use Rattle.run_state.specs.declared.machine.Around.{Around}
use Rattle.flow_code.specs.declared.code.Place.{Place}
use Rattle.flow_code.specs.declared.code.Then.{Then}
use Rattle.flow_code.specs.declared.code.Into.{Into}
use Rattle.flow_code.specs.declared.code.Action.TheVariants.{Convert, Look, Aim, Row, OperateOne}
use Rattle.flow_code.specs.declared.code.Code.{Code}
use Rattle.flow_code.specs.Preparing.{only, stored_in}
use Rattle.flow_code.specs.Expressions.{source, operator}
use Rattle.flow_code.specs.Words.{word_of, type_of_word, native}
use Rattle.flow_laws.specs.Machines.{Control}
use Rattle.flow_laws.specs.Acting.{program_in, right_of, value_of, stack_of, finished, aimed}
use Rattle.flow_laws.specs.inside.Simulating.{meaning}
use Rattle.flow_laws.proofs.Operands.{Takes, TakesBoth}
use Rattle.flow_laws.proofs.Values.{fit_native, fit_word, fit_right, apply_word, fit_word_one, apply_word_one}

module _ (p : Program) (c : Code) (S : Type 0) (after : Event → List Cell → S → S) (n : ℕ) where
  -- what goes on is the new value
  abbrev pub IsNew : Into → Type 0
  IsNew x = (old v : ℤ) (κ : Control) (s : State S) → finished c S after old v x κ s ≡ finished c S after v v x κ s

  pub only_new : (then : Then) → IsNew (only then)
  only_new then old v κ s = refl

  pub stored_new : (place : Place) (ty : IntType) (then : Then) → IsNew (stored_in place ty false then)
  stored_new place ty then old v κ s = refl

  overflowed_as : (q : Property) (at : Where) (spot : Spot) (v : ℤ) (s : State S)
      → run.overflowed (program_in c) S (seen_by after) q at spot v s ≡ run.overflowed p S (seen_by after) q at spot v s
  overflowed_as NoOverflow at spot v s = refl
  overflowed_as UnreachCall at spot v s = refl

  key_as : (spot : Spot) (o : ℕ) (i : Option ℕ) (s : State S) → run.key_of (program_in c) S (seen_by after) spot o i s ≡ run.key_of p S (seen_by after) spot o i s
  key_as spot o None s = refl
  key_as spot o (Some i) s = refl

  reached_by : (q : Property) (at : Where) (site next : Site) (s : State S) → site.spot ≡ next.spot
      → run.reached (program_in c) S (seen_by after) q at site s ≡ run.reached p S (seen_by after) q at next s
  reached_by UnreachCall at site next s e = ap (λ x. run.violated p S (seen_by after) {A = ℤ} at x (Some x) s) e
  reached_by NoOverflow at site next s e = refl

  -- an element's value
  pub look_takes : (o size : ℕ) (spot : Spot) (x : Into)
      → Takes p c S after n (λ y. Look o size y spot x) (λ v κ t. bind (run.key_of p S (seen_by after) spot o (index_below size v) t) (λ i u. finished c S after (read i u.cells) (read i u.cells) x κ u))
  look_takes o size spot x y κ s =
      ap (λ r. bind r (λ i u. finished c S after (read i u.cells) (read i u.cells) x (record κ { stack = stack_of y κ.stack }) u)) (key_as spot o (index_below size (value_of y κ.stack s.cells)) s)

  -- an element's index
  pub aim_takes : (o size : ℕ) (spot : Spot) (reads : Bool)
      → Takes p c S after n (λ y. Aim o size y spot reads) (λ v κ t. bind (run.key_of p S (seen_by after) spot o (index_below size v) t) (λ i u. aimed c S after reads i κ.stack κ u))
  aim_takes o size spot reads y κ s =
      ap (λ r. bind r (λ i u. aimed c S after reads i (stack_of y κ.stack) κ u)) (key_as spot o (index_below size (value_of y κ.stack s.cells)) s)

  -- the cell of a row and a column
  pub row_takes : (rows columns : ℕ) (spot : Spot)
      → TakesBoth p c S after n (λ y z. Row rows columns y z spot)
      (λ v w κ t. bind (run.key_of p S (seen_by after) spot 0 (in_row columns (index_below rows v) (index_below columns w)) t) (λ i u. Go (record κ { stack = pos i.index ∷ κ.stack }) u))
  row_takes rows columns spot a b κ s =
      let w = value_of b κ.stack s.cells in
      let v = value_of a (stack_of b κ.stack) s.cells in
      ap (λ r. bind r (λ i u. Go (record κ { stack = pos i.index ∷ stack_of a (stack_of b κ.stack) }) u)) (key_as spot 0 (in_row columns (index_below rows v) (index_below columns w)) s)

  -- a conversion
  pub convert_takes : (ty : IntType) (x : Into) → Takes p c S after n (λ y. Convert (native p.model ty) y x) (λ v κ t. finished c S after (fit p.model ty v) (fit p.model ty v) x κ t)
  convert_takes ty x y κ s = ap (λ v. finished c S after v v x (record κ { stack = stack_of y κ.stack }) s) (fit_native p.model ty (value_of y κ.stack s.cells))

  module _ (property : c.property ≡ p.property) where
    answered_as : (at : Where) (spot : Spot) (d : Done) (s : State S) → run.answered (program_in c) S (seen_by after) at spot d s ≡ run.answered p S (seen_by after) at spot d s
    answered_as at spot (Value v) s = refl
    answered_as at spot (Overflow v) s = ap (λ q. run.overflowed (program_in c) S (seen_by after) q at spot v s) property ∙ overflowed_as p.property at spot v s
    answered_as at spot NoValue s = refl

    pub reached_as : (at : Where) (site next : Site) (s : State S) → site.spot ≡ next.spot
        → run.reached (program_in c) S (seen_by after) c.property at site s ≡ run.reached p S (seen_by after) p.property at next s
    reached_as at site next s e = ap (λ q. run.reached (program_in c) S (seen_by after) q at site s) property ∙ reached_by p.property at site next s e

    -- an operator with one operand
    pub operate_one_takes : (at : Around) (spot : Spot) (o : UnOp) (ty : IntType) (x : Into)
        → Takes p c S after n (λ y. OperateOne o (word_of p.model (promote_of ty)) y (source at spot) x)
        (λ v κ t. bind (run.answered p S (seen_by after) (where_of at) spot (apply_one_of p.model o (promote_of ty) (fit p.model (promote_of ty) v)) t) (λ z u. finished c S after v z x κ u))
    operate_one_takes at spot o ty x y κ s =
        let v = value_of y κ.stack s.cells in
        let w = type_of_word (word_of p.model (promote_of ty)) in
        let same : apply_one_of Lp64 o w (fit Lp64 w v) ≡ apply_one_of p.model o (promote_of ty) (fit p.model (promote_of ty) v) =
        ap (λ a. apply_one_of Lp64 o w a) (fit_word_one p.model ty v) ∙ apply_word_one p.model o ty (fit p.model (promote_of ty) v) in
        ap (λ r. bind r (λ z u. finished c S after v z x (record κ { stack = stack_of y κ.stack }) u))
        (ap (λ d. run.answered (program_in c) S (seen_by after) (where_of at) spot d s) same ∙ answered_as (where_of at) spot (apply_one_of p.model o (promote_of ty) (fit p.model (promote_of ty) v)) s)

    -- an operator with two operands
    pub operator_takes : (at : Around) (spot : Spot) (o : BinOp) (a b : IntType) (x : Into)
        → TakesBoth p c S after n (operator p (source at spot) o a b x)
        (λ v w κ t. bind (operate p (meaning p c S after) (where_of at) spot o a v b w t) (λ z u. finished c S after v z x κ u))
    operator_takes at spot o a b x l r κ s =
        let w = value_of r κ.stack s.cells in
        let v = value_of l (stack_of r κ.stack) s.cells in
        let ty = type_for p.model o a b in
        let word = type_of_word (word_of p.model ty) in
        let right = fit p.model (right_type_for o ty b) w in
        let same : apply_of Lp64 o word (fit Lp64 word v) (right_of o (word_of p.model ty) (word_of p.model (right_type_for o ty b)) w) ≡ apply_of p.model o ty (fit p.model ty v) right =
        ap (λ z. apply_of Lp64 o word z (right_of o (word_of p.model ty) (word_of p.model (right_type_for o ty b)) w)) (fit_word p.model o a b v)
        ∙ ap (λ z. apply_of Lp64 o word (fit p.model ty v) z) (fit_right p.model o a b w)
        ∙ apply_word p.model o a b (fit p.model ty v) right in
        ap (λ q. bind q (λ z u. finished c S after v z x (record κ { stack = stack_of l (stack_of r κ.stack) }) u))
        (ap (λ d. run.answered (program_in c) S (seen_by after) (where_of at) spot d s) same ∙ answered_as (where_of at) spot (apply_of p.model o ty (fit p.model ty v) right) s)
