-- What the walk of a `switch` onto a net is to give: the choice of an arm, and the arms one after another (C11 6.8.4.2).
use Rattle.std.specs.Prelude.{◌≡◌, ℕ, ◌+◌, ◌*◌, ◌<◌, ◌^◌, Bool, cond, List, [], ◌∷◌, length, map, Option, IsTrue, true}
use Rattle.std.specs.List.{list_all}
use Rattle.c_core.specs.Tree.{Program, Exp, Stms}
use Rattle.c_core.specs.Parts.{every_statement_of}
use Rattle.c_core.specs.Types.{fit, promote_of}
use Rattle.c_core.specs.Typing.{is_typed, has_value, label_fits, statement_fits}
use Rattle.c_core.specs.View.{stmts_view, switch_view}
use Rattle.c_core.specs.declared.number.IntType.{IntType}
use Rattle.c_core.specs.declared.number.Spot.{Spot}
use Rattle.c_core.specs.declared.tree.Arm.{Arm, out-Arm}
use Rattle.c_core.specs.declared.tree.Label.{Label as ArmLabel}
use Rattle.c_meaning.specs.Acts.{Res, Go, Flow, Next, bind, go_on}
use Rattle.c_meaning.specs.Exec.{full, execs}
use Rattle.c_meaning.specs.Havoc.{Stopped}
use Rattle.sym_meaning.specs.Mode.{JudgedState, Mode}
use Rattle.sym_meaning.specs.Judged.{judged, selected}
use Rattle.c_meaning.specs.Meaning.{Used}
use Rattle.c_meaning.specs.Objects.{type_of, type_or_int}
use Rattle.circuits.specs.declared.net.Bit.{Bit}
use Rattle.circuits.specs.Net.{holds, IsIn}
use Rattle.circuits.specs.Numbers.{AreIn}
use Rattle.circuits.specs.Outcome.{conversion_cost}
use Rattle.sym_state.specs.declared.state.Sym.{Sym}
use Rattle.sym_state.specs.Standing.{IsState}
use Rattle.sym_state.specs.Following.{Follows}
use Rattle.sym_choices.specs.Cases.{cases_cost}
use Rattle.sym_choices.specs.Choosing.{done_from}
use Rattle.sym_flow.specs.Leaving.{Runs}
use Rattle.sym_exprs.specs.Evaluating.{weight_of, bits_of}
use Rattle.sym_eval.specs.Doing.{calls, weight_of_block, bits_of_block}

-- and-nodes of an arm besides its statements: runs part before it, and come together after it
abbrev pub arm_glue : ℕ
arm_glue = 3

-- calls at most n deep
module _ (p : Program) (W : Mode) (n : ℕ) where
  -- ---- the choice of an arm
  -- and-nodes of it, besides the test
  abbrev pub choice_cost : IntType → List ArmLabel → ℕ
  choice_cost ty ls = conversion_cost p.model ty (promote_of ty) + (cases_cost p.model (promote_of ty) ls + 3 * length ls)

  -- with its event, in the statement at a place
  abbrev pub weight_of_choice : Spot → Exp → List ArmLabel → ℕ
  weight_of_choice at e ls = W.scale.test at + (weight_of p W n e + choice_cost (type_of e) ls)

  -- an arm can be chosen from a state
  pub record ChoiceReady (at : Spot) (s : Sym) (e : Exp) (ls : List ArmLabel) : Type 0 where
    pub fits : IsState p s
    pub types : IsTrue (is_typed p e)
    pub value : IsTrue (has_value e)
    pub labels : IsTrue (list_all (label_fits p.model (promote_of (type_of e))) ls)
    pub room : length s.net + (weight_of_choice at e ls + bits_of p W n e) < 2 ^ 27

  -- one was chosen, and its event told; the bits say arm by arm whether it is done
  pub record Chooses (at : Spot) (e : Exp) (ls : List ArmLabel) (old new : Sym) (bits : List Bit) : Type 0 where
    pub many : length bits ≡ length ls
    pub inside : AreIn new.net bits
    pub follows : Follows W.duties p (weight_of_choice at e ls) (bits_of p W n e) old new (λ v k. map (holds v new.net) bits ≡ done_from k ls)
        (λ v s. bind (full p (judged p W) (calls p W n) at Used e s) (λ z. selected p W at (fit p.model (promote_of (type_of e)) z) ls))

  -- ---- arms, in a function of this result
  module _ (gives : Option IntType) where
    -- one arm: its statements, where it is done
    abbrev pub arm_done : Bool → Stms → JudgedState → Res Stopped JudgedState Flow
    arm_done t b s = cond t (execs p (judged p W) (calls p W n) gives b true s) (Go Next s)

    pub record ArmReady (s : Sym) (bit : Bit) (b : Stms) : Type 0 where
      pub fits : IsState p s
      pub result : s.result ≡ type_or_int gives
      pub types : IsTrue (every_statement_of (statement_fits p gives) b)
      pub bit_in : IsIn s.net bit
      pub room : length s.net + (arm_glue + weight_of_block p W n gives b + bits_of_block p W n gives b) < 2 ^ 27

    -- there are as many cells as before: declarations stand in blocks alone
    pub record ArmDoes (bit : Bit) (b : Stms) (old new : Sym) : Type 0 where
      pub runs : Runs W.duties p gives (arm_glue + weight_of_block p W n gives b) (bits_of_block p W n gives b) old new (λ v. arm_done (holds v old.net bit) b)
      pub level : length new.cells.items ≡ length old.cells.items

    -- the arms, of which those are done whose bits are true
    abbrev pub arms_done : List Bool → List Arm → JudgedState → Res Stopped JudgedState Flow
    arms_done [] arms s = Go Next s
    arms_done (t ∷ ts) [] s = Go Next s
    arms_done (t ∷ ts) (a ∷ arms) s = bind (arm_done t (stmts_view (out-Arm a).body) s) (go_on (arms_done ts arms))

    abbrev pub weight_of_arms : List Arm → ℕ
    weight_of_arms arms = arm_glue * length arms + weight_of_block p W n gives (switch_view arms)

    abbrev pub bits_of_arms : List Arm → ℕ
    bits_of_arms arms = bits_of_block p W n gives (switch_view arms)

    pub record ArmsReady (s : Sym) (bits : List Bit) (arms : List Arm) : Type 0 where
      pub fits : IsState p s
      pub result : s.result ≡ type_or_int gives
      pub many : length bits ≡ length arms
      pub types : IsTrue (every_statement_of (statement_fits p gives) (switch_view arms))
      pub inside : AreIn s.net bits
      pub room : length s.net + (weight_of_arms arms + bits_of_arms arms) < 2 ^ 27

    pub record ArmsDo (bits : List Bit) (arms : List Arm) (old new : Sym) : Type 0 where
      pub runs : Runs W.duties p gives (weight_of_arms arms) (bits_of_arms arms) old new (λ v. arms_done (map (holds v old.net) bits) arms)
      pub level : length new.cells.items ≡ length old.cells.items
