-- What a call of a defined function is to give: its arguments' values, its parameters' cells, its body, and the value that comes back (C11 6.5.2.2).
use Rattle.std.specs.Prelude.{◌≡◌, ℕ, suc, ◌+◌, ◌<◌, ◌^◌, Bool, true, false, length, ℤ, List, [], ◌∷◌, Option, Some, None, IsTrue, slice_get, map}
use Rattle.std.specs.List.{All, list_all}
use Rattle.c_core.specs.Tree.{Program, Exps, Function}
use Rattle.c_core.specs.Parts.{exps_in, every_argument}
use Rattle.c_core.specs.Typing.{exp_fits, function_fits, has_value}
use Rattle.c_core.specs.declared.number.IntType.{IntType}
use Rattle.c_core.specs.declared.number.Spot.{Spot}
use Rattle.c_meaning.specs.Acts.{Go, Next, bind, scoped, given}
use Rattle.c_meaning.specs.Eval.{evals}
use Rattle.c_meaning.specs.Exec.{with_params, run_in}
use Rattle.c_meaning.specs.Fitting.{calls_in}
use Rattle.c_meaning.specs.Havoc.{Stopped}
use Rattle.sym_meaning.specs.Mode.{JudgedState, cells_judged, with_cells_judged, Mode}
use Rattle.sym_meaning.specs.Judged.{judged, returned}
use Rattle.c_meaning.specs.Meaning.{Site}
use Rattle.c_meaning.specs.Objects.{type_of, type_or_int, type_of_object}
use Rattle.circuits.specs.declared.net.Bit.{Bit}
use Rattle.circuits.specs.declared.net.NetNode.{NetNode}
use Rattle.circuits.specs.Numbers.{typed, AreTyped}
use Rattle.sym_state.specs.declared.state.Sym.{Sym}
use Rattle.sym_state.specs.declared.state.Around.{Around}
use Rattle.sym_state.specs.Standing.{IsState}
use Rattle.sym_state.specs.Following.{Follows, AreOf, IsNumber}
use Rattle.sym_values.specs.Valuing.{where_of, IsDutyAt}
use Rattle.sym_values.specs.Storing.{Ends, end_of}
use Rattle.sym_flow.specs.Calling.{is_value}
use Rattle.sym_flow.specs.Leaving.{Runs}
use Rattle.sym_scale.specs.Cost.{arguments, function_body, nodes_in, bits_in, nodes, bits}
use Rattle.sym_weight.specs.Table.{call_weight, params_of, stored}
use Rattle.sym_eval.specs.declared.parameters.Argument.{Argument}

-- ---- arguments and parameters
module _ (p : Program) where
  -- an argument's value under inputs, with its type
  abbrev pub value_at : (ℕ → Bool) → List NetNode → Argument → ℤ × IntType
  value_at v net x = (typed p.model x.ty v net x.bits.bits, x.ty)

  abbrev pub values_at : (ℕ → Bool) → List NetNode → List Argument → List (ℤ × IntType)
  values_at v net xs = map (value_at v net) xs

  -- its bits are the net's, as many as its type is wide
  abbrev pub IsArgument : List NetNode → Argument → Type 0
  IsArgument net x = AreTyped p.model x.ty net x.bits.bits

  abbrev pub AreArguments : List NetNode → List Argument → Type 0
  AreArguments net xs = All (IsArgument net) xs

  -- and-nodes of parameters that get these arguments
  abbrev pub set_cost : List ℕ → List Argument → ℕ
  set_cost [] xs = 0
  set_cost (o ∷ os) [] = 0
  set_cost (o ∷ os) (x ∷ xs) = stored p.model x.ty (type_of_object p o) + set_cost os xs

  -- each parameter gets its argument, converted to its type, or 0 where there is none (C11 6.5.2.2p4, p7)
  abbrev pub Sets : List ℕ → List Argument → Sym → Sym → Type 0
  Sets os xs old new = (W : Mode) (gives : Option IntType)
      → Runs W.duties p gives (set_cost os xs) 0 old new (λ v. with_params p (judged p W) os (values_at v old.net xs) (λ may s. Go Next s) true)

  -- a run that is here ended and failed nothing; the bits are of the type, and no value
  pub record Ended (ty : Option IntType) (old new : Sym) (bits : List Bit) : Type 0 where
    pub bits_in : AreOf p.model ty new.net bits
    pub follows : (W : Mode) → Ends p W 1 old new (end_of p W)

-- calls at most n deep
module _ (p : Program) (W : Mode) (n : ℕ) where
  -- ---- arguments
  abbrev pub weight_of_all : Exps → ℕ
  weight_of_all es = arguments p (nodes p W.scale n) es

  abbrev pub bits_of_all : Exps → ℕ
  bits_of_all es = arguments p (bits p W.scale n) es

  module _ (at : Around) where
    -- arguments can be evaluated from a state
    pub record AllReady (s : Sym) (es : Exps) : Type 0 where
      pub fits : IsState p s
      pub types : IsTrue (every_argument (exp_fits p) es)
      pub values : IsTrue (list_all has_value (exps_in es))
      pub duty : IsDutyAt p W at
      pub room : length s.net + (weight_of_all es + bits_of_all es) < 2 ^ 27

    -- they were evaluated from left to right; the bits are their values, in their types
    pub record AllValues (es : Exps) (old new : Sym) (xs : List Argument) : Type 0 where
      pub types : map (λ x. x.ty) xs ≡ map type_of (exps_in es)
      pub bits_in : AreArguments p new.net xs
      pub follows : Follows W.duties p (weight_of_all es) (bits_of_all es) old new (λ v vs. vs ≡ values_at p v new.net xs)
          (λ v. evals p (judged p W) (calls_in p (judged p W) n) (where_of at) es)

  -- ---- the function of a number
  abbrev pub weight_of_call : ℕ → List Argument → ℕ
  weight_of_call f xs = call_weight + nodes_in p W.scale n (set_cost p (params_of (slice_get p.functions f)) xs) f

  abbrev pub bits_of_call : ℕ → ℕ
  bits_of_call f = bits_in p W.scale n f

  -- it can be called from a state, by a call that ends at a place, with a result of this type; a void one's value isn't
  -- needed
  pub record CallReady (close : Spot) (f : ℕ) (needed : Bool) (ty : Option IntType) (s : Sym) (xs : List Argument) : Type 0 where
    pub fits : IsState p s
    pub arguments : AreArguments p s.net xs
    pub result : (fn : Function) → slice_get p.functions f ≡ Some fn → fn.result ≡ ty
    pub void : ty ≡ None → needed ≡ false
    pub room : length s.net + (W.scale.returns close + weight_of_call f xs + bits_of_call f) < 2 ^ 27

  -- it was called with these arguments; the bits are the value that it gave, where that is needed
  pub record Called (close : Spot) (f : ℕ) (needed : Bool) (ty : Option IntType) (xs : List Argument) (old new : Sym) (bits : List Bit) : Type 0 where
    pub bits_in : AreOf p.model ty new.net bits
    pub follows : (site : Site) → site.close ≡ close → site.needed ≡ needed → Follows W.duties p (W.scale.returns close + weight_of_call f xs) (bits_of_call f) old new (λ v z. needed ≡ true → IsNumber p.model ty new.net bits v z)
        (λ v. calls_in p (judged p W) n site f (values_at p v old.net xs))

  -- ---- a function whose body has calls at most n deep
  abbrev pub weight_of_run : Function → List Argument → ℕ
  weight_of_run fn xs = set_cost p fn.params xs + function_body p (nodes p W.scale n) fn.result fn.body

  abbrev pub bits_of_run : Function → ℕ
  bits_of_run fn = function_body p (bits p W.scale n) fn.result fn.body

  -- it can be run from a state, with these arguments
  pub record RunReady (close : Spot) (needed : Bool) (fn : Function) (s : Sym) (xs : List Argument) : Type 0 where
    pub fits : IsState p s
    pub arguments : AreArguments p s.net xs
    pub types : IsTrue (function_fits p fn)
    pub void : fn.result ≡ None → needed ≡ false
    pub room : length s.net + (W.scale.returns close + weight_of_run fn xs + bits_of_run fn) < 2 ^ 27

  -- it was run: its parameters' cells, its body in a scope of its own, and the value that it gave
  pub record HasRun (close : Spot) (needed : Bool) (fn : Function) (xs : List Argument) (old new : Sym) (bits : List Bit) : Type 0 where
    pub bits_in : AreTyped p.model (type_or_int fn.result) new.net bits
    pub follows : (site : Site) → site.close ≡ close → site.needed ≡ needed → Follows W.duties p (W.scale.returns close + weight_of_run fn xs) (bits_of_run fn) old new (λ v. is_value needed (typed p.model (type_or_int fn.result) v new.net bits))
        (λ v s. bind (scoped Stopped JudgedState cells_judged with_cells_judged (with_params p (judged p W) fn.params (values_at p v old.net xs) (run_in p (judged p W) (suc n) fn) true) s) (λ flow. returned p W site (given flow)))
