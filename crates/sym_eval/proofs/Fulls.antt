-- Full expressions, and the types of a statement's own parts.
use Rattle.std.proofs.Common.{◌≡◌, ℕ, Bool, true, ℤ, List, [], ◌∷◌, subst, Option, Some, IsTrue}
use Rattle.std.specs.List.{list_all}
use Rattle.c_core.specs.Tree.{Program, Exp, Stmt, Form}
use Rattle.c_core.specs.Parts.{type_of as type_if, own_fulls, every_statement, every_statement_in}
use Rattle.c_core.specs.Typing.{is_typed, form_fits, statement_fits}
use Rattle.c_core.specs.declared.number.IntType.{IntType}
use Rattle.c_core.specs.declared.number.Spot.{Spot}
use Rattle.c_meaning.specs.Meaning.{Use, Used}
use Rattle.c_meaning.proofs.TypeFacts.{both}
use Rattle.sym_meaning.specs.Mode.{Mode}
use Rattle.circuits.specs.declared.net.Bit.{Bit}
use Rattle.circuits.specs.Numbers.{typed, AreTyped}
use Rattle.sym_state.specs.declared.state.Sym.{Sym}
use Rattle.sym_state.specs.Following.{AreOf, IsNumber}
use Rattle.sym_exprs.specs.Evaluating.{IsWanted}
use Rattle.sym_eval.specs.Control.{FullGives}

-- a test of one
pub only_one : {A : Type 0} (q : A → Bool) (x : A) → IsTrue (list_all q (x ∷ [])) → IsTrue (q x)
only_one q x h = (both (q x) true h).0

module _ (p : Program) (gives : Option IntType) where
  -- of a typed statement: its form, its own full expressions, and the statements in it
  pub form_types : (at : Spot) (f : Form) → IsTrue (every_statement (statement_fits p gives) (Stmt at f)) → IsTrue (form_fits p gives f) × IsTrue (list_all (is_typed p) (own_fulls f)) × IsTrue (every_statement_in (statement_fits p gives) f)
  form_types at f h =
      let a = both (statement_fits p gives (Stmt at f)) (every_statement_in (statement_fits p gives) f) h in
      let b = both (form_fits p gives f) (list_all (is_typed p) (own_fulls f)) a.0 in
      (b.0, b.1, a.1)

module _ (p : Program) (W : Mode) (n : ℕ) where
  -- the bits of a value that is used
  pub full_in : {s m : Sym} {bits : List Bit} (at : Spot) (want : Use) (e : Exp) (t : IntType) → type_if e ≡ Some t → FullGives p W n at want e s m bits → AreTyped p.model t m.net bits
  full_in {m = m} {bits = bits} at want e t h x = subst (λ z. AreOf p.model z m.net bits) h x.bits_in

  -- and its number
  pub number_as : (m : Sym) (bits : List Bit) (e : Exp) (t : IntType) → type_if e ≡ Some t → (v : ℕ → Bool) (z : ℤ) → IsWanted Used p.model (type_if e) m.net bits v z → z ≡ typed p.model t v m.net bits
  number_as m bits e t h v z q = subst (λ k. IsNumber p.model k m.net bits v z) h q
