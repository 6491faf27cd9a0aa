-- Calls that have no body.
use Rattle.std.proofs.Common.{◌≡◌, ℕ, ◌+◌, ◌<◌, ◌≤◌, ◌^◌, Bool, ℤ, List, [], ◌∷◌, length, refl, sym, ap, subst, arith, Option, Some, is_some}
use Rattle.c_core.specs.Tree.{Program, Exp, Expr, Call, Exps, NoExp, MoreExp}
use Rattle.c_core.specs.Types.{width_of}
use Rattle.c_core.specs.declared.number.IntType.{IntType}
use Rattle.c_core.specs.declared.number.Spot.{Spot}
use Rattle.c_core.specs.declared.tree.Callee.TheVariants.{Input, ReachError, Abort, Exit}
use Rattle.c_meaning.specs.Acts.{Res, Go, Stop, bind}
use Rattle.c_meaning.specs.Havoc.{Stopped}
use Rattle.sym_meaning.specs.Mode.{Mode, JudgedState}
use Rattle.c_meaning.specs.Meaning.{Used, Site}
use Rattle.c_meaning.specs.Objects.{type_of}
use Rattle.circuits.specs.declared.net.Bit.{Bit}
use Rattle.sym_state.specs.declared.state.Sym.{Sym}
use Rattle.sym_state.specs.declared.state.Around.{Around}
use Rattle.sym_state.proofs.Nets.{longer_by}
use Rattle.sym_state.proofs.Composed.{follows_then, follows_as}
use Rattle.sym_values.specs.Valuing.{Gives}
use Rattle.sym_values.specs.Storing.{input_of, reach_of, end_of, Ends}
use Rattle.sym_exprs.specs.Evaluating.{weight_of, bits_of, evaluated, Ready, Values}
use Rattle.sym_exprs.proofs.Typed.{input_parts, reach_parts, abort_parts, exit_parts}
use Rattle.sym_exprs.proofs.Forms.{as_values, first_ready}
use Rattle.sym_state.specs.Telling.{telling}
use Rattle.sym_state.specs.Following.{Deed, Follows}
use Rattle.sym_state.proofs.Telling.{told_follows, follows_map}
use Rattle.sym_state.specs.Standing.{Turned}
use Rattle.sym_state.proofs.Nets.{typed_added, are_typed_added}
use Rattle.c_meaning.specs.declared.run.Event.TheVariants.{Enter, Return}
use Rattle.circuits.specs.Numbers.{typed}
use Rattle.sym_meaning.specs.Judged.{tell}

module _ (p : Program) (W : Mode) (n : ℕ) (at : Around) where
  -- the call is entered, draws, and comes back with the value
  pub input_values : {s x y m : Sym} {bits : List Bit} (i j : ℕ) (spot close : Spot) (ty : Option IntType) (t : IntType) (es : Exps) → Ready p W n at s (Expr spot ty (Call (Input t) es close))
      → Turned p i 0 s x (λ v. telling W (Enter close)) → Gives p W 0 (width_of p.model t) x y (Some t) bits (input_of p W spot t)
      → Turned p j 0 y m (λ v. telling W (Return close (Some (typed p.model t v y.net bits)))) → i ≤ W.scale.enters close → j ≤ W.scale.returns close
      → Values p W n at Used (Expr spot ty (Call (Input t) es close)) s m bits
  input_values {s} {x} {y} {m} {bits} i j spot close ty t es h e d r le few =
      let q = input_parts p spot close ty t es h.types in
      let same : (v : ℕ → Bool) → typed p.model t v m.net bits ≡ typed p.model t v y.net bits = λ v. typed_added r.added p.model t v bits d.bits_in in
      let back : Follows W.duties p j 0 y m (λ v z. z ≡ typed p.model t v m.net bits) (λ v k. bind (tell p W (Return close (Some (typed p.model t v y.net bits))) k) (λ u k. Go (typed p.model t v y.net bits) k)) =
      follows_map p W (λ v u. typed p.model t v y.net bits) (told_follows p W (λ v. Return close (Some (typed p.model t v y.net bits))) r) (λ v u f. sym (same v)) in
      let rest : Follows W.duties p j (width_of p.model t) x m (λ v z. z ≡ typed p.model t v m.net bits) (λ v k. bind (input_of p W spot t v k) (λ z k. bind (tell p W (Return close (Some z)) k) (λ u k. Go z k))) =
      follows_then p W.duties j (width_of p.model t) (λ v z k. bind (tell p W (Return close (Some z)) k) (λ u k. Go z k)) d.follows back (λ v z f k. ap (λ w. bind (tell p W (Return close (Some w)) k) (λ u k. Go w k)) f) (omega arith) (omega arith) in
      subst (λ k. Values p W n at Used (Expr spot ty (Call (Input t) k close)) s m bits) (sym q.0)
      (as_values p W n at (Expr spot ty (Call (Input t) NoExp close)) q.1 record {
        bits_in = are_typed_added r.added d.bits_in;
        follows = follows_as p W.duties
            (follows_then p W.duties (i + j) (width_of p.model t) (λ v u k. bind (input_of p W spot t v k) (λ z k. bind (tell p W (Return close (Some z)) k) (λ u k. Go z k))) (told_follows p W (λ v. Enter close) e) rest (λ v u f k. refl) (omega arith) (omega arith))
            (λ v z e. e) (λ v l. refl) (omega (arith, le, few)) (omega arith);
      })

  -- the call site of a node
  abbrev pub site_of : Spot → Spot → Option IntType → Site
  site_of spot close ty = record { spot = spot; close = close; needed = is_some ty }

  -- a call is entered, and ends the run
  ends_in : {i k : ℕ} {s x m : Sym} {deed : Deed ℤ} (g : ℕ) (close : Spot) → Turned p i 0 s x (λ v. telling W (Enter close)) → Ends p W k x m deed → i + k ≤ g
      → Follows W.duties p g 0 s m (λ v z. Unit {0}) (λ v l. bind (tell p W (Enter close) l) (λ u l. deed v l))
  ends_in {deed = deed} g close e x le = follows_then p W.duties g 0 (λ v u l. deed v l) (told_follows p W (λ v. Enter close) e) x (λ v u f l. refl) le (omega arith)

  pub reach_values : {s x m : Sym} (i : ℕ) (bits : List Bit) (spot close : Spot) (ty : Option IntType) (es : Exps) → Ready p W n at s (Expr spot ty (Call ReachError es close))
      → Turned p i 0 s x (λ v. telling W (Enter close)) → Ends p W 4 x m (reach_of p W at (site_of spot close ty)) → i ≤ W.scale.enters close
      → Values p W n at Used (Expr spot ty (Call ReachError es close)) s m bits
  reach_values {s} {x} {m} i bits spot close ty es h e y le =
      let q = reach_parts p spot close ty es h.types in
      subst (λ k. Values p W n at Used (Expr spot ty (Call ReachError k close)) s m bits) (sym q.0)
      (as_values p W n at (Expr spot ty (Call ReachError NoExp close)) q.1 record { bits_in = tt; follows = follows_as p W.duties (ends_in (i + 4) close e y (omega arith)) (λ v z e. tt) (λ v l. refl) (omega (arith, le)) (omega arith) })

  pub abort_values : {s x m : Sym} (i : ℕ) (bits : List Bit) (spot close : Spot) (ty : Option IntType) (es : Exps) → Ready p W n at s (Expr spot ty (Call Abort es close))
      → Turned p i 0 s x (λ v. telling W (Enter close)) → Ends p W 1 x m (end_of p W) → i ≤ W.scale.enters close
      → Values p W n at Used (Expr spot ty (Call Abort es close)) s m bits
  abort_values {s} {x} {m} i bits spot close ty es h e y le =
      let q = abort_parts p spot close ty es h.types in
      subst (λ k. Values p W n at Used (Expr spot ty (Call Abort k close)) s m bits) (sym q.0)
      (as_values p W n at (Expr spot ty (Call Abort NoExp close)) q.1 record { bits_in = tt; follows = follows_as p W.duties (ends_in (i + 1) close e y (omega arith)) (λ v z e. tt) (λ v l. refl) (omega (arith, le)) (omega arith) })

  -- the run ends, whatever the argument is
  abbrev argued : ℤ → IntType → List (ℤ × IntType)
  argued z t = (z, t) ∷ []

  ends_after : (r : Res Stopped JudgedState ℤ) (t : IntType) (f : JudgedState → Res Stopped JudgedState ℤ) → bind r (λ z k. f k) ≡ bind (bind r (λ z k. Go (argued z t) k)) (λ vs k. f k)
  ends_after (Go z s) t f = refl
  ends_after (Stop e s) t f = refl

  -- the argument of `exit` can be evaluated
  pub exit_ready : {s : Sym} (spot close : Spot) (ty : Option IntType) (e : Exp) → Ready p W n at s (Expr spot ty (Call Exit (MoreExp e NoExp) close)) → Ready p W n at s e
  exit_ready spot close ty e h = first_ready p W n at (Expr spot ty (Call Exit (MoreExp e NoExp) close)) e h (exit_parts p spot close ty e h.types).1 (omega arith)

  -- and the run can end behind it
  pub exit_room : {s x : Sym} {xs : List Bit} (spot close : Spot) (ty : Option IntType) (e : Exp) → Ready p W n at s (Expr spot ty (Call Exit (MoreExp e NoExp) close)) → Values p W n at Used e s x xs → length x.net < 2 ^ 27
  exit_room spot close ty e h ge = omega (arith, (longer_by ge.follows.added).1, h.room)

  pub exit_values : {s x y m : Sym} {xs : List Bit} (i : ℕ) (bits : List Bit) (spot close : Spot) (ty : Option IntType) (e : Exp) → Ready p W n at s (Expr spot ty (Call Exit (MoreExp e NoExp) close))
      → Values p W n at Used e s x xs → Turned p i 0 x y (λ v. telling W (Enter close)) → Ends p W 1 y m (end_of p W) → i ≤ W.scale.enters close
      → Values p W n at Used (Expr spot ty (Call Exit (MoreExp e NoExp) close)) s m bits
  exit_values {s} {x} {y} {m} i bits spot close ty e h ge ev z le =
      let whole = Expr spot ty (Call Exit (MoreExp e NoExp) close) in
      let ends : (ℕ → Bool) → JudgedState → Res Stopped JudgedState ℤ = λ v l. bind (tell p W (Enter close) l) (λ u l. end_of p W v l) in
      as_values p W n at whole (exit_parts p spot close ty e h.types).0
      record {
        bits_in = tt;
        follows = follows_as p W.duties
            (follows_then p W.duties (weight_of p W n whole) (bits_of p W n whole) (λ v u k. ends v k) ge.follows (ends_in (i + 1) close ev z (omega arith)) (λ v u f k. refl) (omega (arith, le)) (omega arith))
            (λ v u f. tt) (λ v l. ends_after (evaluated p W n at Used e v l) (type_of e) (ends v)) (omega arith) (omega arith);
      }
