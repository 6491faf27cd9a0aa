-- The invariants of a demo are bound to its loops, and to nothing else.
use Rattle.std.proofs.Common.{◌≡◌, ◌<◌, ◌^◌, inl, inr, ◌∙◌, ℕ, ◌+◌, not, nat_eq, true, false, ◌&&◌, ◌||◌, pos, List, [], ◌∷◌, ◌++◌, Option, Some, is_none, Result, Ok, Err, refl, sym, ap, subst}
use Rattle.std.specs.List.{list_any}
use Rattle.std.specs.Str.{bytes_eq}
use Rattle.c_core.specs.Tree as t
use Rattle.c_core.specs.declared.number.BinOp.TheVariants as op
use Rattle.c_core.specs.declared.number.DataModel.TheVariants.{Ilp32}
use Rattle.c_core.specs.declared.number.IntType.{IntType}
use Rattle.c_core.specs.declared.number.IntType.TheVariants.{Int}
use Rattle.c_core.specs.declared.number.Spot.{Spot}
use Rattle.c_core.specs.declared.place.PlaceKind.TheVariants as place
use Rattle.c_meaning.specs.Duties.{Placed}
use Rattle.c_parser.specs.Tree as raw
use Rattle.check_rules.specs.Codes.{is_no_scalar}
use Rattle.check_rules.specs.Constants.{constant_type, valued}
use Rattle.check_rules.specs.Names.{Kind, Entry, Object, named}
use Rattle.check_rules.specs.Typed.{number_named, type_named, typed}
use Rattle.demo_checks.proofs.Expressions.{constant_is_int}
use Rattle.demo_checks.proofs.Names.{bytes_same, named_last, variable}
use Rattle.demo_checks.proofs.Quiet.{never}
use Rattle.demo_laws.specs.DemoLines.{name}
use Rattle.demo_laws.specs.Source.{looped_at}
use Rattle.demo_run.specs.Typed.{correct_typed, constant}
use Rattle.way_bind.specs.Binding.{BindsExpression, BindsThere, Makes, WherePlaced, place_named}
use Rattle.way_bind.specs.declared.fault.BindFault.TheVariants as fault
use Rattle.way_bind.specs.declared.fault.Unbound.{Unbound}
use Rattle.way_bind.specs.declared.fault.Unbound.TheVariants.{NoPlace, Expression, Scope, OutOfMemory}
use Rattle.way_constraint.specs.Constraints.{entries, in_scope, is_refused}
use Rattle.way_invariants.specs.Invariants.{BindsInvariant, placed_at}
use Rattle.wv_author.specs.Witnesses.{range, range_text}
use Rattle.wv_schema.specs.declared.witness.Invariant.{Invariant}
use Rattle.wv_schema.specs.declared.witness.InvariantKind.TheVariants.{Loop}
use Rattle.demo_binding.specs.Correct.{range_at, range_test}
use Rattle.demo_binding.proofs.Places.{any_behind}
use Rattle.demo_binding.proofs.RangeTexts.{range_exp, range_is}
use Rattle.demo_binding.proofs.Suffixes.{IsSuffix, loop_entries, loop_names, loop_place}

-- ---- the expression

-- what its words stand for, and the type of its bound, make its tree
abbrev tree : ℕ → (ℕ → Spot) → Option Kind → Option IntType → t.Exp
tree b at w ty =
    t.Expr (at 0) (Some Int)
    (t.Logic true (t.Expr (at 0) (Some Int) (t.Binary op.Le (constant 0 (at 0)) (t.Expr (at 2) (Some (type_named w)) (t.Var (number_named w)))))
    (t.Expr (at 4) (Some Int) (t.Binary op.Le (t.Expr (at 4) (Some (type_named w)) (t.Var (number_named w))) (t.Expr (at 6) (Some (valued ty)) (t.Const (pos b))))))

range_typed : (es : List Entry) (x : List ℕ) (o b : ℕ) (at : ℕ → Spot) → named es x ≡ Some (Object o Int 0 false) → b < 2 ^ 31 → typed Ilp32 [] es (range_exp x b at) ≡ range_test o b at
range_typed es x o b at e small =
    ap (λ w. tree b at w (constant_type Ilp32 b (not (nat_eq b 0)) false 0)) e ∙ ap (tree b at (Some (Object o Int 0 false))) (constant_is_int b (not (nat_eq b 0)) small)

range_fits : (es : List Entry) (x : List ℕ) (o b : ℕ) (at : ℕ → Spot) → named es x ≡ Some (Object o Int 0 false) → b < 2 ^ 31 → is_refused Ilp32 es (range_exp x b at) ≡ false
range_fits es x o b at e small =
    ap (λ w. (is_no_scalar w || false) || ((is_no_scalar w || false) || ((is_none (constant_type Ilp32 b (not (nat_eq b 0)) false 0) || false) || false))) e
    ∙ ap (λ ty. (is_none ty || false) || false) (constant_is_int b (not (nat_eq b 0)) small)

range_in_scope : (es : List Entry) (x : List ℕ) (b : ℕ) (at : ℕ → Spot) → list_any (λ (e : Entry). bytes_eq e.name x) es ≡ true → in_scope es (range_exp x b at) ≡ true
range_in_scope es x b at e = ap (λ known. (known && true) && ((known && true) && true)) e

-- ---- one invariant

abbrev pub placed_range : ℕ → ℕ → ℕ → ℕ → Placed
placed_range l k o b = record { at_loop = true; spot = looped_at (l + 1) k b 0; test = range_test o b (range_at k b) }

module _ (bs : List ℕ) where
  abbrev p : t.Program
  p = correct_typed bs

  -- an invariant is bound to this and nothing else, unless memory is wanted
  pub record IsBoundTo (v : Invariant) (x : Placed) : Type 0 where
    pub only : (y : Placed) → BindsInvariant p v (Ok y) → y ≡ x
    pub stands : (lack : Unbound) → (lack ≡ OutOfMemory → ⊥) → BindsInvariant p v (Err lack) → ⊥

  module _ (l k o b : ℕ) (cs : List ℕ) (h : IsSuffix bs l k o (b ∷ cs)) (low : k < 2 ^ 31) (small : b < 2 ^ 31) where
    abbrev at : Spot
    at = looped_at (l + 1) k b 0

    abbrev names : List ℕ
    names = h.names ++ o ∷ []

    abbrev e : raw.Exp
    e = range_exp (name k) b (range_at k b)

    abbrev es : List Entry
    es = entries p.objects names

    its_place : place_named p place.Loop (range k b).location ≡ Some at
    unfolding place_named
    its_place = loop_place bs l k o b cs h

    -- what its place leaves to ask
    there : (answer : Result Placed Unbound) → BindsInvariant p (range k b) answer → Makes (BindsExpression p names (range_text k b)) (placed_at Loop at) answer
    there answer bound =
        let placed : BindsThere p place.Loop (range_text k b) (placed_at Loop) at answer =
        subst (λ s. WherePlaced s (BindsThere p place.Loop (range_text k b) (placed_at Loop)) answer) its_place bound in
        subst (λ ns. Makes (BindsExpression p ns (range_text k b)) (placed_at Loop at) answer) (loop_names bs l k o b cs h) placed

    entries_end : es ≡ entries p.objects h.names ++ variable (name k) o ∷ []
    entries_end = loop_entries bs l k o b cs h

    means : named es (name k) ≡ Some (Object o Int 0 false)
    means = ap (λ xs. named xs (name k)) entries_end ∙ named_last (entries p.objects h.names) (name k) o

    known : in_scope es e ≡ true
    known =
        let found : list_any (λ (x : Entry). bytes_eq x.name (name k)) (variable (name k) o ∷ []) ≡ true = ap (λ b. b || false) (bytes_same (name k)) in
        range_in_scope es (name k) b (range_at k b)
        (ap (list_any (λ (x : Entry). bytes_eq x.name (name k))) entries_end ∙ any_behind (λ (x : Entry). bytes_eq x.name (name k)) (entries p.objects h.names) (variable (name k) o ∷ []) found)

    its_tree : (tree : t.Exp) → BindsExpression p names (range_text k b) (Ok tree) → tree ≡ range_test o b (range_at k b)
    its_tree tree bound =
        let one = (bound.1).only e (range_is k b low small) in
        (bound.2).made ∙ ap (typed Ilp32 [] es) (sym one) ∙ range_typed es (name k) o b (range_at k b) means small

    its_lack : (lack : Unbound) → (lack ≡ OutOfMemory → ⊥) → BindsExpression p names (range_text k b) (Err lack) → ⊥
    its_lack NoPlace other bound = bound
    its_lack Expression other (inl none) = none e (range_is k b low small)
    its_lack Expression other (inr bound) =
        never (is_refused Ilp32 es e) (range_fits es (name k) o b (range_at k b) means small) (ap (is_refused Ilp32 es) ((bound.1).only e (range_is k b low small)) ∙ (bound.2).typing)
    its_lack Scope other bound = never (in_scope es e) (ap (in_scope es) ((bound.1).only e (range_is k b low small)) ∙ bound.2) known
    its_lack OutOfMemory other bound = other refl

    pub range_bound : IsBoundTo (range k b) (placed_range l k o b)
    range_bound = record {
      only = λ y bound. let made = there (Ok y) bound in made.2 ∙ ap (placed_at Loop at) (its_tree made.0 made.1);
      stands = λ lack other bound. its_lack lack other (there (Err lack) bound);
    }
