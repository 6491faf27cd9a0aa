-- Expressions that store nothing and call no function with a body have no order to break.
use Rattle.std.proofs.Common.{◌≡◌, inl, inr, ◌∙◌, ℕ, Bool, true, false, List, Option, sym}
use Rattle.std.specs.List.{AllByRecursion}
use Rattle.std.proofs.lemmas.Bool.{false≢true}
use Rattle.std.proofs.lemmas.List.Elements.{All-contains, All-from_recursion}
use Rattle.c_core.specs.declared.number.DataModel.{DataModel}
use Rattle.c_parser.specs.Tree.{Item}
use Rattle.check_rules.specs.Names.{Kind}
use Rattle.check_rules.specs.Order.{changes, reads, calls_function, is_object, SomeOf, This, Other, Leads, Directly, Further, Changes, Touches, CallsOne, AreUnsequenced, SomePair, OfFirst, OfOthers}
use Rattle.check_rules.specs.Parts.{Part}

-- a test that fails doesn't hold
pub never : (b : Bool) → b ≡ false → b ≡ true → ⊥
never b e f = false≢true (sym e ∙ f)

-- no part passes the test
pub none_passes : (test : Part → Bool) (ps : List Part) → AllByRecursion (λ p. test p ≡ false) ps → SomeOf test ps → ⊥
none_passes test ps all (This {p = p} {ps = qs} e) = never (test p) all.0 e
none_passes test ps all (Other {p = p} {ps = qs} s) = none_passes test qs all.1 s

module _ (m : DataModel) (items : List Item) where
  -- nothing is stored to, and no function with a body is called
  pub record AreQuiet (ps : List Part) : Type 0 where
    pub stores : (test : Option Kind → Bool) → AllByRecursion (λ p. changes test p ≡ false) ps
    pub calls : (k : ℕ) → AllByRecursion (λ p. calls_function m items k p ≡ false) ps

  leads_nowhere : (ps : List Part) (j : ℕ) → AreQuiet ps → Leads m items ps j → ⊥
  leads_nowhere ps j h (Directly {k = k} s) = none_passes (calls_function m items k) ps (h.calls k) s
  leads_nowhere ps j h (Further {j = i} l b s) = leads_nowhere ps i h l

  pub changes_nothing : (o : ℕ) (ps : List Part) → AreQuiet ps → Changes m items o ps → ⊥
  changes_nothing o ps h (inl s) = none_passes (changes (is_object o)) ps (h.stores (is_object o)) s
  changes_nothing o ps h (inr t) = leads_nowhere ps t.function h t.leads

  -- nor is an object read
  pub touches_nothing : (o : ℕ) (ps : List Part) → AreQuiet ps → AllByRecursion (λ p. reads (is_object o) p ≡ false) ps → Touches m items o ps → ⊥
  touches_nothing o ps h none (inl (inl s)) = none_passes (reads (is_object o)) ps none s
  touches_nothing o ps h none (inl (inr t)) = leads_nowhere ps t.function h t.leads
  touches_nothing o ps h none (inr c) = changes_nothing o ps h c

  calls_none : (ps : List Part) → AreQuiet ps → CallsOne m items ps → ⊥
  calls_none ps h c = none_passes (calls_function m items c.function) ps (h.calls c.function) c.called

  in_any_order : (ps qs : List Part) → AreQuiet ps → AreQuiet qs → AreUnsequenced m items ps qs → ⊥
  in_any_order ps qs h k (inl c) = changes_nothing c.object ps h c.changed
  in_any_order ps qs h k (inr (inl c)) = changes_nothing c.object qs k c.changed
  in_any_order ps qs h k (inr (inr both)) = calls_none ps h both.0

  -- operands that are all quiet
  pub all_in_any_order : (pss : List (List Part)) → AllByRecursion AreQuiet pss → SomePair m items pss → ⊥
  all_in_any_order pss h (OfFirst {ps = ps} {qs = qs} {rest = rest} c u) =
      in_any_order ps qs h.0 (All-contains AreQuiet rest qs (All-from_recursion AreQuiet rest h.1) c) u
  all_in_any_order pss h (OfOthers {ps = ps} {rest = rest} p) = all_in_any_order rest h.1 p
