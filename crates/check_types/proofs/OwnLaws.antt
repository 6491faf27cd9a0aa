-- The refusals of an expression itself, step by step.
use Rattle.std.proofs.Common.{◌≡◌, ◌||◌, ◌&&◌, not, ℕ, Bool, true, false, List, Option, Some, None, refl, ap, ◌∙◌}
use Rattle.c_core.specs.Parts.{type_of}
use Rattle.c_core.specs.declared.number.DataModel.{DataModel}
use Rattle.c_core.specs.declared.number.Spot.{Spot}
use Rattle.c_parser.specs.Tree.{Expr, Node, Number, Char, Var, Index, Unary, Cast, Step, Binary, Logic, Choose, Comma, Assign, Call, Item}
use Rattle.check_rules.specs.declared.fault.CheckCode.TheVariants as code
use Rattle.check_rules.specs.declared.fault.Refusal.{Refusal}
use Rattle.check_rules.specs.Names.{Kind, Object, Function, Closed, Entry, named, built_in, is_function}
use Rattle.check_rules.specs.Typed.{typed}
use Rattle.check_rules.specs.Parts.{Role, Value, Target, Effect, Expression, bodies_of}
use Rattle.check_rules.specs.Codes.{word_of, place_of_word, names_nothing, misused, miscalled, is_not, count_for, is_bodiless, calls_bodiless}
use Rattle.check_rules.specs.First.{refusal}
use Rattle.check_rules.specs.Noting.{noted, noted_part}
use Rattle.check_types.specs.Own.{unfit_by, name_called}
use Rattle.check_types.specs.Words.{word_as, word_at}

-- has the function of this name no body?
abbrev bodiless_if : DataModel → List Item → Option (List ℕ) → Bool
bodiless_if m items None = false
bodiless_if m items (Some f) = is_bodiless m items f

module _ (m : DataModel) (items : List Item) (es : List Entry) where
  pub called : (f : List ℕ) (n : ℕ) (k : Option Kind) → (word_as k).is_function ≡ true → is_not n (count_for m items (built_in f) es f) ≡ miscalled m items es f n k
  called f n None h = cc
  called f n (Some (Object o ty dims fixed)) h = cc
  called f n (Some (Function result stated has_body)) h = refl
  called f n (Some Closed) h = refl

  pub not_called : (f : List ℕ) (n : ℕ) (k : Option Kind) → (word_as k).is_function ≡ false → not (word_as k).is_nameless ≡ miscalled m items es f n k
  not_called f n None h = refl
  not_called f n (Some (Object o ty dims fixed)) h = refl
  not_called f n (Some (Function result stated has_body)) h = cc
  not_called f n (Some Closed) h = cc

  -- a call by its name
  pub bodiless_call : (f : List ℕ) (n : Node) → Some f ≡ name_called n → ((word_at es (word_of n)).is_function && is_bodiless m items f) ≡ calls_bodiless m items es n
  bodiless_call f (Call g w gs close) h = ap (λ o. is_function (named es g) && bodiless_if m items o) h
  bodiless_call f (Number v decimal unsigned longs) h = cc
  bodiless_call f (Char v) h = cc
  bodiless_call f (Var x w) h = cc
  bodiless_call f (Index x w is) h = cc
  bodiless_call f (Unary op a) h = cc
  bodiless_call f (Cast to a) h = cc
  bodiless_call f (Step op a) h = cc
  bodiless_call f (Binary op a b) h = cc
  bodiless_call f (Logic both a b) h = cc
  bodiless_call f (Choose mark e a b) h = cc
  bodiless_call f (Comma a b) h = cc
  bodiless_call f (Assign op a b) h = cc

  pub no_call : (n : Node) → None ≡ name_called n → false ≡ calls_bodiless m items es n
  no_call (Call g w gs close) h = cc
  no_call (Number v decimal unsigned longs) h = refl
  no_call (Char v) h = refl
  no_call (Var x w) h = refl
  no_call (Index x w is) h = refl
  no_call (Unary op a) h = refl
  no_call (Cast to a) h = refl
  no_call (Step op a) h = refl
  no_call (Binary op a b) h = refl
  no_call (Logic both a b) h = refl
  no_call (Choose mark e a b) h = refl
  no_call (Comma a b) h = refl
  no_call (Assign op a b) h = refl

  pub own_part : (b : Option Refusal) (r : Role) (p : Spot) (n : Node)
      → noted (noted (noted b (names_nothing es (word_of n)) (refusal code.Name (place_of_word p n)))
      (misused m items es n || unfit_by r (type_of (typed m (bodies_of items) es (Expr p n))) n) (refusal code.Typing p))
      (calls_bodiless m items es n) (refusal code.Body p)
      ≡ noted_part m items b (Expression es r (Expr p n))
  own_part b Value p n = refl
  own_part b Target p n = refl
  own_part b Effect p n = refl

  pub noted_own : (b c d e : Option Refusal) (r : Role) (p q : Spot) (n : Node) (nameless mistyped bodiless : Bool)
      → nameless ≡ names_nothing es (word_of n) → q ≡ place_of_word p n
      → mistyped ≡ (misused m items es n || unfit_by r (type_of (typed m (bodies_of items) es (Expr p n))) n) → bodiless ≡ calls_bodiless m items es n
      → c ≡ noted b nameless (refusal code.Name q) → d ≡ noted c mistyped (refusal code.Typing p) → e ≡ noted d bodiless (refusal code.Body p)
      → e ≡ noted_part m items b (Expression es r (Expr p n))
  noted_own b c d e r p q n nameless mistyped bodiless f g h k x y z =
      let last = refusal code.Body p in
      let typing = refusal code.Typing p in
      let word = names_nothing es (word_of n) in
      let place = place_of_word p n in
      let broken = misused m items es n || unfit_by r (type_of (typed m (bodies_of items) es (Expr p n))) n in
      z ∙ ap (λ (o : Option Refusal). noted o bodiless last) y
      ∙ ap (λ (o : Option Refusal). noted (noted o mistyped typing) bodiless last) x
      ∙ ap (λ (t : Bool). noted (noted (noted b t (refusal code.Name q)) mistyped typing) bodiless last) f
      ∙ ap (λ (s : Spot). noted (noted (noted b word (refusal code.Name s)) mistyped typing) bodiless last) g
      ∙ ap (λ (t : Bool). noted (noted (noted b word (refusal code.Name place)) t typing) bodiless last) h
      ∙ ap (λ (t : Bool). noted (noted (noted b word (refusal code.Name place)) broken typing) t last) k
      ∙ own_part b r p n
