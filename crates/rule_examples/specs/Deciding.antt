-- The first refusal, computed: for worked sources.
use Rattle.std.specs.Prelude.{ℕ, zero, suc, ◌+◌, ◌-◌, ◌/◌, ◌%◌, nat_lt, Bool, true, false, cond, ◌&&◌, ◌||◌, List, [], ◌∷◌, ◌++◌, length, Option, Some, None, slice_get, codes}
use Rattle.std.specs.List.{list_any, range_with_len}
use Rattle.c_core.specs.declared.number.DataModel.{DataModel}
use Rattle.c_core.specs.declared.number.Spot.{Spot}
use Rattle.c_core.specs.declared.tree.Object.{Object}
use Rattle.c_parser.specs.Tree as raw
use Rattle.c_parser.specs.Tree.{Exp, Expr, Node, Step, Assign}
use Rattle.c_parser.specs.ReadItems.{Outcome, Source, Syntax, read_items}
use Rattle.c_parser.specs.ReadExpressions.{level, within}
use Rattle.c_parser.specs.ReadStatements.{rows_within, header_within, statement_level, braced_within, armed_within}
use Rattle.grammar_examples.specs.Shown.{tokens_of}
use Rattle.check_rules.specs.declared.fault.CheckCode.{CheckCode}
use Rattle.check_rules.specs.declared.fault.CheckCode.TheVariants as code
use Rattle.check_rules.specs.declared.fault.Refusal.{Refusal}
use Rattle.check_rules.specs.Names.{Entry}
use Rattle.check_rules.specs.Scopes.{seen, outermost, after_items}
use Rattle.check_rules.specs.Parts.{Value, Part, Expression, Initializing, parts, parts_of_source, bodies_of}
use Rattle.check_rules.specs.Codes.{nameless, doubled, mistyped, missized, bodiless, crowded}
use Rattle.check_rules.specs.Order.{is_object, is_static, object_named, reads, changes, calls_function, parts_of_bodies, operands, parts_below}
use Rattle.check_rules.specs.Noting.{noted}
use Rattle.check_rules.specs.First.{refusal, comes_first, place, wrong_main}

abbrev pub body_at : List (List Part) → ℕ → List Part
body_at bodies k = cond (nat_lt k (length bodies)) (or_none (slice_get bodies k)) []
  where
    or_none : Option (List Part) → List Part
    or_none None = []
    or_none (Some ps) = ps

module _ (m : DataModel) (items : List raw.Item) (bodies : List (List Part)) (objects : List Object) where
  abbrev pub numbers : List ℕ
  numbers = range_with_len 0 (length bodies)

  -- calls in these parts lead to k by this many further calls at most
  abbrev pub leads : ℕ → List Part → ℕ → Bool
  leads zero ps k = list_any (calls_function m items k) ps
  leads (suc n) ps k = leads n ps k || list_any (λ j. leads n ps j && list_any (calls_function m items k) (body_at bodies j)) numbers

  abbrev pub through : (Part → Bool) → List Part → Bool
  through test ps = list_any (λ k. leads (length bodies) ps k && list_any test (body_at bodies k)) numbers

  abbrev pub changed : ℕ → List Part → Bool
  changed o ps = list_any (changes (is_object o)) ps || through (changes (is_static o)) ps

  abbrev pub touched : ℕ → List Part → Bool
  touched o ps = list_any (reads (is_object o)) ps || (through (reads (is_static o)) ps || changed o ps)

  abbrev pub clash : List Part → List Part → Bool
  clash ps qs = list_any (λ o. changed o ps && touched o qs) (range_with_len 0 (length objects))

  abbrev pub calls_one : List Part → Bool
  calls_one ps = list_any (λ k. list_any (calls_function m items k) ps) numbers

  abbrev pub are_unsequenced : List Part → List Part → Bool
  are_unsequenced ps qs = clash ps qs || (clash qs ps || (calls_one ps && calls_one qs))

  abbrev pub some_pair : List (List Part) → Bool
  some_pair [] = false
  some_pair (ps ∷ rest) = list_any (are_unsequenced ps) rest || some_pair rest

  abbrev pub is_target : ℕ → List Entry → Exp → Bool
  is_target o es (Expr p n) = is_object o (object_named es n)

  abbrev pub changed_in_index : List Entry → Exp → Bool
  changed_in_index es target = list_any (λ o. is_target o es target && changed o (parts_below es target)) (range_with_len 0 (length objects))

  abbrev pub changed_beside : List Entry → Exp → Exp → Bool
  changed_beside es target from =
      list_any (λ o. is_target o es target && list_any (changes (is_object o)) (parts_below es target ++ parts es Value from)) (range_with_len 0 (length objects))

  abbrev pub stored_twice : List Entry → Node → Bool
  stored_twice es (Step op a) = changed_in_index es a
  stored_twice es (Assign op a b) = changed_in_index es a || changed_beside es a b
  stored_twice es n = false

  abbrev pub unordered : Part → Bool
  unordered (Expression es r (Expr p n)) = some_pair (operands es n) || stored_twice es n
  unordered (Initializing fixed s e) = touched (length s.objects - 1) (parts (seen s) Value e)
  unordered part = false

  abbrev pub holds : CheckCode → Part → Bool
  holds code.Name part = nameless part
  holds code.Again part = doubled part
  holds code.Typing part = mistyped m items part
  holds code.Size part = missized m items part
  holds code.Order part = unordered part
  holds code.Body part = bodiless m items part
  holds code.Main part = false
  holds code.Cells part = crowded m items part

  abbrev pub judged_by : List CheckCode → Part → Option Refusal → Option Refusal
  judged_by [] part best = best
  judged_by (c ∷ cs) part best = judged_by cs part (noted best (holds c part) (refusal c (place m items c part)))

  abbrev pub judged : List Part → Option Refusal → Option Refusal
  judged [] best = best
  judged (p ∷ ps) best = judged ps (judged_by (code.Name ∷ code.Again ∷ code.Typing ∷ code.Size ∷ code.Order ∷ code.Body ∷ code.Cells ∷ []) p best)

abbrev pub or_main : Option Refusal → Option Spot → Option Refusal
or_main (Some r) p = Some r
or_main None None = None
or_main None (Some p) = Some (refusal code.Main p)

abbrev pub first_refusal : DataModel → List raw.Item → Option Refusal
first_refusal m items =
    or_main (judged m items (parts_of_bodies m (bodies_of items) outermost items) (after_items m (bodies_of items) outermost items).objects (parts_of_source m items) None) (wrong_main items)

-- ---- as a text: the code and the column

abbrev pub text_of_code : CheckCode → List ℕ
text_of_code code.Name = codes "name"
text_of_code code.Again = codes "again"
text_of_code code.Typing = codes "typing"
text_of_code code.Size = codes "size"
text_of_code code.Order = codes "order"
text_of_code code.Body = codes "body"
text_of_code code.Main = codes "main"
text_of_code code.Cells = codes "cells"

abbrev pub two_digits : ℕ → List ℕ
two_digits n = (48 + n / 10) ∷ (48 + n % 10) ∷ []

abbrev pub text_of_refusal : Option Refusal → List ℕ
text_of_refusal None = codes "program"
text_of_refusal (Some r) = text_of_code r.code ++ (codes " " ++ two_digits r.spot.column)

abbrev pub text_of : DataModel → Outcome → List ℕ
text_of m (Source items) = text_of_refusal (first_refusal m items)
text_of m (Syntax p) = codes "syntax " ++ two_digits p.column

abbrev pub checked : DataModel → List ℕ → List ℕ
unfolding level within rows_within header_within statement_level braced_within armed_within
checked m text = text_of m (read_items 20 20 (length text) (tokens_of text))
