-- What holds of each source.
use Rattle.std.proofs.Common.{◌≡◌, ℕ, List, Bool, true, false, cond, refl, sym, ap, Option, Some, None}
use Rattle.std.specs.List.{list_all}
use Rattle.c_core.specs.Typing.{is_assignment}
use Rattle.c_core.specs.declared.number.BinOp.{BinOp}
use Rattle.c_tokens.specs.Numbers.{is_spelled}
use Rattle.c_tokens.specs.declared.token.Token.{Token}
use Rattle.c_tokens.specs.declared.token.Punct.{Punct}
use Rattle.c_tokens.specs.declared.token.Punct.TheVariants as sign
use Rattle.c_parser.specs.Tree.{Node, Item}
use Rattle.c_parser.specs.Tree as item
use Rattle.c_parser.specs.Formed.{every_in_item, every_declared_item, sizes_fit, has_block, item_nests, constant_fits, assignment_fits, IsFormed, AreOrderly, constants_fit}
use Rattle.c_parser.specs.Signs.{assigns}
use Rattle.c_parser.specs.Items.{Reach, AReach, Function, AFunction, Prototype, APrototype, Global, AGlobal, Closed, AClosed, Nothing, ASemicolon, reach_error}
use Rattle.c_parser.specs.Sources.{Takes, TakesReach, TakesFunction, TakesPrototype, TakesGlobal, TakesClosed, TakesNothing, with_item, Items, NoMoreItems, MoreItems, IsSource, max_height, max_brackets}
use Rattle.c_parser.proofs.SignLaws.{some_same}
use Rattle.c_parser.proofs.Passing.{Passing, and_true, nothing_passed, past, up_to, from, along_passing}
use Rattle.c_parser.proofs.OrderedStatements.{attributes_along, typed_along}
use Rattle.c_parser.proofs.OrderedItems.{parameters_within_along, takes_along, source_rises}
use Rattle.c_parser.proofs.FormedExpressions.{IsSpelled}
use Rattle.c_parser.proofs.FormedStatements.{declares_pass, braced_pass}
use Rattle.c_parser.proofs.NestedStatements.{braced_nests}
use Rattle.c_parser.proofs.SizedStatements.{declares_sized, braced_sized}

-- a test of an item, where a form gives a tree
abbrev if_item : (Item → Bool) → Option Item → Bool
if_item q None = true
if_item q (Some x) = q x

unless_passes : (q : Item → Bool) (c : Bool) (x : Item) → q x ≡ true → if_item q (cond c None (Some x)) ≡ true
unless_passes q true x h = refl
unless_passes q false x h = h

and_others : (q : Item → Bool) (x : Option Item) (xs : List Item) → if_item q x ≡ true → list_all q xs ≡ true → list_all q (with_item x xs) ≡ true
and_others q None xs h others = others
and_others q (Some x) xs h others = and_true (q x) (list_all q xs) h others

-- ---- bodies

module _ (h b : ℕ) where
  takes_block : (ts : List Token) (x : Option Item) (rest : List Token) → Takes h b ts x rest → if_item has_block x ≡ true
  takes_block ts x rest (TakesReach (AReach r z t p a q)) = refl
  takes_block ts x rest (TakesFunction n (AFunction ss r z t w xs a s low)) = refl
  takes_block ts x rest (TakesPrototype n m (APrototype {result = result} {w} {p} tys r t d a e)) = unless_passes has_block (is_spelled reach_error w) (item.Prototype p w result tys) refl
  takes_block ts x rest (TakesGlobal n m o (AGlobal d low)) = refl
  takes_block ts x rest (TakesClosed n m o p (AClosed us q d s t k e)) = refl
  takes_block ts x rest (TakesNothing n m o p r ASemicolon) = refl

  items_blocks : (ts : List Token) (xs : List Item) → Items h b ts xs → list_all has_block xs ≡ true
  items_blocks ts xs NoMoreItems = refl
  items_blocks ts xs (MoreItems {x = x} {xs = others} d ds) = and_others has_block x others (takes_block _ _ _ d) (items_blocks _ _ ds)

  takes_nests : (ts : List Token) (x : Option Item) (rest : List Token) → Takes h b ts x rest → if_item item_nests x ≡ true
  takes_nests ts x rest (TakesReach (AReach r z t p a q)) = refl
  takes_nests ts x rest (TakesFunction n (AFunction ss r z t w xs a s low)) = braced_nests b _ _ _ s
  takes_nests ts x rest (TakesPrototype n m (APrototype {result = result} {w} {p} tys r t d a e)) = unless_passes item_nests (is_spelled reach_error w) (item.Prototype p w result tys) refl
  takes_nests ts x rest (TakesGlobal n m o (AGlobal d low)) = refl
  takes_nests ts x rest (TakesClosed n m o p (AClosed us q d s t k e)) = refl
  takes_nests ts x rest (TakesNothing n m o p r ASemicolon) = refl

  items_nest : (ts : List Token) (xs : List Item) → Items h b ts xs → list_all item_nests xs ≡ true
  items_nest ts xs NoMoreItems = refl
  items_nest ts xs (MoreItems {x = x} {xs = others} d ds) = and_others item_nests x others (takes_nests _ _ _ d) (items_nest _ _ ds)

  takes_sized : (ts : List Token) (x : Option Item) (rest : List Token) → Takes h b ts x rest → if_item (every_declared_item sizes_fit) x ≡ true
  takes_sized ts x rest (TakesReach (AReach r z t p a q)) = refl
  takes_sized ts x rest (TakesFunction n (AFunction ss r z t w xs a s low)) = braced_sized b _ _ _ s
  takes_sized ts x rest (TakesPrototype n m (APrototype {result = result} {w} {p} tys r t d a e)) = unless_passes (every_declared_item sizes_fit) (is_spelled reach_error w) (item.Prototype p w result tys) refl
  takes_sized ts x rest (TakesGlobal n m o (AGlobal d low)) = declares_sized b _ _ _ _ d
  takes_sized ts x rest (TakesClosed n m o p (AClosed us q d s t k e)) = refl
  takes_sized ts x rest (TakesNothing n m o p r ASemicolon) = refl

  items_sized : (ts : List Token) (xs : List Item) → Items h b ts xs → list_all (every_declared_item sizes_fit) xs ≡ true
  items_sized ts xs NoMoreItems = refl
  items_sized ts xs (MoreItems {x = x} {xs = others} d ds) = and_others (every_declared_item sizes_fit) x others (takes_sized _ _ _ d) (items_sized _ _ ds)

-- ---- nodes

module _ (q : Node → Bool) (passes : (n : Node) → IsSpelled n → q n ≡ true) (h b : ℕ) where
  function_pass : (ts : List Token) (x : Option Item) (rest : List Token) → Function h b ts x rest → Passing (if_item (every_in_item q) x) ts rest
  function_pass ts x rest (AFunction ss r z t n xs a s low) =
      from (along_passing (typed_along b _ _ _ _ t))
      (past (past (from (along_passing (parameters_within_along b _ _ _ xs)) (past (from (along_passing (attributes_along b _ _ a)) (past (up_to (braced_pass q passes b _ _ _ s) (past nothing_passed))))))))

  -- an item without expressions
  no_nodes : (x : Option Item) (ts rest : List Token) → Takes h b ts x rest → if_item (every_in_item q) x ≡ true → Passing (if_item (every_in_item q) x) ts rest
  no_nodes x ts rest d e = record { holds = λ f. e; behind = (along_passing (takes_along h b ts x rest d)).behind }

  prototype_nodes : (ts : List Token) (x : Option Item) (rest : List Token) → Prototype h b ts x rest → if_item (every_in_item q) x ≡ true
  prototype_nodes ts x rest (APrototype {result = result} {w} {p} tys r t d a e) = unless_passes (every_in_item q) (is_spelled reach_error w) (item.Prototype p w result tys) refl

  global_pass : (ts : List Token) (x : Option Item) (rest : List Token) → Global h b ts x rest → Passing (if_item (every_in_item q) x) ts rest
  global_pass ts x rest (AGlobal d low) = declares_pass q passes b _ _ _ _ d

  reach_nodes : (ts : List Token) (x : Option Item) (rest : List Token) → Reach h b ts x rest → if_item (every_in_item q) x ≡ true
  reach_nodes ts x rest (AReach r z t p a q) = refl

  closed_nodes : (ts : List Token) (x : Option Item) (rest : List Token) → Closed h b ts x rest → if_item (every_in_item q) x ≡ true
  closed_nodes ts x rest (AClosed us q p s t m e) = refl

  nothing_nodes : (ts : List Token) (x : Option Item) (rest : List Token) → Nothing h b ts x rest → if_item (every_in_item q) x ≡ true
  nothing_nodes ts x rest ASemicolon = refl

  takes_pass : (ts : List Token) (x : Option Item) (rest : List Token) → Takes h b ts x rest → Passing (if_item (every_in_item q) x) ts rest
  takes_pass ts x rest (TakesReach d) = no_nodes x ts rest (TakesReach d) (reach_nodes _ _ _ d)
  takes_pass ts x rest (TakesFunction r d) = function_pass _ _ _ d
  takes_pass ts x rest (TakesPrototype r f d) = no_nodes x ts rest (TakesPrototype r f d) (prototype_nodes _ _ _ d)
  takes_pass ts x rest (TakesGlobal r f p d) = global_pass _ _ _ d
  takes_pass ts x rest (TakesClosed r f p g d) = no_nodes x ts rest (TakesClosed r f p g d) (closed_nodes _ _ _ d)
  takes_pass ts x rest (TakesNothing r f p g c d) = no_nodes x ts rest (TakesNothing r f p g c d) (nothing_nodes _ _ _ d)

  items_pass : (ts : List Token) (xs : List Item) → Items h b ts xs → constants_fit ts ≡ true → list_all (every_in_item q) xs ≡ true
  items_pass ts xs NoMoreItems f = refl
  items_pass ts xs (MoreItems {rest = rest} {x = x} {xs = others} d ds) f =
      let p = takes_pass _ _ _ d in
      and_others (every_in_item q) x others (p.holds f) (items_pass rest others ds (p.behind f))

constant_passes : (n : Node) → IsSpelled n → constant_fits n ≡ true
constant_passes (item.Number v decimal unsigned longs) s = s
constant_passes (item.Char v) s = s
constant_passes (item.Var x p) s = refl
constant_passes (item.Index x p i) s = refl
constant_passes (item.Unary op a) s = refl
constant_passes (item.Cast to a) s = refl
constant_passes (item.Step op a) s = refl
constant_passes (item.Binary op a b) s = refl
constant_passes (item.Logic both a b) s = refl
constant_passes (item.Choose mark e a b) s = refl
constant_passes (item.Comma a b) s = refl
constant_passes (item.Assign op a b) s = refl
constant_passes (item.Call f p es close) s = refl

assigned : (s : Punct) (op : Option BinOp) → assigns s ≡ Some op → is_assignment op ≡ true
assigned sign.Assign op e = ap is_assignment (sym (some_same e))
assigned sign.PlusAssign op e = ap is_assignment (sym (some_same e))
assigned sign.MinusAssign op e = ap is_assignment (sym (some_same e))
assigned sign.StarAssign op e = ap is_assignment (sym (some_same e))
assigned sign.SlashAssign op e = ap is_assignment (sym (some_same e))
assigned sign.PercentAssign op e = ap is_assignment (sym (some_same e))
assigned sign.ShiftLeftAssign op e = ap is_assignment (sym (some_same e))
assigned sign.ShiftRightAssign op e = ap is_assignment (sym (some_same e))
assigned sign.AmpersandAssign op e = ap is_assignment (sym (some_same e))
assigned sign.CaretAssign op e = ap is_assignment (sym (some_same e))
assigned sign.PipeAssign op e = ap is_assignment (sym (some_same e))
assigned s op e = absurd (cc)

assignment_passes : (n : Node) → IsSpelled n → assignment_fits n ≡ true
assignment_passes (item.Number v decimal unsigned longs) s = refl
assignment_passes (item.Char v) s = refl
assignment_passes (item.Var x p) s = refl
assignment_passes (item.Index x p i) s = refl
assignment_passes (item.Unary op a) s = refl
assignment_passes (item.Cast to a) s = refl
assignment_passes (item.Step op a) s = refl
assignment_passes (item.Binary op a b) s = refl
assignment_passes (item.Logic both a b) s = refl
assignment_passes (item.Choose mark e a b) s = refl
assignment_passes (item.Comma a b) s = refl
assignment_passes (item.Assign op a b) s = assigned s.0 op s.1
assignment_passes (item.Call f p es close) s = refl

-- what orderly tokens spell meets the invariant of a source
pub source_formed : (ts : List Token) (xs : List Item) → AreOrderly ts → IsSource ts xs → IsFormed xs
source_formed ts xs o d = record {
  bodies = items_blocks max_height max_brackets ts xs d;
  nested = items_nest max_height max_brackets ts xs d;
  sizes = items_sized max_height max_brackets ts xs d;
  constants = items_pass constant_fits constant_passes max_height max_brackets ts xs d o.constants;
  assignments = items_pass assignment_fits assignment_passes max_height max_brackets ts xs d o.constants;
  in_order = source_rises ts xs d o.rise;
}
