-- A function with its body takes six tokens at least: a type word, a name, two parentheses, two braces.
use Rattle.std.proofs.Common.{◌≡◌, ℕ, zero, suc, ◌+◌, ◌*◌, ◌≤◌, Bool, true, false, if◌then◌else◌, List, [], ◌∷◌, length, Option, Some, None, refl, arith, length-append}
use Rattle.c_core.specs.declared.number.IntType.{IntType}
use Rattle.c_core.specs.declared.number.Spot.{Spot}
use Rattle.c_tokens.specs.Numbers.{is_spelled}
use Rattle.c_tokens.specs.declared.token.Token.{Token}
use Rattle.c_tokens.specs.declared.token.Punct.TheVariants as sign
use Rattle.c_parser.specs.Tree.{Item}
use Rattle.c_parser.specs.Tree as item
use Rattle.c_parser.specs.Signs.{sign_token}
use Rattle.c_parser.specs.Brackets.{PassedWithin}
use Rattle.c_parser.specs.Items.{Parameter, AParameter, ParameterList, LastParameter, MoreParameters, Parameters, NoParameters, VoidParameters, SomeParameters, ParameterType, Unnamed, Named, TypeList, LastType, MoreTypes, ParameterTypes, Unstated, VoidTypes, StatedTypes, ParametersWithin, TypesWithin, AReach, AFunction, APrototype, AGlobal, AClosed, ASemicolon, reach_error, unless_reach}
use Rattle.c_parser.specs.Sources.{Takes, TakesReach, TakesFunction, TakesPrototype, TakesGlobal, TakesClosed, TakesNothing, with_item, Items, NoMoreItems, MoreItems, IsSource, max_height, max_brackets}
use Rattle.check_rules.specs.Parts.{bodies_of}
use Rattle.source_room.proofs.ExpressionLengths.{TakesTokens}
use Rattle.source_room.proofs.DeclarationLengths.{pair_takes, attributes_take, typed_takes, declares_take}
use Rattle.source_room.proofs.StatementLengths.{braced_takes}

module _ (b : ℕ) where
  parameter_takes : TakesTokens (Parameter (PassedWithin b))
  parameter_takes ts x rest (AParameter t n) = let y = typed_takes b true _ _ _ t in omega arith

  list_takes : TakesTokens (ParameterList (PassedWithin b))
  list_takes ts xs rest (LastParameter a) = parameter_takes _ _ _ a
  list_takes ts xs rest (MoreParameters a more) = let x = parameter_takes _ _ _ a in let y = list_takes _ _ _ more in omega arith

  parameters_take : TakesTokens (Parameters (PassedWithin b))
  parameters_take ts xs rest NoParameters = omega arith
  parameters_take ts xs rest VoidParameters = omega arith
  parameters_take ts xs rest (SomeParameters l) = list_takes _ _ _ l

  type_takes : TakesTokens (ParameterType (PassedWithin b))
  type_takes ts ty rest (Unnamed t) = let x = typed_takes b true _ _ _ t in omega arith
  type_takes ts ty rest (Named t n) = let x = typed_takes b true _ _ _ t in omega arith

  type_list_takes : TakesTokens (TypeList (PassedWithin b))
  type_list_takes ts tys rest (LastType a) = type_takes _ _ _ a
  type_list_takes ts tys rest (MoreTypes a more) = let x = type_takes _ _ _ a in let y = type_list_takes _ _ _ more in omega arith

  types_take : TakesTokens (ParameterTypes (PassedWithin b))
  types_take ts tys rest Unstated = omega arith
  types_take ts tys rest VoidTypes = omega arith
  types_take ts tys rest (StatedTypes l) = type_list_takes _ _ _ l

parameters_within : (b : ℕ) → TakesTokens (ParametersWithin b)
parameters_within zero ts xs rest d = absurd d
parameters_within (suc b) ts xs rest d = parameters_take b ts xs rest d

types_within : (b : ℕ) → TakesTokens (TypesWithin b)
types_within zero ts tys rest d = absurd d
types_within (suc b) ts tys rest d = types_take b ts tys rest d

-- the functions with a body that an item gives: one or none
bodies_in : Option Item → ℕ
bodies_in x = length (bodies_of (with_item x []))

-- a prototype has no body
no_body : (p : Spot) (w : List ℕ) (result : Option IntType) (tys : Option (List IntType)) → bodies_in (unless_reach w (item.Prototype p w result tys)) ≡ 0
unfolding bodies_in
no_body p w result tys = by (is_spelled reach_error w)
  where
    by : (x : Bool) → length (bodies_of (with_item (if x then None else Some (item.Prototype p w result tys)) [])) ≡ 0
    by true = refl
    by false = refl

module _ (h b : ℕ) where
  item_takes : (ts : List Token) (x : Option Item) (rest : List Token) → Takes h b ts x rest → 6 * bodies_in x + length rest ≤ length ts
  unfolding bodies_in
  item_takes ts x rest (TakesReach (AReach r z t i a k)) =
      let p = typed_takes b true _ _ _ t in let q = pair_takes b _ _ i in let s = attributes_take b _ _ a in let u = pair_takes b _ _ k in omega arith
  item_takes ts x rest (TakesFunction n (AFunction ss r z t name ps a d hi)) =
      let p = typed_takes b true _ _ _ t in
      let q = parameters_within b _ _ _ ps in
      let s = attributes_take b _ _ a in
      let u = braced_takes b _ _ _ d in
      omega (arith, p, q, s, u)
  item_takes ts x rest (TakesPrototype n0 n1 (APrototype {result = result} {w = w} {p = spot} tys r t name ps a)) =
      let none = no_body spot w result tys in
      let p = typed_takes b true _ _ _ t in
      let q = types_within b _ _ _ ps in
      let s = attributes_take b _ _ a in
      omega (arith, none, p, q, s)
  item_takes ts x rest (TakesGlobal n0 n1 n2 (AGlobal d low)) = let p = declares_take b true _ _ _ d in omega arith
  item_takes ts x rest (TakesClosed n0 n1 n2 n3 (AClosed {front = front} last q p a c d e)) =
      let n = length-append front (sign_token sign.Semicolon q ∷ last) in
      omega (arith, n)
  item_takes ts x rest (TakesNothing n0 n1 n2 n3 n4 ASemicolon) = omega arith

  -- the bodies of an item and of those behind it
  bodies_add : (x : Option Item) (xs : List Item) → length (bodies_of (with_item x xs)) ≡ bodies_in x + length (bodies_of xs)
  unfolding bodies_in
  bodies_add None xs = omega arith
  bodies_add (Some (item.Function p w result ps body)) xs = omega arith
  bodies_add (Some (item.Prototype p w result tys)) xs = omega arith
  bodies_add (Some (item.Global ds)) xs = omega arith
  bodies_add (Some (item.Closed p w)) xs = omega arith

  items_take : (ts : List Token) (xs : List Item) → Items h b ts xs → 6 * length (bodies_of xs) ≤ length ts
  items_take ts xs NoMoreItems = omega arith
  items_take ts xs (MoreItems {rest = rest} {x = x} {xs = more} d all) =
      let one = item_takes ts x rest d in
      let others = items_take rest more all in
      let add = bodies_add x more in
      omega (arith, one, others, add)

pub functions_take : (ts : List Token) (items : List Item) → IsSource ts items → 6 * length (bodies_of items) ≤ length ts
functions_take = items_take max_height max_brackets
