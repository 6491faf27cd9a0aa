-- The places in declarations and statements that tokens spell are those of some of their tokens, in their order.
use Rattle.std.proofs.Common.{◌≡◌, ℕ, zero, suc, List, [], ◌∷◌, ◌++◌, Bool, false, sym, subst, append-nil, Option, Some}
use Rattle.c_core.specs.declared.number.Spot.{Spot}
use Rattle.c_core.specs.declared.number.IntType.{IntType}
use Rattle.c_tokens.specs.declared.token.Token.{Token}
use Rattle.c_parser.specs.Tree.{Exp, Exps, exps, Init, Declared, First, Stm, ArmLabel, Stms, MoreCase, Arm, stms, joined, arms}
use Rattle.c_parser.specs.TextOrder.{spots_of, spots_of_all, spots_of_rows, spots_if, spots_of_init, spots_of_declared, spots_of_first, spots_of_statement, spots_of_block}
use Rattle.c_parser.specs.Signs.{word_token, place, conditional, expr}
use Rattle.c_parser.specs.Words.{TypeWord, type_of}
use Rattle.c_parser.specs.Brackets.{Passed, NothingPassed, OnePassed, PairPassed, PassedWithin}
use Rattle.c_parser.specs.Expressions.{Within, Spells}
use Rattle.c_parser.specs.Declarations.{Attributes, NoMoreAttributes, AnAttribute, Specifiers, NoMoreSpecifiers, ATypeWord, ASpecifier, AnAttributeBefore, Typed, UpToBrace, LastOne, LastAndComma, MoreOnes, Sizes, NoSizes, SomeSizes, Values, Row, ARow, Initializer, NoInitializer, OneValue, AList, AListOfRows, Declarator, ADeclarator, Declarators, LastDeclarator, MoreDeclarators, ADeclaration}
use Rattle.c_parser.specs.Statements.{Parts, Optional, NoExpression, AnExpression, FirstPart, DeclaredFirst, ExpressionFirst, NothingFirst, ForParts, AllParts, Statement, AnEmpty, AnExpressionStatement, ABlock, ABreak, AContinue, AReturn, AReturnOf, ALabel, AnIf, AnIfElse, AWhile, ADo, AFor, ASwitch, Element, ADeclarationStatement, AStatement, Elements, NoMoreElements, MoreElements, Labelled, ACase, ADefault, Body, NoMoreStatements, MoreStatements, Arms, NoMoreArms, MoreArms, RowsWithin, Declares, HeaderWithin, BracedWithin, ArmedWithin}
use Rattle.c_parser.proofs.Along.{Along, AtEnd, Past, Met, then, nothing_more, Begins, begins, to_along, begins_then, whole_here}
use Rattle.c_parser.proofs.OrderedExpressions.{dimensions_along, within_ordered, spelled_ordered}

-- ---- tokens that are passed

-- the places in the parentheses of a `for`
abbrev spots_of_parts : Parts → List Spot
spots_of_parts (first, test, step) = spots_of_first first ++ spots_if test ++ spots_if step

module _ (Inner : List Token → List Token → Type 0) (inner : (ts rest : List Token) → Inner ts rest → Along [] ts rest) where
  all_passed : (ts rest : List Token) → Passed Inner ts rest → Along [] ts rest
  all_passed ts rest NothingPassed = AtEnd
  all_passed ts rest (OnePassed n d) = Past (all_passed _ _ d)
  all_passed ts rest (PairPassed n i d) = Past (then (inner _ _ i) (Past (all_passed _ _ d)))

pub passed_along : (b : ℕ) (ts rest : List Token) → PassedWithin b ts rest → Along [] ts rest
unfolding PassedWithin
passed_along zero ts rest d = absurd d
passed_along (suc b) ts rest d = all_passed (PassedWithin b) (passed_along b) ts rest d

module _ (b : ℕ) where
  pub attributes_along : (ts rest : List Token) → Attributes (PassedWithin b) ts rest → Along [] ts rest
  attributes_along ts rest NoMoreAttributes = AtEnd
  attributes_along ts rest (AnAttribute a p d) = Past (Past (then (passed_along b _ _ p) (Past (attributes_along _ _ d))))

  specifiers_along : (outside : Bool) (ts : List Token) (words : List TypeWord) (rest : List Token) → Specifiers (PassedWithin b) outside ts words rest → Along [] ts rest
  specifiers_along outside ts words rest NoMoreSpecifiers = AtEnd
  specifiers_along outside ts words rest (ATypeWord t d) = Past (specifiers_along _ _ _ _ d)
  specifiers_along outside ts words rest (ASpecifier m d) = Past (specifiers_along _ _ _ _ d)
  specifiers_along outside ts words rest (AnAttributeBefore a p d) = Past (Past (then (passed_along b _ _ p) (Past (specifiers_along _ _ _ _ d))))

  pub typed_along : (outside : Bool) (ts : List Token) (ty : Option IntType) (rest : List Token) → Typed (PassedWithin b) outside ts ty rest → Along [] ts rest
  typed_along outside ts ty rest d = specifiers_along outside ts d.words rest d.specifiers

  -- a type has a word
  typed_begins : (outside : Bool) (ts : List Token) (ty : Option IntType) (rest : List Token) → Typed (PassedWithin b) outside ts ty rest → Begins (place ts ∷ []) ts rest
  typed_begins outside ts ty rest d = by outside ts d.words rest d.specifiers d.spelled
    where
      by : (outside : Bool) (ts : List Token) (words : List TypeWord) (rest : List Token) → Specifiers (PassedWithin b) outside ts words rest → type_of words ≡ Some ty → Begins (place ts ∷ []) ts rest
      by outside ts words rest NoMoreSpecifiers e = absurd (cc)
      by outside ts words rest (ATypeWord {w = w} {p = p} t d) e = begins (word_token w p) (specifiers_along _ _ _ _ d)
      by outside ts words rest (ASpecifier {w = w} {p = p} m d) e = begins (word_token w p) (specifiers_along _ _ _ _ d)
      by outside ts words rest (AnAttributeBefore {w = w} {p = p} a q d) e = begins (word_token w p) (Past (then (passed_along b _ _ q) (Past (specifiers_along _ _ _ _ d))))

  -- ---- declarations

  here : (k : ℕ) (ts : List Token) (e : Exp) (rest : List Token) → Spells b k ts e rest → Along (spots_of e) ts rest
  here k ts e rest d = to_along (spelled_ordered b k ts e rest d).here

  inside : (k : ℕ) (ts : List Token) (e : Exp) (rest : List Token) → Within b k ts e rest → Along (spots_of e) ts rest
  inside k ts e rest d = to_along (within_ordered b k ts e rest d).here

  sizes_along : (ts : List Token) (sizes : List Exp) (rest : List Token) → Sizes (Within b) ts sizes rest → Along (spots_of_all (exps sizes)) ts rest
  sizes_along ts sizes rest NoSizes = AtEnd
  sizes_along ts sizes rest (SomeSizes d) = dimensions_along (Within b conditional) (inside conditional) _ _ _ d

  values_along : (ts : List Token) (es : List Exp) (rest : List Token) → Values (Within b) ts es rest → Along (spots_of_all (exps es)) ts rest
  values_along ts es rest (LastOne {x = e} d) = subst (λ (x : List Spot). Along x ts rest) (sym (append-nil (spots_of e))) (inside _ _ _ _ d)
  values_along ts es rest (LastAndComma {x = e} d) = subst (λ (x : List Spot). Along x ts rest) (sym (append-nil (spots_of e))) (nothing_more (inside _ _ _ _ d) (Past AtEnd))
  values_along ts es rest (MoreOnes d ds) = then (inside _ _ _ _ d) (Past (values_along _ _ _ ds))

  row_along : (ts : List Token) (row : Exps) (rest : List Token) → Row (Within b) ts row rest → Along (spots_of_all row) ts rest
  row_along ts row rest (ARow d) = Past (nothing_more (values_along _ _ _ d) (Past AtEnd))

  rows_along : (ts : List Token) (all : List Exps) (rest : List Token) → UpToBrace Exps (Row (Within b)) ts all rest → Along (spots_of_rows all) ts rest
  rows_along ts all rest (LastOne {x = row} d) = subst (λ (x : List Spot). Along x ts rest) (sym (append-nil (spots_of_all row))) (row_along _ _ _ d)
  rows_along ts all rest (LastAndComma {x = row} d) = subst (λ (x : List Spot). Along x ts rest) (sym (append-nil (spots_of_all row))) (nothing_more (row_along _ _ _ d) (Past AtEnd))
  rows_along ts all rest (MoreOnes d ds) = then (row_along _ _ _ d) (Past (rows_along _ _ _ ds))

list_along : (b : ℕ) (ts : List Token) (all : List Exps) (rest : List Token) → RowsWithin b ts all rest → Along (spots_of_rows all) ts rest
unfolding RowsWithin
list_along zero ts all rest d = absurd d
list_along (suc b) ts all rest d = rows_along b ts all rest d

module _ (b : ℕ) where
  init_along : (ts : List Token) (init : Init) (rest : List Token) → Initializer (PassedWithin b) (Spells b) (Within b) (RowsWithin b) ts init rest → Along (spots_of_init init) ts rest
  init_along ts init rest NoInitializer = AtEnd
  init_along ts init rest (OneValue d) = Past (here b _ _ _ _ d)
  init_along ts init rest (AList d) = Past (Past (nothing_more (values_along b _ _ _ d) (Past AtEnd)))
  init_along ts init rest (AListOfRows d) = Past (Past (nothing_more (list_along b _ _ _ d) (Past AtEnd)))

  -- of one declared name, and of those behind it
  declarator_along : (ty : IntType) (ts : List Token) (d : Declared) (ds : List Declared) (mid rest : List Token) → Declarator (PassedWithin b) (Spells b) (Within b) (RowsWithin b) ty ts d mid → Along (spots_of_declared ds) mid rest → Along (spots_of_declared (d ∷ ds)) ts rest
  declarator_along ty ts d ds mid rest (ADeclarator n s i) others = Met (then (then (sizes_along b _ _ _ s) (init_along _ _ _ i)) others)

  declarators_along : (ty : IntType) (ts : List Token) (ds : List Declared) (rest : List Token) → Declarators (PassedWithin b) (Spells b) (Within b) (RowsWithin b) ty ts ds rest → Along (spots_of_declared ds) ts rest
  declarators_along ty ts ds rest (LastDeclarator d) = declarator_along ty _ _ [] _ _ d (Past AtEnd)
  declarators_along ty ts ds rest (MoreDeclarators d more) = declarator_along ty _ _ _ _ _ d (Past (declarators_along _ _ _ _ more))

  pub declares_along : (outside : Bool) (ts : List Token) (ds : List Declared) (rest : List Token) → Declares b outside ts ds rest → Along (spots_of_declared ds) ts rest
  declares_along outside ts ds rest (ADeclaration t d) = then (typed_along b _ _ _ _ t) (declarators_along _ _ _ _ d)

  declares_begins : (outside : Bool) (ts : List Token) (ds : List Declared) (rest : List Token) → Declares b outside ts ds rest → Begins (place ts ∷ spots_of_declared ds) ts rest
  declares_begins outside ts ds rest (ADeclaration t d) = begins_then (typed_begins b _ _ _ _ t) (declarators_along _ _ _ _ d)

  -- ---- statements

  optional_along : (ts : List Token) (e : Option Exp) (rest : List Token) → Optional (Spells b expr) (Declares b false) ts e rest → Along (spots_if e) ts rest
  optional_along ts e rest NoExpression = AtEnd
  optional_along ts e rest (AnExpression d) = here b _ _ _ _ d

  first_along : (ts : List Token) (first : First) (rest : List Token) → FirstPart (Spells b expr) (Declares b false) ts first rest → Along (spots_of_first first) ts rest
  first_along ts first rest (DeclaredFirst d) = declares_along _ _ _ _ d
  first_along ts first rest (ExpressionFirst d) = nothing_more (here b _ _ _ _ d) (Past AtEnd)
  first_along ts first rest NothingFirst = Past AtEnd

  parts_along : (ts : List Token) (ps : Parts) (rest : List Token) → ForParts (Spells b expr) (Declares b false) ts ps rest → Along (spots_of_parts ps) ts rest
  parts_along ts ps rest (AllParts f e u) = then (then (first_along _ _ _ f) (optional_along _ _ _ e)) (Past (optional_along _ _ _ u))

header_along : (b : ℕ) (ts : List Token) (ps : Parts) (rest : List Token) → HeaderWithin b ts ps rest → Along (spots_of_parts ps) ts rest
unfolding HeaderWithin
header_along zero ts ps rest d = absurd d
header_along (suc b) ts ps rest d = parts_along b ts ps rest d

-- `Braced` is what stands in the braces of a block, `Armed` what stands in those of a `switch`
module _ (b : ℕ) (Braced : List Token → List Stm → List Token → Type 0) (Armed : List Token → List Arm → List Token → Type 0)
    (braced : (ts : List Token) (ss : List Stm) (rest : List Token) → Braced ts ss rest → Along (spots_of_block (stms ss)) ts rest)
    (armed : (ts : List Token) (all : List Arm) (rest : List Token) → Armed ts all rest → Along (spots_of_block (arms all)) ts rest) where
  abbrev One : List Token → Stm → List Token → Type 0
  One = Statement (Spells b expr) (Within b expr) (Declares b false) (HeaderWithin b) Braced Armed

  statement_along : (ts : List Token) (s : Stm) (rest : List Token) → Statement (Spells b expr) (Within b expr) (Declares b false) (HeaderWithin b) Braced Armed ts s rest → Along (spots_of_statement s) ts rest
  statement_along ts s rest AnEmpty = Met AtEnd
  statement_along ts s rest (AnExpressionStatement d) = nothing_more (to_along (whole_here (spelled_ordered b _ _ _ _ d).here)) (Past AtEnd)
  statement_along ts s rest (ABlock d) = Met (nothing_more (braced _ _ _ d) (Past AtEnd))
  statement_along ts s rest ABreak = Met (Past AtEnd)
  statement_along ts s rest AContinue = Met (Past AtEnd)
  statement_along ts s rest AReturn = Met (Past AtEnd)
  statement_along ts s rest (AReturnOf d) = Met (nothing_more (here b _ _ _ _ d) (Past AtEnd))
  statement_along ts s rest (ALabel n d) = Met (Past (statement_along _ _ _ d))
  statement_along ts s rest (AnIf {ts = us} {e = e} {s = t} d x n) =
      Met (Past (subst (λ (y : List Spot). Along y us rest) (sym (append-nil (spots_of e ++ spots_of_statement t))) (then (inside b _ _ _ _ d) (Past (statement_along _ _ _ x)))))
  statement_along ts s rest (AnIfElse d x y) = Met (Past (then (then (inside b _ _ _ _ d) (Past (statement_along _ _ _ x))) (Past (statement_along _ _ _ y))))
  statement_along ts s rest (AWhile d x) = Met (Past (then (inside b _ _ _ _ d) (Past (statement_along _ _ _ x))))
  statement_along ts s rest (ADo x d) = Met (then (statement_along _ _ _ x) (Past (Past (nothing_more (inside b _ _ _ _ d) (Past (Past AtEnd))))))
  statement_along ts s rest (AFor d x) = Met (Past (then (header_along b _ _ _ d) (Past (statement_along _ _ _ x))))
  statement_along ts s rest (ASwitch d x) = Met (Past (then (inside b _ _ _ _ d) (Past (Past (nothing_more (armed _ _ _ x) (Past AtEnd))))))

  element_along : (ts : List Token) (s : Stm) (rest : List Token) → Element (Spells b expr) (Within b expr) (Declares b false) (HeaderWithin b) Braced Armed ts s rest → Along (spots_of_statement s) ts rest
  element_along ts s rest (ADeclarationStatement d) = to_along (declares_begins b _ _ _ _ d)
  element_along ts s rest (AStatement d) = statement_along _ _ _ d

  elements_along : (ts : List Token) (ss : List Stm) (rest : List Token) → Elements (Spells b expr) (Within b expr) (Declares b false) (HeaderWithin b) Braced Armed ts ss rest → Along (spots_of_block (stms ss)) ts rest
  elements_along ts ss rest NoMoreElements = AtEnd
  elements_along ts ss rest (MoreElements d ds) = then (element_along _ _ _ d) (elements_along _ _ _ ds)

  -- the statements of an arm, and what stands after them
  body_along : (ts : List Token) (ss : List Stm) (mid : List Token) (c : Stms) (rest : List Token) → Body (Spells b conditional) One ts ss mid → Along (spots_of_block c) mid rest → Along (spots_of_block (joined (stms ss) c)) ts rest
  body_along ts ss mid c rest NoMoreStatements others = others
  body_along ts ss mid c rest (MoreStatements d ds) others = then (statement_along _ _ _ d) (body_along _ _ _ c rest ds others)

  arm_along : (ts : List Token) (l : ArmLabel) (mid : List Token) (c : Stms) (rest : List Token) → Labelled (Spells b conditional) One ts l mid → Along (spots_of_block c) mid rest → Along (spots_of_block (MoreCase (place ts) l c)) ts rest
  arm_along ts l mid c rest (ACase d) others = Met (then (here b _ _ _ _ d) (Past others))
  arm_along ts l mid c rest ADefault others = Met (Past others)

  arms_along : (ts : List Token) (all : List Arm) (rest : List Token) → Arms (Spells b conditional) One ts all rest → Along (spots_of_block (arms all)) ts rest
  arms_along ts all rest NoMoreArms = AtEnd
  arms_along ts all rest (MoreArms {ss = ss} {more = more} l d ds) = arm_along _ _ _ (joined (stms ss) (arms more)) _ l (body_along _ _ _ (arms more) _ d (arms_along _ _ _ ds))

mutual
  unfolding BracedWithin ArmedWithin

  pub braced_along : (b : ℕ) (ts : List Token) (ss : List Stm) (rest : List Token) → BracedWithin b ts ss rest → Along (spots_of_block (stms ss)) ts rest
  braced_along zero ts ss rest d = absurd d
  braced_along (suc b) ts ss rest d = elements_along b (BracedWithin b) (ArmedWithin b) (braced_along b) (armed_along b) ts ss rest d

  armed_along : (b : ℕ) (ts : List Token) (all : List Arm) (rest : List Token) → ArmedWithin b ts all rest → Along (spots_of_block (arms all)) ts rest
  armed_along zero ts all rest d = absurd d
  armed_along (suc b) ts all rest d = arms_along b (BracedWithin b) (ArmedWithin b) (braced_along b) (armed_along b) ts all rest d
