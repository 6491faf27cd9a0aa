-- Every node in declarations and statements that tokens spell passes each test that the nodes of the grammar pass.
use Rattle.std.proofs.Common.{◌≡◌, ℕ, zero, suc, List, [], ◌∷◌, Bool, true, false, ◌&&◌, Option}
use Rattle.c_core.proofs.TextOrderLaws.{left, right}
use Rattle.c_core.specs.declared.number.IntType.{IntType}
use Rattle.c_tokens.specs.declared.token.Token.{Token}
use Rattle.c_parser.specs.Tree.{Exp, Exps, exps, Node, Init, Declared, First, Stm, ArmLabel, Stms, Arm, stms, joined, arms}
use Rattle.c_parser.specs.Formed.{every_node, every_argument, every_if, every_in_rows, every_in_init, every_in_declared, every_in_first, every_in_statement, every_in_label, every_in_block}
use Rattle.c_parser.specs.Signs.{conditional, expr}
use Rattle.c_parser.specs.Brackets.{PassedWithin}
use Rattle.c_parser.specs.Expressions.{Within, Spells}
use Rattle.c_parser.specs.Declarations.{UpToBrace, LastOne, LastAndComma, MoreOnes, Sizes, NoSizes, SomeSizes, Values, Row, ARow, Initializer, NoInitializer, OneValue, AList, AListOfRows, Declarator, ADeclarator, Declarators, LastDeclarator, MoreDeclarators, ADeclaration}
use Rattle.c_parser.specs.Statements.{Parts, Optional, NoExpression, AnExpression, FirstPart, DeclaredFirst, ExpressionFirst, NothingFirst, ForParts, AllParts, Statement, AnEmpty, AnExpressionStatement, ABlock, ABreak, AContinue, AReturn, AReturnOf, ALabel, AnIf, AnIfElse, AWhile, ADo, AFor, ASwitch, Element, ADeclarationStatement, AStatement, Elements, NoMoreElements, MoreElements, Labelled, ACase, ADefault, Body, NoMoreStatements, MoreStatements, Arms, NoMoreArms, MoreArms, RowsWithin, Declares, HeaderWithin, BracedWithin, ArmedWithin}
use Rattle.c_parser.proofs.OrderedStatements.{typed_along}
use Rattle.c_parser.proofs.Passing.{Passing, and_true, nothing_passed, past, both, up_to, from, alone, along_passing}
use Rattle.c_parser.proofs.FormedExpressions.{IsSpelled, dimensions_pass, within_pass, spelled_pass}

module _ (q : Node → Bool) (passes : (n : Node) → IsSpelled n → q n ≡ true) where
  -- in the parentheses of a `for`
  abbrev every_in_parts : Parts → Bool
  every_in_parts (first, test, step) = every_in_first q first && (every_if q test && every_if q step)

  module _ (b : ℕ) where
    here : (k : ℕ) (ts : List Token) (e : Exp) (rest : List Token) → Spells b k ts e rest → Passing (every_node q e) ts rest
    here = spelled_pass q passes b

    inside : (k : ℕ) (ts : List Token) (e : Exp) (rest : List Token) → Within b k ts e rest → Passing (every_node q e) ts rest
    inside = within_pass q passes b

    -- ---- declarations

    sizes_pass : (ts : List Token) (sizes : List Exp) (rest : List Token) → Sizes (Within b) ts sizes rest → Passing (every_argument q (exps sizes)) ts rest
    sizes_pass ts sizes rest NoSizes = nothing_passed
    sizes_pass ts sizes rest (SomeSizes d) = dimensions_pass q passes (Within b conditional) (inside conditional) _ _ _ d

    values_pass : (ts : List Token) (es : List Exp) (rest : List Token) → Values (Within b) ts es rest → Passing (every_argument q (exps es)) ts rest
    values_pass ts es rest (LastOne d) = alone (inside _ _ _ _ d)
    values_pass ts es rest (LastAndComma d) = alone (up_to (inside _ _ _ _ d) (past nothing_passed))
    values_pass ts es rest (MoreOnes d ds) = both (inside _ _ _ _ d) (past (values_pass _ _ _ ds))

    row_pass : (ts : List Token) (row : Exps) (rest : List Token) → Row (Within b) ts row rest → Passing (every_argument q row) ts rest
    row_pass ts row rest (ARow d) = past (up_to (values_pass _ _ _ d) (past nothing_passed))

    rows_pass : (ts : List Token) (all : List Exps) (rest : List Token) → UpToBrace Exps (Row (Within b)) ts all rest → Passing (every_in_rows q all) ts rest
    rows_pass ts all rest (LastOne d) = alone (row_pass _ _ _ d)
    rows_pass ts all rest (LastAndComma d) = alone (up_to (row_pass _ _ _ d) (past nothing_passed))
    rows_pass ts all rest (MoreOnes d ds) = both (row_pass _ _ _ d) (past (rows_pass _ _ _ ds))

  list_pass : (b : ℕ) (ts : List Token) (all : List Exps) (rest : List Token) → RowsWithin b ts all rest → Passing (every_in_rows q all) ts rest
  unfolding RowsWithin
  list_pass zero ts all rest d = absurd d
  list_pass (suc b) ts all rest d = rows_pass b ts all rest d

  module _ (b : ℕ) where
    init_pass : (ts : List Token) (init : Init) (rest : List Token) → Initializer (PassedWithin b) (Spells b) (Within b) (RowsWithin b) ts init rest → Passing (every_in_init q init) ts rest
    init_pass ts init rest NoInitializer = nothing_passed
    init_pass ts init rest (OneValue d) = past (here b _ _ _ _ d)
    init_pass ts init rest (AList d) = past (past (up_to (values_pass b _ _ _ d) (past nothing_passed)))
    init_pass ts init rest (AListOfRows d) = past (past (up_to (list_pass b _ _ _ d) (past nothing_passed)))

    -- of one declared name, and of those behind it
    declarator_pass : (ty : IntType) (ts : List Token) (d : Declared) (ds : List Declared) (mid rest : List Token) →
        Declarator (PassedWithin b) (Spells b) (Within b) (RowsWithin b) ty ts d mid → Passing (every_in_declared q ds) mid rest → Passing (every_in_declared q (d ∷ ds)) ts rest
    declarator_pass ty ts d ds mid rest (ADeclarator n s i) others = past (both (sizes_pass b _ _ _ s) (both (init_pass _ _ _ i) others))

    declarators_pass : (ty : IntType) (ts : List Token) (ds : List Declared) (rest : List Token) → Declarators (PassedWithin b) (Spells b) (Within b) (RowsWithin b) ty ts ds rest → Passing (every_in_declared q ds) ts rest
    declarators_pass ty ts ds rest (LastDeclarator {d = e} d) = declarator_pass ty ts e [] _ rest d (past nothing_passed)
    declarators_pass ty ts ds rest (MoreDeclarators {d = e} {ds = others} d more) = declarator_pass ty ts e others _ rest d (past (declarators_pass ty _ others rest more))

    pub declares_pass : (outside : Bool) (ts : List Token) (ds : List Declared) (rest : List Token) → Declares b outside ts ds rest → Passing (every_in_declared q ds) ts rest
    declares_pass outside ts ds rest (ADeclaration t d) = from (along_passing (typed_along b _ _ _ _ t)) (declarators_pass _ _ _ _ d)

    -- ---- statements

    optional_pass : (ts : List Token) (e : Option Exp) (rest : List Token) → Optional (Spells b expr) (Declares b false) ts e rest → Passing (every_if q e) ts rest
    optional_pass ts e rest NoExpression = nothing_passed
    optional_pass ts e rest (AnExpression d) = here b _ _ _ _ d

    first_pass : (ts : List Token) (first : First) (rest : List Token) → FirstPart (Spells b expr) (Declares b false) ts first rest → Passing (every_in_first q first) ts rest
    first_pass ts first rest (DeclaredFirst d) = declares_pass _ _ _ _ d
    first_pass ts first rest (ExpressionFirst d) = up_to (here b _ _ _ _ d) (past nothing_passed)
    first_pass ts first rest NothingFirst = past nothing_passed

    parts_pass : (ts : List Token) (ps : Parts) (rest : List Token) → ForParts (Spells b expr) (Declares b false) ts ps rest → Passing (every_in_parts ps) ts rest
    parts_pass ts ps rest (AllParts f e u) = both (first_pass _ _ _ f) (both (optional_pass _ _ _ e) (past (optional_pass _ _ _ u)))

  header_pass : (b : ℕ) (ts : List Token) (ps : Parts) (rest : List Token) → HeaderWithin b ts ps rest → Passing (every_in_parts ps) ts rest
  unfolding HeaderWithin
  header_pass zero ts ps rest d = absurd d
  header_pass (suc b) ts ps rest d = parts_pass b ts ps rest d

  -- with the statement that a `for` repeats
  for_pass : {ts mid rest : List Token} (first : First) (test step : Option Exp) (s : Stm) → Passing (every_in_parts (first, test, step)) ts mid → Passing (every_in_statement q s) mid rest →
      Passing (every_in_first q first && (every_if q test && (every_if q step && every_in_statement q s))) ts rest
  for_pass first test step s h x = record {
    holds = λ f.
        let two = h.holds f in
        let three = right (every_in_first q first) _ two in
        and_true (every_in_first q first) _ (left (every_in_first q first) _ two)
        (and_true (every_if q test) _ (left (every_if q test) _ three) (and_true (every_if q step) _ (right (every_if q test) _ three) (x.holds (h.behind f))));
    behind = λ f. x.behind (h.behind f);
  }

  -- `Braced` is what stands in the braces of a block, `Armed` what stands in those of a `switch`
  module _ (b : ℕ) (Braced : List Token → List Stm → List Token → Type 0) (Armed : List Token → List Arm → List Token → Type 0)
      (braced : (ts : List Token) (ss : List Stm) (rest : List Token) → Braced ts ss rest → Passing (every_in_block q (stms ss)) ts rest)
      (armed : (ts : List Token) (all : List Arm) (rest : List Token) → Armed ts all rest → Passing (every_in_block q (arms all)) ts rest) where
    abbrev One : List Token → Stm → List Token → Type 0
    One = Statement (Spells b expr) (Within b expr) (Declares b false) (HeaderWithin b) Braced Armed

    statement_pass : (ts : List Token) (s : Stm) (rest : List Token) → Statement (Spells b expr) (Within b expr) (Declares b false) (HeaderWithin b) Braced Armed ts s rest → Passing (every_in_statement q s) ts rest
    statement_pass ts s rest AnEmpty = past nothing_passed
    statement_pass ts s rest (AnExpressionStatement d) = up_to (here b _ _ _ _ d) (past nothing_passed)
    statement_pass ts s rest (ABlock d) = past (up_to (braced _ _ _ d) (past nothing_passed))
    statement_pass ts s rest ABreak = past (past nothing_passed)
    statement_pass ts s rest AContinue = past (past nothing_passed)
    statement_pass ts s rest AReturn = past (past nothing_passed)
    statement_pass ts s rest (AReturnOf d) = past (up_to (here b _ _ _ _ d) (past nothing_passed))
    statement_pass ts s rest (ALabel n d) = past (past (statement_pass _ _ _ d))
    statement_pass ts s rest (AnIf d x n) = past (past (both (inside b _ _ _ _ d) (past (alone (statement_pass _ _ _ x)))))
    statement_pass ts s rest (AnIfElse d x y) = past (past (both (inside b _ _ _ _ d) (past (both (statement_pass _ _ _ x) (past (statement_pass _ _ _ y))))))
    statement_pass ts s rest (AWhile d x) = past (past (both (inside b _ _ _ _ d) (past (statement_pass _ _ _ x))))
    statement_pass ts s rest (ADo x d) = past (both (statement_pass _ _ _ x) (past (past (up_to (inside b _ _ _ _ d) (past (past nothing_passed))))))
    statement_pass ts s rest (AFor {first = first} {test} {step} {s = t} d x) = past (past (for_pass first test step t (header_pass b _ _ _ d) (past (statement_pass _ _ _ x))))
    statement_pass ts s rest (ASwitch d x) = past (past (both (inside b _ _ _ _ d) (past (past (up_to (armed _ _ _ x) (past nothing_passed))))))

    element_pass : (ts : List Token) (s : Stm) (rest : List Token) → Element (Spells b expr) (Within b expr) (Declares b false) (HeaderWithin b) Braced Armed ts s rest → Passing (every_in_statement q s) ts rest
    element_pass ts s rest (ADeclarationStatement d) = declares_pass b _ _ _ _ d
    element_pass ts s rest (AStatement d) = statement_pass _ _ _ d

    elements_pass : (ts : List Token) (ss : List Stm) (rest : List Token) → Elements (Spells b expr) (Within b expr) (Declares b false) (HeaderWithin b) Braced Armed ts ss rest → Passing (every_in_block q (stms ss)) ts rest
    elements_pass ts ss rest NoMoreElements = nothing_passed
    elements_pass ts ss rest (MoreElements d ds) = both (element_pass _ _ _ d) (elements_pass _ _ _ ds)

    -- the statements of an arm, and what stands after them
    body_pass : (ts : List Token) (ss : List Stm) (mid : List Token) (c : Stms) (rest : List Token) → Body (Spells b conditional) One ts ss mid → Passing (every_in_block q c) mid rest → Passing (every_in_block q (joined (stms ss) c)) ts rest
    body_pass ts ss mid c rest NoMoreStatements others = others
    body_pass ts ss mid c rest (MoreStatements d ds) others = both (statement_pass _ _ _ d) (body_pass _ _ _ c rest ds others)

    label_pass : (ts : List Token) (l : ArmLabel) (rest : List Token) → Labelled (Spells b conditional) One ts l rest → Passing (every_in_label q l) ts rest
    label_pass ts l rest (ACase d) = past (up_to (here b _ _ _ _ d) (past nothing_passed))
    label_pass ts l rest ADefault = past (past nothing_passed)

    arms_pass : (ts : List Token) (all : List Arm) (rest : List Token) → Arms (Spells b conditional) One ts all rest → Passing (every_in_block q (arms all)) ts rest
    arms_pass ts all rest NoMoreArms = nothing_passed
    arms_pass ts all rest (MoreArms {more = more} l d ds) = both (label_pass _ _ _ l) (body_pass _ _ _ (arms more) _ d (arms_pass _ _ _ ds))

  mutual
    unfolding BracedWithin ArmedWithin

    pub braced_pass : (b : ℕ) (ts : List Token) (ss : List Stm) (rest : List Token) → BracedWithin b ts ss rest → Passing (every_in_block q (stms ss)) ts rest
    braced_pass zero ts ss rest d = absurd d
    braced_pass (suc b) ts ss rest d = elements_pass b (BracedWithin b) (ArmedWithin b) (braced_pass b) (armed_pass b) ts ss rest d

    armed_pass : (b : ℕ) (ts : List Token) (all : List Arm) (rest : List Token) → ArmedWithin b ts all rest → Passing (every_in_block q (arms all)) ts rest
    armed_pass zero ts all rest d = absurd d
    armed_pass (suc b) ts all rest d = arms_pass b (BracedWithin b) (ArmedWithin b) (braced_pass b) (armed_pass b) ts all rest d
