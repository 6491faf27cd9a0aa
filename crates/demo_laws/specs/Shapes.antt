-- The tokens and the tree of a loop, over any places.
use Rattle.std.specs.Prelude.{ℕ, Bool, true, false, List, [], ◌∷◌, Some, None, codes}
use Rattle.c_core.specs.declared.number.Spot.{Spot}
use Rattle.c_core.specs.declared.number.IntType.TheVariants.{Int}
use Rattle.c_core.specs.declared.number.BinOp.TheVariants as op
use Rattle.c_tokens.specs.declared.token.Token.{Token}
use Rattle.c_tokens.specs.declared.token.TokenKind.TheVariants.{Word, Number as ANumber, Punct as Sign}
use Rattle.c_tokens.specs.declared.token.Punct.{Punct}
use Rattle.c_tokens.specs.declared.token.Punct.TheVariants as sign
use Rattle.c_parser.specs.Tree.{Exp, Expr, Stm, Stmt, MoreStm, NoStm, NoExp}
use Rattle.c_parser.specs.Tree as t

-- a word at a place
abbrev pub word : List ℕ → Spot → Token
word w at = record { kind = Word w; spot = at }

-- a sign at a place
abbrev pub mark : Punct → Spot → Token
mark s at = record { kind = Sign s; spot = at }

-- a positive number without a suffix at a place
abbrev pub number : ℕ → Spot → Token
number v at = record { kind = ANumber v true false 0; spot = at }

-- `x`, `b`
abbrev pub name_exp : List ℕ → Spot → Exp
name_exp x at = Expr at (t.Var x at)

-- a positive number as an expression
abbrev pub number_exp : ℕ → Spot → Exp
number_exp v at = Expr at (t.Number v true false 0)

-- `while (x < b) { x = x + 1; }`
abbrev pub while_tokens : List ℕ → ℕ → (ℕ → Spot) → List Token
while_tokens x b at =
    word (codes "while") (at 0) ∷ mark sign.ParenOpen (at 1) ∷ word x (at 2) ∷ mark sign.Less (at 3) ∷ number b (at 4) ∷ mark sign.ParenClose (at 5) ∷
    mark sign.BraceOpen (at 6) ∷ word x (at 7) ∷ mark sign.Assign (at 8) ∷ word x (at 9) ∷ mark sign.Plus (at 10) ∷ number 1 (at 11) ∷
    mark sign.Semicolon (at 12) ∷ mark sign.BraceClose (at 13) ∷ []

-- `x = x + 1;` as a statement
abbrev pub step_statement : List ℕ → (ℕ → Spot) → Stm
step_statement x at = Stmt (at 7) (t.Do (Expr (at 7) (t.Assign None (name_exp x (at 7)) (Expr (at 9) (t.Binary op.Add (name_exp x (at 9)) (number_exp 1 (at 11)))))))

-- the loop as a statement
abbrev pub while_statement : List ℕ → ℕ → (ℕ → Spot) → Stm
while_statement x b at =
    Stmt (at 0) (t.While (Expr (at 2) (t.Binary op.Lt (name_exp x (at 2)) (number_exp b (at 4)))) (Stmt (at 6) (t.Block (MoreStm (step_statement x at) NoStm))))

-- `if (x != b) { reach_error(); }`
abbrev pub test_tokens : List ℕ → ℕ → (ℕ → Spot) → List Token
test_tokens x b at =
    word (codes "if") (at 0) ∷ mark sign.ParenOpen (at 1) ∷ word x (at 2) ∷ mark sign.NotEqual (at 3) ∷ number b (at 4) ∷ mark sign.ParenClose (at 5) ∷
    mark sign.BraceOpen (at 6) ∷ word (codes "reach_error") (at 7) ∷ mark sign.ParenOpen (at 8) ∷ mark sign.ParenClose (at 9) ∷
    mark sign.Semicolon (at 10) ∷ mark sign.BraceClose (at 11) ∷ []

-- the test as a statement
abbrev pub test_statement : List ℕ → ℕ → (ℕ → Spot) → Stm
test_statement x b at =
    Stmt (at 0) (t.If (Expr (at 2) (t.Binary op.Ne (name_exp x (at 2)) (number_exp b (at 4))))
    (Stmt (at 6) (t.Block (MoreStm (Stmt (at 7) (t.Do (Expr (at 7) (t.Call (codes "reach_error") (at 7) NoExp (at 9))))) NoStm))) t.NoElse)

-- `int x = 0;`
abbrev pub declaration_tokens : List ℕ → (ℕ → Spot) → List Token
declaration_tokens x at =
    word (codes "int") (at 0) ∷ word x (at 1) ∷ mark sign.Assign (at 2) ∷ record { kind = ANumber 0 false false 0; spot = at 3 } ∷ mark sign.Semicolon (at 4) ∷ []

-- the declaration as a statement
abbrev pub declaration_statement : List ℕ → (ℕ → Spot) → Stm
declaration_statement x at =
    Stmt (at 0) (t.Declare (record { spot = at 1; name = x; ty = Int; sizes = []; init = t.One (Expr (at 3) (t.Number 0 false false 0)) } ∷ []))

-- `return 0; }`
abbrev pub end_tokens : (ℕ → Spot) → List Token
end_tokens at =
    word (codes "return") (at 0) ∷ record { kind = ANumber 0 false false 0; spot = at 1 } ∷ mark sign.Semicolon (at 2) ∷ mark sign.BraceClose (at 3) ∷ []

-- `return 0;` as a statement
abbrev pub return_statement : (ℕ → Spot) → Stm
return_statement at = Stmt (at 0) (t.Return (Some (Expr (at 1) (t.Number 0 false false 0))))

-- `int y = __VERIFIER_nondet_int();`
abbrev pub input_tokens : (ℕ → Spot) → List Token
input_tokens at =
    word (codes "int") (at 0) ∷ word (codes "y") (at 1) ∷ mark sign.Assign (at 2) ∷ word (codes "__VERIFIER_nondet_int") (at 3) ∷ mark sign.ParenOpen (at 4) ∷
    mark sign.ParenClose (at 5) ∷ mark sign.Semicolon (at 6) ∷ []

-- the input as a statement
abbrev pub input_statement : (ℕ → Spot) → Stm
input_statement at =
    Stmt (at 0)
    (t.Declare (record { spot = at 1; name = codes "y"; ty = Int; sizes = []; init = t.One (Expr (at 3) (t.Call (codes "__VERIFIER_nondet_int") (at 3) NoExp (at 5))) } ∷ []))

-- `if (y == n) { reach_error(); }`; 0 counts as octal
abbrev pub chosen_tokens : ℕ → Bool → (ℕ → Spot) → List Token
chosen_tokens n decimal at =
    word (codes "if") (at 0) ∷ mark sign.ParenOpen (at 1) ∷ word (codes "y") (at 2) ∷ mark sign.Equal (at 3) ∷ record { kind = ANumber n decimal false 0; spot = at 4 } ∷
    mark sign.ParenClose (at 5) ∷ mark sign.BraceOpen (at 6) ∷ word (codes "reach_error") (at 7) ∷ mark sign.ParenOpen (at 8) ∷ mark sign.ParenClose (at 9) ∷
    mark sign.Semicolon (at 10) ∷ mark sign.BraceClose (at 11) ∷ []

-- the test of the input as a statement
abbrev pub chosen_statement : ℕ → Bool → (ℕ → Spot) → Stm
chosen_statement n decimal at =
    Stmt (at 0) (t.If (Expr (at 2) (t.Binary op.Eq (name_exp (codes "y") (at 2)) (Expr (at 4) (t.Number n decimal false 0))))
    (Stmt (at 6) (t.Block (MoreStm (Stmt (at 7) (t.Do (Expr (at 7) (t.Call (codes "reach_error") (at 7) NoExp (at 9))))) NoStm))) t.NoElse)

-- `void reach_error() { }`
abbrev pub reach_tokens : (ℕ → Spot) → List Token
reach_tokens at =
    word (codes "void") (at 0) ∷ word (codes "reach_error") (at 1) ∷ mark sign.ParenOpen (at 2) ∷ mark sign.ParenClose (at 3) ∷ mark sign.BraceOpen (at 4) ∷ mark sign.BraceClose (at 5) ∷ []

-- `int __VERIFIER_nondet_int();`
abbrev pub prototype_tokens : (ℕ → Spot) → List Token
prototype_tokens at =
    word (codes "int") (at 0) ∷ word (codes "__VERIFIER_nondet_int") (at 1) ∷ mark sign.ParenOpen (at 2) ∷ mark sign.ParenClose (at 3) ∷ mark sign.Semicolon (at 4) ∷ []

-- the prototype as an item
abbrev pub prototype_item : (ℕ → Spot) → t.Item
prototype_item at = t.Prototype (at 1) (codes "__VERIFIER_nondet_int") (Some Int) None

-- `int main() {`
abbrev pub main_tokens : (ℕ → Spot) → List Token
main_tokens at = word (codes "int") (at 0) ∷ word (codes "main") (at 1) ∷ mark sign.ParenOpen (at 2) ∷ mark sign.ParenClose (at 3) ∷ mark sign.BraceOpen (at 4) ∷ []

-- `main` with these statements as an item
abbrev pub main_item : (ℕ → Spot) → List Stm → t.Item
main_item at ss = t.Function (at 1) (codes "main") (Some Int) [] (Stmt (at 4) (t.Block (t.stms ss)))
