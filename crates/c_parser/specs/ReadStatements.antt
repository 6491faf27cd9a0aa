-- Reading statements: a function of the tokens, which gives what `Statements` says.
use Rattle.std.specs.Prelude.{ℕ, zero, suc, Bool, true, false, ◌&&◌, ◌||◌, is_some, length, drop, List, [], ◌∷◌, Option, Some, None, if◌then◌else◌, codes}
use Rattle.c_tokens.specs.declared.token.Token.{Token}
use Rattle.c_tokens.specs.declared.token.Punct.{Punct}
use Rattle.c_tokens.specs.declared.token.Punct.TheVariants as sign
use Rattle.c_parser.specs.Tree.{Exp, Exps, Declared, First, NoFirst, FirstExp, FirstDeclared, Stm, Stmt, Else, NoElse, OrElse, ArmLabel, Case, Default, Arm, stms, arms}
use Rattle.c_parser.specs.Tree as form
use Rattle.c_parser.specs.Signs.{◌>>=◌, place, is_sign, is_word, conditional, expr}
use Rattle.c_parser.specs.ReadExpressions.{Read, closing, read, within}
use Rattle.c_parser.specs.Declarations.{begins_declaration, name_at, read_rows, read_declaration}
use Rattle.c_parser.specs.Statements.{Parts}

-- how a statement begins
pub data Start : Type 0 where
  AtSemicolon : Start
  AtBrace : Start
  AtBreak : Start
  AtContinue : Start
  AtReturn : Start
  AtIf : Start
  AtWhile : Start
  AtDo : Start
  AtFor : Start
  AtSwitch : Start
  AtLabel : Start
  AtExpression : Start

abbrev pub start : List Token → Start
start ts =
    if is_sign sign.Semicolon ts then AtSemicolon
    else if is_sign sign.BraceOpen ts then AtBrace
    else if is_word (codes "break") ts then AtBreak
    else if is_word (codes "continue") ts then AtContinue
    else if is_word (codes "return") ts then AtReturn
    else if is_word (codes "if") ts then AtIf
    else if is_word (codes "while") ts then AtWhile
    else if is_word (codes "do") ts then AtDo
    else if is_word (codes "for") ts then AtFor
    else if is_word (codes "switch") ts then AtSwitch
    else if is_some (name_at ts) && is_sign sign.Colon (drop 1 ts) then AtLabel
    else AtExpression

module _ (whole : List Token → Read Exp) (declaration : List Token → Read (List Declared)) where
  -- an expression, unless this sign stands here
  abbrev pub optional : Punct → List Token → Read (Option Exp)
  optional s ts = elim (is_sign s ts) [ true ↦ Some (None, ts) | false ↦ (whole ts >>= λ e. Some (Some e.0, e.1)) ]

  abbrev pub first_of : Option Exp → First
  first_of None = NoFirst
  first_of (Some e) = FirstExp e

  abbrev pub first_part : List Token → Read First
  first_part ts = elim (begins_declaration ts) [
    | true ↦ (declaration ts >>= λ d. Some (FirstDeclared d.0, d.1))
    | false ↦ (optional sign.Semicolon ts >>= λ e. closing sign.Semicolon (first_of e.0) e.1)
  ]

  abbrev pub for_parts : List Token → Read Parts
  for_parts ts = first_part ts >>= λ f. optional sign.Semicolon f.1 >>= λ e. closing sign.Semicolon e.0 e.1 >>= λ c.
      optional sign.ParenClose c.1 >>= λ u. Some ((f.0, c.0, u.0), u.1)

-- `below` reads a statement that is a part
module _ (whole paren : List Token → Read Exp) (header : List Token → Read Parts) (braced : List Token → Read (List Stm)) (armed : List Token → Read (List Arm))
    (below : List Token → Read Stm) where
  abbrev pub in_parens : List Token → Read Exp
  in_parens ts = elim (is_sign sign.ParenOpen ts) [ true ↦ (paren (drop 1 ts) >>= λ e. closing sign.ParenClose e.0 e.1) | false ↦ None ]

  abbrev pub else_part : List Token → Read Else
  else_part ts = elim (is_word (codes "else") ts) [ true ↦ (below (drop 1 ts) >>= λ s. Some (OrElse s.0, s.1)) | false ↦ Some (NoElse, ts) ]

  abbrev pub returned : List Token → Read (Option Exp)
  returned ts = elim (is_sign sign.Semicolon ts) [
    | true ↦ Some (None, drop 1 ts)
    | false ↦ (whole ts >>= λ e. closing sign.Semicolon (Some e.0) e.1)
  ]

  abbrev pub do_test : List Token → Read Exp
  do_test ts = elim (is_word (codes "while") ts) [ true ↦ (in_parens (drop 1 ts) >>= λ e. closing sign.Semicolon e.0 e.1) | false ↦ None ]

  abbrev pub header_in_parens : List Token → Read Parts
  header_in_parens ts = elim (is_sign sign.ParenOpen ts) [ true ↦ (header (drop 1 ts) >>= λ f. closing sign.ParenClose f.0 f.1) | false ↦ None ]

  abbrev pub arms_in_braces : List Token → Read (List Arm)
  arms_in_braces ts = elim (is_sign sign.BraceOpen ts) [ true ↦ (armed (drop 1 ts) >>= λ a. closing sign.BraceClose a.0 a.1) | false ↦ None ]

  abbrev pub statement_from : Start → List Token → Read Stm
  statement_from AtSemicolon ts = Some (Stmt (place ts) form.Empty, drop 1 ts)
  statement_from AtBrace ts = braced (drop 1 ts) >>= λ b. closing sign.BraceClose (Stmt (place ts) (form.Block (stms b.0))) b.1
  statement_from AtBreak ts = closing sign.Semicolon (Stmt (place ts) form.Break) (drop 1 ts)
  statement_from AtContinue ts = closing sign.Semicolon (Stmt (place ts) form.Continue) (drop 1 ts)
  statement_from AtReturn ts = returned (drop 1 ts) >>= λ e. Some (Stmt (place ts) (form.Return e.0), e.1)
  statement_from AtIf ts = in_parens (drop 1 ts) >>= λ e. below e.1 >>= λ s. else_part s.1 >>= λ u. Some (Stmt (place ts) (form.If e.0 s.0 u.0), u.1)
  statement_from AtWhile ts = in_parens (drop 1 ts) >>= λ e. below e.1 >>= λ s. Some (Stmt (place ts) (form.While e.0 s.0), s.1)
  statement_from AtDo ts = below (drop 1 ts) >>= λ s. do_test s.1 >>= λ e. Some (Stmt (place ts) (form.DoWhile s.0 e.0), e.1)
  statement_from AtFor ts = header_in_parens (drop 1 ts) >>= λ f. below f.1 >>= λ s. Some (Stmt (place ts) (form.For f.0.0 f.0.1 f.0.2 s.0), s.1)
  statement_from AtSwitch ts = in_parens (drop 1 ts) >>= λ e. arms_in_braces e.1 >>= λ a. Some (Stmt (place ts) (form.Switch e.0 (arms a.0)), a.1)
  statement_from AtLabel ts = name_at ts >>= λ w. below (drop 2 ts) >>= λ s. Some (Stmt (place ts) (form.Label w s.0), s.1)
  statement_from AtExpression ts = whole ts >>= λ e. closing sign.Semicolon (Stmt (place ts) (form.Do e.0)) e.1

-- up to where `stops` is true; n is at least the number of tokens
abbrev pub until : {X : Type 0} → (List Token → Bool) → (List Token → Read X) → ℕ → List Token → Read (List X)
until stops one zero ts = None
until stops one (suc n) ts = elim (stops ts) [
  | true ↦ Some ([], ts)
  | false ↦ (one ts >>= λ x. until stops one n x.1 >>= λ r. Some (x.0 ∷ r.0, r.1))
]

-- up to the brace that closes them
abbrev pub elements : {X : Type 0} → (List Token → Read X) → ℕ → List Token → Read (List X)
elements one = until (is_sign sign.BraceClose) one

-- a label of a `switch` stands here
abbrev pub begins_arm : List Token → Bool
begins_arm ts = is_word (codes "case") ts || is_word (codes "default") ts

-- no further statement of an arm
abbrev pub ends_arm : List Token → Bool
ends_arm ts = begins_arm ts || is_sign sign.BraceClose ts

module _ (constant : List Token → Read Exp) (one : List Token → Read Stm) where
  abbrev pub read_label : List Token → Read ArmLabel
  read_label ts = elim (is_word (codes "case") ts) [
    | true ↦ (constant (drop 1 ts) >>= λ e. closing sign.Colon (Case e.0) e.1)
    | false ↦ elim (is_word (codes "default") ts) [ true ↦ closing sign.Colon Default (drop 1 ts) | false ↦ None ]
  ]

  abbrev pub read_arm_body : List Token → Read (List Stm)
  read_arm_body ts = until ends_arm one (length ts) ts

  abbrev pub read_arm : List Token → Read Arm
  read_arm ts = read_label ts >>= λ l. read_arm_body l.1 >>= λ b. Some (record { spot = place ts; label = l.0; body = b.0 }, b.1)

-- With at most b brackets open at one place, and parts of the height h at most.

-- rows in one more pair of brackets
unfoldable pub rows_within : ℕ → ℕ → List Token → Read (List Exps)
rows_within zero h ts = None
rows_within (suc b) h ts = read_rows (within b h) (length ts) ts

abbrev pub declares : ℕ → ℕ → Bool → List Token → Read (List Declared)
declares b h outside = read_declaration b (read b h) (within b h) (rows_within b h) outside

-- in one more pair of brackets
unfoldable pub header_within : ℕ → ℕ → List Token → Read Parts
header_within zero h ts = None
header_within (suc b) h ts = for_parts (read b h expr) (declares b h false) ts

-- statements of the height h, and declarations where `declared`
unfoldable pub statement_level : ℕ → (ℕ → List Token → Read (List Stm)) → (ℕ → List Token → Read (List Arm)) → ℕ → Bool → List Token → Read Stm
statement_level b braced armed zero declared ts = None
statement_level b braced armed (suc h) declared ts =
    elim (declared && begins_declaration ts) [
      | true ↦ (declares b h false ts >>= λ d. Some (Stmt (place ts) (form.Declare d.0), d.1))
      | false ↦ statement_from (read b h expr) (within b h expr) (header_within b h) (braced h) (armed h) (statement_level b braced armed h false) (start ts) ts
    ]

unfoldable mutual
  pub braced_within : ℕ → ℕ → List Token → Read (List Stm)
  braced_within zero h ts = None
  braced_within (suc b) h ts = elements (statement_level b (braced_within b) (armed_within b) h true) (length ts) ts

  pub armed_within : ℕ → ℕ → List Token → Read (List Arm)
  armed_within zero h ts = None
  armed_within (suc b) h ts = elements (read_arm (read b h conditional) (statement_level b (braced_within b) (armed_within b) h false)) (length ts) ts
