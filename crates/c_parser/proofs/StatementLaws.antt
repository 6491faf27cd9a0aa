-- Each statement that tokens spell is read from them.
use Rattle.std.proofs.Common.{◌≡◌, ℕ, suc, ◌≤◌, ◌<◌, List, ◌∷◌, drop, true, false, refl, ap, ◌∙◌, cond, Option, Some, None, arith, ◌&&◌}
use Rattle.std.proofs.lemmas.Bool.{cond-true, cond-false}
use Rattle.std.specs.Prelude.{codes, is_some}
use Rattle.c_core.specs.declared.number.Spot.{Spot}
use Rattle.c_tokens.specs.Numbers.{is_spelled}
use Rattle.c_tokens.specs.declared.token.Token.{Token}
use Rattle.c_tokens.specs.declared.token.Punct.{Punct}
use Rattle.c_tokens.specs.declared.token.Punct.TheVariants as sign
use Rattle.c_parser.specs.Tree.{Exp, Declared, First, Stm, NoElse, Arm, stms, arms}
use Rattle.c_parser.specs.Heights.{height, height_if, height_of, height_of_declared, height_of_first, height_of_block}
use Rattle.c_parser.specs.Signs.{sign_token, word_token, is_sign, is_word}
use Rattle.c_parser.specs.Words.{is_name}
use Rattle.c_parser.specs.ReadExpressions.{Read}
use Rattle.c_parser.specs.Declarations.{begins_declaration, name_at}
use Rattle.c_parser.specs.Statements.{Parts, Optional, NoExpression, AnExpression, FirstPart, DeclaredFirst, ExpressionFirst, NothingFirst, ForParts, AllParts, Statement, AnEmpty, AnExpressionStatement, ABlock, ABreak, AContinue, AReturn, AReturnOf, ALabel, AnIf, AnIfElse, AWhile, ADo, AFor, ASwitch}
use Rattle.c_parser.specs.ReadStatements.{Start, AtLabel, AtExpression, start, optional, first_part, for_parts, in_parens, else_part, returned, header_in_parens, arms_in_braces, statement_from}
use Rattle.c_parser.proofs.SignLaws.{grip}
use Rattle.c_parser.proofs.WordLaws.{not_spelled}
use Rattle.c_parser.proofs.Begins.{may_begin, no_sign, no_word, no_declaration}

-- the parts of a `for`
module _ (Whole : List Token → Exp → List Token → Type 0) (Declares : List Token → List Declared → List Token → Type 0)
    (whole : List Token → Read Exp) (declaration : List Token → Read (List Declared)) (h : ℕ)
    (whole_begins : (ts : List Token) (e : Exp) (rest : List Token) → Whole ts e rest → may_begin ts ≡ true)
    (whole_read : (ts : List Token) (e : Exp) (rest : List Token) → Whole ts e rest → height e ≤ h → grip rest < 1 → whole ts ≡ Some (e, rest))
    (declares_begin : (ts : List Token) (ds : List Declared) (rest : List Token) → Declares ts ds rest → begins_declaration ts ≡ true)
    (declares_read : (ts : List Token) (ds : List Declared) (rest : List Token) → Declares ts ds rest → height_of_declared ds ≤ h → declaration ts ≡ Some (ds, rest)) where
  optional_read : (s : Punct) (q : Spot) (ts : List Token) (e : Option Exp) (rest : List Token) → is_sign s (sign_token s q ∷ rest) ≡ true → grip (sign_token s q ∷ rest) < 1 →
      ((us : List Token) → may_begin us ≡ true → is_sign s us ≡ false) → Optional Whole Declares ts e (sign_token s q ∷ rest) → height_if e ≤ h → optional whole declaration s ts ≡ Some (e, sign_token s q ∷ rest)
  optional_read s q ts e rest same low apart NoExpression hi = rw (optional, same) refl
  optional_read s q ts e rest same low apart (AnExpression a) hi = rw (optional, apart ts (whole_begins _ _ _ a), whole_read _ _ _ a hi low) refl

  semicolon_apart : (us : List Token) → may_begin us ≡ true → is_sign sign.Semicolon us ≡ false
  semicolon_apart us b = no_sign sign.Semicolon us b refl

  close_apart : (us : List Token) → may_begin us ≡ true → is_sign sign.ParenClose us ≡ false
  close_apart us b = no_sign sign.ParenClose us b refl

  first_read : (ts : List Token) (f : First) (rest : List Token) → FirstPart Whole Declares ts f rest → height_of_first f ≤ h → first_part whole declaration ts ≡ Some (f, rest)
  first_read ts f rest (DeclaredFirst d) hi = rw (first_part, declares_begin _ _ _ d, declares_read _ _ _ d hi) refl
  first_read ts f rest (ExpressionFirst {ts = us} {e = e} {q = q} a) hi =
      rw (first_part, no_declaration us (whole_begins _ _ _ a), optional_read sign.Semicolon q us (Some e) rest refl (omega arith) semicolon_apart (AnExpression a) hi) refl
  first_read ts f rest NothingFirst hi = refl

  pub parts_read : (ts : List Token) (f : First) (test step : Option Exp) (rest : List Token) → ForParts Whole Declares ts (f, test, step) rest →
      height_of_first f ≤ h → height_if test ≤ h → height_if step ≤ h → for_parts whole declaration ts ≡ Some ((f, test, step), rest)
  parts_read ts f test step rest (AllParts {second = second} {third = third} {q = q} {r = r} a b c) hf ht hs =
      rw (
        for_parts,
        first_read ts f second a hf,
        optional_read sign.Semicolon q second test third refl (omega arith) semicolon_apart b ht,
        optional_read sign.ParenClose r third step _ refl (omega arith) close_apart c hs,
      ) refl

-- a name is no word that begins another statement
label_start : (w : List ℕ) (p q : Spot) (ts : List Token) → is_name w ≡ true → start (word_token w p ∷ sign_token sign.Colon q ∷ ts) ≡ AtLabel
label_start w p q ts n =
    other (codes "break") refl _ _ ∙ other (codes "continue") refl _ _ ∙ other (codes "return") refl _ _ ∙ other (codes "if") refl _ _ ∙ other (codes "while") refl _ _ ∙ other (codes "do") refl _ _ ∙ other (codes "for") refl _ _ ∙ other (codes "switch") refl _ _
    ∙ cond-true _ _ _ (ap (λ (o : Option (List ℕ)). is_some o && true) (cond-true (is_name w) (Some w) None n))
  where
    other : (v : List ℕ) → is_name v ≡ false → (x y : Start) → cond (is_spelled v w) x y ≡ y
    other v f x y = cond-false _ _ _ (not_spelled v w f n)

expression_start : (ts : List Token) → may_begin ts ≡ true → (is_some (name_at ts) && is_sign sign.Colon (drop 1 ts)) ≡ false → start ts ≡ AtExpression
expression_start ts b f =
    rw (
      no_sign sign.Semicolon ts b refl,
      no_sign sign.BraceOpen ts b refl,
      no_word (codes "break") ts refl b,
      no_word (codes "continue") ts refl b,
      no_word (codes "return") ts refl b,
      no_word (codes "if") ts refl b,
      no_word (codes "while") ts refl b,
      no_word (codes "do") ts refl b,
      no_word (codes "for") ts refl b,
      no_word (codes "switch") ts refl b,
      f,
    ) refl

module _ (Whole Paren : List Token → Exp → List Token → Type 0) (Declares : List Token → List Declared → List Token → Type 0)
    (Header : List Token → Parts → List Token → Type 0) (Braced : List Token → List Stm → List Token → Type 0) (Armed : List Token → List Arm → List Token → Type 0)
    (whole paren : List Token → Read Exp) (header : List Token → Read Parts) (braced : List Token → Read (List Stm)) (armed : List Token → Read (List Arm)) (below : List Token → Read Stm) (h : ℕ)
    (whole_begins : (ts : List Token) (e : Exp) (rest : List Token) → Whole ts e rest → may_begin ts ≡ true)
    (no_label : (ts : List Token) (e : Exp) (q : Spot) (rest : List Token) → Whole ts e (sign_token sign.Semicolon q ∷ rest) → (is_some (name_at ts) && is_sign sign.Colon (drop 1 ts)) ≡ false)
    (whole_read : (ts : List Token) (e : Exp) (rest : List Token) → Whole ts e rest → height e ≤ h → grip rest < 1 → whole ts ≡ Some (e, rest))
    (paren_read : (ts : List Token) (e : Exp) (rest : List Token) → Paren ts e rest → height e ≤ h → grip rest < 1 → paren ts ≡ Some (e, rest))
    (header_read : (ts : List Token) (f : First) (test step : Option Exp) (rest : List Token) → Header ts (f, test, step) rest → height_of_first f ≤ h → height_if test ≤ h → height_if step ≤ h → header ts ≡ Some ((f, test, step), rest))
    (braced_read : (ts : List Token) (ss : List Stm) (rest : List Token) → Braced ts ss rest → height_of_block (stms ss) ≤ h → braced ts ≡ Some (ss, rest))
    (armed_read : (ts : List Token) (all : List Arm) (rest : List Token) → Armed ts all rest → height_of_block (arms all) ≤ h → armed ts ≡ Some (all, rest))
    (below_read : (ts : List Token) (s : Stm) (rest : List Token) → Statement Whole Paren Declares Header Braced Armed ts s rest → height_of s ≤ h → below ts ≡ Some (s, rest)) where
  abbrev From : Start → List Token → Read Stm
  From = statement_from whole paren header braced armed below

  paren_in_read : (ts : List Token) (e : Exp) (q r : Spot) (rest : List Token) → Paren ts e (sign_token sign.ParenClose r ∷ rest) → height e ≤ h →
      in_parens whole paren header braced armed below (sign_token sign.ParenOpen q ∷ ts) ≡ Some (e, rest)
  paren_in_read ts e q r rest a hi = rw (in_parens, paren_read ts e _ a hi (omega arith)) refl

  header_in_read : (ts : List Token) (f : First) (test step : Option Exp) (q r : Spot) (rest : List Token) → Header ts (f, test, step) (sign_token sign.ParenClose r ∷ rest) →
      height_of_first f ≤ h → height_if test ≤ h → height_if step ≤ h → header_in_parens whole paren header braced armed below (sign_token sign.ParenOpen q ∷ ts) ≡ Some ((f, test, step), rest)
  header_in_read ts f test step q r rest a hf ht hs = rw (header_in_parens, header_read ts f test step _ a hf ht hs) refl

  no_else : (rest : List Token) → is_word (codes "else") rest ≡ false → else_part whole paren header braced armed below rest ≡ Some (NoElse, rest)
  no_else rest f = rw (else_part, f) refl

  arms_in_read : (ts : List Token) (all : List Arm) (u z : Spot) (rest : List Token) → Armed ts all (sign_token sign.BraceClose z ∷ rest) → height_of_block (arms all) ≤ h →
      arms_in_braces whole paren header braced armed below (sign_token sign.BraceOpen u ∷ ts) ≡ Some (all, rest)
  arms_in_read ts all u z rest a hi = rw (arms_in_braces, armed_read ts all _ a hi) refl

  pub statement_read : (ts : List Token) (s : Stm) (rest : List Token) → Statement Whole Paren Declares Header Braced Armed ts s rest → height_of s ≤ suc h → From (start ts) ts ≡ Some (s, rest)
  statement_read ts s rest AnEmpty hi = refl
  statement_read ts s rest (AnExpressionStatement {ts = us} {e = e} {q = q} a) hi =
      ap (λ (x : Start). From x us) (expression_start us (whole_begins _ _ _ a) (no_label us e q rest a)) ∙ rw (whole_read us e _ a (omega arith) (omega arith)) refl
  statement_read ts s rest (ABlock a) hi = rw (braced_read _ _ _ a (omega arith)) refl
  statement_read ts s rest ABreak hi = refl
  statement_read ts s rest AContinue hi = refl
  statement_read ts s rest AReturn hi = refl
  statement_read ts s rest (AReturnOf {ts = us} a) hi = rw (returned, no_sign sign.Semicolon us (whole_begins _ _ _ a) refl, whole_read _ _ _ a (omega arith) (omega arith)) refl
  statement_read ts s rest (ALabel {ts = us} {w = w} {p = p} {q = q} n a) hi =
      ap (λ (x : Start). From x (word_token w p ∷ sign_token sign.Colon q ∷ us)) (label_start w p q us n) ∙ rw (n, below_read _ _ _ a (omega arith)) refl
  statement_read ts s rest (AnIf {ts = us} {mid = mid} {e = e} {p = p} {q = q} {r = r} a b f) hi = rw (paren_in_read us e q r mid a (omega arith), below_read _ _ _ b (omega arith), no_else rest f) refl
  statement_read ts s rest (AnIfElse {ts = us} {mid = mid} {e = e} {q = q} {r = r} a b c) hi = rw (paren_in_read us e q r mid a (omega arith), below_read _ _ _ b (omega arith), below_read _ _ _ c (omega arith)) refl
  statement_read ts s rest (AWhile {ts = us} {mid = mid} {e = e} {q = q} {r = r} a b) hi = rw (paren_in_read us e q r mid a (omega arith), below_read _ _ _ b (omega arith)) refl
  statement_read ts s rest (ADo {mid = mid} {e = e} {r = r} {u = u} {z = z} a b) hi = rw (below_read _ _ _ a (omega arith), paren_in_read mid e r u (sign_token sign.Semicolon z ∷ rest) b (omega arith)) refl
  statement_read ts s rest (AFor {ts = us} {mid = mid} {first = first} {test = test} {step = step} {q = q} {r = r} a b) hi =
      rw (header_in_read us first test step q r mid a (omega arith) (omega arith) (omega arith), below_read _ _ _ b (omega arith)) refl
  statement_read ts s rest (ASwitch {ts = us} {mid = mid} {e = e} {all = all} {q = q} {r = r} {u = u} {z = z} a b) hi =
      rw (paren_in_read us e q r (sign_token sign.BraceOpen u ∷ mid) a (omega arith), arms_in_read mid all u z rest b (omega arith)) refl
