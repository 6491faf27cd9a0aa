-- Statements within limits of brackets and height are read.
use Rattle.std.proofs.Common.{◌≡◌, ℕ, zero, suc, ◌+◌, ◌≤◌, ◌<◌, max, List, [], ◌∷◌, length, drop, Bool, true, false, refl, sym, ap, ◌∙◌, subst, cond, Option, Some, None, arith, ◌&&◌, true≢false}
use Rattle.std.proofs.lemmas.Bool.{and_right, false_from_ne_true}
use Rattle.std.specs.Prelude.{codes, is_some}
use Rattle.c_core.specs.declared.number.Spot.{Spot}
use Rattle.c_tokens.specs.declared.token.Token.{Token}
use Rattle.c_tokens.specs.declared.token.TokenKind.{TokenKind}
use Rattle.c_tokens.specs.declared.token.TokenKind.TheVariants as kind
use Rattle.c_tokens.specs.declared.token.Punct.TheVariants as sign
use Rattle.c_parser.specs.Tree.{Exp, Exps, Expr, Declared, First, Stm, Stmt, ArmLabel, Arm, stms, arms}
use Rattle.c_parser.specs.Tree as form
use Rattle.c_parser.specs.Heights.{height, heights, height_of_rows, height_if, height_of, height_of_declared, height_of_first, height_of_label, height_of_block}
use Rattle.c_parser.specs.Signs.{token, sign_token, word_token, is_sign, conditional, expr}
use Rattle.c_parser.specs.Words.{is_name, TypeWord, type_of}
use Rattle.c_parser.specs.Brackets.{PassedWithin}
use Rattle.c_parser.specs.Expressions.{Stronger, AName, Within, Spells, has_room}
use Rattle.c_parser.specs.ReadExpressions.{Read, read, within}
use Rattle.c_parser.specs.Declarations.{begins_declaration, name_of, name_at, is_part, Specifiers, NoMoreSpecifiers, ATypeWord, ASpecifier, AnAttributeBefore, UpToBrace, Row, ADeclaration, read_row, read_rows}
use Rattle.c_parser.specs.Statements.{Parts, Optional, NoExpression, AnExpression, FirstPart, DeclaredFirst, ExpressionFirst, NothingFirst, AllParts, Statement, AnEmpty, AnExpressionStatement, ABlock, ABreak, AContinue, AReturn, AReturnOf, ALabel, AnIf, AnIfElse, AWhile, ADo, AFor, ASwitch, Element, ADeclarationStatement, AStatement, Elements, NoMoreElements, MoreElements, Labelled, ACase, ADefault, Body, NoMoreStatements, MoreStatements, Arms, NoMoreArms, MoreArms, RowsWithin, Declares, HeaderWithin, BracedWithin, ArmedWithin}
use Rattle.c_parser.specs.ReadStatements.{until, elements, begins_arm, ends_arm, read_label, read_arm, rows_within, declares, header_within, statement_level, braced_within, armed_within}
use Rattle.c_parser.proofs.SignLaws.{taken}
use Rattle.c_parser.proofs.WordLaws.{both_true, not_spelled}
use Rattle.c_parser.proofs.Complete.{Front, read_complete, within_complete, expression_front, within_front}
use Rattle.c_parser.proofs.Begins.{may_begin, no_sign, no_word, no_declaration, expression_begins, within_begins}
use Rattle.c_parser.proofs.DeclarationLaws.{type_is_part, specifier_is_part, attribute_is_part, name_is_no_part, brace_read, brace_shorter, row_front, row_begins, row_read, declaration_read, declaration_shorter}
use Rattle.c_parser.proofs.StatementLaws.{parts_read, statement_read}
use Rattle.c_parser.proofs.SoundBlocks.{joined_height}

-- With at most b brackets.

spells_begins : (b k : ℕ) (ts : List Token) (e : Exp) (rest : List Token) → Spells b k ts e rest → may_begin ts ≡ true
spells_begins b k ts e rest d = expression_begins (has_room b) (Within b) k ts e rest d

spells_front : (b k : ℕ) (ts : List Token) (e : Exp) (rest : List Token) → Spells b k ts e rest → Front ts rest
spells_front b k ts e rest d = expression_front (has_room b) (Within b) (within_front b) k ts e rest d

-- a name by itself is a whole expression
up : (d k : ℕ) (b : ℕ) (ts : List Token) (e : Exp) (rest : List Token) → Spells b (d + k) ts e rest → Spells b k ts e rest
up zero k b ts e rest s = subst (λ (n : ℕ). Spells b n ts e rest) (let f : 0 + k ≡ k = omega arith in f) s
up (suc d) k b ts e rest s = up d k b ts e rest (Stronger (subst (λ (n : ℕ). Spells b n ts e rest) (let f : suc d + k ≡ suc (d + k) = omega arith in f) s))

lone_name : (b : ℕ) (w : List ℕ) (p q : Spot) (ts : List Token) → is_name w ≡ true → Spells b expr (word_token w p ∷ sign_token sign.Colon q ∷ ts) (Expr p (form.Var w p)) (sign_token sign.Colon q ∷ ts)
lone_name b w p q ts n = up 16 1 b _ _ _ (AName n)

pub once : {A : Type 0} {x y : A} {o : Option A} → o ≡ Some x → o ≡ Some y → x ≡ y
once e f = let g = sym e ∙ f in cc

-- no statement that is an expression begins like a label
colon_semicolon : (q r : Spot) (ts us : List Token) → sign_token sign.Colon q ∷ ts ≡ sign_token sign.Semicolon r ∷ us → ⊥
colon_semicolon q r ts us e = let f : false ≡ true = ap (is_sign sign.Semicolon) e in cc

not_label_word : (b : ℕ) (w : List ℕ) (p : Spot) (ts : List Token) (e : Exp) (q : Spot) (rest : List Token) → Spells b expr (word_token w p ∷ ts) e (sign_token sign.Semicolon q ∷ rest) → is_name w ≡ true → is_sign sign.Colon ts ≡ true → ⊥
not_label_word b w p ts e q rest s n c =
    let t = taken sign.Colon ts c in
    let s2 : Spells b expr (word_token w p ∷ sign_token sign.Colon t.0 ∷ drop 1 ts) e (sign_token sign.Semicolon q ∷ rest) = subst (λ (us : List Token). Spells b expr (word_token w p ∷ us) e (sign_token sign.Semicolon q ∷ rest)) t.1 s in
    let one = read_complete b (max (height e) 1) 1 _ _ _ (omega arith) (omega arith) s2 (omega arith) (omega arith) in
    let two = read_complete b (max (height e) 1) 1 _ _ _ (omega arith) (omega arith) (lone_name b w p t.0 (drop 1 ts) n) (omega arith) (omega arith) in
    colon_semicolon t.0 q (drop 1 ts) rest (ap (λ (x : Exp × List Token). x.1) (once two one))

no_label_kind : (b : ℕ) (k : TokenKind) (p : Spot) (ts : List Token) (e : Exp) (q : Spot) (rest : List Token) → Spells b expr (token k p ∷ ts) e (sign_token sign.Semicolon q ∷ rest) →
    (is_some (name_at (token k p ∷ ts)) && is_sign sign.Colon ts) ≡ false
no_label_kind b (kind.Word w) p ts e q rest s = false_from_ne_true _ (λ f.
    let h = both_true (is_some (name_of (Some w))) (is_sign sign.Colon ts) f in not_label_word b w p ts e q rest s (some_name w h.0) h.1)
  where
    some_by : (x : Bool) (w : List ℕ) → is_some (cond x (Some w) None) ≡ true → x ≡ true
    some_by true w f = refl
    some_by false w f = f

    some_name : (w : List ℕ) → is_some (name_of (Some w)) ≡ true → is_name w ≡ true
    some_name w f = some_by (is_name w) w f
no_label_kind b (kind.Number v d u l) p ts e q rest s = refl
no_label_kind b (kind.Char v) p ts e q rest s = refl
no_label_kind b kind.Str p ts e q rest s = refl
no_label_kind b (kind.Punct x) p ts e q rest s = refl

no_label : (b : ℕ) (ts : List Token) (e : Exp) (q : Spot) (rest : List Token) → Spells b expr ts e (sign_token sign.Semicolon q ∷ rest) → (is_some (name_at ts) && is_sign sign.Colon (drop 1 ts)) ≡ false
no_label b [] e q rest s = refl
no_label b (t ∷ ts) e q rest s = no_label_kind b t.kind t.spot ts e q rest s

-- a declaration begins with a word of its specifiers
specifiers_begin : (b : ℕ) (ts : List Token) (words : List TypeWord) (rest : List Token) → Specifiers (PassedWithin b) false ts words rest → (words ≡ [] → ⊥) → begins_declaration ts ≡ true
specifiers_begin b ts words rest NoMoreSpecifiers some = absurd (some refl)
specifiers_begin b ts words rest (ATypeWord {w = w} {t = t} e s) some = ap is_part (type_is_part false w t e)
specifiers_begin b ts words rest (ASpecifier {w = w} e s) some = ap is_part (specifier_is_part false w e)
specifiers_begin b ts words rest (AnAttributeBefore {w = w} e i s) some = ap is_part (attribute_is_part false w e)

pub declares_begin : (b : ℕ) (ts : List Token) (ds : List Declared) (rest : List Token) → Declares b false ts ds rest → begins_declaration ts ≡ true
declares_begin b ts ds rest (ADeclaration {mid = mid} {ty = ty} t s) = specifiers_begin b ts t.words mid t.specifiers (λ e. none (sym (ap type_of e) ∙ t.spelled))
  where
    none : None ≡ Some (Some ty) → ⊥
    none f = cc

-- rows, with at most b brackets
module _ (b h : ℕ) where
  one_row_front : (ts : List Token) (row : Exps) (rest : List Token) → Row (Within b) ts row rest → (is_sign sign.BraceClose ts ≡ false) × (length rest < length ts)
  one_row_front = row_front (Within b) (within b h) h (λ k us e last s. (within_front b k us e last s).some) (λ k us e last s. no_sign sign.BraceClose us (within_begins b k us e last s) refl) (within_complete b h)

  one_row_read : (ts : List Token) (row : Exps) (rest : List Token) → Row (Within b) ts row rest → heights row ≤ h → read_row (within b h) ts ≡ Some (row, rest)
  one_row_read = row_read (Within b) (within b h) h (λ k us e last s. (within_front b k us e last s).some) (λ k us e last s. no_sign sign.BraceClose us (within_begins b k us e last s) refl) (within_complete b h)

  list_begins : (ts : List Token) (all : List Exps) (rest : List Token) → UpToBrace Exps (Row (Within b)) ts all rest → is_sign sign.BraceOpen ts ≡ true
  list_begins = row_begins (Within b) (within b h) h (λ k us e last s. (within_front b k us e last s).some) (λ k us e last s. no_sign sign.BraceClose us (within_begins b k us e last s) refl) (within_complete b h)

  list_shorter : (ts : List Token) (all : List Exps) (rest : List Token) → UpToBrace Exps (Row (Within b)) ts all rest → length rest < length ts
  list_shorter = brace_shorter Exps (Row (Within b)) (read_row (within b h)) heights height_of_rows h (λ x xs. refl) one_row_front (λ us row last s low g. one_row_read us row last s low)

  list_read : (ts : List Token) (all : List Exps) (rest : List Token) → UpToBrace Exps (Row (Within b)) ts all rest → height_of_rows all ≤ h → read_rows (within b h) (length ts) ts ≡ Some (all, rest)
  list_read ts all rest d hi =
      brace_read Exps (Row (Within b)) (read_row (within b h)) heights height_of_rows h (λ x xs. refl) one_row_front (λ us row last s low g. one_row_read us row last s low) (length ts) ts all rest (omega arith) d hi

rows_front : (b : ℕ) (ts : List Token) (all : List Exps) (rest : List Token) → RowsWithin b ts all rest → (is_sign sign.BraceOpen ts ≡ true) × (length rest < length ts)
unfolding RowsWithin
rows_front zero ts all rest d = absurd d
rows_front (suc b) ts all rest d = (list_begins b 0 ts all rest d, list_shorter b 0 ts all rest d)

rows_read : (b h : ℕ) (ts : List Token) (all : List Exps) (rest : List Token) → RowsWithin b ts all rest → height_of_rows all ≤ h → rows_within b h ts ≡ Some (all, rest)
unfolding RowsWithin rows_within
rows_read zero h ts all rest d hi = absurd d
rows_read (suc b) h ts all rest d hi = list_read b h ts all rest d hi

pub declares_read : (b h : ℕ) (outside : Bool) (ts : List Token) (ds : List Declared) (rest : List Token) → Declares b outside ts ds rest → height_of_declared ds ≤ h → declares b h outside ts ≡ Some (ds, rest)
declares_read b h outside ts ds rest d hi =
    declaration_read b (Spells b) (Within b) (RowsWithin b) (read b h) (within b h) (rows_within b h) h (λ k us e last s. (within_front b k us e last s).some) (λ k us e last s. no_sign sign.BraceClose us (within_begins b k us e last s) refl)
    (λ k us e last s. no_sign sign.BraceOpen us (within_begins b k us e last s) refl) (λ k us e last s. (no_sign sign.BraceOpen us (spells_begins b k us e last s) refl, (spells_front b k us e last s).some)) (rows_front b)
    (λ k us e last lo up s low g. read_complete b h k us e last lo up s low g) (λ k us e last lo up s low g. within_complete b h k us e last lo up s low g) (rows_read b h) outside ts ds rest d hi

pub declares_shorter : (b : ℕ) (outside : Bool) (ts : List Token) (ds : List Declared) (rest : List Token) → Declares b outside ts ds rest → length rest < length ts
declares_shorter b outside ts ds rest d =
    declaration_shorter b (Spells b) (Within b) (RowsWithin b) (read b 0) (within b 0) (rows_within b 0) 0 (λ k us e last s. (within_front b k us e last s).some) (λ k us e last s. no_sign sign.BraceClose us (within_begins b k us e last s) refl)
    (λ k us e last s. no_sign sign.BraceOpen us (within_begins b k us e last s) refl) (λ k us e last s. (no_sign sign.BraceOpen us (spells_begins b k us e last s) refl, (spells_front b k us e last s).some)) (rows_front b)
    (λ k us e last lo up s low g. read_complete b 0 k us e last lo up s low g) (λ k us e last lo up s low g. within_complete b 0 k us e last lo up s low g) (rows_read b 0) outside ts ds rest d

header_read : (b h : ℕ) (ts : List Token) (f : First) (test step : Option Exp) (rest : List Token) → HeaderWithin b ts (f, test, step) rest → height_of_first f ≤ h → height_if test ≤ h → height_if step ≤ h → header_within b h ts ≡ Some ((f, test, step), rest)
unfolding HeaderWithin header_within
header_read zero h ts f test step rest d hf ht hs = absurd d
header_read (suc b) h ts f test step rest d hf ht hs =
    parts_read (Spells b expr) (Declares b false) (read b h expr) (declares b h false) h (spells_begins b expr) (λ us e last s low g. read_complete b h 1 us e last (omega arith) (omega arith) s low g)
    (declares_begin b) (declares_read b h false) ts f test step rest d hf ht hs

module _ (Whole Paren : List Token → Exp → List Token → Type 0) (Declares' : List Token → List Declared → List Token → Type 0)
    (Header : List Token → Parts → List Token → Type 0) (Braced : List Token → List Stm → List Token → Type 0) (Armed : List Token → List Arm → List Token → Type 0)
    (whole_begins : (ts : List Token) (e : Exp) (rest : List Token) → Whole ts e rest → may_begin ts ≡ true)
    (whole_shorter : (ts : List Token) (e : Exp) (rest : List Token) → Whole ts e rest → length rest < length ts)
    (paren_shorter : (ts : List Token) (e : Exp) (rest : List Token) → Paren ts e rest → length rest < length ts)
    (header_shorter : (ts : List Token) (f : Parts) (rest : List Token) → Header ts f rest → length rest ≤ length ts)
    (braced_shorter : (ts : List Token) (ss : List Stm) (rest : List Token) → Braced ts ss rest → length rest ≤ length ts)
    (armed_shorter : (ts : List Token) (all : List Arm) (rest : List Token) → Armed ts all rest → length rest ≤ length ts)
    (declares_shorter' : (ts : List Token) (ds : List Declared) (rest : List Token) → Declares' ts ds rest → length rest < length ts) where
  -- a statement begins with no brace that closes, no label of an arm and no declaration
  pub record Begun (ts rest : List Token) : Type 0 where
    pub no_close : is_sign sign.BraceClose ts ≡ false
    pub no_arm : begins_arm ts ≡ false
    pub no_declaration : begins_declaration ts ≡ false
    pub shorter : length rest < length ts

  begun : (ts rest : List Token) → is_sign sign.BraceClose ts ≡ false → begins_arm ts ≡ false → begins_declaration ts ≡ false → length rest < length ts → Begun ts rest
  begun ts rest a c b d = record { no_close = a; no_arm = c; no_declaration = b; shorter = d }

  no_arm_begins : (ts : List Token) → may_begin ts ≡ true → begins_arm ts ≡ false
  no_arm_begins ts b = rw (no_word (codes "case") ts refl b, no_word (codes "default") ts refl b) refl

  no_arm_named : (w : List ℕ) (p : Spot) (ts : List Token) → is_name w ≡ true → begins_arm (word_token w p ∷ ts) ≡ false
  no_arm_named w p ts n = rw (not_spelled (codes "case") w refl n, not_spelled (codes "default") w refl n) refl

  pub statement_begun : (ts : List Token) (s : Stm) (rest : List Token) → Statement Whole Paren Declares' Header Braced Armed ts s rest → Begun ts rest
  statement_begun ts s rest AnEmpty = begun _ _ refl refl refl (omega arith)
  statement_begun ts s rest (AnExpressionStatement a) =
      let b = whole_begins _ _ _ a in let x = whole_shorter _ _ _ a in begun _ _ (no_sign sign.BraceClose ts b refl) (no_arm_begins ts b) (no_declaration ts b) (omega arith)
  statement_begun ts s rest (ABlock a) = let x = braced_shorter _ _ _ a in begun _ _ refl refl refl (omega arith)
  statement_begun ts s rest ABreak = begun _ _ refl refl refl (omega arith)
  statement_begun ts s rest AContinue = begun _ _ refl refl refl (omega arith)
  statement_begun ts s rest AReturn = begun _ _ refl refl refl (omega arith)
  statement_begun ts s rest (AReturnOf a) = let x = whole_shorter _ _ _ a in begun _ _ refl refl refl (omega arith)
  statement_begun ts s rest (ALabel {ts = us} {w = w} {p = p} {q = q} n a) = let x = (statement_begun _ _ _ a).shorter in begun _ _ refl (no_arm_named w p (sign_token sign.Colon q ∷ us) n) (ap is_part (name_is_no_part false w n)) (omega arith)
  statement_begun ts s rest (AnIf a b c) = let x = paren_shorter _ _ _ a in let y = (statement_begun _ _ _ b).shorter in begun _ _ refl refl refl (omega arith)
  statement_begun ts s rest (AnIfElse a b c) = let x = paren_shorter _ _ _ a in let y = (statement_begun _ _ _ b).shorter in let z = (statement_begun _ _ _ c).shorter in begun _ _ refl refl refl (omega arith)
  statement_begun ts s rest (AWhile a b) = let x = paren_shorter _ _ _ a in let y = (statement_begun _ _ _ b).shorter in begun _ _ refl refl refl (omega arith)
  statement_begun ts s rest (ADo a b) = let y = (statement_begun _ _ _ a).shorter in let x = paren_shorter _ _ _ b in begun _ _ refl refl refl (omega arith)
  statement_begun ts s rest (AFor a b) = let x = header_shorter _ _ _ a in let y = (statement_begun _ _ _ b).shorter in begun _ _ refl refl refl (omega arith)
  statement_begun ts s rest (ASwitch a b) = let x = paren_shorter _ _ _ a in let y = armed_shorter _ _ _ b in begun _ _ refl refl refl (omega arith)

  pub elements_shorter : (ts : List Token) (ss : List Stm) (rest : List Token) → Elements Whole Paren Declares' Header Braced Armed ts ss rest → length rest ≤ length ts
  elements_shorter ts ss rest NoMoreElements = omega arith
  elements_shorter ts ss rest (MoreElements (ADeclarationStatement d) a) = let x = declares_shorter' _ _ _ d in let y = elements_shorter _ _ _ a in omega arith
  elements_shorter ts ss rest (MoreElements (AStatement d) a) = let x = (statement_begun _ _ _ d).shorter in let y = elements_shorter _ _ _ a in omega arith

-- With at most b brackets again.

-- a declaration begins with no brace
no_brace : (ts : List Token) → begins_declaration ts ≡ true → is_sign sign.BraceClose ts ≡ false
no_brace ts b = false_from_ne_true _ (λ e. let t = taken sign.BraceClose ts e in true≢false (sym b ∙ ap begins_declaration t.1))

optional_shorter : (b : ℕ) (ts : List Token) (e : Option Exp) (rest : List Token) → Optional (Spells b expr) (Declares b false) ts e rest → length rest ≤ length ts
optional_shorter b ts e rest NoExpression = omega arith
optional_shorter b ts e rest (AnExpression a) = let x = (spells_front b expr _ _ _ a).some in omega arith

first_shorter : (b : ℕ) (ts : List Token) (f : First) (rest : List Token) → FirstPart (Spells b expr) (Declares b false) ts f rest → length rest ≤ length ts
first_shorter b ts f rest (DeclaredFirst d) = let x = declares_shorter b false _ _ _ d in omega arith
first_shorter b ts f rest (ExpressionFirst a) = let x = (spells_front b expr _ _ _ a).some in omega arith
first_shorter b ts f rest NothingFirst = omega arith

header_shorter_at : (b : ℕ) (ts : List Token) (f : Parts) (rest : List Token) → HeaderWithin b ts f rest → length rest ≤ length ts
unfolding HeaderWithin
header_shorter_at zero ts f rest d = absurd d
header_shorter_at (suc b) ts f rest (AllParts x y z) = let u = first_shorter b _ _ _ x in let v = optional_shorter b _ _ _ y in let w = optional_shorter b _ _ _ z in omega arith

label_shorter : (b : ℕ) (One : List Token → Stm → List Token → Type 0) (ts : List Token) (l : ArmLabel) (rest : List Token) → Labelled (Spells b conditional) One ts l rest → length rest < length ts
label_shorter b One ts l rest (ACase a) = let x = (spells_front b conditional _ _ _ a).some in omega arith
label_shorter b One ts l rest ADefault = omega arith

module _ (b : ℕ) (One : List Token → Stm → List Token → Type 0) (one_shorter : (ts : List Token) (s : Stm) (rest : List Token) → One ts s rest → length rest < length ts) where
  body_shorter : (ts : List Token) (ss : List Stm) (rest : List Token) → Body (Spells b conditional) One ts ss rest → length rest ≤ length ts
  body_shorter ts ss rest NoMoreStatements = omega arith
  body_shorter ts ss rest (MoreStatements d a) = let x = one_shorter _ _ _ d in let y = body_shorter _ _ _ a in omega arith

  arms_shorter : (ts : List Token) (all : List Arm) (rest : List Token) → Arms (Spells b conditional) One ts all rest → length rest ≤ length ts
  arms_shorter ts all rest NoMoreArms = omega arith
  arms_shorter ts all rest (MoreArms l d a) = let x = label_shorter b One _ _ _ l in let y = body_shorter _ _ _ d in let z = arms_shorter _ _ _ a in omega arith

abbrev StatementAt : ℕ → List Token → Stm → List Token → Type 0
StatementAt b = Statement (Spells b expr) (Within b expr) (Declares b false) (HeaderWithin b) (BracedWithin b) (ArmedWithin b)

-- a statement with at most b brackets
abbrev BegunAt : ℕ → List Token → List Token → Type 0
BegunAt b ts rest = (is_sign sign.BraceClose ts ≡ false) × (begins_arm ts ≡ false) × (begins_declaration ts ≡ false) × (length rest < length ts)

module _ (b : ℕ) (braced_shorter : (ts : List Token) (ss : List Stm) (rest : List Token) → BracedWithin b ts ss rest → length rest ≤ length ts)
    (armed_shorter : (ts : List Token) (all : List Arm) (rest : List Token) → ArmedWithin b ts all rest → length rest ≤ length ts) where
  begun_by : (ts : List Token) (s : Stm) (rest : List Token) → StatementAt b ts s rest → BegunAt b ts rest
  begun_by ts s rest d =
      let x = statement_begun (Spells b expr) (Within b expr) (Declares b false) (HeaderWithin b) (BracedWithin b) (ArmedWithin b) (spells_begins b expr) (λ us e last s. (spells_front b expr us e last s).some) (λ us e last s. (within_front b expr us e last s).some)
      (header_shorter_at b) braced_shorter armed_shorter (declares_shorter b false) ts s rest d in
      (x.no_close, x.no_arm, x.no_declaration, x.shorter)

mutual
  unfolding BracedWithin ArmedWithin

  pub braced_shorter_at : (b : ℕ) (ts : List Token) (ss : List Stm) (rest : List Token) → BracedWithin b ts ss rest → length rest ≤ length ts
  braced_shorter_at zero ts ss rest d = absurd d
  braced_shorter_at (suc b) ts ss rest d =
      elements_shorter (Spells b expr) (Within b expr) (Declares b false) (HeaderWithin b) (BracedWithin b) (ArmedWithin b) (spells_begins b expr) (λ us e last s. (spells_front b expr us e last s).some) (λ us e last s. (within_front b expr us e last s).some)
      (header_shorter_at b) (braced_shorter_at b) (armed_shorter_at b) (declares_shorter b false) ts ss rest d

  armed_shorter_at : (b : ℕ) (ts : List Token) (all : List Arm) (rest : List Token) → ArmedWithin b ts all rest → length rest ≤ length ts
  armed_shorter_at zero ts all rest d = absurd d
  armed_shorter_at (suc b) ts all rest d = arms_shorter b (StatementAt b) (λ us s last a. (begun_by b (braced_shorter_at b) (armed_shorter_at b) us s last a).3) ts all rest d

begun_at : (b : ℕ) (ts : List Token) (s : Stm) (rest : List Token) → StatementAt b ts s rest → BegunAt b ts rest
begun_at b ts s rest d = begun_by b (braced_shorter_at b) (armed_shorter_at b) ts s rest d

-- where a label of an arm or the end of the `switch` stands
arms_end : (b : ℕ) (One : List Token → Stm → List Token → Type 0) (ts : List Token) (all : List Arm) (rest : List Token) → Arms (Spells b conditional) One ts all rest → ends_arm ts ≡ true
arms_end b One ts all rest NoMoreArms = refl
arms_end b One ts all rest (MoreArms (ACase a) d more) = refl
arms_end b One ts all rest (MoreArms ADefault d more) = refl

label_open : (b : ℕ) (One : List Token → Stm → List Token → Type 0) (ts : List Token) (l : ArmLabel) (rest : List Token) → Labelled (Spells b conditional) One ts l rest → is_sign sign.BraceClose ts ≡ false
label_open b One ts l rest (ACase a) = refl
label_open b One ts l rest ADefault = refl

end_some : (ts : List Token) → ends_arm ts ≡ true → 1 ≤ length ts
end_some [] e = absurd (cc)
end_some (t ∷ ts) e = omega arith

module _ (b : ℕ) (braced_read : (h : ℕ) (ts : List Token) (ss : List Stm) (rest : List Token) → BracedWithin b ts ss rest → height_of_block (stms ss) ≤ h → braced_within b h ts ≡ Some (ss, rest))
    (armed_read : (h : ℕ) (ts : List Token) (all : List Arm) (rest : List Token) → ArmedWithin b ts all rest → height_of_block (arms all) ≤ h → armed_within b h ts ≡ Some (all, rest)) where
  element_front : {ts : List Token} {s : Stm} {rest : List Token} → Element (Spells b expr) (Within b expr) (Declares b false) (HeaderWithin b) (BracedWithin b) (ArmedWithin b) ts s rest → (is_sign sign.BraceClose ts ≡ false) × (length rest < length ts)
  element_front {ts = ts} {rest = rest} (ADeclarationStatement {ds = ds} d) = (no_brace ts (declares_begin b ts ds rest d), declares_shorter b false ts ds rest d)
  element_front {ts = ts} {s = s} {rest = rest} (AStatement d) = let x = begun_at b ts s rest d in (x.0, x.3)

  level_read : (h : ℕ) (declared : Bool) (ts : List Token) (s : Stm) (rest : List Token) → StatementAt b ts s rest → height_of s ≤ h → statement_level b (braced_within b) (armed_within b) h declared ts ≡ Some (s, rest)
  unfolding statement_level
  level_read zero declared ts (Stmt p f) rest d hi = absurd (omega arith)
  level_read (suc h) declared ts s rest d hi =
      let none : (declared && begins_declaration ts) ≡ false = and_right declared _ (begun_at b ts s rest d).2 in
      rw (statement_level, none) (statement_read (Spells b expr) (Within b expr) (Declares b false) (HeaderWithin b) (BracedWithin b) (ArmedWithin b) (read b h expr) (within b h expr) (header_within b h) (braced_within b h) (armed_within b h) (statement_level b (braced_within b) (armed_within b) h false) h
      (spells_begins b expr) (no_label b) (λ us e last a low g. read_complete b h 1 us e last (omega arith) (omega arith) a low g) (λ us e last a low g. within_complete b h 1 us e last (omega arith) (omega arith) a low g)
      (header_read b h) (braced_read h) (armed_read h) (level_read h false) ts s rest d hi)

  element_read : (h : ℕ) (ts : List Token) (s : Stm) (rest : List Token) → Element (Spells b expr) (Within b expr) (Declares b false) (HeaderWithin b) (BracedWithin b) (ArmedWithin b) ts s rest → height_of s ≤ h →
      statement_level b (braced_within b) (armed_within b) h true ts ≡ Some (s, rest)
  unfolding statement_level
  element_read zero ts s rest (ADeclarationStatement d) hi = absurd (omega arith)
  element_read (suc h) ts s rest (ADeclarationStatement {ds = ds} d) hi = rw (statement_level, declares_begin b ts ds rest d, declares_read b h false ts ds rest d (omega arith)) refl
  element_read h ts s rest (AStatement d) hi = level_read h true ts s rest d hi

  elements_read : (h n : ℕ) (ts : List Token) (ss : List Stm) (rest : List Token) → length ts ≤ n → Elements (Spells b expr) (Within b expr) (Declares b false) (HeaderWithin b) (BracedWithin b) (ArmedWithin b) ts ss rest →
      height_of_block (stms ss) ≤ h → elements (statement_level b (braced_within b) (armed_within b) h true) n ts ≡ Some (ss, rest)
  elements_read h zero ts ss rest le NoMoreElements hi = absurd (omega arith)
  elements_read h zero ts ss rest le (MoreElements e a) hi = let x = (element_front e).1 in absurd (omega arith)
  elements_read h (suc n) ts ss rest le NoMoreElements hi = refl
  elements_read h (suc n) ts ss rest le (MoreElements e a) hi =
      let f = element_front e in
      let x = f.1 in
      rw (elements, until, f.0, element_read h _ _ _ e (omega arith), elements_read h n _ _ _ (omega arith) a (omega arith)) refl

  abbrev One : ℕ → List Token → Read Stm
  One h = statement_level b (braced_within b) (armed_within b) h false

  label_read : (h : ℕ) (ts : List Token) (l : ArmLabel) (rest : List Token) → Labelled (Spells b conditional) (StatementAt b) ts l rest → height_of_label l ≤ h → read_label (read b h conditional) (One h) ts ≡ Some (l, rest)
  label_read h ts l rest (ACase {ts = us} {e = e} {q = q} a) hi = rw (read_complete b h 3 us e (sign_token sign.Colon q ∷ rest) (omega arith) (omega arith) a hi (omega arith)) refl
  label_read h ts l rest ADefault hi = refl

  no_end : (ts : List Token) (s : Stm) (rest : List Token) → StatementAt b ts s rest → ends_arm ts ≡ false
  no_end ts s rest d = let x = begun_at b ts s rest d in rw (x.1) (x.0)

  body_read : (h n : ℕ) (ts : List Token) (ss : List Stm) (rest : List Token) → length ts ≤ n → Body (Spells b conditional) (StatementAt b) ts ss rest → height_of_block (stms ss) ≤ h → ends_arm rest ≡ true →
      until ends_arm (One h) n ts ≡ Some (ss, rest)
  body_read h zero ts ss rest le NoMoreStatements hi f = let x = end_some ts f in absurd (omega arith)
  body_read h zero ts ss rest le (MoreStatements {ts = us} {mid = mid} {s = s} d a) hi f = let x = (begun_at b us s mid d).3 in absurd (omega arith)
  body_read h (suc n) ts ss rest le NoMoreStatements hi f = rw (until, f) refl
  body_read h (suc n) ts ss rest le (MoreStatements {ts = us} {mid = mid} {s = s} d a) hi f =
      let x = (begun_at b us s mid d).3 in
      rw (until, no_end us s mid d, level_read h false us s mid d (omega arith), body_read h n mid _ rest (omega arith) a (omega arith) f) refl

  arms_read : (h n : ℕ) (ts : List Token) (all : List Arm) (rest : List Token) → length ts ≤ n → Arms (Spells b conditional) (StatementAt b) ts all rest → height_of_block (arms all) ≤ h →
      elements (read_arm (read b h conditional) (One h)) n ts ≡ Some (all, rest)
  arms_read h zero ts all rest le NoMoreArms hi = absurd (omega arith)
  arms_read h zero ts all rest le (MoreArms {ts = us} {mid = mid} {l = l} x d a) hi = let y = label_shorter b (StatementAt b) us l mid x in absurd (omega arith)
  arms_read h (suc n) ts all rest le NoMoreArms hi = refl
  arms_read h (suc n) ts all rest le (MoreArms {ts = us} {mid = mid} {last = last} {l = l} {ss = ss} {more = more} x d a) hi =
      let y = label_shorter b (StatementAt b) us l mid x in
      let z = body_shorter b (StatementAt b) (λ vs s end e. (begun_at b vs s end e).3) mid ss last d in
      let high = joined_height (stms ss) (arms more) in
      rw (
        elements,
        until,
        label_open b (StatementAt b) us l mid x,
        label_read h us l mid x (omega (arith, high, hi)),
        body_read h (length mid) mid ss last (omega arith) d (omega (arith, high, hi)) (arms_end b (StatementAt b) last more rest a),
        arms_read h n last more rest (omega arith) a (omega (arith, high, hi)),
      ) refl

mutual
  unfolding BracedWithin ArmedWithin braced_within armed_within

  pub braced_read : (b h : ℕ) (ts : List Token) (ss : List Stm) (rest : List Token) → BracedWithin b ts ss rest → height_of_block (stms ss) ≤ h → braced_within b h ts ≡ Some (ss, rest)
  braced_read zero h ts ss rest d hi = absurd d
  braced_read (suc b) h ts ss rest d hi = elements_read b (braced_read b) (armed_read b) h (length ts) ts ss rest (omega arith) d hi

  armed_read : (b h : ℕ) (ts : List Token) (all : List Arm) (rest : List Token) → ArmedWithin b ts all rest → height_of_block (arms all) ≤ h → armed_within b h ts ≡ Some (all, rest)
  armed_read zero h ts all rest d hi = absurd d
  armed_read (suc b) h ts all rest d hi = arms_read b (braced_read b) (armed_read b) h (length ts) ts all rest (omega arith) d hi
