-- What is read within limits of brackets and height is spelled: declarations, statements and blocks.
use Rattle.std.proofs.Common.{◌≡◌, ℕ, zero, suc, ◌≤◌, max, List, [], ◌∷◌, length, drop, Bool, true, false, refl, sym, subst, Some, arith}
use Rattle.std.specs.Prelude.{codes}
use Rattle.c_core.specs.declared.number.Spot.{Spot}
use Rattle.c_tokens.specs.declared.token.Token.{Token}
use Rattle.c_tokens.specs.declared.token.Punct.TheVariants as sign
use Rattle.c_parser.specs.Tree.{Exp, Exps, Declared, Stm, ArmLabel, Case, Default, Stms, NoStm, MoreStm, MoreCase, Arm, stms, joined, arms}
use Rattle.c_parser.specs.Heights.{height, heights, height_of_rows, height_if, height_of, height_of_declared, height_of_first, height_of_label, height_of_block}
use Rattle.c_parser.specs.Signs.{sign_token, word_token, place, is_sign, is_word, conditional, expr}
use Rattle.c_parser.specs.Expressions.{Within, Spells}
use Rattle.c_parser.specs.ReadExpressions.{Read, read, within}
use Rattle.c_parser.specs.Declarations.{begins_declaration, Row, read_row}
use Rattle.c_parser.specs.Statements.{Parts, Statement, Element, ADeclarationStatement, AStatement, Elements, NoMoreElements, MoreElements, Labelled, ACase, ADefault, Body, NoMoreStatements, MoreStatements, Arms, NoMoreArms, MoreArms, RowsWithin, Declares, HeaderWithin, BracedWithin, ArmedWithin}
use Rattle.c_parser.specs.ReadStatements.{until, elements, ends_arm, read_label, read_arm_body, read_arm, rows_within, declares, header_within, statement_level, braced_within, armed_within}
use Rattle.c_parser.proofs.SignLaws.{some_same, taken}
use Rattle.c_parser.proofs.ReadLaws.{bind_some, parted, none_some, closed, word_taken}
use Rattle.c_parser.proofs.SoundExpressions.{read_sound, within_sound}
use Rattle.c_parser.proofs.SoundDeclarations.{brace_sound, row_sound, declaration_sound}
use Rattle.c_parser.proofs.SoundStatements.{parts_sound, statement_sound}

spelled : (b h k : ℕ) (ts : List Token) (r : Exp × List Token) → 1 ≤ k → k ≤ 15 → read b h k ts ≡ Some r → Spells b k ts r.0 r.1 × (height r.0 ≤ h)
spelled b h k ts r lo up e = let x = read_sound b h k ts r lo up e in (x.0, x.1)

rows_sound : (b h : ℕ) (ts : List Token) (r : List Exps × List Token) → rows_within b h ts ≡ Some r → (q : Spot) (rest : List Token) → r.1 ≡ sign_token sign.BraceClose q ∷ rest →
    RowsWithin b ts r.0 (sign_token sign.BraceClose q ∷ rest) × (height_of_rows r.0 ≤ h)
unfolding RowsWithin rows_within
rows_sound zero h ts r e q rest f = none_some r e
rows_sound (suc b) h ts r e q rest f =
    brace_sound Exps (Row (Within b)) (read_row (within b h)) heights height_of_rows h refl (λ x xs. refl) (row_sound (Within b) (within b h) h (within_sound b h)) (length ts) ts r e q rest f

pub declares_sound : (b h : ℕ) (outside : Bool) (ts : List Token) (r : List Declared × List Token) → declares b h outside ts ≡ Some r → Declares b outside ts r.0 r.1 × (height_of_declared r.0 ≤ h)
declares_sound b h outside ts r e = declaration_sound b (Spells b) (Within b) (RowsWithin b) (read b h) (within b h) (rows_within b h) h (spelled b h) (within_sound b h) (rows_sound b h) outside ts r e

header_sound : (b h : ℕ) (ts : List Token) (r : Parts × List Token) → header_within b h ts ≡ Some r → (q : Spot) (rest : List Token) → r.1 ≡ sign_token sign.ParenClose q ∷ rest →
    HeaderWithin b ts r.0 (sign_token sign.ParenClose q ∷ rest) × (height_of_first r.0.0 ≤ h) × (height_if r.0.1 ≤ h) × (height_if r.0.2 ≤ h)
unfolding HeaderWithin header_within
header_sound zero h ts r e q rest f = none_some r e
header_sound (suc b) h ts r e q rest f =
    parts_sound (Spells b expr) (Declares b false) (read b h expr) (declares b h false) h (λ us x g. spelled b h expr us x (omega arith) (omega arith) g) (declares_sound b h false) ts r e q rest f

abbrev StatementAt : ℕ → List Token → Stm → List Token → Type 0
StatementAt b = Statement (Spells b expr) (Within b expr) (Declares b false) (HeaderWithin b) (BracedWithin b) (ArmedWithin b)

abbrev ElementAt : ℕ → List Token → Stm → List Token → Type 0
ElementAt b = Element (Spells b expr) (Within b expr) (Declares b false) (HeaderWithin b) (BracedWithin b) (ArmedWithin b)

abbrev ElementsAt : ℕ → List Token → List Stm → List Token → Type 0
ElementsAt b = Elements (Spells b expr) (Within b expr) (Declares b false) (HeaderWithin b) (BracedWithin b) (ArmedWithin b)

-- the label of an arm, its statements
abbrev LabelledAt : ℕ → List Token → ArmLabel → List Token → Type 0
LabelledAt b = Labelled (Spells b conditional) (StatementAt b)

abbrev BodyAt : ℕ → List Token → List Stm → List Token → Type 0
BodyAt b = Body (Spells b conditional) (StatementAt b)

abbrev ArmsAt : ℕ → List Token → List Arm → List Token → Type 0
ArmsAt b = Arms (Spells b conditional) (StatementAt b)

-- statements are as high as the parts that they are joined of
pub joined_height : (b c : Stms) → height_of_block (joined b c) ≡ max (height_of_block b) (height_of_block c)
joined_height NoStm c = omega arith
joined_height (MoreStm s b) c = let e = joined_height b c in omega (arith, e)
joined_height (MoreCase p l b) c = let e = joined_height b c in omega (arith, e)

module _ (b : ℕ) (braced_sound : (h : ℕ) (ts : List Token) (r : List Stm × List Token) → braced_within b h ts ≡ Some r → BracedWithin b ts r.0 r.1 × (height_of_block (stms r.0) ≤ h))
    (armed_sound : (h : ℕ) (ts : List Token) (r : List Arm × List Token) → armed_within b h ts ≡ Some r → ArmedWithin b ts r.0 r.1 × (height_of_block (arms r.0) ≤ h)) where
  statement_at : (h : ℕ) (ts : List Token) (r : Stm × List Token) → statement_level b (braced_within b) (armed_within b) h false ts ≡ Some r → StatementAt b ts r.0 r.1 × (height_of r.0 ≤ h)
  unfolding statement_level
  statement_at zero ts r e = none_some r e
  statement_at (suc h) ts r e =
      statement_sound (Spells b expr) (Within b expr) (Declares b false) (HeaderWithin b) (BracedWithin b) (ArmedWithin b) (read b h expr) (within b h expr) (header_within b h) (braced_within b h) (armed_within b h) (statement_level b (braced_within b) (armed_within b) h false) h
      (λ us x g. spelled b h expr us x (omega arith) (omega arith) g) (λ us x g. within_sound b h expr us x (omega arith) (omega arith) g) (header_sound b h) (braced_sound h) (armed_sound h) (statement_at h) ts r e

  element_at : (h : ℕ) (ts : List Token) (r : Stm × List Token) → statement_level b (braced_within b) (armed_within b) h true ts ≡ Some r → ElementAt b ts r.0 r.1 × (height_of r.0 ≤ h)
  unfolding statement_level
  element_at zero ts r e = none_some r e
  element_at (suc h) ts r e =
      parted (begins_declaration ts) _ _ (Some r) e
      (λ f g.
      let a = bind_some (declares b h false ts) _ r g in
      let d = declares_sound b h false ts a.0 a.1 in
      let low : height_of_declared a.0.0 ≤ h = d.1 in
      subst (λ (x : Stm × List Token). ElementAt b ts x.0 x.1 × (height_of x.0 ≤ suc h)) (some_same a.2) (ADeclarationStatement d.0, omega (arith, low)))
      (λ f g. let s = statement_at (suc h) ts r g in (AStatement s.0, s.1))

  elements_sound : (h n : ℕ) (ts : List Token) (r : List Stm × List Token) → elements (statement_level b (braced_within b) (armed_within b) h true) n ts ≡ Some r → ElementsAt b ts r.0 r.1 × (height_of_block (stms r.0) ≤ h)
  elements_sound h zero ts r e = none_some r e
  elements_sound h (suc n) ts r e =
      parted (is_sign sign.BraceClose ts) _ _ (Some r) e
      (λ f g.
      let t = taken sign.BraceClose ts f in
      subst (λ (x : List Stm × List Token). ElementsAt b ts x.0 x.1 × (height_of_block (stms x.0) ≤ h)) (some_same g)
      (subst (λ (x : List Token). ElementsAt b x [] x) (sym t.1) NoMoreElements, omega arith))
      (λ f g.
      let s = bind_some (statement_level b (braced_within b) (armed_within b) h true ts) _ r g in
      let d = element_at h ts s.0 s.1 in
      let first : height_of s.0.0 ≤ h = d.1 in
      let m = bind_some (elements (statement_level b (braced_within b) (armed_within b) h true) n s.0.1) _ r s.2 in
      let others = elements_sound h n s.0.1 m.0 m.1 in
      let low : height_of_block (stms m.0.0) ≤ h = others.1 in
      subst (λ (x : List Stm × List Token). ElementsAt b ts x.0 x.1 × (height_of_block (stms x.0) ≤ h)) (some_same m.2) (MoreElements d.0 others.0, omega (arith, first, low)))

  abbrev One : ℕ → List Token → Read Stm
  One h = statement_level b (braced_within b) (armed_within b) h false

  abbrev LowLabel : ℕ → List Token → ArmLabel × List Token → Type 0
  LowLabel h ts r = LabelledAt b ts r.0 r.1 × (height_of_label r.0 ≤ h)

  label_sound : (h : ℕ) (ts : List Token) (r : ArmLabel × List Token) → read_label (read b h conditional) (One h) ts ≡ Some r → LowLabel h ts r
  label_sound h ts r e =
      parted (is_word (codes "case") ts) _ _ (Some r) e
      (λ f g.
      let w = word_taken (codes "case") ts f in
      let a = bind_some (read b h conditional (drop 1 ts)) _ r g in
      let s = spelled b h conditional (drop 1 ts) a.0 (omega arith) (omega arith) a.1 in
      let c = closed sign.Colon (Case a.0.0) a.0.1 r a.2 in
      subst (λ (x : List Token). LowLabel h x r) (sym w.1)
      (subst (λ (x : ArmLabel). LowLabel h (word_token (codes "case") w.0 ∷ drop 1 ts) (x, r.1)) c.2 (ACase (subst (λ (x : List Token). Spells b conditional (drop 1 ts) a.0.0 x) c.1 s.0), s.1)))
      (λ f g.
      parted (is_word (codes "default") ts) _ _ (Some r) g
      (λ x y.
      let w = word_taken (codes "default") ts x in
      let c = closed sign.Colon Default (drop 1 ts) r y in
      subst (λ (z : List Token). LowLabel h z r) (sym w.1)
      (subst (λ (z : List Token). LowLabel h (word_token (codes "default") w.0 ∷ z) r) (sym c.1)
      (subst (λ (z : ArmLabel). LowLabel h (word_token (codes "default") w.0 ∷ sign_token sign.Colon c.0 ∷ r.1) (z, r.1)) c.2 (ADefault, omega arith))))
      (λ x y. none_some r y))

  abbrev LowBody : ℕ → List Token → List Stm × List Token → Type 0
  LowBody h ts r = BodyAt b ts r.0 r.1 × (height_of_block (stms r.0) ≤ h)

  body_sound : (h n : ℕ) (ts : List Token) (r : List Stm × List Token) → until ends_arm (One h) n ts ≡ Some r → LowBody h ts r
  body_sound h zero ts r e = none_some r e
  body_sound h (suc n) ts r e =
      parted (ends_arm ts) _ _ (Some r) e
      (λ f g. subst (LowBody h ts) (some_same g) (NoMoreStatements, omega arith))
      (λ f g.
      let s = bind_some (One h ts) _ r g in
      let d = statement_at h ts s.0 s.1 in
      let first : height_of s.0.0 ≤ h = d.1 in
      let m = bind_some (until ends_arm (One h) n s.0.1) _ r s.2 in
      let others = body_sound h n s.0.1 m.0 m.1 in
      let low : height_of_block (stms m.0.0) ≤ h = others.1 in
      subst (LowBody h ts) (some_same m.2) (MoreStatements d.0 others.0, omega (arith, first, low)))

  -- an arm that was read, where its parts stand
  record OneArm (h : ℕ) (ts : List Token) (a : Arm) (rest : List Token) : Type 0 where
    mid : List Token
    here : a.spot ≡ place ts
    label : LabelledAt b ts a.label mid
    body : BodyAt b mid a.body rest
    low_label : height_of_label a.label ≤ h
    low_body : height_of_block (stms a.body) ≤ h

  arm_sound : (h : ℕ) (ts : List Token) (r : Arm × List Token) → read_arm (read b h conditional) (One h) ts ≡ Some r → OneArm h ts r.0 r.1
  arm_sound h ts r e =
      let l = bind_some (read_label (read b h conditional) (One h) ts) _ r e in
      let m = bind_some (read_arm_body (read b h conditional) (One h) l.0.1) _ r l.2 in
      let x = label_sound h ts l.0 l.1 in
      let y = body_sound h (length l.0.1) l.0.1 m.0 m.1 in
      subst (λ (z : Arm × List Token). OneArm h ts z.0 z.1) (some_same m.2) (record { mid = l.0.1; here = refl; label = x.0; body = y.0; low_label = x.1; low_body = y.1 })

  more_arms : (h : ℕ) (ts : List Token) (a : Arm) (last : List Token) (more : List Arm) (rest : List Token) → OneArm h ts a last → ArmsAt b last more rest → ArmsAt b ts (a ∷ more) rest
  more_arms h ts a last more rest o others = subst (λ (p : Spot). ArmsAt b ts (record { spot = p; label = a.label; body = a.body } ∷ more) rest) (sym o.here) (MoreArms o.label o.body others)

  abbrev LowArms : ℕ → List Token → List Arm × List Token → Type 0
  LowArms h ts r = ArmsAt b ts r.0 r.1 × (height_of_block (arms r.0) ≤ h)

  arms_sound : (h n : ℕ) (ts : List Token) (r : List Arm × List Token) → elements (read_arm (read b h conditional) (One h)) n ts ≡ Some r → LowArms h ts r
  arms_sound h zero ts r e = none_some r e
  arms_sound h (suc n) ts r e =
      parted (is_sign sign.BraceClose ts) _ _ (Some r) e
      (λ f g.
      let t = taken sign.BraceClose ts f in
      subst (LowArms h ts) (some_same g) (subst (λ (x : List Token). ArmsAt b x [] x) (sym t.1) NoMoreArms, omega arith))
      (λ f g.
      let s = bind_some (read_arm (read b h conditional) (One h) ts) _ r g in
      let a = arm_sound h ts s.0 s.1 in
      let first : height_of_label s.0.0.label ≤ h = a.low_label in
      let body : height_of_block (stms s.0.0.body) ≤ h = a.low_body in
      let m = bind_some (elements (read_arm (read b h conditional) (One h)) n s.0.1) _ r s.2 in
      let others = arms_sound h n s.0.1 m.0 m.1 in
      let low : height_of_block (arms m.0.0) ≤ h = others.1 in
      let all = joined_height (stms s.0.0.body) (arms m.0.0) in
      subst (LowArms h ts) (some_same m.2) (more_arms h ts s.0.0 s.0.1 m.0.0 m.0.1 a others.0, omega (arith, first, body, low, all)))

mutual
  unfolding BracedWithin ArmedWithin braced_within armed_within

  pub braced_sound : (b h : ℕ) (ts : List Token) (r : List Stm × List Token) → braced_within b h ts ≡ Some r → BracedWithin b ts r.0 r.1 × (height_of_block (stms r.0) ≤ h)
  braced_sound zero h ts r e = none_some r e
  braced_sound (suc b) h ts r e = elements_sound b (braced_sound b) (armed_sound b) h (length ts) ts r e

  armed_sound : (b h : ℕ) (ts : List Token) (r : List Arm × List Token) → armed_within b h ts ≡ Some r → ArmedWithin b ts r.0 r.1 × (height_of_block (arms r.0) ≤ h)
  armed_sound zero h ts r e = none_some r e
  armed_sound (suc b) h ts r e = arms_sound b (braced_sound b) (armed_sound b) h (length ts) ts r e
