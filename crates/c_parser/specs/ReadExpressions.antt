-- Reading expressions by strength: a function of the tokens, which gives what `Expressions` says.
use Rattle.std.specs.Prelude.{ℕ, zero, suc, max, Bool, true, false, not, ◌&&◌, nat_lt, nat_le, is_some, length, drop, List, [], ◌∷◌, Option, Some, None, if◌then◌else◌, codes}
use Rattle.c_core.specs.declared.number.Spot.{Spot}
use Rattle.c_core.specs.declared.number.BinOp.{BinOp}
use Rattle.c_core.specs.declared.number.UnOp.{UnOp}
use Rattle.c_core.specs.declared.number.StepOp.{StepOp}
use Rattle.c_tokens.specs.Numbers.{is_spelled}
use Rattle.c_tokens.specs.declared.token.Token.{Token}
use Rattle.c_tokens.specs.declared.token.TokenKind.{TokenKind}
use Rattle.c_tokens.specs.declared.token.TokenKind.TheVariants as kind
use Rattle.c_tokens.specs.declared.token.Punct.{Punct}
use Rattle.c_tokens.specs.declared.token.Punct.TheVariants as sign
use Rattle.c_parser.specs.Tree.{Exp, Expr, Node, exps, moved}
use Rattle.c_parser.specs.Tree as node
use Rattle.c_parser.specs.Heights.{height_in}
use Rattle.c_parser.specs.Signs.{◌>>=◌, place, sign_at, word_at, is_sign, same_sign, expr, assignment, conditional, binary, cast, unary, Joint, joined, joins, signs, steps_before, steps_behind, assigns}
use Rattle.c_parser.specs.Words.{is_name, TypeWord, type_word, type_of}
use Rattle.c_parser.specs.Expressions.{has_room}

-- what the front of the tokens is read as, and the tokens after it
abbrev pub Read : Type 0 → Type 0
Read X = Option (X × List Token)

-- this sign stands next, and is passed
abbrev pub closing : {X : Type 0} → Punct → X → List Token → Read X
closing s x ts = if is_sign s ts then Some (x, drop 1 ts) else None

-- an expression whose parts have at most the height h
abbrev pub grown : ℕ → Spot → Node → List Token → Read Exp
grown h p n ts = if nat_lt h (height_in n) then None else Some (Expr p n, ts)

-- a word of a type name: a type word, or `const`
abbrev pub part_of_name : Option (List ℕ) → Option (List TypeWord)
part_of_name None = None
part_of_name (Some w) = if is_spelled (codes "const") w then Some [] else (type_word w >>= λ t. Some (t ∷ []))

abbrev pub begins_type : List Token → Bool
begins_type ts = is_some (part_of_name (word_at ts))

abbrev pub onto_name : Option (List TypeWord) → List Token → List TypeWord × List Token → List TypeWord × List Token
onto_name None ts r = ([], ts)
onto_name (Some []) ts r = r
onto_name (Some (t ∷ words)) ts r = (t ∷ r.0, r.1)

abbrev pub name_words : List Token → List TypeWord × List Token
name_words [] = ([], [])
name_words (t ∷ ts) = onto_name (part_of_name (word_at (t ∷ ts))) (t ∷ ts) (name_words ts)

-- a cast begins here
abbrev pub is_cast : List Token → Bool
is_cast ts = is_sign sign.ParenOpen ts && begins_type (drop 1 ts)

-- what joins the operand before these tokens to the next one, with this strength at least
abbrev pub at_least : ℕ → Option (ℕ × Joint) → Option (ℕ × Joint)
at_least k None = None
at_least k (Some j) = if nat_lt j.0 k then None else Some j

abbrev pub joint_at : ℕ → List Token → Option (ℕ × Joint)
joint_at k ts = at_least k (sign_at ts >>= joins)

-- what stands in square brackets that begin here
abbrev pub bracketed : (List Token → Read Exp) → List Token → Read Exp
bracketed inside ts = inside (drop 1 ts) >>= λ e. closing sign.BracketClose e.0 e.1

-- the same, and what stands in a second pair after it, if there is one
abbrev pub dimensions : (List Token → Read Exp) → List Token → Read (List Exp)
dimensions inside ts = bracketed inside ts >>= λ e.
    elim (is_sign sign.BracketOpen e.1) [ true ↦ (bracketed inside e.1 >>= λ u. Some (e.0 ∷ u.0 ∷ [], u.1)) | false ↦ Some (e.0 ∷ [], e.1) ]

-- `room`: one more pair of brackets may be open; `paren g k` reads in it at the height g and the strength k;
-- `below k` reads a part of the height h at most
module _ (room : Bool) (paren : ℕ → ℕ → List Token → Read Exp) (below : ℕ → List Token → Read Exp) (h : ℕ) where
  abbrev pub listed : ℕ → List Token → Read (List Exp)
  listed zero ts = None
  listed (suc n) ts = paren h assignment ts >>= λ r.
      elim (is_sign sign.Comma r.1) [ true ↦ (listed n (drop 1 r.1) >>= λ q. Some (r.0 ∷ q.0, q.1)) | false ↦ Some (r.0 ∷ [], r.1) ]

  abbrev pub arguments : List Token → Read (List Exp)
  arguments ts = elim (is_sign sign.ParenClose ts) [ true ↦ (if room then Some ([], ts) else None) | false ↦ listed (length ts) ts ]

  abbrev pub called : Spot → List ℕ → List Token → Read Exp
  called p w ts = arguments ts >>= λ r. closing sign.ParenClose (Expr p (node.Call w p (exps r.0) (place r.1))) r.1

  abbrev pub named : Spot → List ℕ → List Token → Read Exp
  named p w ts = elim (is_sign sign.ParenOpen ts) [
    | true ↦ called p w (drop 1 ts)
    | false ↦ elim (is_sign sign.BracketOpen ts) [
      | true ↦ (dimensions (paren h expr) ts >>= λ r. Some (Expr p (node.Index w p (exps r.0)), r.1))
      | false ↦ Some (Expr p (node.Var w p), ts)
    ]
  ]

  abbrev pub stepped_by : (Exp → List Token → Read Exp) → Spot → Exp → List Token → Option StepOp → Read Exp
  stepped_by again p e ts None = Some (e, ts)
  stepped_by again p e ts (Some op) = grown h p (node.Step op e) (drop 1 ts) >>= λ q. again q.0 q.1

  -- at most n steps after a primary expression, and one more
  abbrev pub stepped : ℕ → Spot → Exp → List Token → Read Exp
  stepped zero p e ts = stepped_by (λ x r. None) p e ts (sign_at ts >>= steps_behind)
  stepped (suc n) p e ts = stepped_by (stepped n p) p e ts (sign_at ts >>= steps_behind)

  abbrev pub with_steps : Spot → Read Exp → Read Exp
  with_steps p o = o >>= λ r. stepped h p r.0 r.1

  abbrev pub grouped : Spot → List Token → Read Exp
  grouped p ts = paren (suc h) expr ts >>= λ r. closing sign.ParenClose (moved p r.0) r.1

  abbrev pub converted : Spot → List TypeWord × List Token → Read Exp
  converted p r = closing sign.ParenClose r.0 r.1 >>= λ q. type_of q.0 >>= λ to. below cast q.1 >>= λ e. Some (Expr p (node.Cast to e.0), e.1)

  abbrev pub in_parens : ℕ → Spot → List Token → Read Exp
  in_parens k p ts = elim (begins_type ts) [
    | true ↦ elim (room && nat_le k cast) [ true ↦ converted p (name_words ts) | false ↦ None ]
    | false ↦ with_steps p (grouped p ts)
  ]

  abbrev pub signed : Spot → Option UnOp → List Token → Read Exp
  signed p None ts = None
  signed p (Some op) ts = below cast ts >>= λ r. Some (Expr p (node.Unary op r.0), r.1)

  abbrev pub prefixed : Spot → Option StepOp → Option UnOp → List Token → Read Exp
  prefixed p None op ts = signed p op ts
  prefixed p (Some step) op ts = below unary ts >>= λ r. Some (Expr p (node.Step step r.0), r.1)

  abbrev pub opened : ℕ → Spot → Punct → List Token → Read Exp
  opened k p s ts = elim (same_sign sign.ParenOpen s) [ true ↦ in_parens k p ts | false ↦ prefixed p (steps_before s) (signs s) ts ]

  abbrev pub operand_at : ℕ → Spot → TokenKind → List Token → Read Exp
  operand_at k p (kind.Word w) ts = elim (is_name w) [ true ↦ with_steps p (named p w ts) | false ↦ None ]
  operand_at k p (kind.Number v decimal unsigned longs) ts = with_steps p (Some (Expr p (node.Number v decimal unsigned longs), ts))
  operand_at k p (kind.Char v) ts = with_steps p (Some (Expr p (node.Char v), ts))
  operand_at k p kind.Str ts = None
  operand_at k p (kind.Punct s) ts = opened k p s ts

  -- what stands before the first sign that joins; a cast where the strength k allows one
  abbrev pub operand : ℕ → List Token → Read Exp
  operand k [] = None
  operand k (t ∷ ts) = operand_at k t.spot t.kind ts

  abbrev pub joined_by : (Exp → List Token → Read Exp) → Spot → Exp → List Token → Option (ℕ × Joint) → Read Exp
  joined_by again p e ts None = Some (e, ts)
  joined_by again p e ts (Some j) = below (suc j.0) (drop 1 ts) >>= λ r. grown h p (joined j.1 e r.0) r.1 >>= λ q. again q.0 q.1

  -- at most n further operands, and one more
  abbrev pub tail : ℕ → Spot → ℕ → Exp → List Token → Read Exp
  tail zero p k e ts = joined_by (λ x r. None) p e ts (joint_at k ts)
  tail (suc n) p k e ts = joined_by (tail n p k) p e ts (joint_at k ts)

  abbrev pub choice : Spot → ℕ → Exp × List Token → Read Exp
  choice p k q = elim (nat_le k conditional && is_sign sign.Question q.1) [
    | true ↦ (below expr (drop 1 q.1) >>= λ y. closing sign.Colon y.0 y.1 >>= λ c. below conditional c.1 >>= λ n.
        grown h p (node.Choose (place q.1) q.0 c.0 n.0) n.1)
    | false ↦ Some q
  ]

  abbrev pub stored : List Token → ℕ → Exp × List Token → Option (Option BinOp) → Read Exp
  stored ts k q None = tail h (place ts) (max k binary) q.0 q.1 >>= choice (place ts) k
  stored ts k q (Some op) = below assignment (drop 1 q.1) >>= λ r. grown h (place ts) (node.Assign op q.0 r.0) r.1

  -- the sign of an assignment after an operand that may be assigned to
  abbrev pub assign_at : List Token → ℕ → List Token → Option (Option BinOp)
  assign_at ts k rest = if nat_le k assignment && not (is_cast ts) then sign_at rest >>= assigns else None

  -- an operand and what follows it: an assignment, or operands and a choice; then what the comma joins
  abbrev pub full : ℕ → List Token → Read Exp
  full k ts = operand k ts >>= λ q. stored ts k q (assign_at ts k q.1) >>= λ r. tail h (place ts) k r.0 r.1

unfoldable pub level : Bool → (ℕ → ℕ → List Token → Read Exp) → ℕ → ℕ → List Token → Read Exp
level room paren zero k ts = None
level room paren (suc h) k ts = full room paren (level room paren h) h k ts

-- in one more pair of brackets, where this many may be open: at the height h and the strength k
unfoldable pub within : ℕ → ℕ → ℕ → List Token → Read Exp
within zero h k ts = None
within (suc b) h k ts = level (has_room b) (within b) h k ts

-- with at most b brackets open at one place
abbrev pub read : ℕ → ℕ → ℕ → List Token → Read Exp
read b = level (has_room b) (within b)
