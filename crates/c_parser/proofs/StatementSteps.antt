-- Statements, blocks and bodies, where their parts were read.
use Rattle.std.proofs.Common.{◌≡◌, ℕ, suc, Bool, true, false, ◌&&◌, List, drop, Some, None, refl, ◌∙◌}
use Rattle.c_tokens.specs.declared.token.Token.{Token}
use Rattle.c_tokens.specs.declared.token.Punct.TheVariants as sign
use Rattle.c_parser.specs.Tree.{Exp, Declared, Stm, Stmt, Declare, Block, Switch, Arm, stms, arms}
use Rattle.c_parser.specs.Signs.{◌>>=◌, place, is_sign}
use Rattle.c_parser.specs.Declarations.{begins_declaration}
use Rattle.c_parser.specs.ReadStatements.{start, AtBrace, AtSwitch, declares, statement_level, braced_within, armed_within}
use Rattle.c_parser.specs.ReadItems.{read_body}
use Rattle.c_parser.specs.StatementParts.{statement_of, expression_in_parens, arms_of_switch}
use Rattle.c_parser.proofs.ListLaws.{when, unless}

module _ (b h g : ℕ) (declared : Bool) (ts : List Token) (e : h ≡ suc g) where
  level_declares : (declared && begins_declaration ts) ≡ true → statement_level b (braced_within b) (armed_within b) h declared ts ≡ (declares b g false ts >>= λ d. Some (Stmt (place ts) (Declare d.0), d.1))
  unfolding statement_level
  level_declares here = rw e (when (declared && begins_declaration ts) _ _ here)

  pub level_declared : (ds : List Declared) (rest : List Token) → (declared && begins_declaration ts) ≡ true → declares b g false ts ≡ Some (ds, rest) →
      statement_level b (braced_within b) (armed_within b) h declared ts ≡ Some (Stmt (place ts) (Declare ds), rest)
  level_declared ds rest here some = level_declares here ∙ rw some refl

  pub level_undeclared : (declared && begins_declaration ts) ≡ true → declares b g false ts ≡ None → statement_level b (braced_within b) (armed_within b) h declared ts ≡ None
  level_undeclared here none = level_declares here ∙ rw none refl

  pub level_other : (declared && begins_declaration ts) ≡ false → statement_level b (braced_within b) (armed_within b) h declared ts ≡ statement_of b g (start ts) ts
  unfolding statement_level
  level_other here = rw e (unless (declared && begins_declaration ts) _ _ here)

pub block_read : (b h : ℕ) (ts mid : List Token) (ss : List Stm) → braced_within b h (drop 1 ts) ≡ Some (ss, mid) → is_sign sign.BraceClose mid ≡ true →
    statement_of b h AtBrace ts ≡ Some (Stmt (place ts) (Block (stms ss)), drop 1 mid)
block_read b h ts mid ss some last = rw (some, last) refl

pub switch_read : (b h : ℕ) (ts mid rest : List Token) (e : Exp) (all : List Arm) → expression_in_parens b h (drop 1 ts) ≡ Some (e, mid) → arms_of_switch b h mid ≡ Some (all, rest) →
    statement_of b h AtSwitch ts ≡ Some (Stmt (place ts) (Switch e (arms all)), rest)
switch_read b h ts mid rest e all test some = rw (test, some) refl

pub body_read : (h b height g : ℕ) (ts mid : List Token) (ss : List Stm) → height ≡ suc g → is_sign sign.BraceOpen ts ≡ true → braced_within b g (drop 1 ts) ≡ Some (ss, mid) → is_sign sign.BraceClose mid ≡ true →
    read_body h b height ts ≡ Some (Stmt (place ts) (Block (stms ss)), drop 1 mid)
body_read h b height g ts mid ss e first some last = rw (e, first, some, last) refl
