-- A statement declares names in the innermost scope alone.
use Rattle.std.proofs.Common.{arith, ◌≡◌, ◌≤◌, ◌+◌, ◌++◌, ℕ, Bool, List, [], ◌∷◌, length, length-append, drop, take, refl, ap, sym, ◌∙◌, false}
use Rattle.std.proofs.Math.Seq.{take-append_seam, drop-append_seam}
use Rattle.c_core.specs.declared.number.DataModel.{DataModel}
use Rattle.c_core.specs.declared.tree.Object.{Object}
use Rattle.c_parser.specs.Tree as raw
use Rattle.check_rules.specs.Names.{Entry}
use Rattle.check_rules.specs.Scopes.{Scope, scope, seen, opened, closed, after_name, after_names, after_first, after_statement, after_form, after_else, after_block, after_arms}
use Rattle.check_elaborate.specs.Walks.{cut}

module _ (m : DataModel) (bodies : List (List ℕ)) where
  pub kept_by_names : (fixed : Bool) (s : Scope) (ds : List raw.Declared) → (after_names m bodies fixed s ds).outer ≡ s.outer
  kept_by_names fixed s [] = refl
  kept_by_names fixed s (d ∷ ds) = kept_by_names fixed (after_name m bodies fixed s d) ds

  pub kept_by_first : (s : Scope) (i : raw.First) → (after_first m bodies s i).outer ≡ s.outer
  kept_by_first s raw.NoFirst = refl
  kept_by_first s (raw.FirstExp e) = refl
  kept_by_first s (raw.FirstDeclared ds) = kept_by_names false s ds

  kept_by_else : (s : Scope) (b : raw.Else) → (after_else m bodies s b).outer ≡ s.outer
  kept_by_else s raw.NoElse = refl
  kept_by_else s (raw.OrElse b) = refl

  pub kept_by_arms : (s : Scope) (b : raw.Stms) → (after_arms m bodies s b).outer ≡ s.outer
  kept_by_arms s raw.NoStm = refl
  kept_by_arms s (raw.MoreStm x b) = kept_by_arms (closed s (after_statement m bodies (opened s) x)) b
  kept_by_arms s (raw.MoreCase p l b) = kept_by_arms s b

  kept_by_form : (s : Scope) (f : raw.Form) → (after_form m bodies s f).outer ≡ s.outer
  kept_by_form s (raw.Declare ds) = kept_by_names false s ds
  kept_by_form s (raw.Block b) = refl
  kept_by_form s (raw.If e a b) = kept_by_else (closed s (after_statement m bodies (opened s) a)) b
  kept_by_form s (raw.While e a) = refl
  kept_by_form s (raw.DoWhile a e) = refl
  kept_by_form s (raw.For i e u a) = refl
  kept_by_form s (raw.Label w a) = refl
  kept_by_form s (raw.Switch e b) = kept_by_arms s b
  kept_by_form s raw.Empty = refl
  kept_by_form s (raw.Do e) = refl
  kept_by_form s raw.Break = refl
  kept_by_form s raw.Continue = refl
  kept_by_form s (raw.Return e) = refl

  pub kept_by_statement : (s : Scope) (x : raw.Stm) → (after_statement m bodies s x).outer ≡ s.outer
  kept_by_statement s (raw.Stmt p f) = kept_by_form s f

  pub kept_by_block : (s : Scope) (b : raw.Stms) → (after_block m bodies s b).outer ≡ s.outer
  kept_by_block s raw.NoStm = refl
  kept_by_block s (raw.MoreStm x b) = kept_by_block (after_statement m bodies s x) b ∙ kept_by_statement s x
  kept_by_block s (raw.MoreCase p l b) = kept_by_block s b

-- the scope around is found again: its length was kept when the one in it was opened
pub closes : (s t u v : Scope) (n : ℕ) → n ≡ length s.outer → u ≡ t → t.outer ≡ seen s → v ≡ cut n u → v ≡ closed s t
closes s t u v n e f g h =
    h ∙ ap (λ (x : ℕ). cut x u) e ∙ ap (cut (length s.outer)) f
    ∙ ap (λ (x : List Entry). scope (take (length s.outer) x) (drop (length s.outer) x) t.objects) g
    ∙ ap (λ (x : List Entry). scope x (drop (length s.outer) (seen s)) t.objects) (take-append_seam s.outer s.inner)
    ∙ ap (λ (x : List Entry). scope s.outer x t.objects) (drop-append_seam s.outer s.inner)

pub stands_outside : (s t u : Scope) (n : ℕ) → n ≡ length s.outer → u ≡ t → t.outer ≡ seen s → n ≤ length u.outer
stands_outside s t u n e f g =
    let all : length u.outer ≡ length s.outer + length s.inner = ap (λ (x : Scope). length x.outer) f ∙ ap (λ (x : List Entry). length x) g ∙ length-append s.outer s.inner in
    omega (arith, e, all)
