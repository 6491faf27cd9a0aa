-- Lists that loops go through.
use Rattle.std.proofs.Common.{◌≡◌, ◌<◌, ◌+◌, ◌++◌, ◌&&◌, ℕ, Bool, List, [], ◌∷◌, length, take, drop, get_or, slice_get, append_assoc, Option, Some, None, ap, sym, ◌∙◌}
use Rattle.std.proofs.lemmas.Grind.{flat_map-append}
use Rattle.std.proofs.lemmas.List.{take_more, drop_more, append-nil}
use Rattle.c_core.specs.declared.tree.Object.{Object}
use Rattle.check_rules.specs.Names as kind
use Rattle.check_rules.specs.Names.{entry}
use Rattle.check_scope.specs.InScope.{InScope, all_of, with_name}
use Rattle.c_parser.specs.Formed.{every_node, every_argument}
use Rattle.c_parser.specs.Tree as raw
use Rattle.c_parser.specs.Tree.{exps}
use Rattle.c_parser.specs.View.{expr_view, exprs_view}
use Rattle.c_parser.specs.declared.tree.RawExpr.{RawExpr}
use Rattle.way_constraint.specs.Constraints.{entries, entry_at}

-- the names of one object more
pub entries_more : (objects : List Object) (numbers : List ℕ) (i : ℕ) → i < length numbers
    → entries objects (take (i + 1) numbers) ≡ entries objects (take i numbers) ++ entry_at (get_or numbers i 0) (slice_get objects (get_or numbers i 0))
entries_more objects numbers i h =
    let n = get_or numbers i 0 in
    ap (entries objects) (take_more numbers i 0 h)
    ∙ flat_map-append (λ k. entry_at k (slice_get objects k)) (take i numbers) (n ∷ [])
    ∙ ap (λ es. entries objects (take i numbers) ++ es) (append-nil (entry_at n (slice_get objects n)))

-- an object is declared
pub object_declared : (s s' : InScope) (n : ℕ) (x : List ℕ) (o : Object) → s' ≡ with_name s (entry x (kind.Object n o.ty o.dims o.fixed)) → x ≡ o.name → all_of s' ≡ all_of s ++ entry_at n (Some o)
object_declared s s' n x o e f =
    let k = kind.Object n o.ty o.dims o.fixed in
    ap all_of e ∙ sym (append_assoc s.outer s.inner (entry x k ∷ [])) ∙ ap (λ (y : List ℕ). all_of s ++ entry y k ∷ []) f

-- a number of no object adds nothing
pub nothing_declared : (s : InScope) (n : ℕ) (found : Option Object) → None ≡ found → all_of s ≡ all_of s ++ entry_at n found
nothing_declared s n found h = sym (append-nil (all_of s)) ∙ ap (λ (o : Option Object). all_of s ++ entry_at n o) h

-- the first of the expressions that are left
pub views-next : (es : List RawExpr) (i : ℕ) (e : RawExpr) → i < length es → e ≡ get_or es i e
    → exps (exprs_view (drop i es)) ≡ raw.MoreExp (expr_view e) (exps (exprs_view (drop (i + 1) es)))
views-next es i e h q = ap (λ xs. exps (exprs_view xs)) (drop_more es i e h ∙ ap (λ (x : RawExpr). x ∷ drop (i + 1) es) (sym q))

module _ (q : raw.Node → Bool) (es : List RawExpr) (i : ℕ) where
  pub every-next : (e : RawExpr) (b : Bool) → i < length es → e ≡ get_or es i e → b ≡ every_node q (expr_view e)
      → every_argument q (exps (exprs_view (drop i es))) ≡ (b && every_argument q (exps (exprs_view (drop (i + 1) es))))
  every-next e b h k t = ap (every_argument q) (views-next es i e h k) ∙ ap (λ x. x && every_argument q (exps (exprs_view (drop (i + 1) es)))) (sym t)
