-- Trees that are the same so far, and with one more.
use Rattle.std.proofs.Common.{◌≡◌, ℕ, zero, suc, ◌+◌, ◌<◌, List, [], ◌∷◌, length, take, get_or, refl, ◌∙◌, ap, arith, add-one}
use Rattle.c_core.specs.Tree.{Exp, Exps, NoExp, MoreExp}
use Rattle.c_core.specs.View.{expr_view, exprs_view}
use Rattle.c_core.specs.declared.tree.Expr.{Expr}

more_exps : (x y : Exp) (xs ys : Exps) → x ≡ y → xs ≡ ys → MoreExp x xs ≡ MoreExp y ys
more_exps x y xs ys e h = ap (λ z. MoreExp z xs) e ∙ ap (λ zs. MoreExp y zs) h

first_same : (x y : Exp) (xs ys : Exps) → MoreExp x xs ≡ MoreExp y ys → x ≡ y
first_same x y xs ys h = cc

rest_same : (x y : Exp) (xs ys : Exps) → MoreExp x xs ≡ MoreExp y ys → xs ≡ ys
rest_same x y xs ys h = cc

one_more : (a b : List Expr) (i : ℕ) (x y : Expr) → i < length a → i < length b → exprs_view (take i a) ≡ exprs_view (take i b) →
    expr_view (get_or a i x) ≡ expr_view (get_or b i y) → exprs_view (take (suc i) a) ≡ exprs_view (take (suc i) b)
one_more [] b i x y l m h e = absurd (omega arith)
one_more (p ∷ a) [] i x y l m h e = absurd (omega arith)
one_more (p ∷ a) (q ∷ b) zero x y l m h e = more_exps (expr_view p) (expr_view q) NoExp NoExp e refl
one_more (p ∷ a) (q ∷ b) (suc i) x y l m h e =
    more_exps (expr_view p) (expr_view q) (exprs_view (take (suc i) a)) (exprs_view (take (suc i) b)) (first_same _ _ _ _ h)
    (one_more a b i x y (omega arith) (omega arith) (rest_same _ _ _ _ h) e)

pub same_more : (a b : List Expr) (i : ℕ) (x y : Expr) → i < length a → i < length b → exprs_view (take i a) ≡ exprs_view (take i b) →
    expr_view (get_or a i x) ≡ expr_view (get_or b i y) → exprs_view (take (i + 1) a) ≡ exprs_view (take (i + 1) b)
same_more a b i x y l m h e = rw add-one (one_more a b i x y l m h e)
