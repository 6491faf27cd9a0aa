-- Lists that are filled item by item.
use Rattle.std.proofs.Common.{◌≡◌, ℕ, ◌+◌, List, [], ◌∷◌, ◌++◌, length, drop, refl, sym, ap, ◌∙◌, length-append, append_assoc, append-nil}
use Rattle.c_core.specs.Tree.{Function, Program}
use Rattle.flow_code.specs.declared.code.Body.{Body}
use Rattle.flow_code.specs.declared.code.First.{First}
use Rattle.flow_code.specs.declared.code.Op.{Op}
use Rattle.flow_code.specs.Programs.{cell_of, cells_of, parameters_of, function_code, bodies}

-- one item on, of what is left
pub listed_on : {A B : Type 0} (xs : List A) (i : ℕ) (x : A) (y : B) (old new whole : List B) (f : List A → List B) → drop i xs ≡ x ∷ drop (i + 1) xs
    → f (x ∷ drop (i + 1) xs) ≡ y ∷ f (drop (i + 1) xs) → old ++ f (drop i xs) ≡ whole → new ≡ old ++ y ∷ [] → new ++ f (drop (i + 1) xs) ≡ whole
listed_on xs i x y old new whole f d q w h =
    ap (λ l. l ++ f (drop (i + 1) xs)) h ∙ append_assoc old (y ∷ []) (f (drop (i + 1) xs)) ∙ ap (λ l. old ++ l) (sym q ∙ ap f (sym d)) ∙ w

-- nothing is left
pub listed_done : {A B : Type 0} (xs : List A) (i : ℕ) (found whole : List B) (f : List A → List B) → drop i xs ≡ [] → f [] ≡ [] → found ++ f (drop i xs) ≡ whole → found ≡ whole
listed_done xs i found whole f d q w = sym (append-nil found) ∙ ap (λ l. found ++ l) (sym q ∙ ap f (sym d)) ∙ w

-- one cell more
pub cells_pushed : (cs : List First) (c : First) → cells_of (cs ++ c ∷ []) ≡ cells_of cs ++ cell_of c ∷ []
cells_pushed [] c = refl
cells_pushed (b ∷ cs) c = ap (λ l. cell_of b ∷ l) (cells_pushed cs c)

-- one function more; the next begins behind its code
pub bodies_on : (p : Program) (f : Function) (fs : List Function) (b : Body) (ops more : List Op) (old new whole : List Body) → b ≡ record { entry = length ops; parameters = parameters_of p f.params }
    → more ≡ ops ++ function_code p (length ops) f → new ≡ old ++ b ∷ [] → old ++ bodies p (length ops) (f ∷ fs) ≡ whole → new ++ bodies p (length more) fs ≡ whole
bodies_on p f fs b ops more old new whole e m h w =
    ap (λ l. l ++ bodies p (length more) fs) (h ∙ ap (λ y. old ++ y ∷ []) e)
    ∙ append_assoc old (record { entry = length ops; parameters = parameters_of p f.params } ∷ []) (bodies p (length more) fs)
    ∙ ap (λ n. old ++ record { entry = length ops; parameters = parameters_of p f.params } ∷ bodies p n fs) (ap length m ∙ length-append ops (function_code p (length ops) f)) ∙ w
