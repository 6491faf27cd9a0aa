-- Lists of declared names, and their views.
use Rattle.std.proofs.Common.{◌≡◌, ◌<◌, ◌+◌, ◌++◌, ℕ, List, [], ◌∷◌, drop, get_or, map, refl, ap, sym, ◌∙◌, length, false}
use Rattle.std.proofs.lemmas.List.{drop_more}
use Rattle.c_core.specs.Tree as t
use Rattle.c_core.specs.View.{init_view, names_view}
use Rattle.c_core.specs.declared.tree.Declared.{Declared}
use Rattle.c_parser.specs.Tree as raw
use Rattle.c_parser.specs.SourceView.{declared_view}
use Rattle.c_parser.specs.declared.tree.RawDeclared.{RawDeclared}
use Rattle.c_core.specs.declared.number.DataModel.{DataModel}
use Rattle.c_core.specs.declared.number.Spot.{Spot}
use Rattle.check_rules.specs.Checked.{typed_init, typed_names}
use Rattle.check_rules.specs.Scopes.{Scope, seen, after_name}

pub next_declared : (ds : List RawDeclared) (i : ℕ) (d : RawDeclared) → i < length ds → d ≡ get_or ds i d
    → map declared_view (drop i ds) ≡ declared_view d ∷ map declared_view (drop (i + 1) ds)
next_declared ds i d h q = ap (map declared_view) (drop_more ds i d h ∙ ap (λ (x : RawDeclared). x ∷ drop (i + 1) ds) (sym q))

-- these names, and then the rest
abbrev pub names_before : List Declared → t.Names → t.Names
names_before [] rest = rest
names_before (d ∷ ds) rest = t.MoreName d.spot d.object (init_view d.init) (names_before ds rest)

pub names_before-none : (ds : List Declared) → names_before ds t.NoName ≡ names_view ds
names_before-none [] = refl
names_before-none (d ∷ ds) = ap (t.MoreName d.spot d.object (init_view d.init)) (names_before-none ds)

pub names_before-one_more : (ds : List Declared) (d : Declared) (rest : t.Names)
    → names_before (ds ++ d ∷ []) rest ≡ names_before ds (t.MoreName d.spot d.object (init_view d.init) rest)
names_before-one_more [] d rest = refl
names_before-one_more (x ∷ ds) d rest = ap (t.MoreName x.spot x.object (init_view x.init)) (names_before-one_more ds d rest)

same_more : (p q : Spot) (n k : ℕ) (i j : t.Init) (xs ys : t.Names) → p ≡ q → n ≡ k → i ≡ j → xs ≡ ys → t.MoreName p n i xs ≡ t.MoreName q k j ys
same_more p q n k i j xs ys e f g h =
    ap (λ x. t.MoreName x n i xs) e ∙ ap (λ x. t.MoreName q x i xs) f ∙ ap (λ x. t.MoreName q k x xs) g ∙ ap (λ x. t.MoreName q k j x) h

-- one name more is typed, and the rest follows in the scope behind it
pub names_typed-next : (m : DataModel) (bodies : List (List ℕ)) (all : List Declared) (x : Declared) (s u : Scope) (d : raw.Declared) (rest : List raw.Declared)
    → x.spot ≡ d.spot → x.object ≡ length s.objects → init_view x.init ≡ typed_init m bodies (seen (after_name m bodies false s d)) d.init → u ≡ after_name m bodies false s d
    → names_before (all ++ x ∷ []) (typed_names m bodies u rest) ≡ names_before all (typed_names m bodies s (d ∷ rest))
names_typed-next m bodies all x s u d rest p n i e =
    names_before-one_more all x (typed_names m bodies u rest)
    ∙ ap (names_before all) (same_more x.spot d.spot x.object (length s.objects) (init_view x.init) (typed_init m bodies (seen (after_name m bodies false s d)) d.init) (typed_names m bodies u rest) (typed_names m bodies (after_name m bodies false s d) rest) p n i (ap (λ y. typed_names m bodies y rest) e))
