-- The form of a segment.
use Rattle.std.proofs.Common.{◌≡◌, ℕ, suc, ◌+◌, ◌-◌, ◌<◌, List, [], ◌∷◌, ◌++◌, length, take, drop, get_or, Bool, true, false, not, ◌&&◌, ◌||◌, Option, Some, None, cond, refl, sym, ap, ◌∙◌, arith, append_assoc, length-append}
use Rattle.std.specs.Option.{option_or}
use Rattle.std.specs.List.{list_any}
use Rattle.std.proofs.lemmas.List.{take_more, take_at, get_or-append_right}
use Rattle.std.proofs.Math.Seq.{take-length}
use Rattle.wv_yaml.specs.declared.tree.Tree.{Tree, Text}
use Rattle.wv_schema.specs.declared.witness.WayKind.{WayKind}
use Rattle.wv_schema.specs.declared.fault.SchemaFault.{SchemaFault}
use Rattle.wv_schema.specs.Paths.{item_place}
use Rattle.wv_schema.specs.Judging.{items_fault}
use Rattle.wv_schema.specs.Shapes.{is_end, is_follow, is_target, is_target_kind, is_misshapen}
use Rattle.wv_schema.specs.Values.{kind_at, waypoint_pairs, front, last}
use Rattle.wv_schema.specs.Steps.{are_avoids, fits_end}

regroup : (a b c : Option SchemaFault) → option_or a (option_or b c) ≡ option_or (option_or a b) c
regroup None b c = refl
regroup (Some f) b c = refl

-- the waypoints before the last are avoids other than targets
pub avoids_any : (ts : List Tree) → are_avoids ts ≡ not (list_any is_follow ts || list_any is_target ts)
avoids_any [] = refl
avoids_any (t ∷ ts) = ap (λ b. (not (is_follow t) && not (is_target t)) && b) (avoids_any ts) ∙ by (is_follow t) (is_target t) (list_any is_follow ts) (list_any is_target ts)
  where
    by : (a b c d : Bool) → ((not a && not b) && not (c || d)) ≡ not ((a || c) || (b || d))
    by true b c d = refl
    by false true true d = refl
    by false true false d = refl
    by false false true d = refl
    by false false false d = refl

-- the rules of a segment, and what the code tests
pub shape_by : (end f t early stray final : Bool) → (end || (not f || (early || ((stray || (t && not (final && f))) || (final && not t))))) ≡ not (not end && (f && (not (early || stray) && cond final t (not t))))
shape_by true f t early stray final = refl
shape_by false false t early stray final = refl
shape_by false true t true stray final = refl
shape_by false true true false true final = refl
shape_by false true false false true true = refl
shape_by false true false false true false = refl
shape_by false true true false false true = refl
shape_by false true true false false false = refl
shape_by false true false false false true = refl
shape_by false true false false false false = refl

pub items_append : (f : List ℕ → Tree → Option SchemaFault) (at : List ℕ) (n : ℕ) (xs ys : List Tree) → items_fault f at n (xs ++ ys) ≡ option_or (items_fault f at n xs) (items_fault f at (n + length xs) ys)
items_append f at n [] ys = ap (λ k. items_fault f at k ys) (omega arith)
items_append f at n (x ∷ xs) ys =
    ap (option_or (f (item_place at n) x)) (items_append f at (n + 1) xs ys ∙ ap (λ k. option_or (items_fault f at (n + 1) xs) (items_fault f at k ys)) (omega arith))
    ∙ regroup (f (item_place at n) x) (items_fault f at (n + 1) xs) (items_fault f at (n + length (x ∷ xs)) ys)

length_less : (xs : List Tree) (x : Tree) → length (xs ++ x ∷ []) - 1 ≡ length xs
length_less xs x = omega (arith, length-append xs (x ∷ []))

pub front_of : (xs : List Tree) (x : Tree) → front (xs ++ x ∷ []) ≡ xs
front_of xs x = ap (λ n. take n (xs ++ x ∷ [])) (length_less xs x) ∙ take_at xs (x ∷ []) (length xs) refl

pub last_of : (xs : List Tree) (x : Tree) → last (xs ++ x ∷ []) ≡ x
last_of xs x =
    let none : length xs - length xs ≡ 0 = omega arith in
    ap (λ n. get_or (xs ++ x ∷ []) n (Text [])) (length_less xs x)
    ∙ get_or-append_right xs (x ∷ []) (length xs) (length xs) (Text []) refl (omega arith)
    ∙ ap (λ n. get_or (x ∷ []) n (Text [])) none

-- a segment with a waypoint is its front and its last
pub parted : (ts : List Tree) → 0 < length ts → ts ≡ front ts ++ last ts ∷ []
parted ts h =
    let whole : length ts - 1 + 1 ≡ length ts = omega arith in
    sym (ap (λ k. take k ts) whole ∙ take-length ts) ∙ take_more ts (length ts - 1) (Text []) (omega arith)

fits_by : (final t : Bool) (kind : WayKind) → is_target_kind kind ≡ t → fits_end final kind ≡ cond final t (not t)
fits_by true t kind e = e
fits_by false t kind e = ap not e

not_empty : (ts : List Tree) → 0 < length ts → is_end ts ≡ false
not_empty [] h = absurd (omega (arith, h))
not_empty (t ∷ ts) h = refl

-- what the code tests of a segment with a waypoint
pub shape_is : (final : Bool) (ts : List Tree) → 0 < length ts →
    is_misshapen final ts ≡ not (is_follow (last ts) && (are_avoids (front ts) && fits_end final (kind_at (waypoint_pairs (last ts)))))
unfolding is_misshapen is_target
shape_is final ts h =
    let t = is_target (last ts) in
    shape_by (is_end ts) (is_follow (last ts)) t (list_any is_follow (front ts)) (list_any is_target (front ts)) final
    ∙ ap (λ e. not (not e && (is_follow (last ts) && (not (list_any is_follow (front ts) || list_any is_target (front ts)) && cond final t (not t))))) (not_empty ts h)
    ∙ ap (λ a. not (is_follow (last ts) && (a && cond final t (not t)))) (sym (avoids_any (front ts)))
    ∙ ap (λ a. not (is_follow (last ts) && (are_avoids (front ts) && a))) (sym (fits_by final t (kind_at (waypoint_pairs (last ts))) refl))
