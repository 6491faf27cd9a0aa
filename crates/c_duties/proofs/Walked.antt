-- Duties of full expressions of several parts, one behind the other.
use Rattle.std.proofs.Common.{◌≡◌, ℕ, ◌+◌, ◌<◌, refl, sym, ap, ◌∙◌, cond, List, [], ◌∷◌, ◌++◌, append_assoc, get_or, length, drop, None}
use Rattle.c_core.specs.Tree.{Exp, Program}
use Rattle.c_core.specs.View.{stmts_view, switch_view}
use Rattle.c_core.specs.declared.tree.Arm.{Arm, out-Arm}
use Rattle.c_core.proofs.ArmLaws.{all_from}
use Rattle.c_meaning.specs.declared.run.DutyKind.TheVariants.{Property}
use Rattle.c_meaning.specs.declared.run.Duty.{Duty}
use Rattle.c_meaning.specs.Duties.{duty, may_violate, property_duties}
use Rattle.c_core.specs.Parts.{spot_of}
use Rattle.c_meaning.specs.Parts.{some_node, fulls_of, fulls_of_block}

pub property_duties_both : (p : Program) (xs ys : List Exp) → property_duties p (xs ++ ys) ≡ property_duties p xs ++ property_duties p ys
property_duties_both p [] ys = refl
property_duties_both p (e ∷ xs) ys =
    let own : List Duty = cond (some_node (may_violate p.property p.model) e) (duty (spot_of e) Property None ∷ []) [] in
    ap (λ l. own ++ l) (property_duties_both p xs ys) ∙ sym (append_assoc own (property_duties p xs) (property_duties p ys))

-- a list that got the duties of xs and then those of ys
pub then_more : (p : Program) (before between after : List Duty) (xs ys : List Exp) → between ≡ before ++ property_duties p xs → after ≡ between ++ property_duties p ys → after ≡ before ++ property_duties p (xs ++ ys)
then_more p before between after xs ys a b =
    b ∙ ap (λ l. l ++ property_duties p ys) a ∙ append_assoc before (property_duties p xs) (property_duties p ys) ∙ sym (ap (λ l. before ++ l) (property_duties_both p xs ys))

-- where xs are the first of what was left, the same stays to come with the others
pub with_the_rest : (p : Program) (now next : List Duty) (xs ys all : List Exp) (whole : List Duty) → all ≡ xs ++ ys → now ++ property_duties p all ≡ whole → next ≡ now ++ property_duties p xs → next ++ property_duties p ys ≡ whole
with_the_rest p now next xs ys all whole split was step =
    then_more p now next (next ++ property_duties p ys) xs ys step refl ∙ ap (λ es. now ++ property_duties p es) (sym split) ∙ was

-- the arms from one on: the full expressions of its statements, then those of the later arms
pub fulls_from : (arms : List Arm) (i : ℕ) (a : Arm) → i < length arms → a ≡ get_or arms i a
    → fulls_of_block (switch_view (drop i arms)) ≡ fulls_of_block (stmts_view (out-Arm a).body) ++ fulls_of_block (switch_view (drop (i + 1) arms))
fulls_from arms i a l e = all_from fulls_of fulls_of_block refl (λ s b. refl) (λ b spot l. refl) arms i a l e
