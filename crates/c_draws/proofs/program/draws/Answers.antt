use Rattle.std.proofs.Common.{◌≡◌, ◌++◌, ap, sym, ◌∙◌, subst}
use Rattle.std.specs.List.{Contains, flat_map}
use Rattle.std.proofs.lemmas.List.Sorted.{Contains-permutation, IsPermutation-sym}
use Rattle.c_core.specs.View.{program_view}
use Rattle.c_draws.specs.Drawing.{draws_of_function, IsDrawn}
use Rattle.c_draws.specs.declared.places.DrawPlace.{DrawPlace}
use Rattle.c_draws.proofs.Drawn.{all_drawn, all_listed}
use Rattle.c_draws.proofs.program.draws.Goals as goal

pub returns : goal.returns
returns c x =
    let p = program_view c.args.program.now in
    let fs = c.in_ok-functions.functions.items in
    let reached = c.in_ok-functions.ensures in
    let listed : c.push_functions.new.list.items ≡ flat_map (draws_of_function p) fs =
    c.in_ok-push_functions.ensures ∙ ap (λ l. l ++ flat_map (draws_of_function p) c.as_slice.result.now) c.new-list.ensures.items ∙ ap (flat_map (draws_of_function p)) c.as_slice.ensures.value in
    let before = c.push_functions.new.list.items in (
      λ there. all_drawn p fs (λ f m. (reached f).0 m) x (subst (λ l. Contains l x) listed (Contains-permutation _ before x (IsPermutation-sym _ _ c.sort.ensures) there)),
      λ drawn. Contains-permutation before _ x c.sort.ensures (subst (λ l. Contains l x) (sym listed) (all_listed p fs drawn.function x ((reached drawn.function).1 drawn.reached) drawn.there)),
    )
