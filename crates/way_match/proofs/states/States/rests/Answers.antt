use Rattle.std.proofs.Common.{◌≡◌, Option, Some, sym, ◌∙◌, ap, subst, List}
use Rattle.c_core.specs.declared.number.Spot.{Spot}
use Rattle.way_match.specs.declared.avoided.Avoided.{Avoided}
use Rattle.way_match.specs.inside.Avoided.{Stands}
use Rattle.c_meaning.specs.Watching.{event_spot}
use Rattle.way_match.specs.inside.ByPlace.{may_pass}
use Rattle.way_match.specs.inside.Turning.{sighted}
use Rattle.way_match.proofs.states.States.rests.Goals as goal

pub rests-requires-clause-covers : goal.rests-requires-clause-covers
rests-requires-clause-covers c = λ k i x h m.
    let e : event_spot c.args.sight.now.event ≡ Some c.in-Some.spot = sym c.place_of.ensures ∙ c.in-Some.is in
    subst (λ (l : List Avoided). Stands (sighted c.args.sight.now) l k x) (sym c.at-there.ensures)
    (c.requires.covers k i x h c.in-Some.spot (ap (λ (o : Option Spot). may_pass o x) (sym e) ∙ m))
