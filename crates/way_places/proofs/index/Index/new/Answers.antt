-- Each list is made of what the walks find, and put in the order of the text.
use Rattle.std.proofs.Common.{◌≡◌, List, ◌++◌, ap, sym, ◌∙◌, map}
use Rattle.std.proofs.lemmas.List.Sorted.{list_any-IsPermutation}
use Rattle.std.specs.List.{filter, filter_map, flat_map, list_any}
use Rattle.std.specs.Option.{option_copied, option_map}
use Rattle.std.specs.Prelude.{true}
use Rattle.c_core.specs.Parts.{exps_of, exps_of_program, fulls_of_program, spot_of}
use Rattle.c_core.specs.Places.{aims_of, is_named, leftmost, of_kind, places_of}
use Rattle.c_core.specs.View.{expr_view_if, program_view, stmt_view}
use Rattle.c_core.specs.declared.number.Spot.{Spot}
use Rattle.c_core.specs.declared.place.PlaceKind.{PlaceKind}
use Rattle.c_core.specs.declared.place.PlaceKind.TheVariants.{Statement, Loop, Branch, CallEnd}
use Rattle.c_core.specs.Tree.{Program}
use Rattle.c_core.specs.declared.place.Place.{Place}
use Rattle.way_places.specs.Aims.{error_starts_in}
use Rattle.way_places.specs.Calls.{call_of, ends_view, fulls_view}
use Rattle.way_places.specs.Indexed.{GivesPlaces}
use Rattle.way_places.specs.Maps.{first_in}
use Rattle.way_places.specs.Ordered.{are_ordered, follow}
use Rattle.way_places.proofs.IndexLaws.{aims_are_found, call_is_found, first_before, first_call}
use Rattle.way_places.proofs.NeighbourLaws.{before_is_neighbour}
use Rattle.way_places.proofs.SoughtLaws.{leftmost_found}
use Rattle.way_places.proofs.SwitchLaws.{switch_is_listed}
use Rattle.way_places.proofs.TextLaws.{kind_follows}
use Rattle.way_places.proofs.index.Index.new.Goals as goal

gives_places : (p : Program) (kind : PlaceKind) (spots : List Spot) (ps : List Place) → spots ≡ of_kind kind ps → ps ≡ places_of p → are_ordered ps ≡ true → GivesPlaces p kind spots
gives_places p kind spots ps e placed rising = record {
  ordered = ap follow e ∙ kind_follows kind ps rising;
  exact = λ line column. ap (λ l. leftmost (filter (is_named line column) l)) (e ∙ ap (of_kind kind) placed);
}

pub invariant_of-result : goal.invariant_of-result
invariant_of-result c =
    let p = program_view c.args.program.now in
    let placed : c.as_slice-places.result.now ≡ places_of p = c.as_slice-places.ensures ∙ c.in_ok-list.ensures.exact in
    let rising : are_ordered c.as_slice-places.result.now ≡ true = ap are_ordered c.as_slice-places.ensures ∙ c.in_ok-list.ensures.ordered in
    let whole : fulls_view c.as_slice-fulls.result.now ≡ fulls_of_program p = ap fulls_view c.as_slice-fulls.ensures.value ∙ c.in_ok-whole.ensures in
    let ended : ends_view c.in_ok-calls.calls.items ≡ filter_map call_of (exps_of_program p) =
    c.in_ok-calls.ensures ∙ ap (λ es. filter_map call_of (flat_map exps_of es)) whole in
    let aimed : c.in_ok-aims.aims.items ≡ aims_of p =
    c.in_ok-aims.ensures
    ∙ ap (λ ps. of_kind Statement ps ++ map spot_of (fulls_view c.as_slice-fulls.result.now) ++ error_starts_in p.property (ends_view c.as_slice.result.now)) placed
    ∙ ap (λ es. of_kind Statement (places_of p) ++ map spot_of es ++ error_starts_in p.property (ends_view c.as_slice.result.now)) whole
    ∙ ap (λ cs. of_kind Statement (places_of p) ++ map spot_of (fulls_of_program p) ++ error_starts_in p.property cs) (ap ends_view c.as_slice.ensures.value ∙ ended)
    ∙ aims_are_found p in
    record {
      statements = gives_places p Statement _ _ c.in_ok-statements.ensures placed rising;
      loops = gives_places p Loop _ _ c.in_ok-loops.ensures placed rising;
      branches = gives_places p Branch _ _ c.in_ok-branches.ensures placed rising;
      call_ends = gives_places p CallEnd _ _ c.in_ok-call_ends.ensures placed rising;
      aims = record {
        ordered = c.in_ok-sort_spots.ensures.ordered;
        exact = λ line column.
            leftmost_found line column _ ∙ sym (list_any-IsPermutation (is_named line column) _ _ c.in_ok-sort_spots.ensures.same) ∙ ap (list_any (is_named line column)) aimed;
      };
      calls = record {
        ordered = c.in_ok-sort_by_spot.ensures.ordered;
        exact = λ q.
            ap (λ o. expr_view_if (option_copied o)) (c.in_ok-sort_by_spot.ensures.same q) ∙ first_call c.in_ok-calls.calls.items q
            ∙ ap (λ cs. first_in cs q) ended ∙ call_is_found p q;
      };
      befores = record {
        ordered = c.in_ok-sort_by_spot-2.ensures.ordered;
        exact = λ q.
            ap (λ o. option_map stmt_view (option_copied o)) (c.in_ok-sort_by_spot-2.ensures.same q) ∙ first_before c.in_ok-befores.befores.items q
            ∙ ap (λ cs. first_in cs q) c.in_ok-befores.ensures ∙ before_is_neighbour p q;
      };
      switches = record {
        ordered = c.in_ok-sort_by_spot-3.ensures.ordered;
        exact = λ q. c.in_ok-sort_by_spot-3.ensures.same q ∙ ap (λ cs. first_in cs q) c.in_ok-switches.ensures ∙ switch_is_listed p q;
      };
    }
