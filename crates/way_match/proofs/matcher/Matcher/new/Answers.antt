use Rattle.std.proofs.Common.{rules, ◌≡◌, ℕ, List, Option, length, sym, ◌∙◌, ap, subst, arith}
use Rattle.c_core.specs.View.{program_view}
use Rattle.c_core.specs.declared.program.Program.{Program}
use Rattle.way_match.specs.View.{each_segment_view, segments_view}
use Rattle.way_match.specs.declared.point.BoundSegment.{BoundSegment}
use Rattle.way_match.specs.inside.Avoided.{Covers}
use Rattle.way_match.specs.inside.ByPlace.{moved}
use Rattle.way_match.specs.inside.Prepared.{all_prepared}
use Rattle.way_match.specs.inside.Steps.{begun}
use Rattle.way_match.proofs.Begin.{begins_each, begins_ways}
use Rattle.way_match.proofs.Views.{segments_length}
use Rattle.way_match.proofs.matcher.Matcher.new.Goals as goal

pub returns : goal.returns
returns c =
    let l : length c.as_slice-segments.result.now ≡ length (segments_view c.args.bound.now) = ap length c.as_slice-segments.ensures ∙ sym (segments_length c.args.bound.now.segments) in
    ap (λ (ws : List (Option (List ℕ))). record { program = c.program.result.now; bound = c.args.bound.now; count = 0; ways = ws })
    (begins_ways c.in_ok-new.field-0.nodes.items c.in_ok-new.field-0.live.items (length c.as_slice-segments.result.now) (length (segments_view c.args.bound.now)) c.in_ok-new.ensures.1 l)
    ∙ ap (λ (p : Program). begun p c.args.bound.now) c.program.ensures

pub invariant_of-result : goal.invariant_of-result
invariant_of-result c =
    let segments = c.as_slice-segments.ensures in
    record {
      prepares = c.in_ok-prepare.ensures ∙ ap (λ (ss : List BoundSegment). all_prepared (program_view c.args.places.now) (each_segment_view ss)) segments
          ∙ ap (λ (p : Program). all_prepared (program_view p) (each_segment_view c.args.bound.now.segments)) (sym c.program.ensures);
      places = λ at. c.in_ok-of.ensures.numbers at ∙ ap (λ (ss : List BoundSegment). moved at 0 (each_segment_view ss)) segments;
      clear = c.in_ok-of.ensures.clear;
      covers = subst (λ (ss : List BoundSegment). Covers (each_segment_view ss) c.in_ok-of-2.field-0) segments c.in_ok-of-2.ensures;
      states_each = begins_each c.in_ok-new.field-0.live.items (length c.as_slice-segments.result.now) (length c.args.bound.now.segments) c.in_ok-new.ensures.1 (ap length segments);
      rooms = search rules;
      passed = λ k lt. absurd (omega (arith, lt, c.in_ok-new.ensures.2));
      still = λ k lt. absurd (omega (arith, lt, c.in_ok-new.ensures.3));
    }
