use Rattle.std.proofs.Common.{◌≡◌, List, None, Some, map, codes, ap, sym, ◌∙◌}
use Rattle.std.specs.List.{position_or_len}
use Rattle.std.specs.Str.{bytes_eq}
use Rattle.c_core.specs.declared.tree.Function.{Function}
use Rattle.check_wellformed.proofs.Law.{checked_program}
use Rattle.c_parser.specs.Parsing.{source_view}
use Rattle.c_parser.specs.SourceView.{item_view}
use Rattle.c_parser.specs.declared.item.Item.{Item}
use Rattle.check_rules.specs.First.{OfMain, wrong_main}
use Rattle.c_check.specs.Checking.{names_of}
use Rattle.c_check.proofs.ProgramLaws.{program_fits}
use Rattle.c_check.proofs.checked.checked_program.Goals as goal

pub returns-in-Some : goal.returns-in-Some
returns-in-Some c =
    let is : wrong_main (source_view c.args.source.now) ≡ Some c.in-Some.spot =
    ap (λ (xs : List Item). wrong_main (map item_view xs)) (sym c.as_slice.ensures) ∙ sym c.in-Some.ensures in
    OfMain c.requires.unrefused is

pub invariant_of-result : goal.invariant_of-result
invariant_of-result c =
    let items = source_view c.args.source.now in
    let right : wrong_main items ≡ None = ap (λ (xs : List Item). wrong_main (map item_view xs)) (sym c.as_slice.ensures) ∙ sym c.in-None.ensures in
    let main : c.in_ok-main-in-None.main ≡ position_or_len (bytes_eq (codes "main")) (names_of c.args.walked.functions) =
    c.in_ok-main-in-None.ensures ∙ ap (λ (fs : List Function). position_or_len (bytes_eq (codes "main")) (names_of fs)) c.as_slice-in-None.ensures in
    record {
      checked = program_fits c.args.model c.args.property items c.args.walked c.in_ok-main-in-None.main c.requires.walk main
          (checked_program c.args.model c.args.property items c.requires.unrefused right c.args.source.now.formed);
    }
