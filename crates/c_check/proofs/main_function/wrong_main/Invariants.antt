use Rattle.std.proofs.Common.{◌≡◌, drop, map}
use Rattle.c_parser.specs.SourceView.{item_view}
use Rattle.check_rules.specs.First.{wrong_main}
use Rattle.c_check.proofs.main_function.wrong_main.Given as goal

abbrev pub invariant-loop-item : goal.invariant-loop-item
invariant-loop-item l = (wrong_main (map item_view (drop l.item-index l.items)) ≡ wrong_main (map item_view l.items))
