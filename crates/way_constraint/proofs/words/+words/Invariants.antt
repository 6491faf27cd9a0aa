use Rattle.std.proofs.Common.{◌≡◌, drop}
use Rattle.c_parser.specs.Tree.{exps}
use Rattle.c_parser.specs.View.{exprs_view}
use Rattle.way_constraint.specs.Words.{meant, with_words_of}
use Rattle.way_constraint.proofs.words.+words.Given as goal

-- what is left gives what the whole gives
abbrev pub invariant-push_all-loop-e : goal.invariant-push_all-loop-e
invariant-push_all-loop-e l =
    with_words_of (meant l.place) (exps (exprs_view (drop l.e-index l.es))) l.few.items ≡ with_words_of (meant l.place) (exps (exprs_view l.es)) l.initial.few.items
