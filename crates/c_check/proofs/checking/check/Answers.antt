use Rattle.std.proofs.Common.{rules, subst}
use Rattle.c_parser.specs.Parsing.{source_view}
use Rattle.check_rules.specs.First.{OfPart}
use Rattle.c_check.specs.Finding.{IsFirstOf, IsWalk}
use Rattle.c_check.proofs.checking.check.Goals as goal

pub checked_program-requires-clause-unrefused : goal.checked_program-requires-clause-unrefused
checked_program-requires-clause-unrefused c =
    let m = c.args.model in
    let items = source_view c.args.source.now in
    let walk : IsWalk m items c.in_ok-walked.walked = search rules in
    subst (IsFirstOf m items) c.in-None.is (c.in_ok-first.ensures m items walk)

pub returns-in-Some : goal.returns-in-Some
returns-in-Some c =
    let m = c.args.model in
    let items = source_view c.args.source.now in
    let walk : IsWalk m items c.in_ok-walked.walked = search rules in
    OfPart (subst (IsFirstOf m items) c.in-Some.is (c.in_ok-first.ensures m items walk))
