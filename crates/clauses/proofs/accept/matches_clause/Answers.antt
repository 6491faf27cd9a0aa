use Rattle.std.proofs.Common.{◌≡◌, true}
use Rattle.clauses.proofs.Matching.{then_held, matched}
use Rattle.clauses.proofs.accept.matches_clause.Goals as goal

pub returns-then-not-holds_all : goal.returns-then-not-holds_all
returns-then-not-holds_all c = λ now h same.
    let t : c.holds_all.result ≡ true = c.holds_all.ensures.1 (then_held c.args.cells.now c.args.touched.now now c.args.clause.now h same) in
    let f = c.if-not-holds_all.true in cc

pub returns : goal.returns
returns c = λ now h.
    matched c.are_blank.result c.args.cells.now c.erase.new.cells c.args.touched.now now c.args.clause.now h c.requires.real (c.holds_all.ensures.0 c.if-not-holds_all.false) c.erase.ensures c.are_blank.ensures
