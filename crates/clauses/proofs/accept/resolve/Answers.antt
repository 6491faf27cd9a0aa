use Rattle.std.proofs.Common.{rules, ◌≡◌, ◌≢◌, ◌++◌, true, get_or, map, slice_set, pos, neg_ℤ, unsigned_abs, FitsSigned, of_z, w32, sym, ap, subst}
use Rattle.std.proofs.lemmas.Int.{to_z-of_z}
use Rattle.std.specs.List.{Contains}
use Rattle.clauses.specs.Table.{Holds}
use Rattle.clauses.proofs.Integers.{sized}
use Rattle.clauses.proofs.Resolving.{then_apart, resolved, here_in}
use Rattle.clauses.proofs.accept.resolve.Goals as goal

pub returns-then-not-are_apart : goal.returns-then-not-are_apart
returns-then-not-are_apart c = λ now h r p.
    let t : c.are_apart.result ≡ true = c.are_apart.ensures.1 (then_apart c.args.cells.now c.args.touched.now.items now c.args.clause.now r c.args.on h c.requires.fine.real p) in
    let f = c.if-not-are_apart.true in cc

pub returns : goal.returns
returns c = λ now h.
    let x = get_or c.args.cells.now c.args.on (pos 0) in
    let fits : FitsSigned w32 x = search rules in
    let filled : x ≢ pos 0 = λ q. c.if-cells-place-eq0.false (ap (of_z w32) q) in
    let opposite = subst (λ z. Contains c.args.clause.now (neg_ℤ z)) (to_z-of_z w32 x fits) (c.holds_opposite.ensures.0 c.if-not-holds_opposite.false) in
    let apart = c.are_apart.ensures.0 c.if-not-are_apart.false in
    let r = resolved c.args.cells.now c.args.touched.now.items now c.args.clause.now c.args.on x h (here_in c.args.cells.now c.args.touched.now.items now c.args.on h filled (sized x filled))
    (h.own c.args.on filled) c.requires.fine c.requires.within opposite apart in (
      r.0,
      r.1,
      subst (λ t. Holds (slice_set c.add.new.cells c.args.on (pos 0)) t r.0) (sym c.in_ok-add.ensures.touched)
          (subst (λ l. Holds (slice_set l c.args.on (pos 0)) (c.args.touched.now.items ++ map unsigned_abs c.args.clause.now) r.0) (sym c.in_ok-add.ensures.cells) r.2),
    )
