use Rattle.std.proofs.Common.{◌≡◌, ℕ, ◌<◌, ◌+◌, sym, ◌∙◌, ap, subst, arith, length, Bool, pos, w32}
use Rattle.std.specs.Prelude.{unsigned_abs}
use Rattle.std.proofs.lemmas.Int.{to_z-of_z, fits_signed_from_abs}
use lib.Signed.{lt_z}
use Rattle.sat_core.specs.declared.trail.Trail.{Trail}
use Rattle.sat_newness.specs.Clauses.{clauses_of}
use Rattle.sat_core.specs.Values.{open_variables}
use Rattle.sat_core.specs.Found.{AreScanned}
use Rattle.sat_newness.proofs.Lists.{contains_at}
use Rattle.sat_core.proofs.Scans.{one_numbers, clauses_many, scanned_other, scanned_unit, scanned_all}
use Rattle.sat_core.proofs.propagate.scan.Goals as goal
use Rattle.sat_core.proofs.propagate.scan.Goals.{in-Unit+in_ok-assign-in-Unit, in-Other}

pub look-requires-clause-numbers : goal.look-requires-clause-numbers
look-requires-clause-numbers c = one_numbers _ _ c.loop-at.at _ c.loop-at.invariant.state.numbers c.clause_at.ensures

pub assign-requires-clause-within : goal.assign-requires-clause-within
assign-requires-clause-within c =
    let o = c.loop-at.invariant.state.numbers.each _ c.in-Unit.number (contains_at _ c.loop-at.at _ c.clause_at.ensures) c.in-Unit.ensures.held in
    let is : c.unsigned_abs.result ≡ unsigned_abs c.in-Unit.number = c.unsigned_abs.ensures.value ∙ ap unsigned_abs (to_z-of_z w32 c.in-Unit.number (fits_signed_from_abs w32 c.in-Unit.number o.small)) in
    subst (λ (k : ℕ). k < length c.loop-at.trail.values.items) (sym is) o.within

pub loop-at-preserved : goal.loop-at-preserved
loop-at-preserved c =
    let F = clauses_of c.args.given.now c.args.chains.now in
    let size = length c.args.trail.now.values.items in
    let before = open_variables c.args.trail.now.values.items in
    elim c.match-look.branch [
      | in-Unit+in_ok-assign-in-Unit w ↦
          let x = w.in-Unit.number in
          let o = c.loop-at.invariant.state.numbers.each _ x (contains_at F c.loop-at.at _ c.clause_at.ensures) w.in-Unit.ensures.held in
          let f = to_z-of_z w32 x (fits_signed_from_abs w32 x o.small) in
          let is : w.unsigned_abs.result ≡ unsigned_abs x = w.unsigned_abs.ensures.value ∙ ap unsigned_abs f in
          subst (λ (q : Bool). AreScanned F size before (c.loop-at.at + 1) q c.match-look.trail.values.items c.match-look.trail.entries.items) (sym w.quiet-is)
          (subst (λ (s : Trail). AreScanned F size before (c.loop-at.at + 1) _ s.values.items s.entries.items) (sym w.trail-is)
          (scanned_unit F size before c.loop-at.at c.loop-at.quiet c.loop-at.trail.values.items w.assign.new.self.values.items c.loop-at.trail.entries.items w.assign.new.self.entries.items c.clause_at.result.now x w.unsigned_abs.result _ c.clause_at.ensures w.in-Unit.ensures is (ap (lt_z (pos 0)) f)
          w.in_ok-assign-in-Unit.ensures.entries w.in_ok-assign-in-Unit.ensures.told w.assign.ensures.size w.in_ok-assign-in-Unit.ensures.fewer c.loop-at.invariant))
      | in-Other w ↦
          subst (λ (q : Bool). AreScanned F size before (c.loop-at.at + 1) q c.match-look.trail.values.items c.match-look.trail.entries.items) (sym w.quiet-is)
          (subst (λ (s : Trail). AreScanned F size before (c.loop-at.at + 1) c.loop-at.quiet s.values.items s.entries.items) (sym w.trail-is)
          (scanned_other F size before c.loop-at.at c.loop-at.quiet c.loop-at.trail.values.items c.loop-at.trail.entries.items c.clause_at.result.now c.clause_at.ensures w.in-Other.ensures c.loop-at.invariant))
    ]

pub returns-then-quiet-clause-found : goal.returns-then-quiet-clause-found
returns-then-quiet-clause-found c =
    scanned_all _ _ _ c.loop-at.at c.loop-at.quiet _ _ (omega (arith, clauses_many c.args.given.now c.args.chains.now, c.loop-at-test.false, c.len.ensures, c.len-2.ensures)) c.if-quiet.true c.loop-at.invariant
