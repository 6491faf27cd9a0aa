use Rattle.std.proofs.Common.{sym, subst, Some, List}
use Rattle.std.specs.Prelude.{slice_set}
use Rattle.sat_core.specs.declared.trail.Assigned.{Assigned}
use Rattle.sat_core.specs.Values.{Told}
use Rattle.sat_core.proofs.Table.{told_push, fewer_open, open_of}
use Rattle.sat_core.proofs.trail.Trail.assign.Goals as goal

pub returns-clause-told : goal.returns-clause-told
returns-clause-told c =
    let e : Assigned = record { variable = c.args.variable; value = c.args.value; reason = c.args.reason } in
    subst (λ (t : List Assigned). Told (slice_set c.args.self.now.values.items c.args.variable (Some c.args.value)) t) (sym c.in_ok-push.ensures.items)
    (told_push c.args.self.now.values.items c.args.self.now.entries.items e c.requires.told c.requires.within c.requires.first)

pub returns-clause-fewer : goal.returns-clause-fewer
returns-clause-fewer c = fewer_open c.args.self.now.values.items c.args.variable c.args.value (open_of c.args.self.now.values.items c.args.self.now.entries.items c.args.variable c.requires.told c.requires.within c.requires.first)
