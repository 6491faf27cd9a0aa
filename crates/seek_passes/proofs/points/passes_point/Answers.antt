use Rattle.c_core.specs.View.{program_view}
use Rattle.circuits.specs.Numbers.{typed}
use Rattle.circuits.proofs.Nets.{means_by}
use Rattle.sym_state.specs.Standing.{stand}
use Rattle.way_match.specs.View.{point_view}
use Rattle.seek_passes.specs.declared.event.SymEvent.TheVariants.{Enter, Branch, Select}
use Rattle.seek_passes.proofs.Arms.{cases_many}
use Rattle.seek_passes.proofs.Named.{can_as, passes_as, passes_there}
use Rattle.seek_passes.proofs.points.passes_point.Goals as goal

pub at_statement-requires-clause-room : goal.at_statement-requires-clause-room
at_statement-requires-clause-room c = (can_as (program_view c.args.program.now) (point_view c.args.point.now) c.in-At.is c.requires.ready).room

pub returns-in_ok-bit-in-At : goal.returns-in_ok-bit-in-At
returns-in_ok-bit-in-At c = passes_as (program_view c.args.program.now) (point_view c.args.point.now) c.in-At.is c.in_ok-bit-in-At.ensures

pub returns-in-Enter : goal.returns-in-Enter
returns-in-Enter c =
    let p = program_view c.args.program.now in
    let x = point_view c.args.point.now in
    let s = c.args.sym.now in
    passes_as p x c.in-Enter.is (passes_there p (Enter c.in-Enter.at) x s c.known.result c.requires.ready.fits (means_by _ _ _ _ c.known.ensures (λ v. c.enters.ensures p (stand p v s).cells)))

pub at_return-requires-clause-bits_in : goal.at_return-requires-clause-bits_in
at_return-requires-clause-bits_in c = (can_as (program_view c.args.program.now) (point_view c.args.point.now) c.in-Return.is c.requires.ready).event.bits_in

pub at_return-requires-clause-gave_in : goal.at_return-requires-clause-gave_in
at_return-requires-clause-gave_in c = (can_as (program_view c.args.program.now) (point_view c.args.point.now) c.in-Return.is c.requires.ready).event.gave_in

pub at_return-requires-clause-room : goal.at_return-requires-clause-room
at_return-requires-clause-room c = (can_as (program_view c.args.program.now) (point_view c.args.point.now) c.in-Return.is c.requires.ready).room

pub returns-in_ok-bit-in-Return : goal.returns-in_ok-bit-in-Return
returns-in_ok-bit-in-Return c = passes_as (program_view c.args.program.now) (point_view c.args.point.now) c.in-Return.is c.in_ok-bit-in-Return.ensures

pub at_branch-requires : goal.at_branch-requires
at_branch-requires c = (can_as (program_view c.args.program.now) (point_view c.args.point.now) c.in-Branch.is c.requires.ready).event

pub returns-in-Branch : goal.returns-in-Branch
returns-in-Branch c =
    let p = program_view c.args.program.now in
    let x = point_view c.args.point.now in
    let s = c.args.sym.now in
    passes_as p x c.in-Branch.is (passes_there p (Branch c.in-Branch.at c.in-Branch.truth) x s c.at_branch.result c.requires.ready.fits (c.at_branch.ensures p (λ v. (stand p v s).cells)))

pub at_switch-requires-clause-cases_in : goal.at_switch-requires-clause-cases_in
at_switch-requires-clause-cases_in c = (can_as (program_view c.args.program.now) (point_view c.args.point.now) c.in-Select.is c.requires.ready).event.cases_in

pub at_switch-requires-clause-many : goal.at_switch-requires-clause-many
at_switch-requires-clause-many c =
    let h = (can_as (program_view c.args.program.now) (point_view c.args.point.now) c.in-Select.is c.requires.ready).event in
    cases_many c.args.sym.now.net c.in-Select.cases.now c.in-Select.arms.now _ h.cases_are

pub at_switch-requires-clause-none_in : goal.at_switch-requires-clause-none_in
at_switch-requires-clause-none_in c = (can_as (program_view c.args.program.now) (point_view c.args.point.now) c.in-Select.is c.requires.ready).event.none_in

pub returns-in-Select : goal.returns-in-Select
returns-in-Select c =
    let p = program_view c.args.program.now in
    let x = point_view c.args.point.now in
    let s = c.args.sym.now in
    let h = (can_as p x c.in-Select.is c.requires.ready).event in
    passes_as p x c.in-Select.is (passes_there p (Select c.in-Select.spot c.in-Select.ty c.in-Select.value c.in-Select.arms c.in-Select.cases c.in-Select.none) x s c.at_switch.result c.requires.ready.fits
    (c.at_switch.ensures (λ v. typed p.model c.in-Select.ty v s.net c.in-Select.value.now.bits) h.cases_are h.none_is p (λ v. (stand p v s).cells)))
