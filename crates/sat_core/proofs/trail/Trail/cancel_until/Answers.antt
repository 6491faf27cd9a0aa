use Rattle.std.proofs.Common.{vec_len, rules, ◌≡◌, sym, subst, arith, length, ◌<◌, ◌+◌}
use Rattle.sat_core.specs.declared.trail.Trail.{Trail}
use Rattle.sat_core.specs.Values.{IsCut}
use Rattle.sat_core.proofs.Table.{cut_pop, cut_bound}
use Rattle.sat_core.proofs.trail.Trail.cancel_until.Goals as goal
use Rattle.sat_core.proofs.trail.Trail.cancel_until.Goals.{in-Some, in_default}

pub index_mut-requires : goal.index_mut-requires
index_mut-requires c =
    let k : vec_len c.loop.self.values ≡ length c.loop.self.values.items = search rules in
    rw k (cut_bound c.args.self.now.entries.items (length c.args.self.now.values.items) c.args.kept c.loop.counter c.loop.self.values.items c.loop.self.entries.items c.pop.new.self.items c.in-Some.last c.in-Some.ensures.items c.requires.bounded c.loop.invariant)

pub loop-preserved : goal.loop-preserved
loop-preserved c =
    let all = c.args.self.now.entries.items in
    let size = length c.args.self.now.values.items in
    elim c.match-pop.branch [
      | in-Some w ↦ subst (λ (s : Trail). IsCut all size c.args.kept (c.loop.counter + 1) s.values.items s.entries.items) (sym w.self-is)
          (cut_pop all size c.args.kept c.loop.counter c.loop.self.values.items c.loop.self.entries.items c.pop.new.self.items w.in-Some.last w.in-Some.ensures.items c.requires.bounded c.requires.once c.loop.invariant)
      | in_default w ↦
          let none : vec_len c.loop.self.entries ≡ 0 = w.in_default.ensures.cases.0 in
          let k : vec_len c.loop.self.entries ≡ length c.loop.self.entries.items = search rules in
          let m : c.len-end.result ≡ length all = search rules in
          let j : length c.loop.self.entries.items + c.loop.counter ≡ length all + c.args.kept = c.loop.invariant.long in
          let lt : c.loop.counter < c.len-end.result = c.loop-test.true in
          absurd (omega arith)
    ]
