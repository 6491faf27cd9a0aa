use Rattle.std.proofs.Common.{refl}
use Rattle.std.proofs.lemmas.List.{drop_all}
use Rattle.flow_code.specs.Programs.{sizes_of}
use Rattle.flow_code.proofs.Gluing.{next_item}
use Rattle.flow_code.proofs.Listing.{listed_on, listed_done}
use Rattle.flow_code.proofs.statics.cell_counts.Goals as goal

pub loop-object-preserved : goal.loop-object-preserved
loop-object-preserved c =
    let xs = c.args.program.now.objects in
    let i = c.loop-object.object-index in
    let x = c.object-item.result in
    let lt = rw c.as_slice-object-items.ensures at c.loop-object-test.true in
    let is = rw c.as_slice-object-items.ensures at c.object-item.is in
    listed_on xs i x x.cells c.loop-object.found c.push.new.self _ sizes_of (next_item xs i x lt is) refl c.loop-object.invariant c.in_ok-push.ensures.ok

pub returns : goal.returns
returns c =
    let le = rw c.as_slice-object-items.ensures at c.loop-object-test.false in
    listed_done c.args.program.now.objects c.loop-object.object-index c.loop-object.found _ sizes_of (drop_all c.loop-object.object-index c.args.program.now.objects le) refl c.loop-object.invariant
