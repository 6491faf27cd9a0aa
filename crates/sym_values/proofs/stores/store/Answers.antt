use Rattle.std.proofs.Common.{refl}
use Rattle.c_core.specs.View.{program_view}
use Rattle.c_meaning.specs.Objects.{type_of_object}
use Rattle.sym_state.specs.Places.{key}
use Rattle.sym_values.proofs.Storing.{store_gives}
use Rattle.sym_values.proofs.stores.store.Goals as goal

pub returns : goal.returns
returns c W =
    store_gives (program_view c.args.program.now) W c.args.sym.now c.convert.new.sym c.write.new.sym (key c.args.object 0) c.args.from c.args.to (type_of_object (program_view c.args.program.now) c.args.object)
    c.args.value.now.bits c.in_ok-bits.bits.bits c.requires.typed c.in_ok-bits.ensures refl c.in_ok-write.ensures
