use Rattle.std.proofs.Common.{◌≡◌, sym, subst, [], Option, None, replicate, ℕ, rules}
use Rattle.c_meaning.specs.Slots.{IsPlaced}
use Rattle.c_meaning.proofs.Layouts.{placed_none}
use Rattle.c_meaning.proofs.layout.places.Goals as goal

pub returns : goal.returns
returns c =
    let e : c.resize.new.self.items ≡ replicate {A = Option ℕ} c.count.result None = search rules in
    subst (IsPlaced c.args.starts.now []) (sym e) (placed_none c.args.starts.now c.count.result c.requires c.count.ensures)
