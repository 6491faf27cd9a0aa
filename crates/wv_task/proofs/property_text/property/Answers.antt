use Rattle.std.proofs.Common.{refl, sym, ◌∙◌}
use Rattle.wv_task.proofs.property_text.property.Goals as goal

pub returns-then-reads_as : goal.returns-then-reads_as
returns-then-reads_as c = let e = sym c.reads_as.ensures ∙ c.if-reads_as.true in rw e refl

pub returns-then-reads_as-2 : goal.returns-then-reads_as-2
returns-then-reads_as-2 c =
    let e = sym c.reads_as.ensures ∙ c.if-reads_as.false in
    let f = sym c.reads_as-else-reads_as.ensures ∙ c.if-reads_as-2.true in
    rw (e, f) refl

pub returns-else-reads_as-2 : goal.returns-else-reads_as-2
returns-else-reads_as-2 c =
    let e = sym c.reads_as.ensures ∙ c.if-reads_as.false in
    let f = sym c.reads_as-else-reads_as.ensures ∙ c.if-reads_as-2.false in
    rw (e, f) refl
