use Rattle.std.proofs.Common.{◌∙◌, ◌-◌, ◌++◌, ap, arith, take, length}
use Rattle.circuits.proofs.Converted.{cut_reads, stretch_reads}
use Rattle.circuits.proofs.Multiplied.{width_few}
use Rattle.circuits.proofs.Noted.{cut_counts, cut_noted}
use Rattle.circuits.proofs.conversions.resized.Goals as goal

pub note_cut-requires-clause-few : goal.note_cut-requires-clause-few
note_cut-requires-clause-few c = omega (arith, c.requires.a_in.wide, width_few c.args.model c.args.from)

pub note_cut-requires-clause-out_in : goal.note_cut-requires-clause-out_in
note_cut-requires-clause-out_in c =
    (cut_counts _ c.width-n.result c.requires.a_in (omega (arith, c.if-n-a.true)) c.deref.ensures.value c.truncate.ensures.items c.in_ok-low.ensures).inside

pub note_cut-requires-clause-wide : goal.note_cut-requires-clause-wide
note_cut-requires-clause-wide c =
    let n = (cut_counts _ c.width-n.result c.requires.a_in (omega (arith, c.if-n-a.true)) c.deref.ensures.value c.truncate.ensures.items c.in_ok-low.ensures).wide in
    omega (arith, n, c.if-n-a.true)

pub note_cut-requires-clause-is : goal.note_cut-requires-clause-is
note_cut-requires-clause-is c =
    cut_noted _ (cut_counts _ c.width-n.result c.requires.a_in (omega (arith, c.if-n-a.true)) c.deref.ensures.value c.truncate.ensures.items c.in_ok-low.ensures)

pub returns-then-n-a-clause-value : goal.returns-then-n-a-clause-value
returns-then-n-a-clause-value c = rw c.note_cut.ensures (cut_reads _ c.requires.a_in c.requires.other (omega (arith, c.width-n.ensures, c.if-n-a.true))
    (c.truncate.ensures.items ∙ ap (λ l. take c.width-n.result l) c.in_ok-low.ensures ∙ ap (λ k. take k c.args.a.now) c.width-n.ensures))

pub returns-clause-value : goal.returns-clause-value
returns-clause-value c = stretch_reads _ _ c.requires.a_in c.requires.other (omega (arith, c.width-n.ensures, c.if-n-a.false)) c.sign-top.ensures
    (ap (λ k. k - length c.args.a.now) c.width-n.ensures) c.in_ok-high.ensures (c.in_ok-out.ensures ∙ ap (λ l. c.args.a.now ++ l) c.deref-2.ensures.value)
