use Rattle.std.proofs.Common.{◌≡◌, ◌∙◌, ap, arith, length}
use Rattle.circuits.proofs.Nets.{wider, in_later, grown_until}
use Rattle.circuits.proofs.Carrying.{counts_same}
use Rattle.circuits.proofs.Noted.{chosen_operands, choice_noted, chosen_later}
use Rattle.circuits.proofs.bits.choose_bits.Goals as goal
use Rattle.circuits.proofs.bits.choose_bits.Goals.{then-not-drawn, else-not-drawn}

pub note_choice-requires-clause-test_in : goal.note_choice-requires-clause-test_in
note_choice-requires-clause-test_in c = in_later c.args.test c.in_ok-out.ensures.grown c.requires.test_in

pub note_choice-requires-clause-operands : goal.note_choice-requires-clause-operands
note_choice-requires-clause-operands c =
    chosen_operands c.in_ok-out.ensures.grown c.as_slice-x.ensures c.as_slice-y.ensures c.requires.yes_in c.requires.no_in c.requires.same c.requires.wide

pub note_choice-requires-clause-out_in : goal.note_choice-requires-clause-out_in
note_choice-requires-clause-out_in c = rw c.deref.ensures.value c.in_ok-out.ensures.value.inside

pub note_choice-requires-clause-wide : goal.note_choice-requires-clause-wide
note_choice-requires-clause-wide c = ap length c.deref.ensures.value ∙ c.in_ok-out.ensures.value.wide

pub note_choice-requires-clause-is : goal.note_choice-requires-clause-is
note_choice-requires-clause-is c =
    choice_noted _ c.in_ok-out.ensures.grown c.requires.test_in c.as_slice-x.ensures c.as_slice-y.ensures c.requires.yes_in c.requires.no_in
    (counts_same c.deref.ensures.value c.in_ok-out.ensures.value)

pub returns-in_err-out-clause-grown : goal.returns-in_err-out-clause-grown
returns-in_err-out-clause-grown c = wider c.in_err-out.ensures.grown (omega (arith, ap length c.as_slice-x.ensures))

-- a note adds no node
net_same : (c : goal.After-from_vec-bits) → c.if-not-drawn.net ≡ c.choose.new.net
net_same c = elim c.if-not-drawn.branch [
  | then-not-drawn w ↦ w.net-is ∙ w.note_choice.ensures
  | else-not-drawn w ↦ w.net-is
]

pub returns-clause-grown : goal.returns-clause-grown
returns-clause-grown c = grown_until (net_same c) (wider c.in_ok-out.ensures.grown (omega (arith, ap length c.as_slice-x.ensures)))

pub returns-clause-value : goal.returns-clause-value
returns-clause-value c = chosen_later _ _ (net_same c) c.from_vec-bits.ensures c.as_slice-x.ensures c.as_slice-y.ensures c.in_ok-out.ensures.value
