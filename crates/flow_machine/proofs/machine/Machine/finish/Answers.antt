use Rattle.std.proofs.Common.{◌≡◌, ℕ, List, sym, ap, ◌∙◌, true, subst}
use Rattle.c_core.specs.Tree.{Program}
use Rattle.c_meaning.specs.declared.run.End.{End}
use Rattle.c_meaning.specs.declared.run.Draw.{Draw}
use Rattle.c_meaning.specs.declared.run.Run.{Run as GivenRun}
use Rattle.c_meaning.specs.Run as runs
use Rattle.flow_code.specs.Programs.{IsCodeOf}
use Rattle.flow_machine.specs.Runs.{Held}
use Rattle.flow_machine.specs.Views.{machine_of}
use Rattle.flow_machine.proofs.Advancing.{end_at, run_at_rest}
use Rattle.flow_machine.proofs.machine.Machine.finish.Goals as goal
use Rattle.flow_machine.proofs.machine.Machine.finish.Goals.{in-Some, in-None}

abbrev run_of : End → ℕ → List Draw → ℕ → GivenRun
run_of e n ds u = record { end = e; steps = n; draws = ds; unfixed = u }

pub returns : goal.returns
returns c =
    let m = c.self.inside in
    let end : c.match-ended.result ≡ end_at m.ended =
    elim c.match-ended.branch [ in-Some w ↦ w.result-is ∙ sym (ap end_at w.in-Some.is) | in-None w ↦ w.result-is ∙ sym (ap end_at w.in-None.is) ] in
    subst (λ (v : Held). (p : Program) → IsCodeOf p v.code → v.whole ≡ true → run_of c.match-ended.result m.taken c.from_vec.result m.run.unfixed ≡ runs.Run p v.choices v.sum) c.self.view_is
    (λ p h whole.
    let i = c.self.invariant.at_rest whole in
    ap (λ e. run_of e m.taken c.from_vec.result m.run.unfixed) end ∙ ap (λ ds. run_of (end_at m.ended) m.taken ds m.run.unfixed) c.from_vec.ensures
    ∙ sym (run_at_rest p m.code.now m.choices.now (c.code_is_simulated.ensures p m.code.now h) h.checked m.sum m.taken m.ended (machine_of m.control m.run i.told) i.rests))
