use Rattle.std.proofs.Common.{◌≡◌, ◌++◌, Err, None, [], map, rules, sym, ap, ◌∙◌}
use Rattle.c_core.specs.View.{program_view}
use Rattle.c_meaning.specs.Run.{Run, Moments}
use Rattle.c_meaning.specs.Watching.{seen_after}
use Rattle.c_meaning.specs.declared.run.Choices.TheVariants.{InTurn}
use Rattle.wv_author.specs.Authored.{first_free}
use Rattle.wv_author.specs.inside.Recording.{Recorded, after_event, fixed_by, is_violated, segment_of}
use Rattle.wv_author.proofs.AuthoredRuns.{authored, refused}
use Rattle.wv_author.proofs.authoring.author.Goals as goal

pub returns-in_err-fixes : goal.returns-in_err-fixes
returns-in_err-fixes c =
    let e : c.from_residual-in_err-fixes.result ≡ Err c.in_err-fixes.field-0.0 = search rules in
    let p = program_view c.args.program.now in
    let r = c.in_ok-run.run' in
    let taken = c.in_ok-choices.ensures ∙ ap InTurn c.as_slice.ensures in
    let ran = c.in_ok-run.ensures.run ∙ ap (λ choices. Run p choices c.args.steps) taken in
    let why = sym (c.in_err-fixes.ensures ∙ ap (λ ds. fixed_by (is_violated r.end) r.end (first_free ds)) c.as_slice-2.ensures) in
    rw e (refused p c.args.file.now c.args.values.now c.args.steps r c.in_err-fixes.field-0.0 ran why)

pub returns : goal.returns
returns c =
    let p = program_view c.args.program.now in
    let program = c.in_ok-new.field-0 in
    let r = c.in_ok-run.run' in
    let file = c.args.file.now in
    let watcher = c.run_machine.new.watcher in
    let kept : Recorded = record { program = watcher.places; returned = watcher.returned.items; statement = watcher.statement } in
    let taken = c.in_ok-choices.ensures ∙ ap InTurn c.as_slice.ensures in
    let ran = c.in_ok-run.ensures.run ∙ ap (λ choices. Run p choices c.args.steps) taken in
    let fixed = sym (c.in_ok-fixes.ensures ∙ ap (λ ds. fixed_by (is_violated r.end) r.end (first_free ds)) c.as_slice-2.ensures) in
    let seen = c.in_ok-run.ensures.seen
    ∙ ap (λ l. seen_after after_event (record { program = program; returned = l; statement = None }) (Moments p c.in_ok-choices.choices c.args.steps)) c.new-2.ensures.items
    ∙ ap (λ choices. seen_after after_event (record { program = program; returned = []; statement = None }) (Moments p choices c.args.steps)) taken in
    let parts = c.in_ok-push_returns.ensures ∙ ap (λ l. l ++ map (segment_of file) c.as_slice-3.result.now) c.new-segments.ensures
    ∙ ap (map (segment_of file)) c.as_slice-3.ensures.value in
    authored p file c.args.values.now c.args.steps program r _ kept c.push_returns.new.segments c.push_violating.new.segments (ap program_view c.in_ok-new.ensures) ran fixed seen parts
    c.in_ok-push_violating.ensures
