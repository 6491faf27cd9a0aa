use Rattle.std.proofs.Common.{◌≡◌, Bool, false, ℕ, List, length, ap, ◌∙◌, Option}
use Rattle.check_rules.specs.declared.fault.CheckCode.TheVariants as code
use Rattle.check_rules.specs.declared.fault.Refusal.{Refusal}
use Rattle.check_rules.specs.Codes.{is_again}
use Rattle.check_rules.specs.First.{refusal}
use Rattle.check_rules.specs.Names.{entry, Object}
use Rattle.check_rules.specs.Noting.{noted}
use Rattle.check_elaborate.specs.Walks.{scope_at}
use Rattle.check_elaborate.proofs.parameters.note_parameter.Goals as goal

pub returns-clause-noted : goal.returns-clause-noted
returns-clause-noted c =
    let x = c.args.x.now in
    let s = scope_at c.args.walk.now in
    let again : c.is_again-again.result ≡ is_again s (entry x.name (Object (length s.objects) x.ty 0 false)) =
    c.is_again-again.ensures
    ∙ ap (λ (y : List ℕ). is_again s (entry y (Object c.args.number x.ty 0 false))) c.as_str.ensures
    ∙ ap (λ (n : ℕ). is_again s (entry x.name (Object n x.ty 0 false))) c.requires in
    c.noted-walk.ensures
    ∙ ap (λ (b : Option Refusal). noted b c.is_crowded-crowded.result (refusal code.Cells x.spot)) (c.noted-best.ensures ∙ ap (λ (b : Bool). noted c.args.walk.now.best b (refusal code.Again x.spot)) again)
    ∙ ap (λ (b : Bool). noted (noted c.args.walk.now.best (is_again s (entry x.name (Object (length s.objects) x.ty 0 false))) (refusal code.Again x.spot)) b (refusal code.Cells x.spot)) c.is_crowded-crowded.ensures
