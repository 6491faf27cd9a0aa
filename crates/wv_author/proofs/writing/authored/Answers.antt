use Rattle.std.proofs.Common.{ap, ◌∙◌}
use Rattle.wv_schema.specs.declared.witness.Content.TheVariants.{Violation}
use Rattle.wv_author.specs.Witnesses.{witness_about}
use Rattle.wv_author.proofs.Written.{authored_text, authored_writable}
use Rattle.wv_author.proofs.writing.authored.Goals as goal

pub returns-clause-text : goal.returns-clause-text
returns-clause-text c = λ short.
    authored_text c.in_ok-witness.witness c.args.program.now c.args.file.now c.args.segments c.args.property c.args.model c.args.uuid.now c.args.time.now
    (c.in_ok-witness.ensures ∙ ap (λ d. witness_about d c.args.program.now (Violation c.args.segments)) c.in_ok-details.ensures) short

pub returns-clause-writable : goal.returns-clause-writable
returns-clause-writable c = λ short are.
    authored_writable c.in_ok-witness.witness c.args.program.now c.args.file.now c.args.segments c.args.property c.args.model c.args.uuid.now c.args.time.now
    (c.in_ok-witness.ensures ∙ ap (λ d. witness_about d c.args.program.now (Violation c.args.segments)) c.in_ok-details.ensures) short are
