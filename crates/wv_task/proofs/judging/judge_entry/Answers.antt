use Rattle.std.proofs.Common.{◌≡◌, ◌&&◌, true, codes, refl, sym, ap, ◌∙◌}
use Rattle.std.specs.Prelude.{bytes_eq, is_some}
use Rattle.uuid.specs.Text.{parsed}
use Rattle.wv_task.specs.PropertyText.{specification_of}
use Rattle.wv_task.specs.Task.{names_one_file, spells, stated_hash, is_property, model_of}
use Rattle.wv_task.proofs.judging.judge_entry.Goals as goal

pub returns : goal.returns
returns c =
    let m = c.args.metadata.now in
    let one_file : names_one_file m.input_files m.input_hashes ≡ true = (cc) in
    let hash : spells c.args.digest.now (stated_hash m.input_hashes) ≡ true = (cc) in
    let property : is_property c.args.property (specification_of m.specification) ≡ true = (cc) in
    let language : bytes_eq m.language (codes "C") ≡ true = (cc) in
    let model : (is_some (model_of m.data_model) && bytes_eq m.data_model c.args.first_model.now) ≡ true = (cc) in
    let identifier : is_some (parsed m.uuid) ≡ true =
    sym (c.is_identifier.ensures ∙ ap (λ text. is_some (parsed text)) c.as_str-4.ensures) ∙ c.if-not-is_identifier.false in
    rw (one_file, hash, property, language, model, identifier) refl
