use Rattle.std.proofs.Common.{Err}
use Rattle.yaml_scalars.specs.declared.fault.YamlFault.TheVariants.{Bytes}
use Rattle.wv_yaml.specs.Document.{is_allowed, tree_of}
use Rattle.wv_yaml.specs.Reading.{IsReading}
use Rattle.wv_yaml.proofs.ReadSteps.{reads_text, no_text}
use Rattle.wv_yaml.proofs.BlockFits.{read_collection, read_fits}
use Rattle.wv_yaml.proofs.SpelledLaws.{answer_of}
use Rattle.wv_yaml.proofs.reading.read.Goals as goal

pub returns-in-Ok : goal.returns-in-Ok
returns-in-Ok c =
    let computed : IsReading (is_allowed c.args.bytes.now) (tree_of c.args.bytes.now) c.read_text.result =
    reads_text c.args.bytes.now c.in-Ok.text.now c.read_text.result c.in-Ok.ensures.cases.0 c.in-Ok.ensures.cases.1 c.read_text.ensures in
    record {
      answer = answer_of c.args.bytes.now c.read_text.result computed;
      computed = computed;
      collection = read_collection (is_allowed c.args.bytes.now) c.args.bytes.now c.read_text.result computed;
      fits = read_fits (is_allowed c.args.bytes.now) c.args.bytes.now c.read_text.result computed;
    }

pub returns-in-Err-clause-answer : goal.returns-in-Err-clause-answer
returns-in-Err-clause-answer c = answer_of c.args.bytes.now (Err Bytes) (no_text c.args.bytes.now c.in-Err.ensures.cases.0)

pub returns-in-Err-clause-computed : goal.returns-in-Err-clause-computed
returns-in-Err-clause-computed c = no_text c.args.bytes.now c.in-Err.ensures.cases.0
