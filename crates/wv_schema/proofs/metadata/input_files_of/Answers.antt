use Rattle.std.proofs.Common.{rules, codes, map}
use Rattle.wv_schema.specs.Judging.{row_fault}
use Rattle.wv_schema.specs.Values.{text_or_empty, list_at}
use Rattle.wv_schema.proofs.Chains.{texts_stop, given_texts}
use Rattle.wv_schema.proofs.metadata.input_files_of.Goals as goal

pub returns-in_err-items : goal.returns-in_err-items
unfolding row_fault list_at
returns-in_err-items c = search (rules, texts_stop)

pub returns : goal.returns
returns c =
    given_texts c.item_texts.result (λ ts. map text_or_empty ts) c.args.at.now (codes "input_files") _ c.args.pairs.now _
    c.in_ok-place.ensures c.in_ok-items.ensures.0 c.in_ok-items.ensures.1 (rw (← c.as_str.ensures.value) c.item_texts.ensures)
