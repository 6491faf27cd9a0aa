use Rattle.std.proofs.Common.{rules, codes, map}
use Rattle.wv_schema.specs.Judging.{row_fault}
use Rattle.wv_schema.specs.Values.{hash_in, map_at}
use Rattle.wv_schema.proofs.Chains.{text_map_stop, given_text_map}
use Rattle.wv_schema.proofs.metadata.input_hashes_of.Goals as goal

pub returns-in_err-inside : goal.returns-in_err-inside
unfolding row_fault map_at
returns-in_err-inside c = search (rules, text_map_stop)

pub returns : goal.returns
returns c =
    given_text_map c.hashes_of.result (λ qs. map hash_in qs) c.args.at.now (codes "input_file_hashes") _ c.args.pairs.now _
    c.in_ok-place.ensures c.in_ok-inside.ensures.there (rw (← c.as_str.ensures.value) c.hashes_of.ensures)
