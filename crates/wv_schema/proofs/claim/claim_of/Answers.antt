use Rattle.std.proofs.Common.{codes}
use Rattle.wv_schema.specs.Table.{in_map, invariant_fields}
use Rattle.wv_schema.specs.Values.{map_at, invariant_in, claim_in}
use Rattle.wv_schema.specs.Schema.{claim_fault}
use Rattle.wv_schema.proofs.Chains.{given_pairs, no_pairs}
use Rattle.wv_schema.proofs.claim.claim_of.Goals as goal

pub returns-in-None : goal.returns-in-None
unfolding claim_fault
returns-in-None c = no_pairs _ c.args.at.now c.args.item.now (λ ps. in_map (codes "invariant") invariant_fields) c.in-None.ensures c.wrong_kind.ensures

pub returns-in-Some : goal.returns-in-Some
unfolding claim_fault claim_in
returns-in-Some c =
    given_pairs c.invariant_of.result c.args.at.now c.args.item.now _ (λ ps. in_map (codes "invariant") invariant_fields)
    (λ qs. invariant_in (map_at (codes "invariant") qs)) c.in-Some.ensures c.invariant_of.ensures
