use Rattle.std.proofs.Common.{◌≡◌, ◌∙◌, ap, not, rules}
use Rattle.way_names.specs.Versions.{half_of}
use Rattle.way_names.proofs.NodeLaws.{put_read}
use Rattle.way_names.proofs.versions.+put.Goals as goal

pub returns : goal.returns
returns t c =
    let odd = c.is_odd-odd.result in
    let more : c.args.bits ≡ 0 → ⊥ = search rules in
    put_read c.args.nodes.now.items c.put.new.nodes.items c.push_node.new.nodes.items c.args.bits c.args.at c.args.key c.args.object odd c.half_of-before.result c.half_of-other.result c.in_ok-inner.inner
    c.in_ok-number.number c.node_of.result more c.requires.stands c.is_odd-odd.ensures
    (c.half_of-before.ensures ∙ ap (λ l. half_of l odd c.args.at) c.as_slice.ensures.value)
    (c.half_of-other.ensures ∙ ap (λ l. half_of l (not odd) c.args.at) c.as_slice-2.ensures.value)
    c.in_ok-inner.ensures c.node_of.ensures c.in_ok-number.ensures.pushed c.in_ok-number.ensures.number
