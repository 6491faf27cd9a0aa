use Rattle.std.proofs.Common.{◌≡◌, ◌≤◌, ◌+◌, ◌∙◌, ℕ, List, length, take, drop, sym, ap, subst, arith, rules, refl, add-zero, Some}
use Rattle.c_tokens.specs.declared.place.Place.{Place}
use Rattle.c_tokens.specs.Reading.{Leads, NoLead, past, start}
use Rattle.c_tokens.specs.Scan.{LeadSteps}
use Rattle.c_tokens.proofs.LeadLaws.{lead_on, step_takes, left_behind}
use Rattle.c_tokens.proofs.Closes.{rest_whole}
use Rattle.c_tokens.proofs.leading.lead.Goals as goal

pub returns-in_default-clause-leads : goal.returns-in_default-clause-leads
returns-in_default-clause-leads c =
    subst (λ n. Leads start c.args.bytes.now n c.loop-passed.place c.loop-passed.rest.now) (add-zero c.loop-passed.parens)
    (c.loop-passed.invariant.0 0 c.loop-passed.place c.loop-passed.rest.now NoLead)

pub returns-clause-leads : goal.returns-clause-leads
returns-clause-leads c =
    subst (λ n. Leads start c.args.bytes.now n c.loop-passed.place c.loop-passed.rest.now) (add-zero c.loop-passed.parens)
    (c.loop-passed.invariant.0 0 c.loop-passed.place c.loop-passed.rest.now NoLead)

pub loop-passed-preserved : goal.loop-passed-preserved
loop-passed-preserved c =
    let rest = c.loop-passed.rest.now in
    let n = c.in-Some.length in
    let m = c.in-Some.more in
    let step : LeadSteps rest (Some (n, m)) = search rules in
    let takes = step_takes rest n m step in
    let some = takes.0 in
    let within = takes.1 in
    let few = takes.2 in
    let counted = c.loop-passed.invariant.1 in
    let whole = c.loop-passed.invariant.2 in (
      λ k there end d.
          let behind = rw (c.place_past-place.ensures, rest_whole rest n) at d in
          let grown : c.loop-passed.parens + (m + k) ≡ c.loop-passed.parens + m + k = omega arith in
          subst (λ x. Leads start c.args.bytes.now x there end) grown
          (c.loop-passed.invariant.0 (m + k) there end (lead_on c.loop-passed.place rest n m k (m + k) there end step refl behind)),
      omega (arith, few, counted),
      left_behind rest n c.loop-passed._passed (length c.args.bytes.now) some within whole,
    )
