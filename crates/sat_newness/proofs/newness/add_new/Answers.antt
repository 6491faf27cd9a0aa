use Rattle.std.proofs.Common.{◌≡◌, [], ◌∷◌, ◌++◌, length, take, drop, List, sym, ◌∙◌, refl, ap, arith}
use Rattle.std.proofs.Math.Seq.{take-append_seam}
use Rattle.sat_newness.specs.declared.pairs.Pair.{Pair}
use Rattle.sat_newness.proofs.Longer.{longer}
use Rattle.sat_newness.proofs.newness.add_new.Goals as goal

pub returns : goal.returns
returns c = λ _.
    let none : Pair = record { one = 0; other = 0 } in
    let pairs = c.is_new.new.pairs in
    let before = c.args.pairs.now in
    let behind = drop (length pairs) before.items in
    let many : length pairs ≡ before.len = omega (arith, c.is_new.auto.pairs, ap length c.deref_mut.ensures.value, before.ok) in
    let same : take before.len (pairs ++ behind) ≡ pairs = ap (λ n. take n (pairs ++ behind)) (sym many) ∙ take-append_seam pairs behind in
    let whole : c.push.new.self.items ≡ pairs ++ none ∷ [] = c.in_ok-push.ensures.items ∙ ap (λ (ps : List Pair). ps ++ none ∷ []) same in
    longer c.args.clauses.now c.args.chains.now c.push-2.new.self c.args.chain pairs c.push.new.self.items none refl
    (omega (arith, many, before.ok, c.requires.many)) c.is_new.ensures.held (c.if-not-is_new.ensures.next refl c.requires.fresh) c.in_ok-push-2.ensures.ok whole
