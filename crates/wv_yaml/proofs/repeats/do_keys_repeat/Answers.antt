use Rattle.std.proofs.Common.{◌≡◌, ◌||◌, ap, sym, ◌∙◌, Bool, Option, Some, is_some, true, false, refl, cond}
use Rattle.std.specs.BTreeMap.{get_by}
use Rattle.std.specs.Cmp.Lexicographic.{slice_cmp}
use Rattle.std.specs.Ordering.{nat_cmp}
use Rattle.std.specs.Prelude.{bytes_eq}
use Rattle.std.proofs.lemmas.Map.Text.{btree_map_updates_str}
use Rattle.wv_yaml.specs.Repeats.{has_key_of}
use Rattle.wv_yaml.proofs.RepeatSteps.{found_before, none_before, any_more}
use Rattle.wv_yaml.proofs.repeats.do_keys_repeat.Goals as goal

some_put : {A : Type 0} (b : Bool) (x : A) (o : Option A) → is_some (cond b (Some x) o) ≡ (b || is_some o)
some_put true x o = refl
some_put false x o = refl

pub returns-then-is_some : goal.returns-then-is_some
returns-then-is_some c =
    let p = c.pair-item.result in
    let seen : is_some (get_by (λ k. slice_cmp nat_cmp p.key k.now) c.loop-pair.seen) ≡ true =
    ap (λ q. is_some (get_by (λ k. slice_cmp nat_cmp q k.now) c.loop-pair.seen)) (sym c.as_str.ensures) ∙ ap is_some (sym c.in_ok-before.ensures.old) ∙ (sym c.is_some.ensures ∙ c.if-is_some.true) in
    ap Some (sym c.loop-pair.invariant.same ∙ found_before c.args.pairs.now c.loop-pair.pair-index p c.loop-pair-test.true c.pair-item.is (sym (c.loop-pair.invariant.seen p.key) ∙ seen))

pub loop-pair-preserved : goal.loop-pair-preserved
loop-pair-preserved c =
    let p = c.pair-item.result in
    let i = c.loop-pair.pair-index in
    let unseen : is_some (get_by (λ k. slice_cmp nat_cmp p.key k.now) c.loop-pair.seen) ≡ false =
    ap (λ q. is_some (get_by (λ k. slice_cmp nat_cmp q k.now) c.loop-pair.seen)) (sym c.as_str.ensures) ∙ ap is_some (sym c.in_ok-before.ensures.old) ∙ (sym c.is_some.ensures ∙ c.if-is_some.false) in
    record {
      seen = λ q. ap is_some (btree_map_updates_str c.as_str.result.now c.loop-pair.seen c.insert.new.self _ c.in_ok-before.ensures.updates q)
          ∙ some_put (bytes_eq c.as_str.result.now q) tt _ ∙ ap (λ xs. bytes_eq xs q || is_some (get_by (λ k. slice_cmp nat_cmp q k.now) c.loop-pair.seen)) c.as_str.ensures
          ∙ ap (λ b. bytes_eq p.key q || b) (c.loop-pair.invariant.seen q) ∙ sym (any_more (has_key_of q) c.args.pairs.now i p c.loop-pair-test.true c.pair-item.is);
      same = none_before c.args.pairs.now i p c.loop-pair-test.true c.pair-item.is (sym (c.loop-pair.invariant.seen p.key) ∙ unseen) ∙ c.loop-pair.invariant.same;
    }
