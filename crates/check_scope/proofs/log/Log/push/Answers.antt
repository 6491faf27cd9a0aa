use Rattle.std.proofs.Common.{rules, ◌≡◌, [], ◌∷◌, ◌++◌, length, take, cond, Some, sym, ap, ◌∙◌, subst}
use Rattle.std.specs.BTreeMap.{is_at}
use Rattle.std.specs.Map.{lookup}
use Rattle.std.specs.Ordering.{nat_cmp}
use Rattle.std.specs.Cmp.Lexicographic.{slice_cmp}
use Rattle.std.specs.Str.{bytes_eq}
use Rattle.std.proofs.Math.Seq.{take-append_seam}
use Rattle.std.proofs.lemmas.Map.Text.{btree_map_updates_str}
use Rattle.check_scope.specs.declared.line.Line.{Line}
use Rattle.check_scope.specs.Pasts.{with_known}
use Rattle.check_scope.specs.Lines.{befores, hidden, past_in, past_of}
use Rattle.check_scope.proofs.LogLaws.{indexed_push, keeps_push}
use Rattle.check_scope.proofs.log.Log.push.Goals as goal

pub invariant_of-self-in-Ok : goal.invariant_of-self-in-Ok
invariant_of-self-in-Ok c =
    let ls = c.args.self.now.lines.items in
    let index = c.args.self.now.index in
    let x = c.args.name.now in
    let l : Line = record { name = c.args.name; known = c.args.known; before = c.past-before.result } in
    let pushed : c.push.new.self.items ≡ ls ++ l ∷ [] = search rules in
    let past : c.with_known-past.result ≡ with_known (length ls) (past_of ls x) c.args.known =
    c.with_known-past.ensures ∙ ap (λ n. with_known n c.past-before.result c.args.known) c.len-len.ensures ∙ ap (λ o. with_known (length ls) o c.args.known) c.past-before.ensures in
    record {
      indexed = λ q. subst (λ r. past_in c.insert.new.self q ≡ past_of r q) (sym pushed)
          (indexed_push ls l q (past_in c.insert.new.self q)
          (btree_map_updates_str x index c.insert.new.self _ c.in-Ok.ensures.updates q
          ∙ ap (λ p. cond (bytes_eq x q) (Some p) (past_in index q)) past ∙ ap (cond (bytes_eq x q) (Some (with_known (length ls) (past_of ls x) c.args.known))) (c.args.self.now.indexed q)));
      keeps = subst (λ r. befores r ≡ hidden [] r) (sym pushed) (keeps_push ls l c.args.self.now.keeps c.past-before.ensures);
    }

pub invariant_of-self-in-Err : goal.invariant_of-self-in-Err
invariant_of-self-in-Err c =
    let ls = c.args.self.now.lines.items in
    let l : Line = record { name = c.args.name; known = c.args.known; before = c.past-before.result } in
    let pushed : c.push.new.self.items ≡ ls ++ l ∷ [] = search rules in
    let cut : c.truncate.new.self.items ≡ ls =
    c.truncate.ensures.items ∙ ap (take c.len-len.result) pushed ∙ ap (λ n. take n (ls ++ l ∷ [])) c.len-len.ensures ∙ take-append_seam ls (l ∷ []) in
    record {
      indexed = λ q. ap (λ es. lookup (is_at (λ k. slice_cmp nat_cmp q k.now)) es) c.in-Err.ensures.err ∙ c.args.self.now.indexed q ∙ ap (λ r. past_of r q) (sym cut);
      keeps = subst (λ r. befores r ≡ hidden [] r) (sym cut) c.args.self.now.keeps;
    }
