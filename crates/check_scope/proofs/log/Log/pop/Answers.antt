use Rattle.std.proofs.Common.{◌≡◌, [], ◌∷◌, ◌++◌, OnOk, OnErr, Ok, Err, Result, Some, None, sym, ap, ◌∙◌, subst}
use Rattle.std.proofs.lemmas.Map.Text.{btree_map_updates_str}
use Rattle.check_scope.specs.Lines.{befores, hidden, past_in, past_of}
use Rattle.check_scope.proofs.LogLaws.{last_keeps, front_keeps, taken_back, is_there}
use Rattle.check_scope.proofs.log.Log.pop.Goals as goal

must_be_ok : {A B : Type 0} (r : Result A B) (P Q : Type 0) → OnOk r P → OnErr r Q → (Q → ⊥) → P
must_be_ok (Ok x) P Q p q n = p
must_be_ok (Err x) P Q p q n = absurd (n q)

pub invariant_of-self : goal.invariant_of-self
invariant_of-self c =
    let ls = c.pop.new.self.items in
    let l = c.in-Some.last in
    let was : c.args.self.now.lines.items ≡ ls ++ l ∷ [] = c.in-Some.ensures.items in
    let keeps : befores (ls ++ l ∷ []) ≡ hidden [] (ls ++ l ∷ []) = subst (λ r. befores r ≡ hidden [] r) was c.args.self.now.keeps in
    record {
      indexed = λ q. taken_back ls l q None (past_in c.remove.new.self q) (past_in c.args.self.now.index q)
          (c.args.self.now.indexed q ∙ ap (λ r. past_of r q) was)
          (btree_map_updates_str l.name.now c.args.self.now.index c.remove.new.self None c.remove.ensures.updates q) (sym c.in-None.is ∙ last_keeps ls l keeps);
      keeps = front_keeps ls l keeps;
    }

pub invariant_of-self-in-Some-before : goal.invariant_of-self-in-Some-before
invariant_of-self-in-Some-before c =
    let ls = c.pop.new.self.items in
    let l = c.in-Some.last in
    let was : c.args.self.now.lines.items ≡ ls ++ l ∷ [] = c.in-Some.ensures.items in
    let keeps : befores (ls ++ l ∷ []) ≡ hidden [] (ls ++ l ∷ []) = subst (λ r. befores r ≡ hidden [] r) was c.args.self.now.keeps in
    let put = must_be_ok c.insert.result _ _ c.insert.ensures.updates c.insert.ensures.absent
    (λ none. is_there ls l (sym (c.args.self.now.indexed l.name.now ∙ ap (λ r. past_of r l.name.now) was) ∙ none)) in
    record {
      indexed = λ q. taken_back ls l q (Some c.in-Some-before.before) (past_in c.insert.new.self q) (past_in c.args.self.now.index q)
          (c.args.self.now.indexed q ∙ ap (λ r. past_of r q) was)
          (btree_map_updates_str l.name.now c.args.self.now.index c.insert.new.self _ put q) (sym c.in-Some-before.is ∙ last_keeps ls l keeps);
      keeps = front_keeps ls l keeps;
    }
