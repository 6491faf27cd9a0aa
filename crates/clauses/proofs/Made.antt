-- The promises of the clauses of a bit.
use Rattle.std.proofs.Common.{◌≡◌, ℕ, ◌+◌, ◌^◌, ◌<◌, Bool, true, ◌&&◌, List, [], ◌∷◌, ◌++◌, length, ℤ, get_or, to_z, of_z, w32, sym, ◌∙◌, ap, subst, arith, length-append}
use Rattle.std.specs.List.{Contains}
use Rattle.std.proofs.lemmas.List.{get_or_default}
use Rattle.std.proofs.lemmas.List.Elements.{Contains-append_left}
use Rattle.circuits.specs.declared.net.Bit.{Bit}
use Rattle.circuits.specs.declared.net.NetNode.{NetNode}
use Rattle.circuits.specs.Net.{holds, count_inputs, IsNet}
use Rattle.clauses.specs.Assignment.{all_hold}
use Rattle.clauses.specs.Within.{AreOf}
use Rattle.clauses.specs.Marks.{Numbered}
use Rattle.clauses.specs.Tseitin.{Flags, ClausesOf, Describes, Fulfils, Propagates, number_of, literal, clauses_below, ands_below, inputs_in}
use Rattle.clauses.proofs.Variables.{named}
use Rattle.clauses.proofs.Truth.{both_hold, all_hold-append, Agree, literal_is, flagged_named, settled, fulfilled, last_holds, last_only, value_in, assigned, inputs_kept}
use Rattle.clauses.proofs.Propagated.{propagated}
use Rattle.clauses.proofs.Reached.{flags_closed, root_flagged}
use Rattle.clauses.proofs.Pushed.{literal_passed}
use Rattle.clauses.proofs.Listed.{clauses_few, clauses_over, last_over, literal_over}

-- the last clause after those of the nodes
both_made : (v x : ℕ → Bool) (flags : List Bool) (net : List NetNode) (b : Bit) → IsNet net → b.node < length net → Flags net b flags → Agree v x flags net (length net) → holds x net b ≡ true
    → all_hold v (clauses_below flags net (length net) ++ (literal flags net b ∷ []) ∷ []) ≡ true
both_made v x flags net b h lt f agree e =
    all_hold-append v (clauses_below flags net (length net)) ((literal flags net b ∷ []) ∷ [])
    ∙ ap (λ t. t && all_hold v ((literal flags net b ∷ []) ∷ [])) (fulfilled v x flags net h (flags_closed h f) agree (length net) (omega arith))
    ∙ last_holds v (literal flags net b) (literal_is v x flags net h b lt (agree b.node lt (flagged_named flags net b.node lt (root_flagged lt f))) ∙ e)

pub describes : {net : List NetNode} {b : Bit} {n : ℕ} {clauses : List (List ℤ)} → IsNet net → b.node < length net → ClausesOf net b n clauses → Describes net b n clauses
describes {net} {b} {n} {clauses} h lt c =
    let flags = c.flags in
    let closed = flags_closed h c.reached in
    record {
      flags = c.flags;
      onto = λ m p le. let k = named flags net h m p (omega (arith, c.counted)) in (k.at, k.named, k.is);
      is = λ v. (
        (λ e.
            let both = both_hold (all_hold v (clauses_below flags net (length net))) (all_hold v ((literal flags net b ∷ []) ∷ [])) (sym (all_hold-append v (clauses_below flags net (length net)) ((literal flags net b ∷ []) ∷ [])) ∙ ap (all_hold v) (sym c.listed) ∙ e) in
            let agree = settled v flags net h closed both.0 (length net) in (
              (λ at i. agree at i.0 i),
              sym (literal_is v (inputs_in v) flags net h b lt (agree b.node lt (flagged_named flags net b.node lt (root_flagged lt c.reached)))) ∙ last_only v (literal flags net b) both.1,
            )),
        (λ p. ap (all_hold v) c.listed ∙ both_made v (inputs_in v) flags net b h lt c.reached (λ at l i. p.0 at i) p.1),
      );
    }

pub fulfils : {net : List NetNode} {b : Bit} {n : ℕ} {clauses : List (List ℤ)} → IsNet net → b.node < length net → ClausesOf net b n clauses → Fulfils net b clauses
fulfils {net} {b} {n} {clauses} h lt c x e =
    let flags = c.flags in (
      value_in x flags net (length net),
      (λ k l. inputs_kept x flags net h (length net) (omega arith) k l),
      ap (all_hold (value_in x flags net (length net))) c.listed ∙ both_made (value_in x flags net (length net)) x flags net b h lt c.reached (assigned x flags net h (length net) (omega arith)) e,
    )

pub propagates : {net : List NetNode} {b : Bit} {n : ℕ} {clauses : List (List ℤ)} → IsNet net → ClausesOf net b n clauses → Propagates net n clauses
propagates {net} {b} {n} {clauses} h c x m p le =
    let flags = c.flags in
    propagated clauses x flags net h (flags_closed h c.reached)
    (λ d i. subst (λ (z : List (List ℤ)). Contains z d) (sym c.listed) (Contains-append_left (clauses_below flags net (length net)) ((literal flags net b ∷ []) ∷ []) d i))
    m (named flags net h m p (omega (arith, c.counted)))

pub few : {net : List NetNode} {b : Bit} {n : ℕ} {clauses : List (List ℤ)} → length net < 2 ^ 28 → ClausesOf net b n clauses → length clauses < 2 ^ 30
few {net} {b} {n} {clauses} s c =
    omega (arith, ap length c.listed, length-append (clauses_below c.flags net (length net)) ((literal c.flags net b ∷ []) ∷ []), clauses_few c.flags net (length net))

pub within : {net : List NetNode} {b : Bit} {n : ℕ} {clauses : List (List ℤ)} → IsNet net → b.node < length net → ClausesOf net b n clauses → AreOf n clauses
within {net} {b} {n} {clauses} h lt c =
    rw (c.listed, c.counted) (last_over (count_inputs net + 1 + ands_below c.flags net (length net)) (literal c.flags net b) (literal_over c.flags net h b.node lt b.negated) (clauses_below c.flags net (length net)) (clauses_over c.flags net h (length net) (omega arith)))

pub numbered_by : {net : List NetNode} {flags fs : List Bool} {numbers : List ℕ} {n : ℕ} → fs ≡ flags → Numbered fs net numbers (length net) n → Numbered flags net numbers (length net) n
numbered_by {net} {flags} {fs} {numbers} {n} e k = subst (λ (l : List Bool). Numbered l net numbers (length net) n) e k

-- a variable that was read
pub number_read : {k : ℕ} (numbers : List ℕ) (at : ℕ) → k ≡ get_or numbers at k → at < length numbers → k ≡ get_or numbers at 0
number_read {k} numbers at e lt = e ∙ get_or_default numbers at k 0 lt

pub clauses_of : {net : List NetNode} {b : Bit} {flags gs : List Bool} {numbers : List ℕ} {n k : ℕ} {xs ys : List (List ℤ)} {last : List ℤ} {z : ℤ} → IsNet net → length net < 2 ^ 28 → b.node < length net → Flags net b flags
    → Numbered flags net numbers (length net) n → gs ≡ flags → xs ≡ clauses_below gs net (length net) → ys ≡ xs ++ last ∷ [] → last ≡ to_z w32 (of_z w32 z) ∷ [] → z ≡ number_of b.negated k → k ≡ get_or numbers b.node k → ClausesOf net b n ys
clauses_of {net} {b} {flags} {gs} {numbers} {n} {k} {xs} {ys} {last} {z} h s lt f m eg ex ey el ez ek = record {
  flags = flags;
  reached = f;
  counted = m.counted;
  listed =
      ey ∙ ap (λ l. l ++ last ∷ []) (ex ∙ ap (λ l. clauses_below l net (length net)) eg)
      ∙ ap (λ i. clauses_below flags net (length net) ++ i ∷ []) (el ∙ ap (λ i. i ∷ []) (literal_passed flags net h s m.each b.node lt b.negated k (number_read numbers b.node ek (omega (arith, m.each.many))) ez));
}
