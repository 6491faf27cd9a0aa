-- What leads a text.
use Rattle.std.proofs.lemmas.List.{length-drop}
use Rattle.c_tokens.proofs.Closes.{rest_whole}
use Rattle.std.proofs.Common.{◌≡◌, ◌≤◌, ◌+◌, ◌-◌, ℕ, zero, suc, List, [], ◌∷◌, length, take, drop, Some, sym, ap, subst, arith}
use Rattle.c_tokens.specs.declared.place.Place.{Place}
use Rattle.c_tokens.specs.Reading.{past, paren_open, Leads, GapLeads, ParenLeads}
use Rattle.c_tokens.specs.Scan.{LeadSteps}

front_same : (b c : ℕ) (s t : List ℕ) → b ∷ s ≡ c ∷ t → b ≡ c
front_same b c s t e = cc

paren_on : (at : Place) (text : List ℕ) (n k : ℕ) (there : Place) (rest : List ℕ) → n ≡ 1 → text ≡ paren_open ∷ drop 1 text →
    Leads (past at (take n text)) (drop n text) k there rest → Leads at text (suc k) there rest
paren_on at [] n k there rest one e d = absurd (cc)
paren_on at (b ∷ text) n k there rest one e d =
    let same = front_same b paren_open text text e in
    let here = subst (λ m. Leads (past at (take m (b ∷ text))) (drop m (b ∷ text)) k there rest) one d in
    let behind : Leads (past at (paren_open ∷ [])) text k there rest = subst (λ c. Leads (past at (c ∷ [])) text k there rest) same here in
    subst (λ c. Leads at (c ∷ text) (suc k) there rest) (sym same) (ParenLeads behind)

-- one more gap or parenthesis
pub lead_on : (at : Place) (text : List ℕ) (n m k total : ℕ) (there : Place) (rest : List ℕ) → LeadSteps text (Some (n, m)) → total ≡ m + k →
    Leads (past at (take n text)) (drop n text) k there rest → Leads at text total there rest
lead_on at text n zero k total there rest h e d =
    let same : k ≡ total = omega (arith, e) in
    subst (λ x. Leads at text x there rest) same (GapLeads h.0 d)
lead_on at text n (suc m) k total there rest h e d =
    let none = h.1 in
    let same : suc k ≡ total = omega (arith, e, none) in
    subst (λ x. Leads at text x there rest) same (paren_on at text n k there rest h.0 h.2 d)

pub step_takes : (text : List ℕ) (n m : ℕ) → LeadSteps text (Some (n, m)) → (1 ≤ n) × (n ≤ length text) × (m ≤ 1)
step_takes text n zero h = (h.1, h.2, omega arith)
step_takes [] n (suc m) h = absurd (no_front h.2)
  where
    no_front : [] ≡ paren_open ∷ drop 1 [] → ⊥
    no_front e = cc
step_takes (b ∷ text) n (suc m) h = let one = h.0 in let none = h.1 in (omega (arith, one), omega (arith, one), omega (arith, none))

-- what is left behind a step
pub left_behind : (rest : List ℕ) (n passed total : ℕ) → 1 ≤ n → n ≤ length rest → length rest + passed ≤ total → length (take (length rest - n) (drop n rest)) + (passed + 1) ≤ total
left_behind rest n passed total some within whole =
    let left = length-drop n rest in
    let same = ap length (rest_whole rest n) in
    omega (arith, left, same, some, within, whole)
