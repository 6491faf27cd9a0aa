-- A log grows.
use Rattle.std.proofs.Common.{◌≡◌, ◌≢◌, List, [], ◌∷◌, ◌++◌, ℤ, sym, ◌∙◌, ap, subst}
use Rattle.std.proofs.lemmas.List.{append_assoc, append-nil, map_push}
use Rattle.clauses.specs.declared.log.Chain.{Chain}
use Rattle.clauses.specs.Log.{given}
use Rattle.clauses.specs.Spent.{IsNew, AreNew}
use Rattle.sat_newness.specs.Clauses.{clauses_of}

pub new_more : (clauses cs : List (List ℤ)) (c : List ℤ) → AreNew clauses cs → c ≢ [] → IsNew (clauses ++ cs) c → AreNew clauses (cs ++ c ∷ [])
new_more clauses [] c a ne n = (ne, subst (λ (ds : List (List ℤ)). IsNew ds c) (append-nil clauses) n, tt)
new_more clauses (x ∷ xs) c a ne n = (a.0, a.1, new_more (clauses ++ x ∷ []) xs c a.2 ne (subst (λ (ds : List (List ℤ)). IsNew ds c) (sym (append_assoc clauses (x ∷ []) xs)) n))

pub given_more : (chains : List Chain) (chain : Chain) → given (chains ++ chain ∷ []) ≡ given chains ++ chain.gives ∷ []
given_more chains chain = map_push (λ c. c.gives) chains chain

pub clauses_more : (clauses : List (List ℤ)) (chains : List Chain) (chain : Chain) → clauses_of clauses (chains ++ chain ∷ []) ≡ clauses_of clauses chains ++ chain.gives ∷ []
clauses_more clauses chains chain = ap (λ gs. clauses ++ gs) (given_more chains chain) ∙ sym (append_assoc clauses (given chains) (chain.gives ∷ []))
