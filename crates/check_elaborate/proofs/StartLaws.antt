-- What objects of static storage start with.
use Rattle.std.proofs.Common.{◌≡◌, ◌++◌, ◌∷◌, ℕ, List, length, true, ap, ◌∙◌}
use Rattle.std.proofs.lemmas.List.{append_assoc}
use Rattle.c_core.specs.declared.number.DataModel.{DataModel}
use Rattle.c_core.specs.declared.tree.Start.{Start}
use Rattle.c_parser.specs.Tree as raw
use Rattle.check_rules.specs.Checked.{start_of_name, starts_of_names}
use Rattle.check_rules.specs.Scopes.{Scope, after_name}

-- one name more, and the rest follows in the scope behind it
pub starts-next : (m : DataModel) (bodies : List (List ℕ)) (before : List Start) (s u : Scope) (d : raw.Declared) (rest : List raw.Declared) → u ≡ after_name m bodies true s d
    → (before ++ start_of_name m bodies s d) ++ starts_of_names m bodies u rest ≡ before ++ starts_of_names m bodies s (d ∷ rest)
starts-next m bodies before s u d rest g =
    let own = start_of_name m bodies s d in
    ap (λ (y : Scope). (before ++ own) ++ starts_of_names m bodies y rest) g
    ∙ append_assoc before own (starts_of_names m bodies (after_name m bodies true s d) rest)
