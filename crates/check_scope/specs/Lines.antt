-- The declarations of a table: as entries of the rules, and what those of a name make of it together.
use Rattle.std.specs.Prelude.{ℕ, ◌+◌, cond, List, [], ◌∷◌, ◌++◌, map, take, drop, Option, Some, None}
use Rattle.std.specs.Ordering.{nat_cmp}
use Rattle.std.specs.Cmp.Lexicographic.{slice_cmp}
use Rattle.std.specs.BTreeMap.{BTreeMap, get_by}
use Rattle.std.specs.Str.{bytes_eq}
use denote.Ref.{Bor}
use Rattle.check_rules.specs.Names.{Entry, entry}
use Rattle.check_scope.specs.declared.line.Line.{Line}
use Rattle.check_scope.specs.declared.past.Past.{Past}
use Rattle.check_scope.specs.Kinds.{kind_of}
use Rattle.check_scope.specs.Pasts.{with_known}
use Rattle.check_scope.specs.InScope.{InScope, in_scope}

abbrev pub entry_of : Line → Entry
entry_of l = entry l.name.now (kind_of l.known)

abbrev pub entries_of : List Line → List Entry
entries_of lines = map entry_of lines

-- the innermost scope begins at a place
abbrev pub in_scope_at : ℕ → List Line → InScope
in_scope_at start lines = in_scope (take start (entries_of lines)) (drop start (entries_of lines))

-- what is made of a name after a declaration at a place
abbrev pub past_after : ℕ → Option Past → Line → List ℕ → Option Past
past_after n before l x = cond (bytes_eq l.name.now x) (Some (with_known n before l.known)) before

abbrev pub past_from : ℕ → Option Past → List Line → List ℕ → Option Past
past_from n before [] x = before
past_from n before (l ∷ ls) x = past_from (n + 1) (past_after n before l x) ls x

abbrev pub past_of : List Line → List ℕ → Option Past
past_of lines x = past_from 0 None lines x

-- what each declaration keeps of those before it
abbrev pub befores : List Line → List (Option Past)
befores [] = []
befores (l ∷ ls) = l.before ∷ befores ls

-- what was made of each name when it was declared, these lines standing before
abbrev pub hidden : List Line → List Line → List (Option Past)
hidden seen [] = []
hidden seen (l ∷ ls) = past_of seen l.name.now ∷ hidden (seen ++ l ∷ []) ls

abbrev pub past_in : BTreeMap (Bor (List ℕ)) Past → List ℕ → Option Past
past_in m x = get_by (λ k. slice_cmp nat_cmp x k.now) m
