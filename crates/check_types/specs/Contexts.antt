-- What a context holds, in the terms of the rules.
use Rattle.std.specs.Prelude.{ℕ, List}
use Rattle.c_parser.specs.Tree as raw
use Rattle.check_rules.specs.Names.{Entry}
use Rattle.check_rules.specs.Parts.{bodies_of}
use Rattle.check_scope.specs.InScope.{all_of}
use Rattle.check_scope.specs.Sources.{items_of}
use Rattle.check_types.specs.declared.context.Context.{Context}

abbrev pub items_in : Context → List raw.Item
items_in context = items_of context.functions.now

-- the names of the functions with a body
abbrev pub bodies_in : Context → List (List ℕ)
bodies_in context = bodies_of (items_in context)

-- the names in scope
abbrev pub entries_in : Context → List Entry
entries_in context = all_of context.table.now
