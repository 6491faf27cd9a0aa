-- Declarations of the code as those of the rules, and what expressions ask of them.
use Rattle.std.specs.Prelude.{List, [], map, Option, Some, None}
use Rattle.c_core.specs.declared.number.IntType.{IntType}
use Rattle.c_parser.specs.SourceView.{param_view}
use Rattle.check_rules.specs.Names as kind
use Rattle.check_rules.specs.Names.{Kind}
use Rattle.check_rules.specs.Scopes.{types_of}
use Rattle.check_scope.specs.declared.known.Stated.{Stated}
use Rattle.check_scope.specs.declared.known.Stated.TheVariants as stated
use Rattle.check_scope.specs.declared.known.Known.{Known}
use Rattle.check_scope.specs.declared.known.Known.TheVariants as known
use Rattle.check_scope.specs.declared.meaning.Meaning.{Meaning}
use Rattle.check_scope.specs.declared.meaning.Meaning.TheVariants as meaning

-- the types of the parameters, where they are stated
abbrev pub types_stated : Stated → Option (List IntType)
types_stated stated.Unstated = None
types_stated (stated.Types types) = Some types.now
types_stated (stated.Parameters parameters) = Some (types_of (map param_view parameters.now))

-- none where none are stated
abbrev pub types_in : Stated → List IntType
types_in stated.Unstated = []
types_in (stated.Types types) = types.now
types_in (stated.Parameters parameters) = types_of (map param_view parameters.now)

abbrev pub kind_of : Known → Kind
kind_of (known.Object n ty dims fixed) = kind.Object n ty dims fixed
kind_of (known.Function result stated has_body) = kind.Function result (types_stated stated) has_body
kind_of known.Closed = kind.Closed

-- without parameters and body
abbrev pub meaning_of : Kind → Meaning
meaning_of (kind.Object n ty dims fixed) = meaning.Object n ty dims fixed
meaning_of (kind.Function result stated has_body) = meaning.Function result
meaning_of kind.Closed = meaning.Closed
