-- The rules of texts, as the code names them.
use Rattle.wv_schema.specs.declared.rule.TextRule.{TextRule}
use Rattle.wv_schema.specs.declared.rule.TextRule.TheVariants.{Any, EntryType, FormatVersion, WaypointType, Action, Count, Way, InvariantType, Format}
use Rattle.wv_schema.specs.Table.{Rule, AnyText, OneOf, TwoZero, AWay, entry_types, waypoint_types, actions, invariant_types, formats}
use Rattle.wv_schema.specs.Table as table

abbrev pub rule_of : TextRule → Rule
rule_of Any = AnyText
rule_of EntryType = OneOf entry_types
rule_of FormatVersion = TwoZero
rule_of WaypointType = OneOf waypoint_types
rule_of Action = OneOf actions
rule_of Count = table.Count
rule_of Way = AWay
rule_of InvariantType = OneOf invariant_types
rule_of Format = OneOf formats
