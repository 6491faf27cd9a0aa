-- Roles of the code as those of parts.
use Rattle.check_rules.specs.Parts as part
use Rattle.check_rules.specs.declared.role.Role.{Role}
use Rattle.check_rules.specs.declared.role.Role.TheVariants.{Value, Target, Effect}

abbrev pub role_of : Role → part.Role
role_of Value = part.Value
role_of Target = part.Target
role_of Effect = part.Effect
