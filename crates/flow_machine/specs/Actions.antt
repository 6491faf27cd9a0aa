-- Which actions the machine does apart from what is done often.
use Rattle.flow_code.specs.declared.code.Action.{Action}
use Rattle.flow_code.specs.declared.code.Action.TheVariants.{Aim, Row, Select, Open, Close, Declare, Enter, Call, Input, Reach, End, Leave, Return}

-- the action is about a call: the machine comes to it, does it, or is on the way out of it
abbrev pub IsAtCall : Action → Type 0
IsAtCall (Enter close) = Unit {0}
IsAtCall (Call function arguments site) = Unit {0}
IsAtCall (Input spot close ty into) = Unit {0}
IsAtCall (Reach around spot) = Unit {0}
IsAtCall End = Unit {0}
IsAtCall Leave = Unit {0}
IsAtCall (Return ty) = Unit {0}
IsAtCall a = ⊥

-- the action is done rarely
abbrev pub IsRare : Action → Type 0
IsRare (Aim object size index spot reads) = Unit {0}
IsRare (Row rows columns left right spot) = Unit {0}
IsRare (Select at cases other) = Unit {0}
IsRare Open = Unit {0}
IsRare Close = Unit {0}
IsRare (Declare spot object size ty draws) = Unit {0}
IsRare a = IsAtCall a
