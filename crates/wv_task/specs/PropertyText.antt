-- The properties of SV-COMP by their texts.
use Rattle.std.specs.Prelude.{ℕ, List, [], ◌∷◌, Option, Some, None, Result, Ok, codes, ok_or, if◌then◌else◌}
use Rattle.std.specs.Option.{option_or}
use Rattle.c_core.specs.declared.number.Property.{Property}
use Rattle.c_core.specs.declared.number.Property.TheVariants.{UnreachCall, NoOverflow}
use Rattle.wv_task.specs.Tokens.{reads_as}

-- the texts of property files
abbrev pub texts : List (List ℕ × Property)
texts =
    (codes "CHECK( init(main()), LTL(G ! call(reach_error())) )", UnreachCall) ∷
    (codes "CHECK( init(main()), LTL(G ! overflow) )", NoOverflow) ∷ []

-- their inner formulas
abbrev pub formulas : List (List ℕ × Property)
formulas =
    (codes "G ! call(reach_error())", UnreachCall) ∷
    (codes "G ! overflow", NoOverflow) ∷ []

-- the property whose text in the table has the same tokens
abbrev pub named_among : List (List ℕ × Property) → List ℕ → Option Property
named_among [] text = None
named_among (row ∷ rows) text = if reads_as text row.0 then Some row.1 else named_among rows text

-- the property of a property file
abbrev pub property_of : List ℕ → Option Property
property_of text = named_among texts text

-- the property that a witness states: by a whole text, or by an inner formula
abbrev pub specification_of : List ℕ → Option Property
specification_of text = option_or (property_of text) (named_among formulas text)
