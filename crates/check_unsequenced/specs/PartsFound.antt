-- Which parts are unordered, and what tests of typed trees find.
use Rattle.std.specs.Prelude.{◌≡◌, ◌-◌, Bool, List, [], ◌∷◌, ◌++◌, length}
use Rattle.std.specs.List.{Contains}
use Rattle.c_core.specs.declared.number.DataModel.{DataModel}
use Rattle.c_core.specs.declared.number.Spot.{Spot}
use Rattle.c_core.specs.declared.tree.Object.{Object}
use Rattle.c_parser.specs.Tree as raw
use Rattle.check_rules.specs.Names.{Entry}
use Rattle.check_rules.specs.Scopes.{Scope, seen}
use Rattle.check_rules.specs.Typed.{typed}
use Rattle.check_rules.specs.Codes.{place_of}
use Rattle.check_rules.specs.Parts.{Part, Role, bodies_of, parts, parts_of_value}
use Rattle.check_rules.specs.Order.{IsUnordered}
use Rattle.check_sequencing.specs.Typed.{Initial, IsFound, Listed, Test, place, tested}
use Rattle.check_unsequenced.specs.PartEffects.{AreListed, IsObjectList, count, effects_of_bodies}

module _ (m : DataModel) (items : List raw.Item) (objects : List Object) where
  abbrev pub Finds : Test → Type 0
  Finds t = IsFound objects (count m items objects) (effects_of_bodies m items objects) t

  -- one of these tests finds something at this place
  pub record OneFound (ts : List Test) (p : Spot) : Type 0 where
    pub test : Test
    pub among : Contains ts test
    pub found : Finds test
    pub there : place test ≡ p

  -- one of these parts is unordered, reported at this place
  pub record OneUnordered (ps : List Part) (p : Spot) : Type 0 where
    pub part : Part
    pub among : Contains ps part
    pub unordered : IsUnordered m items part
    pub there : place_of part ≡ p

  -- these parts are unordered at the places at which these tests find something
  pub record AreTestsOf (ps : List Part) (ts : List Test) : Type 0 where
    pub to : (p : Spot) → OneUnordered ps p → OneFound ts p
    pub from : (p : Spot) → OneFound ts p → OneUnordered ps p

-- the tests of an expression are those of its parts, and so on
pub record TestsAgree : Type 0 where
  pub expression : (m : DataModel) (items : List raw.Item) (objects : List Object) → IsObjectList m items objects
      → (es : List Entry) → AreListed objects es → (r : Role) (e : raw.Exp) → AreTestsOf m items objects (parts es r e) (tested (typed m (bodies_of items) es e))
  pub initializer : (m : DataModel) (items : List raw.Item) (objects : List Object) → IsObjectList m items objects
      → (fixed : Bool) (s : Scope) → AreListed objects (seen s) → (e : raw.Exp)
      → AreTestsOf m items objects (parts_of_value fixed s e) (Initial (length s.objects - 1) (typed m (bodies_of items) (seen s) e) ∷ tested (typed m (bodies_of items) (seen s) e))
  pub none : (m : DataModel) (items : List raw.Item) (objects : List Object) → AreTestsOf m items objects [] []
  pub both : (m : DataModel) (items : List raw.Item) (objects : List Object) (ps qs : List Part) (ts us : List Test)
      → AreTestsOf m items objects ps ts → AreTestsOf m items objects qs us → AreTestsOf m items objects (ps ++ qs) (ts ++ us)
  pub other : (m : DataModel) (items : List raw.Item) (objects : List Object) (p : Part) (ps : List Part) (ts : List Test)
      → (IsUnordered m items p → ⊥) → AreTestsOf m items objects ps ts → AreTestsOf m items objects (p ∷ ps) ts
  pub listed_to : (m : DataModel) (items : List raw.Item) (objects : List Object) (ts : List Test) (spots : List Spot)
      → Listed objects (count m items objects) (effects_of_bodies m items objects) ts spots → (p : Spot) → OneFound m items objects ts p → Contains spots p
  pub listed_from : (m : DataModel) (items : List raw.Item) (objects : List Object) (ts : List Test) (spots : List Spot)
      → Listed objects (count m items objects) (effects_of_bodies m items objects) ts spots → (p : Spot) → Contains spots p → OneFound m items objects ts p
