-- The first refusal of a source: by place, and at one place in the order of the codes.
use Rattle.std.specs.Prelude.{◌≡◌, ℕ, nat_lt, Bool, true, false, not, ◌&&◌, ◌||◌, List, [], ◌∷◌, Option, Some, None}
use Rattle.std.specs.List.{Contains}
use Rattle.std.specs.Str.{bytes_eq}
use Rattle.std.specs.Prelude.{codes}
use Rattle.c_core.specs.TextOrder.{is_before}
use Rattle.c_core.specs.declared.number.IntType.{IntType}
use Rattle.c_core.specs.declared.number.IntType.TheVariants as ty
use Rattle.c_core.specs.declared.number.DataModel.{DataModel}
use Rattle.c_core.specs.declared.number.Spot.{Spot}
use Rattle.c_parser.specs.Tree as raw
use Rattle.check_rules.specs.declared.fault.CheckCode.{CheckCode}
use Rattle.check_rules.specs.declared.fault.CheckCode.TheVariants as code
use Rattle.check_rules.specs.declared.fault.Refusal.{Refusal}
use Rattle.check_rules.specs.Parts.{Part, parts_of_source}
use Rattle.check_rules.specs.Codes.{nameless, doubled, mistyped, missized, bodiless, crowded, place_of, place_of_name}
use Rattle.check_rules.specs.Order.{IsUnordered}

-- a code at a place
abbrev pub refusal : CheckCode → Spot → Refusal
refusal c p = record { code = c; spot = p }

-- the order in which refusals at one place are reported
abbrev pub rank : CheckCode → ℕ
rank code.Name = 0
rank code.Again = 1
rank code.Typing = 2
rank code.Size = 3
rank code.Order = 4
rank code.Body = 5
rank code.Main = 6
rank code.Cells = 7

-- earlier in the text; at one place by the order of the codes
abbrev pub comes_first : Refusal → Refusal → Bool
comes_first a b = is_before a.spot b.spot || (not (is_before b.spot a.spot) && nat_lt (rank a.code) (rank b.code))

module _ (m : DataModel) (items : List raw.Item) where
  -- a part is refused by a code
  abbrev pub Holds : CheckCode → Part → Type 0
  Holds code.Name part = nameless part ≡ true
  Holds code.Again part = doubled part ≡ true
  Holds code.Typing part = mistyped m items part ≡ true
  Holds code.Size part = missized m items part ≡ true
  Holds code.Order part = IsUnordered m items part
  Holds code.Body part = bodiless m items part ≡ true
  Holds code.Main part = ⊥
  Holds code.Cells part = crowded m items part ≡ true

  -- where a part is refused: a name at the word, all else where the part begins
  abbrev pub place : CheckCode → Part → Spot
  place code.Name part = place_of_name part
  place c part = place_of part

  -- a part of the source is refused
  pub record IsRefused (r : Refusal) : Type 0 where
    pub part : Part
    pub among : Contains (parts_of_source m items) part
    pub holds : Holds r.code part
    pub there : place r.code part ≡ r.spot

  -- it is a refusal, and no other comes before it
  abbrev pub IsFirst : Refusal → Type 0
  IsFirst r = IsRefused r × ((other : Refusal) → IsRefused other → comes_first other r ≡ false)

  -- nothing is refused
  abbrev pub IsUnrefused : Type 0
  IsUnrefused = (r : Refusal) → IsRefused r → ⊥

-- ---- the function `main`, judged last

-- line 1, column 1
abbrev pub start_of_source : Spot
start_of_source = record { line = 1; column = 1 }

-- the type `int`
abbrev pub is_int : IntType → Bool
is_int ty.Int = true
is_int ty = false

-- `int` or void: what `main` may give
abbrev pub is_result_of_main : Option IntType → Bool
is_result_of_main None = true
is_result_of_main (Some ty) = is_int ty

-- there are no parameters
abbrev pub has_none : List raw.Param → Bool
has_none [] = true
has_none (x ∷ xs) = false

-- the place, where something doesn't fit
abbrev pub unless_fit : Spot → Bool → Option Spot
unless_fit p true = None
unless_fit p false = Some p

-- where it is refused: at its name for parameters or another result, and at the start of the source where there is none
abbrev pub wrong_main : List raw.Item → Option Spot
wrong_main [] = Some start_of_source
wrong_main (raw.Function p name result xs body ∷ items) =
    elim (bytes_eq name (codes "main")) [ true ↦ unless_fit p (has_none xs && is_result_of_main result) | false ↦ wrong_main items ]
wrong_main (item ∷ items) = wrong_main items

-- the refusal that is reported: the first of a part, or else that of `main`
pub data Refuses (m : DataModel) (items : List raw.Item) : Refusal → Type 0 where
  OfPart : {r : Refusal} → IsFirst m items r → Refuses m items r
  OfMain : {p : Spot} → IsUnrefused m items → wrong_main items ≡ Some p → Refuses m items (refusal code.Main p)
