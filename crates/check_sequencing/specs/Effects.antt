-- Operands between which C has no order (C11 6.5p2), by the lists of what they do.
use Rattle.std.specs.Prelude.{◌≡◌, ◌⊎◌, ℕ, suc, nat_eq, Bool, true, false, ◌||◌, List, [], ◌∷◌, ◌++◌, Option, Some, None, slice_get, get_or}
use Rattle.std.specs.List.{list_all, list_any, Contains}
use Rattle.c_core.specs.declared.tree.Object.{Object}
use Rattle.check_sequencing.specs.declared.effect.Effect.{Effect}
use Rattle.check_sequencing.specs.declared.effect.Effect.TheVariants as does

abbrev pub reads : ℕ → Effect → Bool
reads o (does.Reads n) = nat_eq n o
reads o e = false

abbrev pub changes : ℕ → Effect → Bool
changes o (does.Changes n) = nat_eq n o
changes o e = false

abbrev pub touches : ℕ → Effect → Bool
touches o e = reads o e || changes o e

abbrev pub calls : ℕ → Effect → Bool
calls k (does.Calls j) = nat_eq j k
calls k e = false

abbrev pub is_fixed_if : Option Object → Bool
is_fixed_if None = false
is_fixed_if (Some o) = o.fixed

-- an object of static storage; calls touch no others, which are new in each call (C11 6.2.4p6)
abbrev pub is_fixed : List Object → ℕ → Bool
is_fixed objects o = is_fixed_if (slice_get objects o)

abbrev pub is_call : Effect → Bool
is_call (does.Calls k) = true
is_call e = false

abbrev pub CallsOne : List Effect → Type 0
CallsOne es = (list_any is_call es ≡ true)

abbrev pub is_read : Effect → Bool
is_read (does.Reads o) = true
is_read e = false

-- nothing is changed or called
abbrev pub is_quiet : List Effect → Bool
is_quiet es = list_all is_read es

-- it is so of one of these effects
pub record OneOf (P : Effect → Type 0) (es : List Effect) : Type 0 where
  pub effect : Effect
  pub among : Contains es effect
  pub holds : P effect

-- the effects of each function's body, by its number
module _ (bodies : List (List Effect)) where
  abbrev pub IsBody : ℕ → List Effect → Type 0
  IsBody k es = (slice_get bodies k ≡ Some es)

  -- a function does so, itself or through its calls
  pub data Does (test : Effect → Bool) : ℕ → Type 0 where
    Itself : {k : ℕ} {es : List Effect} → IsBody k es → list_any test es ≡ true → Does test k
    ByCall : {j k : ℕ} {es : List Effect} → IsBody k es → list_any (calls j) es ≡ true → Does test j → Does test k

module _ (bodies : List (List Effect)) (objects : List Object) where
  -- a call of the function k does to the object o what the test asks for
  abbrev pub CallDoes : (ℕ → Effect → Bool) → ℕ → ℕ → Type 0
  CallDoes test o k = (is_fixed objects o ≡ true) × Does bodies (test o) k

  abbrev pub IsCallThatDoes : (ℕ → Effect → Bool) → ℕ → Effect → Type 0
  IsCallThatDoes test o (does.Calls k) = CallDoes test o k
  IsCallThatDoes test o e = ⊥

  abbrev pub Through : (ℕ → Effect → Bool) → ℕ → List Effect → Type 0
  Through test o es = OneOf (IsCallThatDoes test o) es

  abbrev pub Changes : ℕ → List Effect → Type 0
  Changes o es = (list_any (changes o) es ≡ true) ⊎ Through changes o es

  abbrev pub Touches : ℕ → List Effect → Type 0
  Touches o es = (list_any (touches o) es ≡ true) ⊎ Through touches o es

  -- an object is changed by the one and read or changed by the other
  pub record Clash (es fs : List Effect) : Type 0 where
    pub object : ℕ
    pub changed : Changes object es
    pub touched : Touches object fs

  abbrev pub AreUnsequenced : List Effect → List Effect → Type 0
  AreUnsequenced es fs = Clash es fs ⊎ (Clash fs es ⊎ (CallsOne es × CallsOne fs))

  -- two of these, in either order
  pub data SomePair : List (List Effect) → Type 0 where
    OfFirst : {es fs : List Effect} {rest : List (List Effect)} → Contains rest fs → AreUnsequenced es fs → SomePair (es ∷ rest)
    OfOthers : {es : List Effect} {rest : List (List Effect)} → SomePair rest → SomePair (es ∷ rest)

-- ---- which functions do so, as marks

-- changes alone, or reads too
abbrev pub wanted : Bool → ℕ → Effect → Bool
wanted true = changes
wanted false = touches

-- a mark stands at this number
abbrev pub is_marked : List Bool → ℕ → Bool
is_marked marks k = get_or marks k false

abbrev pub calls_marked : List Bool → Effect → Bool
calls_marked marks (does.Calls j) = is_marked marks j
calls_marked marks e = false

-- these effects do so, or call a marked function
abbrev pub does_by : List Bool → (Effect → Bool) → List Effect → Bool
does_by marks test es = list_any (λ e. test e || calls_marked marks e) es

-- the marks of the functions that do so
pub record AreMarks (bodies : List (List Effect)) (test : Effect → Bool) (marks : List Bool) : Type 0 where
  pub sound : (k : ℕ) → is_marked marks k ≡ true → Does bodies test k
  pub complete : (k : ℕ) → Does bodies test k → is_marked marks k ≡ true

-- only functions that do so are marked
abbrev pub AreSound : List (List Effect) → (Effect → Bool) → List Bool → Type 0
AreSound bodies test marks = (k : ℕ) → is_marked marks k ≡ true → Does bodies test k

-- where a function does so by the marks, it is marked
abbrev pub IsClosedAt : List (List Effect) → (Effect → Bool) → List Bool → ℕ → Type 0
IsClosedAt bodies test marks k = does_by marks test (get_or bodies k []) ≡ true → is_marked marks k ≡ true

abbrev pub AreClosed : List (List Effect) → (Effect → Bool) → List Bool → Type 0
AreClosed bodies test marks = (k : ℕ) → IsClosedAt bodies test marks k

-- how many aren't marked
abbrev pub unmarked : List Bool → ℕ
unmarked [] = 0
unmarked (true ∷ marks) = unmarked marks
unmarked (false ∷ marks) = suc (unmarked marks)

-- ---- one operand after others, effect by effect

module _ (bodies : List (List Effect)) (objects : List Object) where
  -- an effect and a call of the function k, one of which changes what the other touches
  abbrev pub MeetsCall : ℕ → Effect → Type 0
  MeetsCall k (does.Reads o) = CallDoes bodies objects changes o k
  MeetsCall k (does.Changes o) = CallDoes bodies objects touches o k
  MeetsCall k (does.Calls j) = ⊥

  -- effects and one that has no order with them
  abbrev pub Meets : List Effect → Effect → Type 0
  Meets es (does.Reads o) = Changes bodies objects o es
  Meets es (does.Changes o) = Touches bodies objects o es
  Meets es (does.Calls k) = CallsOne es ⊎ OneOf (MeetsCall k) es

-- ---- operands one after another

module _ (bodies : List (List Effect)) (objects : List Object) where
  -- one of these operands has no order with those before it, taken together
  pub data SomeBehind : List Effect → List (List Effect) → Type 0 where
    Next : {before es : List Effect} {rest : List (List Effect)} → AreUnsequenced bodies objects before es → SomeBehind before (es ∷ rest)
    Later : {before es : List Effect} {rest : List (List Effect)} → SomeBehind (before ++ es) rest → SomeBehind before (es ∷ rest)
