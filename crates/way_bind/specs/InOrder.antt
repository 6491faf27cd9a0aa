-- Items of a witness that are bound one after another, and the least that isn't.
use Rattle.std.specs.Prelude.{◌≡◌, ◌⊎◌, ℕ, ◌+◌, length, List, [], ◌∷◌, ◌++◌, Result, Ok, Err}
use Rattle.way_bind.specs.declared.fault.Unbound.{Unbound}
use Rattle.way_bind.specs.declared.fault.Unbound.TheVariants.{NoPlace, Expression, Scope, OutOfMemory}
use Rattle.way_bind.specs.declared.fault.BindFault.{BindFault}
use Rattle.way_bind.specs.declared.fault.BindFault.TheVariants as fault

-- each item with what stands at its place in the other list
abbrev pub Each : {A B : Type 0} → (A → B → Type 0) → List A → List B → Type 0
Each {A} {B} holds [] [] = Unit {0}
Each {A} {B} holds [] (x ∷ xs) = ⊥
Each {A} {B} holds (v ∷ vs) [] = ⊥
Each {A} {B} holds (v ∷ vs) (x ∷ xs) = holds v x × Each holds vs xs

-- each is bound, where `binds` says how one item is answered
abbrev pub AllBound : {A B : Type 0} → (A → Result B Unbound → Type 0) → List A → List B → Type 0
AllBound {A} {B} binds vs xs = Each (λ v x. binds v (Ok x)) vs xs

-- of items numbered from `first` on, the least that isn't bound has this number, and fails this test first
pub record IsLeast {A B : Type 0} (binds : A → Result B Unbound → Type 0) (first : ℕ) (vs : List A) (number : ℕ) (lack : Unbound) : Type 0 where
  pub before : List A
  pub bound_to : List B
  pub at : A
  pub behind : List A
  pub in_order : vs ≡ before ++ at ∷ behind
  pub counted : number ≡ first + length before
  pub bound : AllBound binds before bound_to
  pub fails : binds at (Err lack)

-- a fault tells the least item that isn't bound
abbrev pub TellsLeast : {A B : Type 0} → (A → Result B Unbound → Type 0) → ℕ → List A → BindFault → Type 0
TellsLeast {A} {B} binds first vs (fault.NoPlace n) = IsLeast binds first vs n NoPlace
TellsLeast {A} {B} binds first vs (fault.Expression n) = IsLeast binds first vs n Expression
TellsLeast {A} {B} binds first vs (fault.Scope n) = IsLeast binds first vs n Scope
TellsLeast {A} {B} binds first vs fault.OutOfMemory = Unit {0}

-- how the item of a number that fails a test first is reported
abbrev pub told : ℕ → Unbound → BindFault
told n NoPlace = fault.NoPlace n
told n Expression = fault.Expression n
told n Scope = fault.Scope n
told n OutOfMemory = fault.OutOfMemory

-- two answers are the same by this view, unless memory ran out in one
abbrev pub AgreeBy : {A B : Type 0} → (A → B) → Result A BindFault → Result A BindFault → Type 0
AgreeBy {A} {B} view (Ok a) (Ok b) = view a ≡ view b
AgreeBy {A} {B} view (Ok a) (Err f) = f ≡ fault.OutOfMemory
AgreeBy {A} {B} view (Err f) (Ok b) = f ≡ fault.OutOfMemory
AgreeBy {A} {B} view (Err f) (Err g) = (f ≡ g) ⊎ ((f ≡ fault.OutOfMemory) ⊎ (g ≡ fault.OutOfMemory))
