-- Marked numbers, and functions found one after the other.
use Rattle.std.specs.Prelude.{◌≡◌, ◌<◌, ℕ, nat_lt, Bool, false, cond, not, ◌&&◌, ◌||◌, List, [], ◌∷◌, ◌++◌, length, slice_index_or}
use Rattle.c_meaning.specs.Parts.{is_in}
use Rattle.c_calls.specs.declared.uses.Use.{Use}
use Rattle.c_calls.specs.declared.uses.Use.TheVariants.{Changes, Calls}

abbrev pub is_marked : List Bool → ℕ → Bool
is_marked marks n = slice_index_or marks n false

-- the numbers of a test are marked besides
abbrev pub IsMarked : (ℕ → Bool) → List Bool → List Bool → Type 0
IsMarked q before now = (n : ℕ) → n < length before → is_marked now n ≡ (is_marked before n || q n)

-- a function of a program of this many functions is appended, where it isn't among these
abbrev pub added : ℕ → List ℕ → ℕ → List ℕ
added count fs f = cond (nat_lt f count && not (is_in f fs)) (fs ++ f ∷ []) fs

-- the functions that are called, one after the other
abbrev pub all_added : ℕ → List ℕ → List Use → List ℕ
all_added count fs [] = fs
all_added count fs (Changes o ∷ uses) = all_added count fs uses
all_added count fs (Calls f ∷ uses) = all_added count (added count fs f) uses

-- of this many numbers those of a test are marked
abbrev pub AreMarked : ℕ → (ℕ → Bool) → List Bool → Type 0
AreMarked count q marks = (n : ℕ) → n < count → is_marked marks n ≡ q n

-- changed in a loop and not declared in it, or of static storage and changed by a called function
abbrev pub is_changed : List Bool → List Bool → List Bool → ℕ → Bool → Bool
is_changed here inside there o fixed = (is_marked here o && not (is_marked inside o)) || (fixed && is_marked there o)
