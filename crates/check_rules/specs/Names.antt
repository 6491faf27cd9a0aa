-- Declared names, and what a word stands for (C11 6.2.1, 6.2.3).
use Rattle.std.specs.Prelude.{ℕ, Bool, true, false, cond, List, [], ◌∷◌, Option, Some, None, codes}
use Rattle.std.specs.Str.{bytes_eq}
use Rattle.c_core.specs.declared.number.IntType.{IntType}
use Rattle.c_core.specs.declared.number.IntType.TheVariants.{Bool as BoolType, Char, UChar, Short, UShort, Int, UInt, Long, ULong, LongLong, ULongLong}
use Rattle.c_core.specs.declared.tree.Callee.{Callee}
use Rattle.c_core.specs.declared.tree.Callee.TheVariants.{Input, ReachError, Abort, Exit}

-- what a declaration makes of its name
pub data Kind : Type 0 where
  -- its number, its type, how many dimensions it has, whether it has static storage
  Object : ℕ → IntType → ℕ → Bool → Kind
  -- its result, the types of its parameters where they are stated, whether it has a body
  Function : Option IntType → Option (List IntType) → Bool → Kind
  -- a declaration of which only the name is known, as those of system headers
  Closed : Kind

-- a declared name
pub record Entry : Type 0 where
  pub name : List ℕ
  pub kind : Kind

-- a name and what it is
abbrev pub entry : List ℕ → Kind → Entry
entry name kind = record { name = name; kind = kind }

-- of two declarations of a name the later one counts, but a closed item hides nothing
abbrev pub later : Option Kind → Option Kind → Option Kind
later earlier None = earlier
later None (Some k) = Some k
later (Some k) (Some Closed) = Some k
later (Some k) (Some l) = Some l

-- what the declarations in scope, innermost last, make of a word
abbrev pub declared_as : List Entry → List ℕ → Option Kind
declared_as [] x = None
declared_as (e ∷ es) x = later (cond (bytes_eq e.name x) (Some e.kind) None) (declared_as es x)

-- a built-in function by its name: input functions, and those that end a run
pub record BuiltIn : Type 0 where
  pub name : List ℕ
  pub callee : Callee

-- a built-in function
abbrev pub built : List ℕ → Callee → BuiltIn
built name callee = record { name = name; callee = callee }

-- the built-in functions
abbrev pub built_ins : List BuiltIn
built_ins =
    built (codes "__VERIFIER_nondet_bool") (Input BoolType) ∷
    built (codes "__VERIFIER_nondet_char") (Input Char) ∷
    built (codes "__VERIFIER_nondet_uchar") (Input UChar) ∷
    built (codes "__VERIFIER_nondet_short") (Input Short) ∷
    built (codes "__VERIFIER_nondet_ushort") (Input UShort) ∷
    built (codes "__VERIFIER_nondet_int") (Input Int) ∷
    built (codes "__VERIFIER_nondet_uint") (Input UInt) ∷
    built (codes "__VERIFIER_nondet_unsigned") (Input UInt) ∷
    built (codes "__VERIFIER_nondet_long") (Input Long) ∷
    built (codes "__VERIFIER_nondet_ulong") (Input ULong) ∷
    built (codes "__VERIFIER_nondet_longlong") (Input LongLong) ∷
    built (codes "__VERIFIER_nondet_ulonglong") (Input ULongLong) ∷
    built (codes "reach_error") ReachError ∷
    built (codes "abort") Abort ∷
    built (codes "exit") Exit ∷ []

-- the function of this name in these rows
abbrev pub callee_among : List BuiltIn → List ℕ → Option Callee
callee_among [] x = None
callee_among (b ∷ bs) x = cond (bytes_eq b.name x) (Some b.callee) (callee_among bs x)

-- the built-in function of this name, if there is one
abbrev pub built_in : List ℕ → Option Callee
built_in x = callee_among built_ins x

-- the result of a built-in function
abbrev pub result_of_callee : Callee → Option IntType
result_of_callee (Input ty) = Some ty
result_of_callee _ = None

-- the parameters of a built-in function
abbrev pub parameters_of_callee : Callee → List IntType
parameters_of_callee Exit = Int ∷ []
parameters_of_callee _ = []

-- an input function
abbrev pub is_input : Option Callee → Bool
is_input (Some (Input ty)) = true
is_input _ = false

-- what a built-in function is among declared names
abbrev pub kind_of_callee : Callee → Kind
kind_of_callee callee = Function (result_of_callee callee) (Some (parameters_of_callee callee)) true

-- a declared object hides a built-in function; a prototype of a built-in function says nothing new of it
abbrev pub or_built_in : Option Kind → Option Callee → Option Kind
or_built_in (Some (Object n ty dims fixed)) built = Some (Object n ty dims fixed)
or_built_in o (Some callee) = Some (kind_of_callee callee)
or_built_in o None = o

-- what a word stands for
abbrev pub named : List Entry → List ℕ → Option Kind
named es x = or_built_in (declared_as es x) (built_in x)

-- it may be called
abbrev pub is_function : Option Kind → Bool
is_function None = false
is_function (Some (Object n ty dims fixed)) = false
is_function (Some (Function result stated has_body)) = true
is_function (Some Closed) = true
