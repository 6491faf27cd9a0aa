-- Types as the processor has them, whatever the data model.
use Rattle.std.specs.Prelude.{nat_eq, Bool, true, false, Option, Some, None}
use Rattle.c_core.specs.Types.{width_of, is_signed}
use Rattle.c_core.specs.declared.number.DataModel.{DataModel}
use Rattle.c_core.specs.declared.number.DataModel.TheVariants.{Ilp32, Lp64}
use Rattle.c_core.specs.declared.number.IntType.{IntType}
use Rattle.c_core.specs.declared.number.IntType.TheVariants.{Int, UInt, Long, ULong, LongLong, ULongLong}
use Rattle.flow_code.specs.declared.code.Word.{Word}
use Rattle.flow_code.specs.declared.code.Word.TheVariants.{Signed32, Unsigned32, Signed64, Unsigned64}

-- by sign, and by whether it has 64 bits
abbrev pub word_by : Bool → Bool → Word
word_by true true = Signed64
word_by false true = Unsigned64
word_by true false = Signed32
word_by false false = Unsigned32

-- the type that operators of a promoted type compute in
abbrev pub word_of : DataModel → IntType → Word
word_of m ty = word_by (is_signed ty) (nat_eq (width_of m ty) 64)

-- the type that it is where `long` has 64 bits
abbrev pub type_of_word : Word → IntType
type_of_word Signed32 = Int
type_of_word Unsigned32 = UInt
type_of_word Signed64 = LongLong
type_of_word Unsigned64 = ULongLong

-- `long` has 32 bits in one of the models
abbrev pub native_ilp32 : IntType → IntType
native_ilp32 Long = Int
native_ilp32 ULong = UInt
native_ilp32 ty = ty

-- the type that a type is where `long` has 64 bits
abbrev pub native : DataModel → IntType → IntType
native Ilp32 ty = native_ilp32 ty
native Lp64 ty = ty

-- the same, where there is one
abbrev pub native_if : DataModel → Option IntType → Option IntType
native_if m None = None
native_if m (Some ty) = Some (native m ty)
