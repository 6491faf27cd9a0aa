-- A number that clap's matches give, cut to a range.
use Rattle.std.proofs.Common.{◌≡◌, ◌≤◌, ℕ, List, Bool, true, false, Option, Some, None, refl, sym, subst, ap}
use Rattle.std.specs.Prelude.{Result, IfSome}
use Rattle.std.specs.Str.Parse.{ParsesUnsigned, ExplainsUnsignedError, HasUnsignedDigitsIfOk, digits_value, without_leading_plus}
use Rattle.std.specs.declared.num.ParseIntError.{ParseIntError}
use Rattle.clap.specs.Words.{Text, ReadsOne, one_of, one_text, rows_of}
use Rattle.clap.specs.ValueTests.{accepts}
use Rattle.clap.specs.declared.parser.matches.Found.{Found}
use Rattle.clap.specs.declared.builder.value_parser.ValueParser.TheVariants.{Unsigned}
use Rattle.clap.proofs.ValueTestLemmas.{accepts-Accepts, Accepts-accepts}
use Rattle.clap.proofs.WalkLemmas.{one_text-rows}
use Rattle.wv_arguments.specs.Words.{number_in}

-- what `parse::<u64>` gives
abbrev Reads : List ℕ → Result ℕ ParseIntError → Type 0
Reads bs r = ParsesUnsigned 64 10 bs r × ExplainsUnsignedError 10 bs r × HasUnsignedDigitsIfOk bs r

abbrev Gives : Option Text → Option ℕ → Type 0
Gives o r = (o ≡ None → r ≡ None) × ((t : List ℕ) → o ≡ Some t → ReadsOne {T = ℕ} {E = ParseIntError} Reads t r)

there : (least most : ℕ) (o : Option Text) (n : ℕ) → Gives o (Some n) → least ≤ n → n ≤ most → Some n ≡ number_in least most o
there least most None n g low high =
    let bad : Some n ≡ None = g.0 refl in
    cc
there least most (Some t) n g low high =
    let read = (g.1 t refl).0 in
    let is : n ≡ digits_value 10 (without_leading_plus t) = read.1 in
    let yes : accepts false (Unsigned least most) t ≡ true =
    Accepts-accepts false (Unsigned least most) t (read.0.0, read.0.1, (subst (λ v. least ≤ v) is low), (subst (λ v. v ≤ most) is high)) in
    rw yes (ap Some is)

absent_by : (least most : ℕ) (t : Text) (r : Option ℕ) → ReadsOne {T = ℕ} {E = ParseIntError} Reads t r → IfSome r (λ n. least ≤ n → n ≤ most → ⊥)
    → (b : Bool) → accepts false (Unsigned least most) t ≡ b → None ≡ number_in least most (Some t)
absent_by least most t r read out false e = rw e refl
absent_by least most t None read out true e =
    let inside = accepts-Accepts false (Unsigned least most) t e in
    absurd (read.1.0 (inside.0, inside.1))
absent_by least most t (Some n) read out true e =
    let inside = accepts-Accepts false (Unsigned least most) t e in
    let is : n ≡ digits_value 10 (without_leading_plus t) = read.0.1 in
    absurd (out (subst (λ v. least ≤ v) (sym is) inside.2) (subst (λ v. v ≤ most) (sym is) inside.3))

absent : (least most : ℕ) (o : Option Text) (r : Option ℕ) → Gives o r → IfSome r (λ n. least ≤ n → n ≤ most → ⊥) → None ≡ number_in least most o
absent least most None r g out = refl
absent least most (Some t) r g out = absent_by least most t r (g.1 t refl) out (accepts false (Unsigned least most) t) refl

-- the answer of `get_one` where it lies in the range, and where it doesn't or there is none
pub within : (least most : ℕ) (f : Found) (id : Text) (n : ℕ) → Gives (one_text f id) (Some n) → least ≤ n → n ≤ most
    → Some n ≡ number_in least most (one_of id (rows_of f))
within least most f id n g low high = subst (λ o. Some n ≡ number_in least most o) (one_text-rows f id) (there least most (one_text f id) n g low high)

pub beyond : (least most : ℕ) (f : Found) (id : Text) (r : Option ℕ) → Gives (one_text f id) r → IfSome r (λ n. least ≤ n → n ≤ most → ⊥)
    → None ≡ number_in least most (one_of id (rows_of f))
beyond least most f id r g out = subst (λ o. None ≡ number_in least most o) (one_text-rows f id) (absent least most (one_text f id) r g out)
