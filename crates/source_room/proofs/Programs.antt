-- A checked program has the functions of its source.
use Rattle.std.proofs.Common.{◌≡◌, ◌<◌, ◌≤◌, ◌^◌, ◌∙◌, ℕ, List, [], ◌∷◌, length, None, refl, sym, ap, subst, arith}
use Rattle.c_calls.specs.Calling.{IsFirstRecursion}
use Rattle.c_core.specs.Program.{IsProgram}
use Rattle.c_core.specs.Tree.{Program}
use Rattle.c_core.specs.declared.number.DataModel.{DataModel}
use Rattle.c_core.specs.declared.number.Property.{Property}
use Rattle.c_parser.specs.Formed.{AreOrderly, IsFormed}
use Rattle.c_parser.specs.Sources.{IsSource}
use Rattle.c_parser.specs.Tree.{Item}
use Rattle.c_parser.specs.Tree as item
use Rattle.c_room.specs.Room.{HasRoom, most_functions}
use Rattle.c_tokens.specs.Reading.{Ending, Tokens, Whole}
use Rattle.c_tokens.specs.declared.token.Token.{Token}
use Rattle.check_rules.specs.Checked.{functions_of, program_of}
use Rattle.check_rules.specs.First.{IsUnrefused, wrong_main}
use Rattle.check_rules.specs.Parts.{bodies_of}
use Rattle.check_rules.specs.Scopes.{Scope, after_item, outermost}
use Rattle.source_room.specs.Texts.{IsTextOf, most_bytes}
use Rattle.source_room.proofs.TokenLengths.{tokens_few}
use Rattle.source_room.proofs.ItemLengths.{functions_take}

module _ (m : DataModel) (bodies : List (List ℕ)) where
  as_many : (s : Scope) (items : List Item) → length (functions_of m bodies s items) ≡ length (bodies_of items)
  as_many s [] = refl
  as_many s (item.Function p name result xs body ∷ items) = let more = as_many (after_item m bodies s (item.Function p name result xs body)) items in omega (arith, more)
  as_many s (item.Prototype p name result tys ∷ items) = as_many (after_item m bodies s (item.Prototype p name result tys)) items
  as_many s (item.Global ds ∷ items) = as_many (after_item m bodies s (item.Global ds)) items
  as_many s (item.Closed p name ∷ items) = as_many (after_item m bodies s (item.Closed p name)) items

pub functions_few : (m : DataModel) (property : Property) (text : List ℕ) (p : Program) → IsTextOf m property text p → length text ≤ most_bytes → length p.functions < most_functions
functions_few m property text p h short =
    let same : length p.functions ≡ length (bodies_of h.items) = ap (λ (q : Program). length q.functions) h.checked.is ∙ as_many m (bodies_of h.items) outermost h.items in
    let six = functions_take h.tokens h.items h.source in
    let bytes = tokens_few text h.tokens Whole h.spelled in
    omega (arith, same, six, bytes, short)

-- by the laws of the grammar, of checked programs and on room
module _ (orderly : (text : List ℕ) (ts : List Token) (end : Ending) → length text < 2 ^ 30 → Tokens text ts end → AreOrderly ts)
    (formed : (ts : List Token) (items : List Item) → AreOrderly ts → IsSource ts items → IsFormed items)
    (fits : (m : DataModel) (property : Property) (items : List Item) → IsUnrefused m items → wrong_main items ≡ None → IsFormed items → IsProgram (program_of m property items))
    (room : (p : Program) → IsProgram p → IsFirstRecursion p None → length p.functions ≤ most_functions → HasRoom p) where
  pub text_has_room : (m : DataModel) (property : Property) (text : List ℕ) (p : Program) → IsTextOf m property text p → length text ≤ most_bytes → IsFirstRecursion p None → HasRoom p
  text_has_room m property text p h short none =
      let few = functions_few m property text p h short in
      let right = formed h.tokens h.items (orderly text h.tokens Whole (omega (arith, short)) h.spelled) h.source in
      let is_program : IsProgram p = subst IsProgram (sym h.checked.is) (fits m property h.items h.checked.unrefused h.checked.main right) in
      room p is_program none (omega (arith, few))
