-- Where no code refuses any part, a source with a fitting `main` has its program, and no other answer.
use Rattle.std.proofs.Common.{◌≡◌, false, List, [], ◌∷◌, ◌++◌, Some, None, Result, Ok, Err, codes, refl}
use Rattle.std.specs.List.{AllByRecursion}
use Rattle.std.proofs.lemmas.List.Elements.{All-contains, All-from_recursion}
use Rattle.c_check.specs.Checking.{Answers}
use Rattle.c_core.specs.declared.number.DataModel.TheVariants.{Ilp32}
use Rattle.c_core.specs.declared.number.Property.TheVariants.{UnreachCall}
use Rattle.c_core.specs.declared.number.Spot.{Spot}
use Rattle.c_core.specs.declared.program.Program.{Program}
use Rattle.c_parser.specs.Tree.{Item, Stm}
use Rattle.check_rules.specs.Checked.{HasProgram, program_of}
use Rattle.check_rules.specs.Codes.{nameless, doubled, mistyped, missized, bodiless, crowded}
use Rattle.check_rules.specs.First.{Holds, IsUnrefused, Refuses, OfPart, OfMain, refusal, wrong_main}
use Rattle.check_rules.specs.Order.{IsUnordered}
use Rattle.check_rules.specs.Parts.{Part, parts_of_source}
use Rattle.check_rules.specs.declared.fault.CheckCode.{CheckCode}
use Rattle.check_rules.specs.declared.fault.CheckCode.TheVariants as code
use Rattle.check_rules.specs.declared.fault.CheckFault.{CheckFault}
use Rattle.check_rules.specs.declared.fault.CheckFault.TheVariants.{Refused, OutOfMemory}
use Rattle.check_rules.specs.declared.fault.Refusal.{Refusal}
use Rattle.demo_checks.specs.Checked.{IsProgramOf}
use Rattle.demo_checks.proofs.Quiet.{never}
use Rattle.demo_laws.specs.Shapes.{prototype_item, main_item}
use Rattle.demo_laws.specs.Source.{prototype_at, main_at}

pub joined : {A : Type 0} (P : A → Type 0) (xs ys : List A) → AllByRecursion P xs → AllByRecursion P ys → AllByRecursion P (xs ++ ys)
joined P [] ys h k = k
joined P (x ∷ xs) ys h k = (h.0, joined P xs ys h.1 k)

-- the source whose `main` has these statements
module _ (ss : List Stm) where
  abbrev pub items : List Item
  items = prototype_item prototype_at ∷ main_item main_at ss ∷ []

  -- no code refuses it
  pub record IsFine (part : Part) : Type 0 where
    pub known : nameless part ≡ false
    pub once : doubled part ≡ false
    pub typed : mistyped Ilp32 items part ≡ false
    pub sized : missized Ilp32 items part ≡ false
    pub ordered : IsUnordered Ilp32 items part → ⊥
    pub bodied : bodiless Ilp32 items part ≡ false
    pub few : crowded Ilp32 items part ≡ false

  holds_not : (c : CheckCode) (part : Part) → IsFine part → Holds Ilp32 items c part → ⊥
  holds_not code.Name part f h = never (nameless part) f.known h
  holds_not code.Again part f h = never (doubled part) f.once h
  holds_not code.Typing part f h = never (mistyped Ilp32 items part) f.typed h
  holds_not code.Size part f h = never (missized Ilp32 items part) f.sized h
  holds_not code.Order part f h = f.ordered h
  holds_not code.Body part f h = never (bodiless Ilp32 items part) f.bodied h
  holds_not code.Main part f h = h
  holds_not code.Cells part f h = never (crowded Ilp32 items part) f.few h

  pub unrefused : AllByRecursion IsFine (parts_of_source Ilp32 items) → IsUnrefused Ilp32 items
  unrefused all r is =
      holds_not r.code is.part (All-contains IsFine (parts_of_source Ilp32 items) is.part (All-from_recursion IsFine (parts_of_source Ilp32 items) all) is.among) is.holds

  main_fits : wrong_main items ≡ None
  main_fits = refl

  pub has_program : IsUnrefused Ilp32 items → HasProgram Ilp32 UnreachCall items (program_of Ilp32 UnreachCall items) (codes "main" ∷ [])
  has_program u = record { unrefused = u; main = main_fits; is = refl; named = refl }

  main_stays : (p : Spot) → wrong_main items ≡ Some p → ⊥
  main_stays p e = cc main_fits

  no_refusal : (r : Refusal) → IsUnrefused Ilp32 items → Refuses Ilp32 items r → ⊥
  no_refusal r u (OfPart f) = u r f.0
  no_refusal r u (OfMain {p = p} v e) = main_stays p e

  pub only_program : (answer : Result Program CheckFault) → IsUnrefused Ilp32 items → Answers Ilp32 UnreachCall items answer → IsProgramOf Ilp32 UnreachCall items answer
  only_program (Ok p) u h = (h.is, h.named)
  only_program (Err (Refused c s)) u h = no_refusal (refusal c s) u h
  only_program (Err OutOfMemory) u h = tt
