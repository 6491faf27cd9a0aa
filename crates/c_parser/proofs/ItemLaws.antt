-- Each item that tokens spell is read from them.
use Rattle.std.proofs.Common.{◌≡◌, ℕ, zero, suc, ◌≤◌, ◌<◌, List, [], ◌∷◌, length, drop, true, false, refl, sym, ap, ◌∙◌, Option, Some, None, arith}
use Rattle.std.proofs.lemmas.Bool.{false_from_ne_true, le-leb, and_from}
use Rattle.std.specs.Prelude.{codes}
use Rattle.c_core.specs.declared.number.IntType.{IntType}
use Rattle.c_core.specs.declared.number.Spot.{Spot}
use Rattle.c_tokens.specs.declared.token.Token.{Token}
use Rattle.c_tokens.specs.declared.token.Punct.{Punct}
use Rattle.c_tokens.specs.declared.token.Punct.TheVariants as sign
use Rattle.c_parser.specs.Tree.{exps, Declared, Stm, Stmt, Block, stms, Param, Item}
use Rattle.c_parser.specs.Heights.{height_of_block, height_of_declared, heights, height_of_init}
use Rattle.c_parser.specs.Signs.{sign_token, word_token, is_sign, is_word}
use Rattle.c_parser.specs.Brackets.{PassedWithin}
use Rattle.c_parser.specs.ReadExpressions.{Read}
use Rattle.c_parser.specs.Declarations.{read_type}
use Rattle.c_parser.specs.Statements.{BracedWithin}
use Rattle.c_parser.specs.Items.{reach_error, Parameter, AParameter, ParameterList, LastParameter, MoreParameters, Parameters, NoParameters, VoidParameters, SomeParameters, ParameterType, Unnamed, Named, TypeList, LastType, MoreTypes, ParameterTypes, Unstated, VoidTypes, StatedTypes, ParametersWithin, TypesWithin, AreLow, Reach, AReach, Function, AFunction, Prototype, APrototype, Global, AGlobal, Nothing, ASemicolon}
use Rattle.c_parser.specs.ReadItems.{is_void, read_parameter, read_parameter_list, read_parameters, read_parameter_type, read_type_list, read_parameter_types, parameters_within, types_within, is_low, read_reach, read_body, read_function, read_prototype, read_global, read_nothing}
use Rattle.c_parser.proofs.SignLaws.{taken}
use Rattle.c_parser.proofs.WordLaws.{both_true}
use Rattle.c_parser.proofs.ReadLaws.{word_taken}
use Rattle.c_parser.proofs.BracketLaws.{behind_passed}
use Rattle.c_parser.proofs.DeclarationLaws.{name_is_no_part, attributes_read, type_read, specifiers_shorter}
use Rattle.c_parser.proofs.StatementKnot.{declares_read, braced_read}

void_taken : (ts : List Token) → is_void ts ≡ true → (p : Spot) × (q : Spot) × (ts ≡ word_token (codes "void") p ∷ sign_token sign.ParenClose q ∷ drop 1 (drop 1 ts))
void_taken ts e =
    let h = both_true (is_word (codes "void") ts) (is_sign sign.ParenClose (drop 1 ts)) e in
    let w = word_taken (codes "void") ts h.0 in
    let c = taken sign.ParenClose (drop 1 ts) h.1 in
    (w.0, c.0, w.1 ∙ ap (λ (us : List Token). word_token (codes "void") w.0 ∷ us) c.1)

-- the type that was read
type_in : Read (Option IntType) → Option IntType
type_in None = None
type_in (Some r) = r.0

none_some : (ty : IntType) → None ≡ Some ty → ⊥
none_some ty e = cc

-- neither a closing parenthesis nor `void` alone is the type of a parameter
no_empty : (b : ℕ) (ts : List Token) (ty : IntType) (rest : List Token) → read_type b true ts ≡ Some (Some ty, rest) → is_sign sign.ParenClose ts ≡ false
unfolding type_in
no_empty b ts ty rest e = false_from_ne_true _ (λ f. let t = taken sign.ParenClose ts f in none_some ty (sym (ap (λ (us : List Token). type_in (read_type b true us)) t.1) ∙ ap type_in e))

no_void : (b : ℕ) (ts : List Token) (ty : IntType) (rest : List Token) → read_type b true ts ≡ Some (Some ty, rest) → is_void ts ≡ false
unfolding type_in
no_void b ts ty rest e = false_from_ne_true _ (λ f. let t = void_taken ts f in none_some ty (sym (ap (λ (us : List Token). type_in (read_type b true us)) t.2) ∙ ap type_in e))

module _ (b : ℕ) where
  parameter_read : (ts : List Token) (x : Param) (rest : List Token) → Parameter (PassedWithin b) ts x rest → read_parameter b ts ≡ Some (x, rest)
  parameter_read ts x rest (AParameter {ty = ty} {w = w} {p = p} t n) = rw (type_read b true ts (Some ty) (word_token w p ∷ rest) t (name_is_no_part true w n), n) refl

  parameter_begins : (ts : List Token) (x : Param) (rest : List Token) → Parameter (PassedWithin b) ts x rest → (is_sign sign.ParenClose ts ≡ false) × (is_void ts ≡ false) × (length rest < length ts)
  parameter_begins ts x rest (AParameter {ty = ty} {w = w} {p = p} t n) =
      let e = type_read b true ts (Some ty) (word_token w p ∷ rest) t (name_is_no_part true w n) in
      let s = specifiers_shorter b true ts t.words (word_token w p ∷ rest) t.specifiers in
      (no_empty b ts ty (word_token w p ∷ rest) e, no_void b ts ty (word_token w p ∷ rest) e, omega arith)

  parameter_list_read : (n : ℕ) (ts : List Token) (xs : List Param) (q : Spot) (rest : List Token) → length ts ≤ n → ParameterList (PassedWithin b) ts xs (sign_token sign.ParenClose q ∷ rest) → read_parameter_list b n ts ≡ Some (xs, sign_token sign.ParenClose q ∷ rest)
  parameter_list_read zero ts xs q rest le (LastParameter a) = let x = (parameter_begins _ _ _ a).2 in absurd (omega arith)
  parameter_list_read zero ts xs q rest le (MoreParameters a l) = let x = (parameter_begins _ _ _ a).2 in absurd (omega arith)
  parameter_list_read (suc n) ts xs q rest le (LastParameter a) = rw (parameter_read _ _ _ a) refl
  parameter_list_read (suc n) ts xs q rest le (MoreParameters a l) =
      let x = (parameter_begins _ _ _ a).2 in rw (parameter_read _ _ _ a, parameter_list_read n _ _ _ _ (omega arith) l) refl

  list_begins : (ts : List Token) (xs : List Param) (rest : List Token) → ParameterList (PassedWithin b) ts xs rest → (is_sign sign.ParenClose ts ≡ false) × (is_void ts ≡ false)
  list_begins ts xs rest (LastParameter a) = let f = parameter_begins _ _ _ a in (f.0, f.1)
  list_begins ts xs rest (MoreParameters a l) = let f = parameter_begins _ _ _ a in (f.0, f.1)

  pub parameters_read : (ts : List Token) (xs : List Param) (q : Spot) (rest : List Token) → Parameters (PassedWithin b) ts xs (sign_token sign.ParenClose q ∷ rest) → read_parameters b ts ≡ Some (xs, sign_token sign.ParenClose q ∷ rest)
  parameters_read ts xs q rest NoParameters = refl
  parameters_read ts xs q rest VoidParameters = refl
  parameters_read ts xs q rest (SomeParameters l) = let f = list_begins ts xs _ l in rw (read_parameters, f.0, f.1) (parameter_list_read (length ts) ts xs q rest (omega arith) l)

  -- a type of a prototype's parameter, where a sign follows
  parameter_type_read : (ts : List Token) (ty : IntType) (s : Punct) (q : Spot) (rest : List Token) → ParameterType (PassedWithin b) ts ty (sign_token s q ∷ rest) → read_parameter_type b ts ≡ Some (ty, sign_token s q ∷ rest)
  parameter_type_read ts ty s q rest (Unnamed t) = rw (type_read b true ts (Some ty) (sign_token s q ∷ rest) t refl) refl
  parameter_type_read ts ty s q rest (Named {w = w} {p = p} t n) = rw (type_read b true ts (Some ty) (word_token w p ∷ sign_token s q ∷ rest) t (name_is_no_part true w n), n) refl

  type_begins : (ts : List Token) (ty : IntType) (s : Punct) (q : Spot) (rest : List Token) → ParameterType (PassedWithin b) ts ty (sign_token s q ∷ rest) → (is_sign sign.ParenClose ts ≡ false) × (is_void ts ≡ false) × (length rest < length ts)
  type_begins ts ty s q rest (Unnamed t) =
      let e = type_read b true ts (Some ty) (sign_token s q ∷ rest) t refl in
      let x = specifiers_shorter b true ts t.words (sign_token s q ∷ rest) t.specifiers in
      (no_empty b ts ty _ e, no_void b ts ty _ e, omega arith)
  type_begins ts ty s q rest (Named {w = w} {p = p} t n) =
      let e = type_read b true ts (Some ty) (word_token w p ∷ sign_token s q ∷ rest) t (name_is_no_part true w n) in
      let x = specifiers_shorter b true ts t.words (word_token w p ∷ sign_token s q ∷ rest) t.specifiers in
      (no_empty b ts ty _ e, no_void b ts ty _ e, omega arith)

  type_list_read : (n : ℕ) (ts : List Token) (tys : List IntType) (q : Spot) (rest : List Token) → length ts ≤ n → TypeList (PassedWithin b) ts tys (sign_token sign.ParenClose q ∷ rest) → read_type_list b n ts ≡ Some (tys, sign_token sign.ParenClose q ∷ rest)
  type_list_read zero ts tys q rest le (LastType a) = let x = (type_begins _ _ _ _ _ a).2 in absurd (omega arith)
  type_list_read zero ts tys q rest le (MoreTypes a l) = let x = (type_begins _ _ _ _ _ a).2 in absurd (omega arith)
  type_list_read (suc n) ts tys q rest le (LastType a) = rw (parameter_type_read _ _ _ _ _ a) refl
  type_list_read (suc n) ts tys q rest le (MoreTypes a l) =
      let x = (type_begins _ _ _ _ _ a).2 in rw (parameter_type_read _ _ _ _ _ a, type_list_read n _ _ _ _ (omega arith) l) refl

  types_begin : (ts : List Token) (tys : List IntType) (q : Spot) (rest : List Token) → TypeList (PassedWithin b) ts tys (sign_token sign.ParenClose q ∷ rest) → (is_sign sign.ParenClose ts ≡ false) × (is_void ts ≡ false)
  types_begin ts tys q rest (LastType a) = let f = type_begins _ _ _ _ _ a in (f.0, f.1)
  types_begin ts tys q rest (MoreTypes a l) = let f = type_begins _ _ _ _ _ a in (f.0, f.1)

  pub types_read : (ts : List Token) (tys : Option (List IntType)) (q : Spot) (rest : List Token) → ParameterTypes (PassedWithin b) ts tys (sign_token sign.ParenClose q ∷ rest) → read_parameter_types b ts ≡ Some (tys, sign_token sign.ParenClose q ∷ rest)
  types_read ts tys q rest Unstated = refl
  types_read ts tys q rest VoidTypes = refl
  types_read ts tys q rest (StatedTypes {tys = xs} l) =
      let f = types_begin ts xs q rest l in rw (read_parameter_types, f.0, f.1, type_list_read (length ts) ts xs q rest (omega arith) l) refl

parameters_in : (b : ℕ) (ts : List Token) (xs : List Param) (q : Spot) (rest : List Token) → ParametersWithin b ts xs (sign_token sign.ParenClose q ∷ rest) → parameters_within b ts ≡ Some (xs, sign_token sign.ParenClose q ∷ rest)
parameters_in zero ts xs q rest d = absurd d
parameters_in (suc b) ts xs q rest d = parameters_read b ts xs q rest d

types_in : (b : ℕ) (ts : List Token) (tys : Option (List IntType)) (q : Spot) (rest : List Token) → TypesWithin b ts tys (sign_token sign.ParenClose q ∷ rest) → types_within b ts ≡ Some (tys, sign_token sign.ParenClose q ∷ rest)
types_in zero ts tys q rest d = absurd d
types_in (suc b) ts tys q rest d = types_read b ts tys q rest d

body_read : (h b : ℕ) (u z : Spot) (ts : List Token) (ss : List Stm) (rest : List Token) → BracedWithin b ts ss (sign_token sign.BraceClose z ∷ rest) → suc (height_of_block (stms ss)) ≤ h →
    read_body h b h (sign_token sign.BraceOpen u ∷ ts) ≡ Some (Stmt u (Block (stms ss)), rest)
body_read zero b u z ts ss rest d hi = absurd (omega arith)
body_read (suc h) b u z ts ss rest d hi = rw (braced_read b h ts ss (sign_token sign.BraceClose z ∷ rest) d (omega arith)) refl

low_height : (h : ℕ) (ds : List Declared) → AreLow h ds → height_of_declared ds ≤ h
low_height h [] l = omega arith
low_height h (d ∷ ds) l = let x = l.0 in let y = l.1.0 in let z = low_height h ds l.1.1 in omega arith

low_true : (h : ℕ) (ds : List Declared) → AreLow h ds → is_low h ds ≡ true
low_true h [] l = refl
low_true h (d ∷ ds) l = and_from _ _ (le-leb (heights (exps d.sizes)) h l.0) (and_from _ _ (le-leb (height_of_init d.init) h l.1.0) (low_true h ds l.1.1))

module _ (h b : ℕ) where
  pub reach_read : (ts : List Token) (x : Option Item) (rest : List Token) → Reach h b ts x rest → read_reach h b ts ≡ Some (x, rest)
  reach_read ts x rest (AReach {first = first} {second = second} {third = third} {result = result} {p = p} {q = q} {u = u} r z t i a k) =
      rw (
        type_read b true ts result (word_token reach_error p ∷ sign_token sign.ParenOpen q ∷ first) t (name_is_no_part true reach_error refl),
        behind_passed b sign.ParenClose first r second refl i,
        attributes_read b (length second) second (sign_token sign.BraceOpen u ∷ third) (omega arith) a refl,
        behind_passed b sign.BraceClose third z rest refl k,
      ) refl

  pub function_read : (ts : List Token) (x : Option Item) (rest : List Token) → Function h b ts x rest → read_function h b ts ≡ Some (x, rest)
  function_read ts x rest (AFunction {first = first} {second = second} {third = third} {result = result} {w = w} {xs = xs} {p = p} {q = q} {u = u} ss r z t n ps a d hi) =
      rw (
        type_read b true ts result (word_token w p ∷ sign_token sign.ParenOpen q ∷ first) t (name_is_no_part true w n),
        n,
        parameters_in b first xs r second ps,
        attributes_read b (length second) second (sign_token sign.BraceOpen u ∷ third) (omega arith) a refl,
        body_read h b u z third ss rest d hi,
      ) refl

  pub prototype_read : (ts : List Token) (x : Option Item) (rest : List Token) → Prototype h b ts x rest → read_prototype h b ts ≡ Some (x, rest)
  prototype_read ts x rest (APrototype {first = first} {second = second} {result = result} {w = w} {p = p} {q = q} {z = z} tys r t n ps a) =
      rw (
        type_read b true ts result (word_token w p ∷ sign_token sign.ParenOpen q ∷ first) t (name_is_no_part true w n),
        n,
        types_in b first tys r second ps,
        attributes_read b (length second) second (sign_token sign.Semicolon z ∷ rest) (omega arith) a refl,
      ) refl

  pub global_read : (ts : List Token) (x : Option Item) (rest : List Token) → Global h b ts x rest → read_global h b ts ≡ Some (x, rest)
  global_read ts x rest (AGlobal {ds = ds} d l) = rw (declares_read b h true ts ds rest d (low_height h ds l), low_true h ds l) refl

  pub nothing_read : (ts : List Token) (x : Option Item) (rest : List Token) → Nothing h b ts x rest → read_nothing h b ts ≡ Some (x, rest)
  nothing_read ts x rest ASemicolon = refl
