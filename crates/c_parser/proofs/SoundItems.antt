-- What is read as an item is spelled by the tokens.
use Rattle.std.proofs.Common.{◌≡◌, ℕ, zero, suc, ◌≤◌, List, [], ◌∷◌, length, drop, true, refl, sym, ap, ◌∙◌, subst, Option, Some, None, arith, ◌&&◌}
use Rattle.std.proofs.lemmas.Bool.{leb-true}
use Rattle.std.specs.Prelude.{codes, nat_le}
use Rattle.c_core.specs.declared.number.IntType.{IntType}
use Rattle.c_core.specs.declared.number.Spot.{Spot}
use Rattle.c_tokens.specs.Numbers.{is_spelled}
use Rattle.c_tokens.specs.declared.token.Token.{Token}
use Rattle.c_tokens.specs.declared.token.Punct.{Punct}
use Rattle.c_tokens.specs.declared.token.Punct.TheVariants as sign
use Rattle.c_parser.specs.Tree.{exps, Declared, Stm, Stmt, Block, stms, Param, Item}
use Rattle.c_parser.specs.Tree as item
use Rattle.c_parser.specs.Heights.{height_of, height_of_block, heights, height_of_init}
use Rattle.c_parser.specs.Signs.{◌>>=◌, sign_token, word_token, place, is_sign, is_word}
use Rattle.c_parser.specs.Words.{is_name}
use Rattle.c_parser.specs.Brackets.{PassedWithin, behind}
use Rattle.c_parser.specs.Declarations.{Typed, Attributes, name_at, read_type, behind_attributes}
use Rattle.c_parser.specs.Statements.{BracedWithin}
use Rattle.c_parser.specs.ReadStatements.{declares, braced_within}
use Rattle.c_parser.specs.Items.{reach_error, Parameter, AParameter, ParameterList, LastParameter, MoreParameters, Parameters, NoParameters, VoidParameters, SomeParameters, ParameterType, Unnamed, Named, TypeList, LastType, MoreTypes, ParameterTypes, Unstated, VoidTypes, StatedTypes, ParametersWithin, TypesWithin, AreLow, Reach, AReach, Function, AFunction, Prototype, APrototype, Global, AGlobal, Nothing, ASemicolon}
use Rattle.c_parser.specs.ReadItems.{past, is_void, read_parameter, read_parameter_list, read_parameters, past_name, read_parameter_type, read_type_list, read_parameter_types, parameters_within, types_within, is_low, read_reach, read_body, read_function, read_prototype, read_global, read_nothing}
use Rattle.c_parser.proofs.SignLaws.{some_same, taken}
use Rattle.c_parser.proofs.WordLaws.{both_true, spelled_same}
use Rattle.c_parser.proofs.ReadLaws.{bind_some, chosen, parted, none_some, closed, name_in, word_taken}
use Rattle.c_parser.proofs.SoundBrackets.{behind_sound}
use Rattle.c_parser.proofs.SoundDeclarations.{attributes_sound, type_sound}
use Rattle.c_parser.proofs.SoundBlocks.{declares_sound, braced_sound}

-- the sign stood there
past_sound : (s : Punct) (ts rest : List Token) → past s ts ≡ Some rest → (p : Spot) × (ts ≡ sign_token s p ∷ rest)
past_sound s ts rest e =
    chosen (is_sign s ts) (Some (drop 1 ts)) None (Some rest) e
    (λ f g. let t = taken s ts f in (t.0, t.1 ∙ ap (λ (x : List Token). sign_token s t.0 ∷ x) (some_same g)))
    (λ f g. none_some rest g)

-- `void` stood there
void_in : (ts : List Token) → is_void ts ≡ true → (p : Spot) × (ts ≡ word_token (codes "void") p ∷ drop 1 ts)
void_in ts e = word_taken (codes "void") ts (both_true (is_word (codes "void") ts) (is_sign sign.ParenClose (drop 1 ts)) e).0

module _ (b : ℕ) where
  parameter_sound : (ts : List Token) (r : Param × List Token) → read_parameter b ts ≡ Some r → Parameter (PassedWithin b) ts r.0 r.1
  parameter_sound ts r e =
      let t = bind_some (read_type b true ts) _ r e in
      let ty = bind_some t.0.0 _ r t.2 in
      let w = bind_some (name_at t.0.1) _ r ty.2 in
      let n = name_in t.0.1 w.0 w.1 in
      let typed : Typed (PassedWithin b) true ts (Some ty.0) (word_token w.0 n.0 ∷ drop 1 t.0.1) =
      subst (λ (x : Option IntType). Typed (PassedWithin b) true ts x (word_token w.0 n.0 ∷ drop 1 t.0.1)) ty.1 (subst (λ (x : List Token). Typed (PassedWithin b) true ts t.0.0 x) n.1 (type_sound b true ts t.0 t.1)) in
      subst (λ (x : Param × List Token). Parameter (PassedWithin b) ts x.0 x.1) (some_same w.2)
      (subst (λ (x : Spot). Parameter (PassedWithin b) ts (record { spot = x; name = w.0; ty = ty.0 }) (drop 1 t.0.1)) (sym (ap place n.1)) (AParameter typed n.2))

  parameter_list_sound : (n : ℕ) (ts : List Token) (r : List Param × List Token) → read_parameter_list b n ts ≡ Some r → ParameterList (PassedWithin b) ts r.0 r.1
  parameter_list_sound zero ts r e = none_some r e
  parameter_list_sound (suc n) ts r e =
      let a = bind_some (read_parameter b ts) _ r e in
      let one = parameter_sound ts a.0 a.1 in
      parted (is_sign sign.Comma a.0.1) _ _ (Some r) a.2
      (λ f g.
      let t = taken sign.Comma a.0.1 f in
      let m = bind_some (read_parameter_list b n (drop 1 a.0.1)) _ r g in
      subst (λ (x : List Param × List Token). ParameterList (PassedWithin b) ts x.0 x.1) (some_same m.2)
      (MoreParameters (subst (λ (x : List Token). Parameter (PassedWithin b) ts a.0.0 x) t.1 one) (parameter_list_sound n (drop 1 a.0.1) m.0 m.1)))
      (λ f g. subst (λ (x : List Param × List Token). ParameterList (PassedWithin b) ts x.0 x.1) (some_same g) (LastParameter one))

  parameters_sound : (ts : List Token) (r : List Param × List Token) → read_parameters b ts ≡ Some r → Parameters (PassedWithin b) ts r.0 r.1
  parameters_sound ts r e =
      parted (is_sign sign.ParenClose ts) _ _ (Some r) e
      (λ f g. subst (λ (x : List Param × List Token). Parameters (PassedWithin b) ts x.0 x.1) (some_same g) NoParameters)
      (λ f g.
      parted (is_void ts) _ _ (Some r) g
      (λ x y.
      let v = void_in ts x in
      subst (λ (z : List Param × List Token). Parameters (PassedWithin b) ts z.0 z.1) (some_same y)
      (subst (λ (z : List Token). Parameters (PassedWithin b) z [] (drop 1 ts)) (sym v.1) VoidParameters))
      (λ x y. SomeParameters (parameter_list_sound (length ts) ts r y)))

  -- with a name behind it or without
  named_type : (ts : List Token) (ty : IntType) (rest : List Token) (o : Option (List ℕ)) → name_at rest ≡ o → Typed (PassedWithin b) true ts (Some ty) rest → ParameterType (PassedWithin b) ts ty (past_name b o rest)
  named_type ts ty rest None e t = Unnamed t
  named_type ts ty rest (Some w) e t = let n = name_in rest w e in Named (subst (λ (x : List Token). Typed (PassedWithin b) true ts (Some ty) x) n.1 t) n.2

  parameter_type_sound : (ts : List Token) (r : IntType × List Token) → read_parameter_type b ts ≡ Some r → ParameterType (PassedWithin b) ts r.0 r.1
  parameter_type_sound ts r e =
      let t = bind_some (read_type b true ts) _ r e in
      let ty = bind_some t.0.0 _ r t.2 in
      let typed : Typed (PassedWithin b) true ts (Some ty.0) t.0.1 = subst (λ (x : Option IntType). Typed (PassedWithin b) true ts x t.0.1) ty.1 (type_sound b true ts t.0 t.1) in
      subst (λ (x : IntType × List Token). ParameterType (PassedWithin b) ts x.0 x.1) (some_same ty.2) (named_type ts ty.0 t.0.1 (name_at t.0.1) refl typed)

  type_list_sound : (n : ℕ) (ts : List Token) (r : List IntType × List Token) → read_type_list b n ts ≡ Some r → TypeList (PassedWithin b) ts r.0 r.1
  type_list_sound zero ts r e = none_some r e
  type_list_sound (suc n) ts r e =
      let a = bind_some (read_parameter_type b ts) _ r e in
      let one = parameter_type_sound ts a.0 a.1 in
      parted (is_sign sign.Comma a.0.1) _ _ (Some r) a.2
      (λ f g.
      let t = taken sign.Comma a.0.1 f in
      let m = bind_some (read_type_list b n (drop 1 a.0.1)) _ r g in
      subst (λ (x : List IntType × List Token). TypeList (PassedWithin b) ts x.0 x.1) (some_same m.2)
      (MoreTypes (subst (λ (x : List Token). ParameterType (PassedWithin b) ts a.0.0 x) t.1 one) (type_list_sound n (drop 1 a.0.1) m.0 m.1)))
      (λ f g. subst (λ (x : List IntType × List Token). TypeList (PassedWithin b) ts x.0 x.1) (some_same g) (LastType one))

  types_sound : (ts : List Token) (r : Option (List IntType) × List Token) → read_parameter_types b ts ≡ Some r → ParameterTypes (PassedWithin b) ts r.0 r.1
  types_sound ts r e =
      parted (is_sign sign.ParenClose ts) _ _ (Some r) e
      (λ f g. subst (λ (x : Option (List IntType) × List Token). ParameterTypes (PassedWithin b) ts x.0 x.1) (some_same g) Unstated)
      (λ f g.
      parted (is_void ts) _ _ (Some r) g
      (λ x y.
      let v = void_in ts x in
      subst (λ (z : Option (List IntType) × List Token). ParameterTypes (PassedWithin b) ts z.0 z.1) (some_same y)
      (subst (λ (z : List Token). ParameterTypes (PassedWithin b) z (Some []) (drop 1 ts)) (sym v.1) VoidTypes))
      (λ x y.
      let a = bind_some (read_type_list b (length ts) ts) _ r y in
      subst (λ (z : Option (List IntType) × List Token). ParameterTypes (PassedWithin b) ts z.0 z.1) (some_same a.2) (StatedTypes (type_list_sound (length ts) ts a.0 a.1))))

parameters_within_sound : (b : ℕ) (ts : List Token) (r : List Param × List Token) → parameters_within b ts ≡ Some r → ParametersWithin b ts r.0 r.1
parameters_within_sound zero ts r e = none_some r e
parameters_within_sound (suc b) ts r e = parameters_sound b ts r e

types_within_sound : (b : ℕ) (ts : List Token) (r : Option (List IntType) × List Token) → types_within b ts ≡ Some r → TypesWithin b ts r.0 r.1
types_within_sound zero ts r e = none_some r e
types_within_sound (suc b) ts r e = types_sound b ts r e

low_sound : (h : ℕ) (ds : List Declared) → is_low h ds ≡ true → AreLow h ds
low_sound h [] e = tt
low_sound h (d ∷ ds) e =
    let a = both_true (nat_le (heights (exps d.sizes)) h) (nat_le (height_of_init d.init) h && is_low h ds) e in
    let c = both_true (nat_le (height_of_init d.init) h) (is_low h ds) a.1 in
    (leb-true (heights (exps d.sizes)) h a.0, (leb-true (height_of_init d.init) h c.0, low_sound h ds c.1))

-- a declared word, and the parenthesis behind it
record Headed (b : ℕ) (ts : List Token) (result : Option IntType) (w : List ℕ) (p : Spot) (first : List Token) : Type 0 where
  q : Spot
  typed : Typed (PassedWithin b) true ts result (word_token w p ∷ sign_token sign.ParenOpen q ∷ first)

headed : (b : ℕ) (ts : List Token) (t : Option IntType × List Token) (w : List ℕ) (first : List Token) → read_type b true ts ≡ Some t → name_at t.1 ≡ Some w → past sign.ParenOpen (drop 1 t.1) ≡ Some first →
    Headed b ts t.0 w (place t.1) first × (is_name w ≡ true)
headed b ts t w first e f g =
    let n = name_in t.1 w f in
    let o = past_sound sign.ParenOpen (drop 1 t.1) first g in
    let mark : n.0 ≡ place t.1 = sym (ap place n.1) in (
      subst (λ (x : Spot). Headed b ts t.0 w x first) mark
          (record { q = o.0; typed = subst (λ (x : List Token). Typed (PassedWithin b) true ts t.0 x) (n.1 ∙ ap (λ (x : List Token). word_token w n.0 ∷ x) o.1) (type_sound b true ts t e) }),
      n.2,
    )

-- a block whose statements have at most the height h
record Bodied (b h : ℕ) (ts : List Token) (s : Stm) (rest : List Token) : Type 0 where
  u : Spot
  z : Spot
  third : List Token
  ss : List Stm
  begun : ts ≡ sign_token sign.BraceOpen u ∷ third
  braced : BracedWithin b third ss (sign_token sign.BraceClose z ∷ rest)
  same : Stmt u (Block (stms ss)) ≡ s
  low : height_of (Stmt u (Block (stms ss))) ≤ h

module _ (h b : ℕ) where
  body_sound : (g : ℕ) (ts : List Token) (r : Stm × List Token) → read_body h b g ts ≡ Some r → Bodied b g ts r.0 r.1
  body_sound zero ts r e = none_some r e
  body_sound (suc g) ts r e =
      let a = bind_some (past sign.BraceOpen ts >>= braced_within b g) _ r e in
      let o = bind_some (past sign.BraceOpen ts) _ a.0 a.1 in
      let t = past_sound sign.BraceOpen ts o.0 o.1 in
      let i = braced_sound b g o.0 a.0 o.2 in
      let low : height_of_block (stms a.0.0) ≤ g = i.1 in
      let c = closed sign.BraceClose (Stmt (place ts) (Block (stms a.0.0))) a.0.1 r a.2 in
      let mark : t.0 ≡ place ts = sym (ap place t.1) in
      record {
        u = t.0;
        z = c.0;
        third = o.0;
        ss = a.0.0;
        begun = t.1;
        braced = subst (λ (x : List Token). BracedWithin b o.0 a.0.0 x) c.1 i.0;
        same = ap (λ (x : Spot). Stmt x (Block (stms a.0.0))) mark ∙ c.2;
        low = omega (arith, low);
      }

  pub reach_sound : (ts : List Token) (r : Option Item × List Token) → read_reach h b ts ≡ Some r → Reach h b ts r.0 r.1
  reach_sound ts r e =
      let t = bind_some (read_type b true ts) _ r e in
      let w = bind_some (name_at t.0.1) _ r t.2 in
      parted (is_spelled reach_error w.0) _ _ (Some r) w.2
      (λ f g.
      let m = bind_some (past sign.ParenOpen (drop 1 t.0.1) >>= behind b sign.ParenClose) _ r g in
      let o = bind_some (past sign.ParenOpen (drop 1 t.0.1)) _ m.0 m.1 in
      let second = behind_sound b sign.ParenClose o.0 m.0 o.2 in
      let k = bind_some (behind_attributes b (length m.0) m.0 >>= past sign.BraceOpen >>= behind b sign.BraceClose) _ r m.2 in
      let n = bind_some (behind_attributes b (length m.0) m.0 >>= past sign.BraceOpen) _ k.0 k.1 in
      let last = behind_sound b sign.BraceClose n.0 k.0 n.2 in
      let v = bind_some (behind_attributes b (length m.0) m.0) _ n.0 n.1 in
      let u = past_sound sign.BraceOpen v.0 n.0 v.2 in
      let attributes : Attributes (PassedWithin b) m.0 (sign_token sign.BraceOpen u.0 ∷ n.0) = subst (λ (x : List Token). Attributes (PassedWithin b) m.0 x) u.1 (attributes_sound b (length m.0) m.0 v.0 v.1) in
      let head = (headed b ts t.0 w.0 o.0 t.1 w.1 o.1).0 in
      let typed : Typed (PassedWithin b) true ts t.0.0 (word_token reach_error (place t.0.1) ∷ sign_token sign.ParenOpen head.q ∷ o.0) =
      subst (λ (x : List ℕ). Typed (PassedWithin b) true ts t.0.0 (word_token x (place t.0.1) ∷ sign_token sign.ParenOpen head.q ∷ o.0)) (spelled_same reach_error w.0 f) head.typed in
      subst (λ (x : Option Item × List Token). Reach h b ts x.0 x.1) (some_same k.2) (AReach second.0 last.0 typed second.1 attributes last.1))
      (λ f g. none_some r g)

  pub function_sound : (ts : List Token) (r : Option Item × List Token) → read_function h b ts ≡ Some r → Function h b ts r.0 r.1
  function_sound ts r e =
      let t = bind_some (read_type b true ts) _ r e in
      let w = bind_some (name_at t.0.1) _ r t.2 in
      let xs = bind_some (past sign.ParenOpen (drop 1 t.0.1) >>= parameters_within b) _ r w.2 in
      let o = bind_some (past sign.ParenOpen (drop 1 t.0.1)) _ xs.0 xs.1 in
      let head = headed b ts t.0 w.0 o.0 t.1 w.1 o.1 in
      let named = head.0 in
      let params = parameters_within_sound b o.0 xs.0 o.2 in
      let m = bind_some (past sign.ParenClose xs.0.1) _ r xs.2 in
      let close = past_sound sign.ParenClose xs.0.1 m.0 m.1 in
      let s = bind_some (behind_attributes b (length m.0) m.0 >>= read_body h b h) _ r m.2 in
      let v = bind_some (behind_attributes b (length m.0) m.0) _ s.0 s.1 in
      let body = body_sound h v.0 s.0 v.2 in
      let attributes : Attributes (PassedWithin b) m.0 (sign_token sign.BraceOpen body.u ∷ body.third) = subst (λ (x : List Token). Attributes (PassedWithin b) m.0 x) body.begun (attributes_sound b (length m.0) m.0 v.0 v.1) in
      subst (λ (x : Option Item × List Token). Function h b ts x.0 x.1) (some_same s.2)
      (subst (λ (x : Stm). Function h b ts (Some (item.Function (place t.0.1) w.0 t.0.0 xs.0.0 x)) s.0.1) body.same
      (AFunction body.ss close.0 body.z named.typed head.1 (subst (λ (x : List Token). ParametersWithin b o.0 xs.0.0 x) close.1 params) attributes body.braced body.low))

  pub prototype_sound : (ts : List Token) (r : Option Item × List Token) → read_prototype h b ts ≡ Some r → Prototype h b ts r.0 r.1
  prototype_sound ts r e =
      let t = bind_some (read_type b true ts) _ r e in
      let w = bind_some (name_at t.0.1) _ r t.2 in
      let xs = bind_some (past sign.ParenOpen (drop 1 t.0.1) >>= types_within b) _ r w.2 in
      let o = bind_some (past sign.ParenOpen (drop 1 t.0.1)) _ xs.0 xs.1 in
      let head = headed b ts t.0 w.0 o.0 t.1 w.1 o.1 in
      let named = head.0 in
      let types = types_within_sound b o.0 xs.0 o.2 in
      let m = bind_some (past sign.ParenClose xs.0.1) _ r xs.2 in
      let close = past_sound sign.ParenClose xs.0.1 m.0 m.1 in
      let s = bind_some (behind_attributes b (length m.0) m.0 >>= past sign.Semicolon) _ r m.2 in
      let v = bind_some (behind_attributes b (length m.0) m.0) _ s.0 s.1 in
      let end = past_sound sign.Semicolon v.0 s.0 v.2 in
      let attributes : Attributes (PassedWithin b) m.0 (sign_token sign.Semicolon end.0 ∷ s.0) = subst (λ (x : List Token). Attributes (PassedWithin b) m.0 x) end.1 (attributes_sound b (length m.0) m.0 v.0 v.1) in
      subst (λ (x : Option Item × List Token). Prototype h b ts x.0 x.1) (some_same s.2)
      (APrototype xs.0.0 close.0 named.typed head.1 (subst (λ (x : List Token). TypesWithin b o.0 xs.0.0 x) close.1 types) attributes)

  pub global_sound : (ts : List Token) (r : Option Item × List Token) → read_global h b ts ≡ Some r → Global h b ts r.0 r.1
  global_sound ts r e =
      let ds = bind_some (declares b h true ts) _ r e in
      chosen (is_low h ds.0.0) (Some (Some (item.Global ds.0.0), ds.0.1)) None (Some r) ds.2
      (λ f g. subst (λ (x : Option Item × List Token). Global h b ts x.0 x.1) (some_same g) (AGlobal (declares_sound b h true ts ds.0 ds.1).0 (low_sound h ds.0.0 f)))
      (λ f g. none_some r g)

  pub nothing_sound : (ts : List Token) (r : Option Item × List Token) → read_nothing h b ts ≡ Some r → Nothing h b ts r.0 r.1
  nothing_sound ts r e =
      let c = closed sign.Semicolon None ts r e in
      subst (λ (x : Option Item). Nothing h b ts x r.1) c.2 (subst (λ (x : List Token). Nothing h b x None r.1) (sym c.1) ASemicolon)
