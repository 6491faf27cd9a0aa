-- Reading items: functions of the tokens, which give what `Items` says.
use Rattle.std.specs.Prelude.{ℕ, zero, suc, Bool, true, false, not, ◌&&◌, nat_le, length, drop, List, [], ◌∷◌, Option, Some, None, if◌then◌else◌, codes}
use Rattle.std.specs.List.{list_all}
use Rattle.c_core.specs.declared.number.IntType.{IntType}
use Rattle.c_core.specs.declared.number.Spot.{Spot}
use Rattle.c_tokens.specs.Numbers.{is_spelled}
use Rattle.c_tokens.specs.declared.token.Token.{Token}
use Rattle.c_tokens.specs.declared.token.Punct.{Punct}
use Rattle.c_tokens.specs.declared.token.Punct.TheVariants as sign
use Rattle.c_parser.specs.Tree.{exps, Declared, Stm, Stmt, Block, stms, Param, Item}
use Rattle.c_parser.specs.Tree as item
use Rattle.c_parser.specs.Heights.{heights, height_of_init}
use Rattle.c_parser.specs.Signs.{◌>>=◌, place, is_sign, is_word}
use Rattle.c_parser.specs.Brackets.{bracket, stacked, behind}
use Rattle.c_parser.specs.ReadExpressions.{Read, closing}
use Rattle.c_parser.specs.Declarations.{name_at, read_type, behind_attributes}
use Rattle.c_parser.specs.ReadStatements.{declares, braced_within}
use Rattle.c_parser.specs.Items.{reach_error, unless_reach, may_be_closed, outside, closed_name}

-- this sign stands next, and is passed
abbrev pub past : Punct → List Token → Option (List Token)
past s ts = if is_sign s ts then Some (drop 1 ts) else None

-- `void` alone, up to a closing parenthesis
abbrev pub is_void : List Token → Bool
is_void ts = is_word (codes "void") ts && is_sign sign.ParenClose (drop 1 ts)

-- with at most b brackets open
module _ (b : ℕ) where
  abbrev pub read_parameter : List Token → Read Param
  read_parameter ts = read_type b true ts >>= λ t. t.0 >>= λ ty. name_at t.1 >>= λ w. Some (record { spot = place t.1; name = w; ty = ty }, drop 1 t.1)

  abbrev pub read_parameter_list : ℕ → List Token → Read (List Param)
  read_parameter_list zero ts = None
  read_parameter_list (suc n) ts = read_parameter ts >>= λ x.
      elim (is_sign sign.Comma x.1) [ true ↦ (read_parameter_list n (drop 1 x.1) >>= λ r. Some (x.0 ∷ r.0, r.1)) | false ↦ Some (x.0 ∷ [], x.1) ]

  abbrev pub read_parameters : List Token → Read (List Param)
  read_parameters ts = elim (is_sign sign.ParenClose ts) [
    | true ↦ Some ([], ts)
    | false ↦ elim (is_void ts) [ true ↦ Some ([], drop 1 ts) | false ↦ read_parameter_list (length ts) ts ]
  ]

  -- after a type, a name may stand
  abbrev pub past_name : Option (List ℕ) → List Token → List Token
  past_name None ts = ts
  past_name (Some w) ts = drop 1 ts

  abbrev pub read_parameter_type : List Token → Read IntType
  read_parameter_type ts = read_type b true ts >>= λ t. t.0 >>= λ ty. Some (ty, past_name (name_at t.1) t.1)

  abbrev pub read_type_list : ℕ → List Token → Read (List IntType)
  read_type_list zero ts = None
  read_type_list (suc n) ts = read_parameter_type ts >>= λ t.
      elim (is_sign sign.Comma t.1) [ true ↦ (read_type_list n (drop 1 t.1) >>= λ r. Some (t.0 ∷ r.0, r.1)) | false ↦ Some (t.0 ∷ [], t.1) ]

  abbrev pub read_parameter_types : List Token → Read (Option (List IntType))
  read_parameter_types ts = elim (is_sign sign.ParenClose ts) [
    | true ↦ Some (None, ts)
    | false ↦ elim (is_void ts) [
      | true ↦ Some (Some [], drop 1 ts)
      | false ↦ (read_type_list (length ts) ts >>= λ r. Some (Some r.0, r.1))
    ]
  ]

-- in one more pair of brackets
abbrev pub parameters_within : ℕ → List Token → Read (List Param)
parameters_within zero ts = None
parameters_within (suc b) ts = read_parameters b ts

abbrev pub types_within : ℕ → List Token → Read (Option (List IntType))
types_within zero ts = None
types_within (suc b) ts = read_parameter_types b ts

abbrev pub is_low : ℕ → List Declared → Bool
is_low h [] = true
is_low h (d ∷ ds) = nat_le (heights (exps d.sizes)) h && (nat_le (height_of_init d.init) h && is_low h ds)

abbrev pub is_end : List Punct → Bool
is_end [] = true
is_end (c ∷ stack) = false

-- the tokens before the first `;` outside brackets, and those after it
abbrev pub to_semicolon : ℕ → List Punct → List Token → Read (List Token)
to_semicolon b stack [] = None
to_semicolon b stack (t ∷ ts) = elim (is_end stack && is_sign sign.Semicolon (t ∷ [])) [
  | true ↦ Some ([], ts)
  | false ↦ (stacked b stack (bracket t) >>= λ s. to_semicolon b s ts >>= λ r. Some (t ∷ r.0, r.1))
]

abbrev pub is_closed : List Token → Bool
is_closed front = not (is_word (codes "typedef") front) && list_all (λ (t : Token). may_be_closed t.kind) front

module _ (h b : ℕ) where
  -- what follows a declared word: its name and its place, up to its parenthesis
  abbrev pub read_reach : List Token → Read (Option Item)
  read_reach ts = read_type b true ts >>= λ t. name_at t.1 >>= λ w.
      elim (is_spelled reach_error w) [
        | true ↦ (past sign.ParenOpen (drop 1 t.1) >>= behind b sign.ParenClose >>= λ m. behind_attributes b (length m) m >>= past sign.BraceOpen >>= behind b sign.BraceClose >>= λ r. Some (None, r))
        | false ↦ None
      ]

  -- a block whose statements have at most the height h
  abbrev pub read_body : ℕ → List Token → Read Stm
  read_body zero ts = None
  read_body (suc g) ts = past sign.BraceOpen ts >>= braced_within b g >>= λ ss. closing sign.BraceClose (Stmt (place ts) (Block (stms ss.0))) ss.1

  abbrev pub read_function : List Token → Read (Option Item)
  read_function ts = read_type b true ts >>= λ t. name_at t.1 >>= λ w. past sign.ParenOpen (drop 1 t.1) >>= parameters_within b >>= λ xs. past sign.ParenClose xs.1 >>= λ m.
      behind_attributes b (length m) m >>= read_body h >>= λ s. Some (Some (item.Function (place t.1) w t.0 xs.0 s.0), s.1)

  abbrev pub read_prototype : List Token → Read (Option Item)
  read_prototype ts = read_type b true ts >>= λ t. name_at t.1 >>= λ w. past sign.ParenOpen (drop 1 t.1) >>= types_within b >>= λ tys. past sign.ParenClose tys.1 >>= λ m.
      behind_attributes b (length m) m >>= past sign.Semicolon >>= λ r. Some (unless_reach w (item.Prototype (place t.1) w t.0 tys.0), r)

  abbrev pub read_global : List Token → Read (Option Item)
  read_global ts = declares b h true ts >>= λ ds. if is_low h ds.0 then Some (Some (item.Global ds.0), ds.1) else None

  abbrev pub read_closed : List Token → Read (Option Item)
  read_closed ts = to_semicolon b [] ts >>= λ f. closed_name (outside 0 f.0) >>= λ name. if is_closed f.0 then Some (Some (item.Closed name.1 name.0), f.1) else None

  abbrev pub read_nothing : List Token → Read (Option Item)
  read_nothing ts = closing sign.Semicolon None ts

  -- the first of the forms that gives an item
  abbrev pub first_form : List (List Token → Read (Option Item)) → List Token → Read (Option Item)
  first_form [] ts = None
  first_form (form ∷ forms) ts = elim (form ts) [ None ↦ first_form forms ts | Some r ↦ Some r ]

  abbrev pub read_item : List Token → Read (Option Item)
  read_item = first_form (read_reach ∷ read_function ∷ read_prototype ∷ read_global ∷ read_closed ∷ read_nothing ∷ [])

-- the items of tokens, or the place of the first that fits no form
pub data Outcome : Type 0 where
  Source : List Item → Outcome
  Syntax : Spot → Outcome

abbrev pub onto_outcome : Option Item → Outcome → Outcome
onto_outcome None o = o
onto_outcome (Some x) (Source xs) = Source (x ∷ xs)
onto_outcome (Some x) (Syntax p) = Syntax p

-- n is at least the number of tokens
abbrev pub read_items : ℕ → ℕ → ℕ → List Token → Outcome
read_items h b n [] = Source []
read_items h b zero (t ∷ ts) = Syntax t.spot
read_items h b (suc n) (t ∷ ts) = elim (read_item h b (t ∷ ts)) [ None ↦ Syntax t.spot | Some r ↦ onto_outcome r.0 (read_items h b n r.1) ]
