-- Operands between which C has no order (C11 6.5p2): none changes what another touches, and at most one calls functions with a body.
use Rattle.std.specs.Prelude.{◌≡◌, ◌<◌, ◌⊎◌, ℕ, ◌-◌, nat_eq, Bool, true, false, ◌&&◌, List, [], ◌∷◌, ◌++◌, length, Option, Some, None, slice_get}
use Rattle.std.specs.List.{Contains}
use Rattle.c_core.specs.declared.number.DataModel.{DataModel}
use Rattle.c_core.specs.declared.tree.Callee.{Callee}
use Rattle.c_core.specs.declared.tree.Callee.TheVariants as callee
use Rattle.c_parser.specs.Tree as raw
use Rattle.c_parser.specs.Tree.{Exp, Expr, Node, Number, Char, Var, Index, Unary, Cast, Step, Binary, Logic, Choose, Comma, Assign, Call, Exps, NoExp, MoreExp}
use Rattle.check_rules.specs.Names as kind
use Rattle.check_rules.specs.Names.{Kind, Entry, named, is_function}
use Rattle.check_rules.specs.Typed.{callee_of}
use Rattle.check_rules.specs.Scopes.{Scope, seen, after_item, outermost}
use Rattle.check_rules.specs.Parts.{Value, Target, Part, Expression, Initializing, parts, parts_in, parts_of_body, bodies_of}

-- this object
abbrev pub is_object : ℕ → Option Kind → Bool
is_object o (Some (kind.Object n ty dims fixed)) = nat_eq n o
is_object o _ = false

-- this object, if it is of static storage
abbrev pub is_static : ℕ → Option Kind → Bool
is_static o (Some (kind.Object n ty dims fixed)) = nat_eq n o && fixed
is_static o _ = false

-- the declaration of the object or element that an expression names; an array is one object
abbrev pub object_named : List Entry → Node → Option Kind
object_named es (Var x w) = named es x
object_named es (Index x w is) = named es x
object_named es _ = None

-- what a part does by itself, to an object that passes the test; what is stored to isn't read
abbrev pub reads : (Option Kind → Bool) → Part → Bool
reads test (Expression es Target e) = false
reads test (Expression es r (Expr p n)) = test (object_named es n)
reads test _ = false

-- a part that assigns or steps an object of this test
abbrev pub changes : (Option Kind → Bool) → Part → Bool
changes test (Expression es Target (Expr p n)) = test (object_named es n)
changes test _ = false

-- it calls the function of that number
abbrev pub has_number : ℕ → Callee → Bool
has_number k (callee.Defined f) = nat_eq f k
has_number k _ = false

-- one of the parts passes the test
pub data SomeOf (test : Part → Bool) : List Part → Type 0 where
  This : {p : Part} {ps : List Part} → test p ≡ true → SomeOf test (p ∷ ps)
  Other : {p : Part} {ps : List Part} → SomeOf test ps → SomeOf test (p ∷ ps)

-- the parts of each function's body, in the order of the source
abbrev pub parts_of_bodies : DataModel → List (List ℕ) → Scope → List raw.Item → List (List Part)
parts_of_bodies m bodies s [] = []
parts_of_bodies m bodies s (raw.Function p name result xs body ∷ items) =
    parts_of_body m bodies s name result xs body ∷ parts_of_bodies m bodies (after_item m bodies s (raw.Function p name result xs body)) items
parts_of_bodies m bodies s (item ∷ items) = parts_of_bodies m bodies (after_item m bodies s item) items

-- the parts of each argument or index apart
abbrev pub arguments : List Entry → Exps → List (List Part)
arguments es NoExp = []
arguments es (MoreExp e gs) = parts es Value e ∷ arguments es gs

-- the parts of an expression but itself
abbrev pub parts_below : List Entry → Exp → List Part
parts_below es (Expr p n) = parts_in es n

-- what is done at the left of an assignment before the store: all in it, and a call that stands there itself
abbrev pub left_side : List Entry → Exp → List Part
left_side es (Expr p (Call f w gs close)) = parts es Target (Expr p (Call f w gs close))
left_side es e = parts_below es e

-- the operands that C does not order
abbrev pub operands : List Entry → Node → List (List Part)
operands es (Binary op a b) = parts es Value a ∷ parts es Value b ∷ []
operands es (Assign op a b) = left_side es a ∷ parts es Value b ∷ []
operands es (Index x w is) = arguments es is
operands es (Call f w gs close) = arguments es gs
operands es _ = []

-- the left side of an assignment to this object
abbrev pub IsTarget : ℕ → List Entry → Exp → Type 0
IsTarget o es (Expr p n) = is_object o (object_named es n) ≡ true

module _ (m : DataModel) (items : List raw.Item) where
  -- a part that calls the function of this number
  abbrev pub calls_function : ℕ → Part → Bool
  calls_function k (Expression es r (Expr p (Call f w gs close))) = is_function (named es f) && has_number k (callee_of (bodies_of items) f)
  calls_function k part = false

  -- the parts of the body of the function of this number
  abbrev pub IsBody : ℕ → List Part → Type 0
  IsBody k ps = (slice_get (parts_of_bodies m (bodies_of items) outermost items) k ≡ Some ps)

  -- a call in these parts leads to the function k, directly or through further calls
  pub data Leads (ps : List Part) : ℕ → Type 0 where
    Directly : {k : ℕ} → SomeOf (calls_function k) ps → Leads ps k
    Further : {j k : ℕ} {qs : List Part} → Leads ps j → IsBody j qs → SomeOf (calls_function k) qs → Leads ps k

  -- a function that these parts call does so
  pub record Through (test : Part → Bool) (ps : List Part) : Type 0 where
    pub function : ℕ
    pub body : List Part
    pub leads : Leads ps function
    pub its : IsBody function body
    pub does : SomeOf test body

  -- calls touch objects of static storage alone: others are new in each call (C11 6.2.4p6)
  abbrev pub Changes : ℕ → List Part → Type 0
  Changes o ps = SomeOf (changes (is_object o)) ps ⊎ Through (changes (is_static o)) ps

  -- an object is read, here or through calls
  abbrev pub Reads : ℕ → List Part → Type 0
  Reads o ps = SomeOf (reads (is_object o)) ps ⊎ Through (reads (is_static o)) ps

  -- an object is read or changed
  abbrev pub Touches : ℕ → List Part → Type 0
  Touches o ps = Reads o ps ⊎ Changes o ps

  -- an object is changed by the one and read or changed by the other
  pub record Clash (ps qs : List Part) : Type 0 where
    pub object : ℕ
    pub changed : Changes object ps
    pub touched : Touches object qs

  -- a function with a body is called
  pub record CallsOne (ps : List Part) : Type 0 where
    pub function : ℕ
    pub below : function < length (bodies_of items)
    pub called : SomeOf (calls_function function) ps

  -- two operands of which one changes what the other touches, or of which both call functions (C11 6.5p2)
  abbrev pub AreUnsequenced : List Part → List Part → Type 0
  AreUnsequenced ps qs = Clash ps qs ⊎ (Clash qs ps ⊎ (CallsOne ps × CallsOne qs))

  -- two of these, in either order
  pub data SomePair : List (List Part) → Type 0 where
    OfFirst : {ps qs : List Part} {rest : List (List Part)} → Contains rest qs → AreUnsequenced ps qs → SomePair (ps ∷ rest)
    OfOthers : {ps : List Part} {rest : List (List Part)} → SomePair rest → SomePair (ps ∷ rest)

  -- the object of a target is changed in its own indexes
  pub record ChangedInIndex (es : List Entry) (target : Exp) : Type 0 where
    pub object : ℕ
    pub its : IsTarget object es target
    pub changed : Changes object (parts_below es target)

  -- an operand of an assignment changes the object assigned, other than through calls
  pub record ChangedBeside (es : List Entry) (target from : Exp) : Type 0 where
    pub object : ℕ
    pub its : IsTarget object es target
    pub changed : SomeOf (changes (is_object object)) (parts_below es target ++ parts es Value from)

  -- an assignment whose target is changed a second time, in its index or beside it
  abbrev pub IsStoredTwice : List Entry → Node → Type 0
  IsStoredTwice es (Step op a) = ChangedInIndex es a
  IsStoredTwice es (Assign op a b) = ChangedInIndex es a ⊎ ChangedBeside es a b
  IsStoredTwice es n = ⊥

  -- the last object of the scope is read or changed in its own initializer
  abbrev pub InitializesItself : Scope → Exp → Type 0
  InitializesItself s e = Touches (length s.objects - 1) (parts (seen s) Value e)

  -- refused as `check-order`
  abbrev pub IsUnordered : Part → Type 0
  IsUnordered (Expression es r (Expr p n)) = SomePair (operands es n) ⊎ IsStoredTwice es n
  IsUnordered (Initializing fixed s e) = InitializesItself s e
  IsUnordered _ = ⊥
