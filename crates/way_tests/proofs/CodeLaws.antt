-- The steps of a constraint answer whether its value is other than 0.
use Rattle.std.proofs.Common.{◌≡◌, ℕ, ◌+◌, ℤ, pos, Bool, true, false, not, cond, List, [], ◌++◌, length, Option, Some, None, refl, sym, ◌∙◌, ap}
use Rattle.std.proofs.lemmas.List.{append_assoc, append-nil}
use Rattle.c_core.specs.Types.{fit, is_zero, number_of, common_of}
use Rattle.c_core.specs.Operators.{is_comparison}
use Rattle.c_core.specs.Tree.{Program, Exp, Expr, Node, Const, Var, Unary, Binary, Logic}
use Rattle.c_core.specs.declared.number.BinOp.{BinOp}
use Rattle.c_core.specs.declared.number.BinOp.TheVariants.{Add, Sub, Mul, Div, Rem, Shl, Shr, And, Xor, Or, Lt, Le, Gt, Ge, Eq, Ne}
use Rattle.c_core.specs.declared.number.IntType.{IntType}
use Rattle.c_core.specs.declared.number.Spot.{Spot}
use Rattle.c_core.specs.declared.number.DataModel.{DataModel}
use Rattle.c_meaning.specs.Cells.{Cell as LiveCell}
use Rattle.c_meaning.specs.Objects.{type_of, type_of_object}
use Rattle.c_meaning.specs.Value.{and_then, value_of, operated, operated_one, of_both, of_logic, truth_of, is_true, holds}
use Rattle.c_meaning.proofs.Valued.{unary_gives, binary_gives, logic_gives}
use Rattle.way_tests.specs.Truth.{is_so, truth_in}
use Rattle.way_tests.specs.Code.{answer_of, read_by, taken, is_yes, number_if, operand_of, compare_if, compare_of, followed, joined, step_if, code_of, code_in}
use Rattle.way_tests.specs.declared.step.Operand.{Operand}
use Rattle.way_tests.specs.declared.step.Operand.TheVariants.{Cell, Number}
use Rattle.way_tests.specs.declared.step.Test.{Test}
use Rattle.way_tests.specs.declared.step.Test.TheVariants.{Truth}
use Rattle.way_tests.specs.declared.step.Step.{Step}
use Rattle.way_tests.proofs.StepLaws.{passed_over}

-- what a value tells
abbrev tells : ℤ → Bool
tells v = not (is_zero v)

-- the steps after a test
abbrev next : DataModel → List LiveCell → ℕ → ℕ → List Step → Bool → Option Bool
next m cs y n ys b = taken m cs (cond b y n) b ys

-- taken before others, the steps leave them what a value tells, and nothing where there is none
abbrev Stands : DataModel → (List LiveCell → Option ℤ) → ℕ → ℕ → Option (List Step) → Type 0
Stands m f y n None = Unit {0}
Stands m f y n (Some xs) = (cs : List LiveCell) (ys : List Step) (t : Bool) → taken m cs 0 t (xs ++ ys) ≡ and_then (f cs) (λ v. next m cs y n ys (tells v))

-- an operand reads the value of an expression
abbrev Reads : DataModel → (List LiveCell → Option ℤ) → Option Operand → Type 0
Reads m f None = Unit {0}
Reads m f (Some a) = (cs : List LiveCell) → read_by m a cs ≡ f cs

-- a test has the answer that a value tells
abbrev Answers : DataModel → (List LiveCell → Option ℤ) → Option Test → Type 0
Answers m f None = Unit {0}
Answers m f (Some a) = (cs : List LiveCell) → answer_of m a cs ≡ truth_in (f cs)

stands_by : (m : DataModel) (f g : List LiveCell → Option ℤ) (y n : ℕ) (code : Option (List Step)) → ((cs : List LiveCell) → g cs ≡ f cs) → Stands m f y n code → Stands m g y n code
stands_by m f g y n None e h = tt
stands_by m f g y n (Some xs) e h = λ cs ys t. h cs ys t ∙ sym (ap (λ o. and_then o (λ v. next m cs y n ys (tells v))) (e cs))

reads_by : (m : DataModel) (f g : List LiveCell → Option ℤ) (a : Option Operand) → ((cs : List LiveCell) → g cs ≡ f cs) → Reads m f a → Reads m g a
reads_by m f g None e h = tt
reads_by m f g (Some a) e h = λ cs. h cs ∙ sym (e cs)

number_reads : (m : DataModel) (v : Option ℤ) → Reads m (λ cs. v) (number_if v)
number_reads m None = tt
number_reads m (Some v) = λ cs. refl

then_then : {A B C : Type 0} (m : Option A) (f : A → B) (k : B → Option C) → and_then (and_then m (λ a. Some (f a))) k ≡ and_then m (λ a. k (f a))
then_then None f k = refl
then_then (Some a) f k = refl

test_stands : (m : DataModel) (f : List LiveCell → Option ℤ) (y n : ℕ) (a : Option Test) → Answers m f a → Stands m f y n (step_if y n a)
test_stands m f y n None h = tt
test_stands m f y n (Some a) h = λ cs ys t. ap (λ o. and_then o (next m cs y n ys)) (h cs) ∙ then_then (f cs) tells (next m cs y n ys)

truth_answers : (m : DataModel) (f : List LiveCell → Option ℤ) (a : Operand) → Reads m f (Some a) → Answers m f (Some (Truth a))
truth_answers m f a h = λ cs. ap truth_in (h cs)

truth_number : (b : Bool) → not (is_zero (number_of b)) ≡ b
truth_number true = refl
truth_number false = refl

compared_is : (p : Program) (op : BinOp) (a b : IntType) (x y : ℤ) → is_comparison op ≡ true →
    operated p op a x b y ≡ Some (number_of (is_so op (fit p.model (common_of p.model a b) x) (fit p.model (common_of p.model a b) y)))
compared_is p Add a b x y h = absurd (cc)
compared_is p Sub a b x y h = absurd (cc)
compared_is p Mul a b x y h = absurd (cc)
compared_is p Div a b x y h = absurd (cc)
compared_is p Rem a b x y h = absurd (cc)
compared_is p Shl a b x y h = absurd (cc)
compared_is p Shr a b x y h = absurd (cc)
compared_is p And a b x y h = absurd (cc)
compared_is p Xor a b x y h = absurd (cc)
compared_is p Or a b x y h = absurd (cc)
compared_is p Lt a b x y h = refl
compared_is p Le a b x y h = refl
compared_is p Gt a b x y h = refl
compared_is p Ge a b x y h = refl
compared_is p Eq a b x y h = refl
compared_is p Ne a b x y h = refl

compare_answers : (p : Program) (op : BinOp) (ta tb : IntType) (f g : List LiveCell → Option ℤ) (a b : Option Operand) → is_comparison op ≡ true →
    Reads p.model f a → Reads p.model g b →
    Answers p.model (λ cs. and_then (f cs) (λ x. and_then (g cs) (λ y. operated p op ta x tb y))) (compare_if op (common_of p.model ta tb) a b)
compare_answers p op ta tb f g None b c h k = tt
compare_answers p op ta tb f g (Some a) None c h k = tt
compare_answers p op ta tb f g (Some a) (Some b) c h k = λ cs. by (read_by p.model a cs) (read_by p.model b cs) (f cs) (g cs) (h cs) (k cs)
  where
    so : ℤ → ℤ → Bool
    so v w = is_so op (fit p.model (common_of p.model ta tb) v) (fit p.model (common_of p.model ta tb) w)

    each : (x y : Option ℤ) → and_then x (λ v. and_then y (λ w. Some (so v w))) ≡ truth_in (and_then x (λ v. and_then y (λ w. operated p op ta v tb w)))
    each None y = refl
    each (Some v) None = refl
    each (Some v) (Some w) = sym (ap truth_in (compared_is p op ta tb v w c) ∙ ap (λ t. Some t) (truth_number (so v w)))

    by : (x y x' y' : Option ℤ) → x ≡ x' → y ≡ y' →
        and_then x (λ v. and_then y (λ w. Some (so v w))) ≡ truth_in (and_then x' (λ v. and_then y' (λ w. operated p op ta v tb w)))
    by x y x' y' e d = ap (λ z. and_then z (λ v. and_then y (λ w. Some (so v w)))) e ∙ ap (λ z. and_then x' (λ v. and_then z (λ w. Some (so v w)))) d ∙ each x' y'

-- what is told where the right side is asked
truth_next : {C : Type 0} (o : Option ℤ) (k : Bool → Option C) → and_then o (λ v. k (tells v)) ≡ and_then (and_then o (λ x. Some (number_of (tells x)))) (λ v. k (tells v))
truth_next None k = refl
truth_next (Some v) k = ap k (sym (truth_number (tells v)))

both_stands : (p : Program) (a b : Exp) (y n : ℕ) (xs ys : List Step) → Stands p.model (value_of p a) 0 (length ys + n) (Some xs) → Stands p.model (value_of p b) y n (Some ys) →
    Stands p.model (of_logic p true a b) y n (Some (xs ++ ys))
both_stands p a b y n xs ys h k cs zs t =
    ap (taken p.model cs 0 t) (append_assoc xs ys zs) ∙ h cs (ys ++ zs) t ∙ by (value_of p a cs)
  where
    by_zero : (z : Bool) → next p.model cs 0 (length ys + n) (ys ++ zs) (not z) ≡ and_then (cond z (Some (pos 0)) (truth_of p b cs)) (λ v. next p.model cs y n zs (tells v))
    by_zero true = passed_over p.model cs ys zs n false
    by_zero false = k cs zs true ∙ truth_next (value_of p b cs) (next p.model cs y n zs)

    by : (o : Option ℤ) → and_then o (λ v. next p.model cs 0 (length ys + n) (ys ++ zs) (tells v)) ≡
        and_then (and_then o (λ x. cond (is_zero x) (Some (pos 0)) (truth_of p b cs))) (λ v. next p.model cs y n zs (tells v))
    by None = refl
    by (Some v) = by_zero (is_zero v)

either_stands : (p : Program) (a b : Exp) (y n : ℕ) (xs ys : List Step) → Stands p.model (value_of p a) (length ys + y) 0 (Some xs) → Stands p.model (value_of p b) y n (Some ys) →
    Stands p.model (of_logic p false a b) y n (Some (xs ++ ys))
either_stands p a b y n xs ys h k cs zs t =
    ap (taken p.model cs 0 t) (append_assoc xs ys zs) ∙ h cs (ys ++ zs) t ∙ by (value_of p a cs)
  where
    by_zero : (z : Bool) → next p.model cs (length ys + y) 0 (ys ++ zs) (not z) ≡ and_then (cond z (truth_of p b cs) (Some (pos 1))) (λ v. next p.model cs y n zs (tells v))
    by_zero true = k cs zs false ∙ truth_next (value_of p b cs) (next p.model cs y n zs)
    by_zero false = passed_over p.model cs ys zs y true

    by : (o : Option ℤ) → and_then o (λ v. next p.model cs (length ys + y) 0 (ys ++ zs) (tells v)) ≡
        and_then (and_then o (λ x. cond (is_zero x) (truth_of p b cs) (Some (pos 1)))) (λ v. next p.model cs y n zs (tells v))
    by None = refl
    by (Some v) = by_zero (is_zero v)

logic_stands : (p : Program) (both : Bool) (a b : Exp) (y n : ℕ) → ((i j : ℕ) → Stands p.model (value_of p a) i j (code_of p i j a)) →
    (right : Option (List Step)) → Stands p.model (value_of p b) y n right → Stands p.model (of_logic p both a b) y n (joined both y n right (λ i j. code_of p i j a))
logic_stands p both a b y n h None k = tt
logic_stands p true a b y n h (Some ys) k = by (code_of p 0 (length ys + n) a) (h 0 (length ys + n))
  where
    by : (left : Option (List Step)) → Stands p.model (value_of p a) 0 (length ys + n) left → Stands p.model (of_logic p true a b) y n (followed ys left)
    by None s = tt
    by (Some xs) s = both_stands p a b y n xs ys s k
logic_stands p false a b y n h (Some ys) k = by (code_of p (length ys + y) 0 a) (h (length ys + y) 0)
  where
    by : (left : Option (List Step)) → Stands p.model (value_of p a) (length ys + y) 0 left → Stands p.model (of_logic p false a b) y n (followed ys left)
    by None s = tt
    by (Some xs) s = either_stands p a b y n xs ys s k

operand_reads : (p : Program) (e : Exp) → Reads p.model (value_of p e) (operand_of p e)
operand_reads p (Expr spot ty (Const v)) = λ cs. refl
operand_reads p (Expr spot ty (Var o)) = λ cs. refl
operand_reads p (Expr spot ty (Unary op (Expr s t (Const v)))) =
    reads_by p.model (λ cs. operated_one p op (type_of (Expr s t (Const v))) v) (value_of p (Expr spot ty (Unary op (Expr s t (Const v))))) (number_if (operated_one p op (type_of (Expr s t (Const v))) v))
    (λ cs. unary_gives p spot ty cs op (Expr s t (Const v))) (number_reads p.model (operated_one p op (type_of (Expr s t (Const v))) v))
operand_reads p (Expr spot ty _) = tt

mutual
  pub code_stands : (p : Program) (y n : ℕ) (e : Exp) → Stands p.model (value_of p e) y n (code_of p y n e)
  code_stands p y n (Expr spot ty node) = node_stands p y n spot ty node

  node_stands : (p : Program) (y n : ℕ) (spot : Spot) (ty : Option IntType) (node : Node) → Stands p.model (value_of p (Expr spot ty node)) y n (code_in p y n node)
  node_stands p y n spot ty (Const v) = test_stands p.model (value_of p (Expr spot ty (Const v))) y n (Some (Truth (Number v))) (λ cs. refl)
  node_stands p y n spot ty (Var o) = test_stands p.model (value_of p (Expr spot ty (Var o))) y n (Some (Truth (Cell o (type_of_object p o)))) (λ cs. refl)
  node_stands p y n spot ty (Binary op a b) =
      stands_by p.model (of_both p op a b) (value_of p (Expr spot ty (Binary op a b))) y n (step_if y n (compare_of p op a b)) (λ cs. binary_gives p spot ty cs op a b)
      (test_stands p.model (of_both p op a b) y n (compare_of p op a b) (by_kind (is_comparison op) refl))
    where
      by_kind : (c : Bool) → is_comparison op ≡ c →
          Answers p.model (of_both p op a b) (cond c (compare_if op (common_of p.model (type_of a) (type_of b)) (operand_of p a) (operand_of p b)) None)
      by_kind true h = compare_answers p op (type_of a) (type_of b) (value_of p a) (value_of p b) (operand_of p a) (operand_of p b) h (operand_reads p a) (operand_reads p b)
      by_kind false h = tt
  node_stands p y n spot ty (Logic both a b) =
      stands_by p.model (of_logic p both a b) (value_of p (Expr spot ty (Logic both a b))) y n (joined both y n (code_of p y n b) (λ i j. code_of p i j a)) (λ cs. logic_gives p spot ty cs both a b)
      (logic_stands p both a b y n (λ i j. code_stands p i j a) (code_of p y n b) (code_stands p y n b))
  node_stands p y n spot ty _ = tt

-- what the steps answer is whether the constraint holds
pub code_holds : (p : Program) (e : Exp) (xs : List Step) (cs : List LiveCell) → code_of p 0 0 e ≡ Some xs → is_yes (taken p.model cs 0 false xs) ≡ holds p e cs
code_holds p e xs cs h = by (code_of p 0 0 e) (code_stands p 0 0 e) h ∙ whole (value_of p e cs)
  where
    by : (code : Option (List Step)) → Stands p.model (value_of p e) 0 0 code → code ≡ Some xs →
        is_yes (taken p.model cs 0 false xs) ≡ is_yes (and_then (value_of p e cs) (λ v. next p.model cs 0 0 [] (tells v)))
    by None s h = absurd (cc)
    by (Some zs) s h =
        let same : zs ≡ xs = cc in
        ap (λ ws. is_yes (taken p.model cs 0 false ws)) (sym same ∙ sym (append-nil zs)) ∙ ap is_yes (s cs [] false)

    whole : (o : Option ℤ) → is_yes (and_then o (λ v. next p.model cs 0 0 [] (tells v))) ≡ is_true o
    whole None = refl
    whole (Some v) = refl
