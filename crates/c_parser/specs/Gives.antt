-- What the parser's functions answer, by what the functions of the specification read.
use Rattle.std.specs.Prelude.{◌≡◌, ◌≤◌, ℕ, true, false, List, [], ◌∷◌, Option, Some, None, Result, Ok, Err, drop}
use Rattle.std.specs.Borrow.{Bor}
use Rattle.c_tokens.specs.declared.token.Token.{Token}
use Rattle.c_tokens.specs.declared.token.Punct.{Punct}
use Rattle.c_parser.specs.declared.fault.Unread.{Unread}
use Rattle.c_parser.specs.declared.fault.Unread.TheVariants.{Unspelled, OutOfMemory}
use Rattle.c_parser.specs.declared.look.Joint as raw
use Rattle.c_parser.specs.declared.look.Joint.TheVariants as raw_joint
use Rattle.c_parser.specs.declared.measured.Measured.{Measured}
use Rattle.c_parser.specs.declared.measured.MeasuredRow.{MeasuredRow}
use Rattle.c_core.specs.declared.number.BinOp.{BinOp}
use Rattle.c_core.specs.declared.number.Spot.{Spot}
use Rattle.c_parser.specs.declared.type_words.TypeWord as raw_word
use Rattle.c_parser.specs.TypeCounts.{word_view}
use Rattle.c_parser.specs.Words.{TypeWord}
use Rattle.c_parser.specs.Tree.{Exp, exps}
use Rattle.c_parser.specs.Heights.{height, heights}
use Rattle.c_core.specs.declared.number.StepOp.{StepOp}
use Rattle.c_parser.specs.Signs.{◌>>=◌, sign_at, steps_behind, is_sign, Joint, Sequence, Both, Either, Plain}
use Rattle.c_parser.specs.ReadExpressions.{Read, assign_at, stepped}
use Rattle.c_parser.specs.View.{expr_view, exprs_view}

-- nothing is read, unless memory ran out
abbrev pub Fails : {X : Type 0} → Unread → Option X → Type 0
Fails Unspelled read = read ≡ None
Fails OutOfMemory read = Unit {0}

-- the thing and the tokens after it are those that are read
abbrev pub Reads : {X Y : Type 0} → (X → Y) → Result (X × Bor (List Token)) Unread → Read Y → Type 0
Reads view (Ok r) read = read ≡ Some (view r.0, r.1.now)
Reads view (Err fault) read = Fails fault read

-- the height that goes with an expression is its own, and at most h
abbrev pub Fits : ℕ → Measured → Type 0
Fits h e = (e.height ≡ height (expr_view e.expr)) × (e.height ≤ h)

-- the same for expressions of the height h at most
abbrev pub Gives : ℕ → Result (Measured × Bor (List Token)) Unread → Read Exp → Type 0
Gives h (Ok r) read = (read ≡ Some (expr_view r.0.expr, r.1.now)) × Fits h r.0
Gives h (Err fault) read = Fails fault read

abbrev pub FitsAll : ℕ → MeasuredRow → Type 0
FitsAll h row = (row.height ≡ heights (exps (exprs_view row.exprs))) × (row.height ≤ h)

-- the same for a list of expressions
abbrev pub GivesAll : ℕ → Result (MeasuredRow × Bor (List Token)) Unread → Read (List Exp) → Type 0
GivesAll h (Ok r) read = (read ≡ Some (exprs_view r.0.exprs, r.1.now)) × FitsAll h r.0
GivesAll h (Err fault) read = Fails fault read

-- the tokens after this sign, if it stands first
abbrev pub Closes : Punct → List Token → Result (Bor (List Token)) Unread → Type 0
Closes s ts (Ok rest) = (is_sign s ts ≡ true) × (rest.now ≡ drop 1 ts)
Closes s ts (Err Unspelled) = is_sign s ts ≡ false
Closes s ts (Err OutOfMemory) = ⊥

abbrev pub joint_view : raw.Joint → Joint
joint_view raw_joint.Sequence = Sequence
joint_view raw_joint.Both = Both
joint_view raw_joint.Either = Either
joint_view (raw_joint.Plain op) = Plain op

abbrev pub joint_if : Option (ℕ × raw.Joint) → Option (ℕ × Joint)
joint_if None = None
joint_if (Some j) = Some (j.0, joint_view j.1)

-- what texts say
abbrev pub texts : List (Bor (List ℕ)) → List (List ℕ)
texts [] = []
texts (t ∷ ts) = t.now ∷ texts ts

-- the step after its target that stands first
abbrev pub step_at : List Token → Option StepOp
step_at ts = sign_at ts >>= steps_behind

-- neither the assignment that stands after an operand nor steps depend on what stands in brackets
abbrev pub assignment_at : List Token → ℕ → List Token → Option (Option BinOp)
assignment_at = assign_at true (λ h k ts. None) (λ k ts. None) 0

abbrev pub steps_more : ℕ → ℕ → Spot → Exp → List Token → Read Exp
steps_more = stepped true (λ h k ts. None) (λ k ts. None)

abbrev pub steps : ℕ → Spot → Exp → List Token → Read Exp
steps h = steps_more h h

-- the type words that a part of a type name adds: its word, or none for `const`
abbrev pub part_words : Option raw_word.TypeWord → List TypeWord
part_words None = []
part_words (Some w) = word_view w ∷ []

abbrev pub part_view : Option (Option raw_word.TypeWord) → Option (List TypeWord)
part_view None = None
part_view (Some part) = Some (part_words part)
