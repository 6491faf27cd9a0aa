-- The words of an expression, and the objects that they mean.
use Rattle.std.specs.Prelude.{◌≡◌, ℕ, Bool, true, List, [], ◌∷◌, ◌++◌, Option, Some, None}
use Rattle.c_core.specs.declared.tree.Object.{Object}
use Rattle.c_parser.specs.Formed.{every_node}
use Rattle.c_parser.specs.Tree.{Exp, Expr, Node, Number, Char, Var, Index, Unary, Cast, Step, Binary, Logic, Choose, Comma, Assign, Call, Exps, NoExp, MoreExp}
use Rattle.check_rules.specs.Codes.{word_of}
use Rattle.way_names.specs.Keys.{last_named}
use Rattle.way_names.specs.AtPlaces.{objects_of, visible}
use Rattle.way_names.specs.declared.named.NamesAt.{NamesAt}

-- a word passes a test, where there is one
abbrev pub passes : (List ℕ → Bool) → Option (List ℕ) → Bool
passes test None = true
passes test (Some x) = test x

-- what a word means at a place
abbrev pub meant : NamesAt → List ℕ → Option ℕ
meant at x = last_named (objects_of at) (visible at) x

-- with a number more, where there is one
abbrev pub with_number : Option ℕ → List ℕ → List ℕ
with_number None few = few
with_number (Some n) few = few ++ n ∷ []

-- by what each word means
module _ (means : List ℕ → Option ℕ) where
  -- with what a word means, where there is one
  abbrev pub with_word : Option (List ℕ) → List ℕ → List ℕ
  with_word None few = few
  with_word (Some x) few = with_number (means x) few

  abbrev mutual
    -- with what all words of an expression mean
    pub with_words : Exp → List ℕ → List ℕ
    with_words (Expr p n) few = with_words_in n (with_word (word_of n) few)

    -- with those of the parts of a node
    pub with_words_in : Node → List ℕ → List ℕ
    with_words_in (Number v decimal unsigned longs) few = few
    with_words_in (Char v) few = few
    with_words_in (Var x w) few = few
    with_words_in (Index x w is) few = with_words_of is few
    with_words_in (Unary op a) few = with_words a few
    with_words_in (Cast to a) few = with_words a few
    with_words_in (Step op a) few = with_words a few
    with_words_in (Binary op a b) few = with_words b (with_words a few)
    with_words_in (Logic both a b) few = with_words b (with_words a few)
    with_words_in (Choose mark e a b) few = with_words b (with_words a (with_words e few))
    with_words_in (Comma a b) few = with_words b (with_words a few)
    with_words_in (Assign op a b) few = with_words b (with_words a few)
    with_words_in (Call f w gs close) few = with_words_of gs few

    -- with those of arguments
    pub with_words_of : Exps → List ℕ → List ℕ
    with_words_of NoExp few = few
    with_words_of (MoreExp e gs) few = with_words_of gs (with_words e few)

-- the word of each node passes, where it has one
abbrev pub all_pass : (List ℕ → Bool) → Exp → Bool
all_pass test e = every_node (λ n. passes test (word_of n)) e
