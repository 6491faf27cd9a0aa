-- What is kept while words are gone through, and that a test which each word passes behind its turn is passed by all.
use Rattle.std.proofs.Common.{◌≡◌, ℕ, Bool, true, false, ◌&&◌, List, Option, Some, None, refl}
use Rattle.c_parser.specs.Formed.{every_node, every_part, every_argument}
use Rattle.c_parser.specs.Tree.{Exp, Expr, Node, Number, Char, Var, Index, Unary, Cast, Step, Binary, Logic, Choose, Comma, Assign, Call, Exps, NoExp, MoreExp}
use Rattle.check_rules.specs.Codes.{word_of}
use Rattle.way_constraint.specs.Words.{all_pass, passes, with_word, with_words, with_words_in, with_words_of}

both_true : (a b : Bool) → a ≡ true → b ≡ true → (a && b) ≡ true
both_true true b e h = h
both_true false b e h = e

module _ (means : List ℕ → Option ℕ) where
  -- ---- what each word keeps

  module _ (P : List ℕ → Type 0) (keeps : (w : Option (List ℕ)) (few : List ℕ) → P few → P (with_word means w few)) where
    mutual
      pub kept : (e : Exp) (few : List ℕ) → P few → P (with_words means e few)
      kept (Expr p n) few h = kept_in n (with_word means (word_of n) few) (keeps (word_of n) few h)

      pub kept_in : (n : Node) (few : List ℕ) → P few → P (with_words_in means n few)
      kept_in (Number v decimal unsigned longs) few h = h
      kept_in (Char v) few h = h
      kept_in (Var x w) few h = h
      kept_in (Index x w is) few h = kept_of is few h
      kept_in (Unary op a) few h = kept a few h
      kept_in (Cast to a) few h = kept a few h
      kept_in (Step op a) few h = kept a few h
      kept_in (Binary op a b) few h = kept b (with_words means a few) (kept a few h)
      kept_in (Logic both a b) few h = kept b (with_words means a few) (kept a few h)
      kept_in (Choose mark e a b) few h = kept b (with_words means a (with_words means e few)) (kept a (with_words means e few) (kept e few h))
      kept_in (Comma a b) few h = kept b (with_words means a few) (kept a few h)
      kept_in (Assign op a b) few h = kept b (with_words means a few) (kept a few h)
      kept_in (Call f w gs close) few h = kept_of gs few h

      pub kept_of : (gs : Exps) (few : List ℕ) → P few → P (with_words_of means gs few)
      kept_of NoExp few h = h
      kept_of (MoreExp e gs) few h = kept_of gs (with_words means e few) (kept e few h)

  -- ---- what is passed once and stays so

  module _ (test : List ℕ → List ℕ → Bool)
      (stays : (w : Option (List ℕ)) (few : List ℕ) (x : List ℕ) → test few x ≡ true → test (with_word means w few) x ≡ true)
      (there : (x : List ℕ) (few : List ℕ) → test (with_word means (Some x) few) x ≡ true) where
    abbrev Above : List ℕ → List ℕ → Type 0
    Above few more = (x : List ℕ) → test few x ≡ true → test more x ≡ true

    higher : (few : List ℕ) (w : Option (List ℕ)) (more : List ℕ) → Above few more → Above few (with_word means w more)
    higher few w more up x h = stays w more x (up x h)

    above : (e : Exp) (few : List ℕ) → Above few (with_words means e few)
    above e few = kept (Above few) (higher few) e few (λ x h. h)

    above_in : (n : Node) (few : List ℕ) → Above few (with_words_in means n few)
    above_in n few = kept_in (Above few) (higher few) n few (λ x h. h)

    above_of : (gs : Exps) (few : List ℕ) → Above few (with_words_of means gs few)
    above_of gs few = kept_of (Above few) (higher few) gs few (λ x h. h)

    abbrev passing : List ℕ → Node → Bool
    passing few n = passes (test few) (word_of n)

    word_passes : (w : Option (List ℕ)) (few more : List ℕ) → Above (with_word means w few) more → passes (test more) w ≡ true
    word_passes None few more up = refl
    word_passes (Some x) few more up = up x (there x few)

    abbrev Pass : Exp → List ℕ → Type 0
    Pass e more = (few : List ℕ) → Above (with_words means e few) more → every_node (passing more) e ≡ true

    two_pass : (a b : Exp) (few more : List ℕ) → Pass a more → Pass b more → Above (with_words means b (with_words means a few)) more
        → (every_node (passing more) a && every_node (passing more) b) ≡ true
    two_pass a b few more left right up =
        both_true (every_node (passing more) a) (every_node (passing more) b)
        (left few (λ x h. up x (above b (with_words means a few) x h)))
        (right (with_words means a few) up)

    mutual
      words_pass : (e : Exp) (few more : List ℕ) → Above (with_words means e few) more → every_node (passing more) e ≡ true
      words_pass (Expr p n) few more up =
          both_true (passing more n) (every_part (passing more) n)
          (word_passes (word_of n) few more (λ x h. up x (above_in n (with_word means (word_of n) few) x h)))
          (words_pass_in n (with_word means (word_of n) few) more up)

      words_pass_in : (n : Node) (few more : List ℕ) → Above (with_words_in means n few) more → every_part (passing more) n ≡ true
      words_pass_in (Number v decimal unsigned longs) few more up = refl
      words_pass_in (Char v) few more up = refl
      words_pass_in (Var x w) few more up = refl
      words_pass_in (Index x w is) few more up = words_pass_of is few more up
      words_pass_in (Unary op a) few more up = words_pass a few more up
      words_pass_in (Cast to a) few more up = words_pass a few more up
      words_pass_in (Step op a) few more up = words_pass a few more up
      words_pass_in (Binary op a b) few more up = two_pass a b few more (λ ns u. words_pass a ns more u) (λ ns u. words_pass b ns more u) up
      words_pass_in (Logic both a b) few more up = two_pass a b few more (λ ns u. words_pass a ns more u) (λ ns u. words_pass b ns more u) up
      words_pass_in (Choose mark e a b) few more up =
          let next = with_words means e few in
          both_true (every_node (passing more) e) (every_node (passing more) a && every_node (passing more) b)
          (words_pass e few more (λ x h. up x (above b (with_words means a next) x (above a next x h))))
          (two_pass a b next more (λ ns u. words_pass a ns more u) (λ ns u. words_pass b ns more u) up)
      words_pass_in (Comma a b) few more up = two_pass a b few more (λ ns u. words_pass a ns more u) (λ ns u. words_pass b ns more u) up
      words_pass_in (Assign op a b) few more up = two_pass a b few more (λ ns u. words_pass a ns more u) (λ ns u. words_pass b ns more u) up
      words_pass_in (Call f w gs close) few more up = words_pass_of gs few more up

      words_pass_of : (gs : Exps) (few more : List ℕ) → Above (with_words_of means gs few) more → every_argument (passing more) gs ≡ true
      words_pass_of NoExp few more up = refl
      words_pass_of (MoreExp e gs) few more up =
          both_true (every_node (passing more) e) (every_argument (passing more) gs)
          (words_pass e few more (λ x h. up x (above_of gs (with_words means e few) x h)))
          (words_pass_of gs (with_words means e few) more up)

    pub all_words_pass : (e : Exp) (few : List ℕ) → all_pass (test (with_words means e few)) e ≡ true
    all_words_pass e few = words_pass e few (with_words means e few) (λ x h. h)
