-- A turn of each loop of a program changes only what the loop changes.
use Rattle.std.proofs.Common.{◌≡◌, ◌≤◌, ℕ, suc, Bool, true, ◌&&◌, IsTrue, List, [], ◌∷◌, ◌++◌, Option, Some, slice_get, refl, sym, ap, ◌∙◌, arith, append_assoc, true≢false}
use Rattle.std.specs.List.{All, flat_map, list_all}
use Rattle.std.proofs.lemmas.Bool.{or_right}
use Rattle.std.proofs.lemmas.List.Elements.{All-nil, All-cons, All-append}
use Rattle.c_core.specs.Parts.{every_statement, every_statement_in, every_statement_else, every_statement_of, declared_by, statements_of, statements_of_form, statements_of_else, statements_of_block, statements_of_program, exp_if, fulls_of_first, objects_of_first}
use Rattle.c_core.specs.Program.{IsProgram}
use Rattle.c_core.specs.Scope.{times_in, reaches, first_reaches, statement_reaches, form_reaches, else_reaches, block_reaches, function_reaches, statement_nests, is_block, function_nests}
use Rattle.c_core.specs.Tree.{Names, NoName, MoreName, First, NoFirst, FirstExp, FirstNames, Stm, Stmt, Form, Empty, Do, Declare, Block, If, While, DoWhile, For, Break, Continue, Return, Label, Switch, Else, NoElse, OrElse, Stms, NoStm, MoreStm, MoreCase, Function, Program}
use Rattle.c_core.specs.Typing.{statement_fits, function_fits}
use Rattle.c_core.specs.declared.number.IntType.{IntType}
use Rattle.c_core.specs.declared.number.Spot.{Spot}
use Rattle.c_meaning.specs.Changed.{fulls_of_loop, body_of}
use Rattle.c_meaning.specs.Meaning.{Loop, WhileLoop, DoLoop, ForLoop}
use Rattle.c_meaning.specs.Parts.{some_of, some_node, fulls_of, fulls_of_form, declared_in, declared_in_form, declared_in_else, declared_in_block}
use Rattle.c_meaning.specs.Related.{FitsF, FitsLoop, after_first}
use Rattle.c_meaning.proofs.Checked.{fits_s}
use Rattle.c_meaning.proofs.TypeFacts.{both, at_every}
use Rattle.c_frames.specs.Frames.{IsFramedTurn, TurnsAreFramed}
use Rattle.c_frames.proofs.Refitting.{assigns_no_target, some-append, times-append, named, Fresh, fresh_left, fresh_right, fresh_first}
use Rattle.c_frames.proofs.Bodies.{targets_s, with_params, fresh_body, asks, sees_itself}
use Rattle.c_frames.proofs.Heads.{Seen, keep}
use Rattle.c_frames.proofs.FramedTurns.{turn_framed}

none_of : (x n : ℕ) → times_in x [] ≤ n
none_of x n = omega arith

-- what a statement declares in its own scope is part of what it declares
times_by : (x : ℕ) (s : Stm) → times_in x (declared_by s) ≤ times_in x (declared_in s)
times_by x (Stmt at (Declare ns)) = omega arith
times_by x (Stmt at Empty) = none_of x _
times_by x (Stmt at (Do e)) = none_of x _
times_by x (Stmt at (Block b)) = none_of x _
times_by x (Stmt at (If e a b)) = none_of x _
times_by x (Stmt at (While e b)) = none_of x _
times_by x (Stmt at (DoWhile b e)) = none_of x _
times_by x (Stmt at (For i e s b)) = none_of x _
times_by x (Stmt at Break) = none_of x _
times_by x (Stmt at Continue) = none_of x _
times_by x (Stmt at (Return e)) = none_of x _
times_by x (Stmt at (Label b)) = none_of x _
times_by x (Stmt at (Switch e b)) = none_of x _

module _ (p : Program) where
  abbrev Q : Stm → Type 0
  Q s = TurnsAreFramed p s

  abbrev Each : List Stm → Type 0
  Each ss = All Q ss

  -- a statement and those in it
  with_parts : (at : Spot) (f : Form) → Q (Stmt at f) → Each (statements_of_form f)
      → Each (Stmt at f ∷ statements_of_form f)
  with_parts at f q e = All-cons Q (Stmt at f) (statements_of_form f) q e

  fresh_by : (reach : List ℕ) (s : Stm) (es : List ℕ) → Fresh p reach (declared_in s ++ es)
      → Fresh p (reach ++ declared_by s) es
  fresh_by reach s es f x = omega (
    arith,
    f x,
    times-append x (declared_in s) es,
    times-append x reach (declared_by s),
    times_by x s,
  )

  fresh_in : (reach : List ℕ) (i : First) (es : List ℕ) → Fresh p reach (objects_of_first i ++ es)
      → Fresh p (reach ++ objects_of_first i) es
  fresh_in reach i es f x =
      omega (
        arith,
        f x,
        times-append x (objects_of_first i) es,
        times-append x reach (objects_of_first i),
      )

  module _ (h : IsProgram p) (result : Option IntType) where
    abbrev test : Stm → Bool
    test s = statement_fits p result s

    -- a loop that is typed, whose names are in reach, and in which targets are assigned
    turn_of : (reach : List ℕ) (at : Spot) (l : Loop) → FitsLoop p (named p) result reach l
        → Fresh p reach (declared_in (body_of l)) → (some_of (some_node assigns_no_target) (fulls_of_loop l) ≡ true → ⊥)
        → IsFramedTurn p at l
    turn_of reach at l f d sound n ty s t q =
        turn_framed p l h Seen keep (λ q. some_of (some_node q) (fulls_of_loop l) ≡ true) sound reach
        (record { result = result; fits = f; fresh = d; seen = λ q g. g }) n ty at s t q

    mutual
      turns_s : (reach : List ℕ) (s : Stm) → IsTrue (every_statement test s) → IsTrue (statement_reaches p reach s)
          → IsTrue (every_statement statement_nests s) → Fresh p reach (declared_in s) → Each (statements_of s)
      turns_s reach (Stmt at f) t r n d =
          turns_f reach at f (fits_s p h (named p) (asks p h) result reach reach (sees_itself p h reach)
          (Stmt at f) t r n) (λ b. true≢false (sym b ∙ targets_s p result (Stmt at f) t))
          (both (test (Stmt at f)) (every_statement_in test f) t).1 r
          (both (statement_nests (Stmt at f)) (every_statement_in statement_nests f) n).1 d

      turns_f : (reach : List ℕ) (at : Spot) (f : Form) → FitsF p (named p) result reach at f
          → (some_of (some_node assigns_no_target) (fulls_of_form f) ≡ true → ⊥)
          → IsTrue (every_statement_in test f) → IsTrue (form_reaches p reach f)
          → IsTrue (every_statement_in statement_nests f) → Fresh p reach (declared_in_form f)
          → Each (Stmt at f ∷ statements_of_form f)
      turns_f reach at Empty g w t r n d = with_parts at Empty tt (All-nil Q)
      turns_f reach at (Do e) g w t r n d = with_parts at (Do e) tt (All-nil Q)
      turns_f reach at (Declare ns) g w t r n d = with_parts at (Declare ns) tt (All-nil Q)
      turns_f reach at (Block b) g w t r n d = with_parts at (Block b) tt (turns_b reach b t r n d)
      turns_f reach at (If e a b) g w t r n d =
          let u = both (every_statement test a) (every_statement_else test b) t in
          let k = both (statement_reaches p reach a) (else_reaches p reach b)
          (both (reaches p reach e) (statement_reaches p reach a && else_reaches p reach b) r).1 in
          let m = both (every_statement statement_nests a) (every_statement_else statement_nests b) n in
          with_parts at (If e a b) tt
          (All-append Q (statements_of a) (statements_of_else b)
          (turns_s reach a u.0 k.0 m.0 (fresh_left p reach (declared_in a) (declared_in_else b) d))
          (turns_else reach b u.1 k.1 m.1 (fresh_right p reach (declared_in a) (declared_in_else b) d)))
      turns_f reach at (While e b) g w t r n d =
          with_parts at (While e b) (turn_of reach at (WhileLoop e b) (g.1, g.2) d w)
          (turns_s reach b t (both (reaches p reach e) (statement_reaches p reach b) r).1 n d)
      turns_f reach at (DoWhile b e) g w t r n d =
          with_parts at (DoWhile b e) (turn_of reach at (DoLoop b e) (g.1, g.2) d w)
          (turns_s reach b t (both (statement_reaches p reach b) (reaches p reach e) r).0 n d)
      turns_f reach at (For i e s b) g w t r n d =
          let first = fulls_of_first i in
          let k = both (first_reaches p reach i) (list_all (reaches p (reach ++ objects_of_first i))
          (exp_if e ++ exp_if s) && statement_reaches p (reach ++ objects_of_first i) b) r in
          let j = both (list_all (reaches p (reach ++ objects_of_first i)) (exp_if e ++ exp_if s))
          (statement_reaches p (reach ++ objects_of_first i) b) k.1 in
          let whole = ap (λ es. es ++ fulls_of b) (append_assoc first (exp_if e) (exp_if s))
          ∙ append_assoc first (exp_if e ++ exp_if s) (fulls_of b) in
          with_parts at (For i e s b)
          (turn_of (after_first p (named p) reach i) at (ForLoop e s b) (g.2, g.3, g.4)
          (fresh_first p reach i (declared_in b) d)
          (λ x. w (ap (some_of (some_node assigns_no_target)) whole
          ∙ some-append (some_node assigns_no_target) first (exp_if e ++ exp_if s ++ fulls_of b)
          ∙ or_right (some_of (some_node assigns_no_target) first) _ x)))
          (turns_s (reach ++ objects_of_first i) b t j.1 n (fresh_in reach i (declared_in b) d))
      turns_f reach at Break g w t r n d = with_parts at Break tt (All-nil Q)
      turns_f reach at Continue g w t r n d = with_parts at Continue tt (All-nil Q)
      turns_f reach at (Return e) g w t r n d = with_parts at (Return e) tt (All-nil Q)
      turns_f reach at (Label b) g w t r n d = with_parts at (Label b) tt (turns_s reach b t r n d)
      turns_f reach at (Switch e b) g w t r n d = with_parts at (Switch e b) tt
          (turns_b reach b t (both (reaches p reach e) (block_reaches p reach b) r).1 n d)

      turns_else : (reach : List ℕ) (b : Else) → IsTrue (every_statement_else test b) → IsTrue (else_reaches p reach b)
          → IsTrue (every_statement_else statement_nests b) → Fresh p reach (declared_in_else b)
          → Each (statements_of_else b)
      turns_else reach NoElse t r n d = All-nil Q
      turns_else reach (OrElse b) t r n d = turns_s reach b t r n d

      turns_b : (reach : List ℕ) (b : Stms) → IsTrue (every_statement_of test b) → IsTrue (block_reaches p reach b)
          → IsTrue (every_statement_of statement_nests b) → Fresh p reach (declared_in_block b)
          → Each (statements_of_block b)
      turns_b reach NoStm t r n d = All-nil Q
      turns_b reach (MoreStm s b) t r n d =
          let u = both (every_statement test s) (every_statement_of test b) t in
          let k = both (statement_reaches p reach s) (block_reaches p (reach ++ declared_by s) b) r in
          let m = both (every_statement statement_nests s) (every_statement_of statement_nests b) n in
          All-append Q (statements_of s) (statements_of_block b)
          (turns_s reach s u.0 k.0 m.0 (fresh_left p reach (declared_in s) (declared_in_block b) d))
          (turns_b (reach ++ declared_by s) b u.1 k.1 m.1 (fresh_by reach s (declared_in_block b) d))
      turns_b reach (MoreCase spot l b) t r n d = turns_b reach b t r n d

  in_functions : (fs : List Function) → ((i : ℕ) (fn : Function) → slice_get fs i ≡ Some fn
      → Each (statements_of fn.body)) → Each (flat_map (λ f. statements_of f.body) fs)
  in_functions [] h = All-nil Q
  in_functions (f ∷ fs) h = All-append Q (statements_of f.body) (flat_map (λ f. statements_of f.body) fs) (h 0 f refl)
      (in_functions fs (λ i fn e. h (suc i) fn e))

  fresh_of : (h : IsProgram p) (i : ℕ) (fn : Function) → slice_get p.functions i ≡ Some fn
      → Fresh p fn.params (declared_in fn.body)
  fresh_of h i fn e x = omega (arith, fresh_body p h i fn e x, with_params p h [] fn.params x)

  pub turns_framed : IsProgram p → Each (statements_of_program p)
  turns_framed h =
      in_functions p.functions (λ i fn e. turns_s h fn.result fn.params fn.body
      (at_every (function_fits p) p.functions i fn h.types e)
      (at_every (function_reaches p) p.functions i fn h.reach e)
      (both (is_block fn.body) (every_statement statement_nests fn.body)
      (at_every function_nests p.functions i fn h.blocks e)).1 (fresh_of h i fn e))
