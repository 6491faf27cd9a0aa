-- A havoc run that fails, fails at a duty of its program or of an invariant.
use Rattle.std.proofs.Common.{◌≡◌, ℕ, zero, suc, ℤ, Bool, true, false, cond, ◌&&◌, List, [], ◌∷◌, Some, None, slice_get, refl, sym, subst, arith}
use Rattle.std.specs.List.{Contains}
use Rattle.std.proofs.lemmas.List.Elements.{Contains-append_left, Contains-append_right}
use Rattle.c_core.specs.Operators.{apply_of, apply_one_of, overflows, overflows_one}
use Rattle.c_core.specs.Types.{is_signed}
use Rattle.c_core.specs.Tree.{Exp, Function, Program}
use Rattle.c_core.specs.declared.number.Spot.{Spot}
use Rattle.c_meaning.specs.declared.run.DutyKind.TheVariants.{Property as AtProperty}
use Rattle.c_meaning.specs.declared.run.Duty.{Duty}
use Rattle.c_meaning.specs.Acts.{Res, Go, Stop, Flow, Next, Broken, Again, Gave}
use Rattle.c_meaning.specs.Acts as acts
use Rattle.c_core.specs.Parts.{spot_of}
use Rattle.c_meaning.specs.Parts.{some_node, fulls_of}
use Rattle.c_meaning.specs.Run.{first_cells, cell_among, arm_for}
use Rattle.c_meaning.specs.Duties.{Placed, duty, may_violate, property_duties, function_duties, invariant_duties}
use Rattle.c_meaning.specs.Havoc as havoc
use Rattle.c_meaning.specs.Havoc.{Stopped, Fails, Left, cells_left, with_cells_left, havoc_in}
use Rattle.c_duties.specs.Ordered.{unsorted}
use Rattle.c_duties.proofs.Safe.{Safe, EndsSafe, over, over_one, safe_ret, safe_then, safe_draw, safe_key, safe_look, safe_write, safe_declare, safe_answered, safe_reached, safe_returned, safe_cond, safe_pass, safe_scoped, safe_continued, safe_breaks, safe_seq, safe_here, safe_loop}
use Rattle.c_duties.proofs.Traversed.{Kept, EachFails, kept_main}

module _ (p : Program) (I : List Placed) where
  abbrev IsDuty : Duty → Type 0
  IsDuty d = Contains (unsorted p I) d

  abbrev MayFail : Spot → Type 0
  MayFail spot = IsDuty (duty spot AtProperty None)

  of_invariants : (d : Duty) → Contains (invariant_duties 0 I) d → IsDuty d
  of_invariants d h = Contains-append_left (invariant_duties 0 I) (function_duties p p.functions) d h

  of_functions : (d : Duty) → Contains (function_duties p p.functions) d → IsDuty d
  of_functions d h = Contains-append_right (invariant_duties 0 I) (function_duties p p.functions) d h

  havoc_kept : Kept p (havoc.havoc p I) MayFail
  havoc_kept = record {
    Acts = λ A m. Safe p I IsDuty m;
    Dones = λ a. Safe p I IsDuty a;
    ret = λ A a. safe_ret p I IsDuty a;
    bind = λ A B m k f g. safe_then p I IsDuty m k f g;
    using = λ A m k f g. safe_then p I IsDuty m k f g;
    tick = λ t. safe_ret p I IsDuty tt;
    room = λ n. safe_ret p I IsDuty tt;
    convert = λ from to v. safe_ret p I IsDuty _;
    test = λ ty v. safe_ret p I IsDuty _;
    draw = λ kind spot ty. safe_draw p I IsDuty kind spot ty;
    element = λ spot o n c js. safe_key p I IsDuty o (cell_among n c js);
    look = λ x. safe_look p I IsDuty x;
    write = λ x v. safe_write p I IsDuty x v;
    answer = λ at spot op ty x right y f. safe_answered p I IsDuty at (overflows op && is_signed ty) (apply_of p.model op ty x y) (over p.model op ty x y) f;
    answer_one = λ at spot op ty x f. safe_answered p I IsDuty at (overflows_one op && is_signed ty) (apply_one_of p.model op ty x) (over_one p.model op ty x) f;
    choose = λ t a b f g. safe_cond p I IsDuty t a b f g;
    pick = λ mark t a b f g. safe_cond p I IsDuty t a b f g;
    enter = λ site. safe_ret p I IsDuty tt;
    came_back = λ site v. safe_ret p I IsDuty tt;
    reach = λ at site f. safe_reached p I IsDuty p.property at f;
    ending = safe_pass p I IsDuty;
    called = λ site a f. safe_then p I IsDuty (acts.scoped Stopped Left cells_left with_cells_left a) _ (safe_scoped p I IsDuty a f) (λ flow. safe_returned p I IsDuty site (acts.given flow));
    missing = safe_pass p I IsDuty;
    here = λ at. safe_here p I IsDuty of_invariants at;
    declare = λ o n. safe_declare p I IsDuty o n;
    branch = λ at t a b f g. safe_cond p I IsDuty t a b f g;
    select = λ at ty v ls. safe_ret p I IsDuty (arm_for v ls);
    next = safe_ret p I IsDuty Next;
    leave = safe_ret p I IsDuty Broken;
    again = safe_ret p I IsDuty Again;
    give = λ v. safe_ret p I IsDuty (Gave v);
    seq = λ a b f g. safe_seq p I IsDuty a b f g;
    scoped = λ a f. safe_scoped p I IsDuty a f;
    continued = λ a f. safe_continued p I IsDuty a f;
    breaks = λ a f. safe_breaks p I IsDuty a f;
    loop = λ at l a f. safe_loop p I IsDuty of_invariants at l a f;
    deep = safe_pass p I IsDuty;
  }

  one_of : (b : Bool) (d : Duty) → b ≡ true → Contains (cond b (d ∷ []) []) d
  one_of true d h = (0, omega arith, refl)
  one_of false d h = absurd (cc)

  each_fails : (es : List Exp) → ((d : Duty) → Contains (property_duties p es) d → IsDuty d) → EachFails p (havoc.havoc p I) MayFail havoc_kept es
  each_fails [] h = tt
  each_fails (e ∷ es) h =
      let own : List Duty = cond (some_node (may_violate p.property p.model) e) (duty (spot_of e) AtProperty None ∷ []) [] in (
        λ v. h _ (Contains-append_left own (property_duties p es) _ (one_of (some_node (may_violate p.property p.model) e) _ v)),
        each_fails es (λ d c. h d (Contains-append_right own (property_duties p es) d c)),
      )

  of_function : (fs : List Function) (i : ℕ) (f : Function) → slice_get fs i ≡ Some f → (d : Duty) → Contains (property_duties p (fulls_of f.body)) d → Contains (function_duties p fs) d
  of_function [] i f e d c = absurd (cc)
  of_function (g ∷ fs) zero f e d c =
      let same : g ≡ f = cc in
      Contains-append_left (property_duties p (fulls_of g.body)) (function_duties p fs) d (subst (λ (x : Function). Contains (property_duties p (fulls_of x.body)) d) (sym same) c)
  of_function (g ∷ fs) (suc i) f e d c = Contains-append_right (property_duties p (fulls_of g.body)) (function_duties p fs) d (of_function fs i f e d c)

  bodies : (i : ℕ) (f : Function) → slice_get p.functions i ≡ Some f → EachFails p (havoc.havoc p I) MayFail havoc_kept (fulls_of f.body)
  bodies i f e = each_fails (fulls_of f.body) (λ d c. of_functions d (of_function p.functions i f e d c))

  pub fails_at_one : (n : ℕ) (w : List ℤ) (d : Duty) (s : Left) → havoc_in p I n w ≡ Stop (Fails d) s → IsDuty d
  unfolding havoc_kept
  fails_at_one n w d s e =
      subst (λ (r : Res Stopped Left Flow). EndsSafe p I IsDuty r) e
      ((kept_main p (havoc.havoc p I) MayFail havoc_kept bodies n).at (record { cells = first_cells p; values = w; draws = [] }))
