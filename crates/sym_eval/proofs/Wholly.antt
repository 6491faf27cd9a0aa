-- Main's body, from the first state.
use Rattle.std.proofs.Common.{◌≡◌, ℕ, zero, suc, ◌+◌, ◌<◌, ◌^◌, ℤ, Bool, IsTrue, List, [], ◌∷◌, length, length-append, refl, sym, ◌∙◌, ap, subst, arith, Option, Some, None, slice_get, get_or, unwrap_or, true≢false, true}
use Rattle.std.specs.List.{All}
use Rattle.std.specs.Option.{option_map}
use Rattle.std.proofs.lemmas.Option.{slice_get_read, slice_get_within, slice_get-map}
use Rattle.c_calls.specs.Calling.{IsCalledFrom, directly, further, IsFirstRecursion}
use Rattle.c_core.specs.Program.{IsProgram, is_main}
use Rattle.c_core.specs.Tree.{Exp, Program, Function, Stmt, Form}
use Rattle.c_core.specs.TreeView.{function_view, functions_view}
use Rattle.c_core.specs.declared.tree.Function as rust
use Rattle.c_core.specs.Typing.{function_fits}
use Rattle.c_core.specs.declared.number.IntType.{IntType}
use Rattle.c_core.specs.declared.number.Spot.{Spot}
use Rattle.c_meaning.specs.declared.run.Duty.{Duty}
use Rattle.c_meaning.specs.Duties.{Placed, Duties}
use Rattle.c_meaning.specs.Havoc.{Havoc, havoc_run}
use Rattle.c_meaning.specs.Replay.{values_of}
use Rattle.c_meaning.specs.Exec.{run_if}
use Rattle.sym_meaning.specs.Mode.{Mode}
use Rattle.sym_meaning.specs.Judged.{judged, judged_in}
use Rattle.sym_meaning.specs.Obliging.{obliging, as_havoc, IsHavocRun}
use Rattle.c_meaning.specs.Objects.{type_or_int}
use Rattle.c_meaning.specs.Run.{first_cells}
use Rattle.c_meaning.proofs.TypeFacts.{at_every}
use Rattle.circuits.specs.declared.net.Bit.{Bit}
use Rattle.circuits.specs.Net.{IsNet, count_ands, count_inputs}
use Rattle.circuits.proofs.Nets.{count_ands-append, inputs-append}
use Rattle.sym_eval.specs.Doing.{weight_of_form, bits_of_form, FormReady, FormDoes}
use Rattle.sym_eval.specs.Whole.{weight_of_main, bits_of_main, IsLight, IsWhole, IsLightEnough, AreMade}
use Rattle.sym_duties.specs.Answers.{names_of}
use Rattle.sym_duties.specs.Promise.{StandsFor, Tells}
use Rattle.sym_state.specs.Standing.{draws_at}
use Rattle.sym_flow.specs.Calling.{Enters}
use Rattle.sym_state.specs.declared.state.DrawSite.{DrawSite}
use Rattle.sym_state.specs.declared.state.Sym.{Sym}
use Rattle.sym_scale.specs.Cost.{function_of, nodes, bits}
use Rattle.sym_scale.specs.Obliged.{CostsItsWeight}
use Rattle.sym_weight.specs.Weight.{Weight, Bits, most_active}
use Rattle.sym_weight.proofs.Light.{bits_are_light}
use Rattle.sym_whole.specs.Deciding as whole
use Rattle.sym_whole.specs.Deciding.{IsStart, Decides}
use Rattle.sym_whole.specs.Starting.{at_start, IsFirst}
use Rattle.sym_whole.proofs.Wholes.{decides, larger}

-- with fresh bits for main's ways out, each run still sets out
entered_start : {p : Program} {ds : List _} {start : List _} {before : List _} {ty : IntType} {a b : Sym} → IsStart ds p start before a → Enters p ty a b → IsStart ds p start before b
entered_start x e = record {
  here = λ v. record {
    live = ap (λ s. s.live) (e.is v) ∙ (x.here v).live;
    broken = ap (λ s. s.broken) (e.is v);
    again = ap (λ s. s.again) (e.is v);
    gave = ap (λ s. s.gave) (e.is v);
    failing = ap (λ s. s.failing) (e.is v) ∙ (x.here v).failing;
  };
  cells = λ v. ap (λ s. s.cells) (e.is v) ∙ x.cells v;
  draws = λ v. ap (λ s. s.draws) (e.is v) ∙ x.draws v;
  completed = λ v. ap (λ s. s.completed) (e.is v) ∙ x.completed v;
}

module _ (p : Program) (W : Mode) (n : ℕ) (r : _) (ps : List ℕ) (at : Spot) (f : Form) (main : slice_get p.functions p.main ≡ Some (record { result = r; params = ps; body = Stmt at f })) where
  weight_is : weight_of_main p W n ≡ 64 + (W.scale.body + weight_of_form p W n r at f)
  weight_is = ap (function_of p (nodes p W.scale n)) main

  bits_are : bits_of_main p W n ≡ 0 + (0 + bits_of_form p W n r at f)
  bits_are = ap (function_of p (bits p W.scale n)) main

  module _ {count segments : ℕ} {a b : Sym} (first : IsFirst p count segments a) (e : Enters p (type_or_int r) a b) where
    pub main_ready : IsProgram p → IsLight p W n → FormReady p W n r at b f
    main_ready h light = record {
      fits = e.fits;
      result = e.result;
      types = at_every (function_fits p) p.functions p.main (record { result = r; params = ps; body = Stmt at f }) h.types main;
      room = omega (arith, light, weight_is, bits_are, first.one_node, ap length e.added.is, length-append a.net e.added.more, e.added.few);
    }

    pub main_whole : {c : Sym} → count ≡ length W.duties → IsNet c.net → FormDoes p W n r at f b c → IsWhole p W n (at_start segments) c
    main_whole {c} many fine x =
        let ds = W.duties in
        let sets_out = entered_start (first.start ds (sym many)) e in
        let size = larger p ds r x in
        record {
          fits = x.fits;
          fine = fine;
          decides = subst (λ run. Decides ds p (first_cells p) (at_start segments) c run) (sym (ap (λ f. run_if p (judged p W) (suc n) f true) main)) (decides p ds r b c (first_cells p) (at_start segments) _ x sets_out fine);
          gates = omega (arith, size.gates, weight_is, first.no_gates, ap count_ands e.added.is, count_ands-append a.net e.added.more, e.added.gates);
          feeds = omega (arith, size.feeds, bits_are, first.no_inputs, ap count_inputs e.added.is, inputs-append a.net e.added.more, e.added.feeds);
        }

-- ---- obligations, whose parts cost what they weigh
module _ (p : Program) (I : List Placed) (cost : CostsItsWeight p I (suc (length p.functions))) where
  pub main_costs : weight_of_main p (obliging p I) (length p.functions) ≡ Weight p I
  main_costs = omega (arith, cost.nodes 0 p.main)

  pub main_draws : bits_of_main p (obliging p I) (length p.functions) ≡ Bits p
  main_draws = cost.bits p.main

  pub light_enough : IsLightEnough p I → IsLight p (obliging p I) (length p.functions)
  light_enough light = omega (arith, light, main_costs, main_draws, bits_are_light p I (most_active p) p.main)

-- ---- what is told of the whole; law: in the mode of obligations the judged run is the havoc run
pub are_made : (p : Program) (I : List Placed) (s : Sym) (list : List Duty) (failing : List Bit) (sites : List DrawSite) → ((w : List ℤ) → IsHavocRun p I (suc (length p.functions)) w []) → CostsItsWeight p I (suc (length p.functions)) → IsWhole p (obliging p I) (length p.functions) [] s → IsLightEnough p I → length (Duties p I) < 2 ^ 32 → list ≡ Duties p I
    → failing ≡ s.failing.items → sites ≡ s.sites.items → All (StandsFor p) s.sites.items → AreMade p I (record { list = list; net = s.net; failing = failing; sites = sites })
are_made p I s list failing sites law cost h light numbered a b c stand = rw (a, b, c) (record {
  list = refl;
  numbered = numbered;
  many = h.decides.many;
  failing_in = h.fits.failing;
  sites_in = h.fits.sites;
  stand = stand;
  each = λ v. told v (values_of (draws_at p v s.net s.sites.items)) (h.decides.each v);
  all = λ w. let t = h.decides.all w in (t.0, told t.0 w t.1);
  gates = omega (arith, h.gates, main_costs p I cost);
  feeds = omega (arith, h.feeds, main_draws p I cost);
  drawn = bits_are_light p I (most_active p) p.main;
  light = light;
})
  where
    told : (v : ℕ → Bool) (w : List ℤ) → whole.Tells p s v (havoc_run (Duties p I) (as_havoc (judged_in p (obliging p I) (suc (length p.functions)) w []))) → Tells p I (record { list = Duties p I; net = s.net; failing = s.failing.items; sites = s.sites.items }) v w
    told v w t = let q : whole.Tells p s v (Havoc p I w) = subst (λ r. whole.Tells p s v (havoc_run (Duties p I) r)) (law w) t in record { draws = q.draws; ends = q.ends }

-- ---- functions
called_within : {p : Program} {es : List Exp} (f : ℕ) → IsCalledFrom p es f → f < length p.functions
called_within f (directly g h) = h.0
called_within f (further g k x h) = h.0

pub as_many : (fs : List rust.Function) → length (functions_view fs) ≡ length fs
as_many [] = refl
as_many (f ∷ fs) = ap suc (as_many fs)

-- a function on a cycle is one of the program's
pub recursive_within : (p : Program) (fs : List rust.Function) (f : ℕ) → p.functions ≡ functions_view fs → IsFirstRecursion p (Some f) → f < length fs
recursive_within p fs f e h = omega (arith, called_within f h.0.cycle, ap length e, as_many fs)

seen_at : (fs : List rust.Function) (i : ℕ) (f : rust.Function) → slice_get fs i ≡ Some f → slice_get (functions_view fs) i ≡ Some (function_view f)
seen_at [] i f e = cc
seen_at (g ∷ fs) zero f e = ap (λ x. Some (function_view (unwrap_or x g))) e
seen_at (g ∷ fs) (suc i) f e = seen_at fs i f e

pub function_at : (fs : List rust.Function) (i : ℕ) (f : rust.Function) → i < length fs → f ≡ get_or fs i f → slice_get (functions_view fs) i ≡ Some (function_view f)
function_at fs i f lt e = seen_at fs i f (slice_get_read fs (length fs) i f refl lt e)

pub named_at : (fs : List rust.Function) (i : ℕ) (f : rust.Function) → i < length fs → f ≡ get_or fs i f → slice_get (names_of fs) i ≡ Some f.name
named_at fs i f lt e = slice_get-map (λ f. f.name) fs i ∙ ap (option_map (λ f. f.name)) (slice_get_read fs (length fs) i f refl lt e)

main_found : (o : Option Function) (fs : List rust.Function) (i : ℕ) → IsTrue (is_main o) → slice_get (functions_view fs) i ≡ o → i < length fs
main_found None fs i h e = absurd (true≢false (sym h))
main_found (Some f) fs i h e = omega (arith, slice_get_within (functions_view fs) i f e, as_many fs)

pub main_within : (p : Program) (fs : List rust.Function) → p.functions ≡ functions_view fs → IsProgram p → p.main < length fs
main_within p fs e h = main_found (slice_get p.functions p.main) fs p.main h.main (ap (λ l. slice_get l p.main) (sym e))
