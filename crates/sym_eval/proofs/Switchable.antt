-- `switch`: the choice of an arm, the arms one after another, and the whole.
use Rattle.std.proofs.Common.{◌≡◌, ℕ, zero, suc, ◌+◌, ◌*◌, ◌≤◌, ◌<◌, ◌^◌, ℤ, Bool, true, false, cond, ◌&&◌, ◌||◌, List, [], ◌∷◌, ◌++◌, length, map, take, drop, get_or, refl, sym, ◌∙◌, ap, ap₂, subst, arith, count_by, nat_le, Option, Some, None, IsTrue}
use Rattle.std.proofs.Math.Seq.{take-suc}
use Rattle.std.proofs.lemmas.Bool.Decides.{nat_tests}
use Rattle.std.proofs.lemmas.List.{take-append-drop, length-take-le, length-map, map-append}
use Rattle.std.proofs.lemmas.List.Elements.{All-get_or}
use Rattle.std.proofs.lemmas.List.Recursion.{is_count_by}
use Rattle.std.specs.List.{list_all}
use Rattle.c_core.specs.Tree.{Program, Exp, Expr, Stm, Stms, NoStm, MoreStm, MoreCase, Form, Switch}
use Rattle.c_core.specs.Parts.{type_of as type_if, every_statement, every_statement_of}
use Rattle.c_core.specs.Types.{fit, promote_of}
use Rattle.c_core.specs.Typing.{is_typed, has_value, is_default, label_fits, labels_in, statement_fits, switch_fits}
use Rattle.c_core.specs.View.{joined, stmts_view, switch_view}
use Rattle.c_core.specs.declared.number.DataModel.{DataModel}
use Rattle.c_core.specs.declared.number.IntType.{IntType}
use Rattle.c_core.specs.declared.number.Spot.{Spot}
use Rattle.c_core.specs.declared.tree.Arm.{Arm, out-Arm}
use Rattle.c_core.specs.declared.tree.Label.{Label as ArmLabel}
use Rattle.c_core.specs.declared.tree.Label.TheVariants.{Case, Default}
use Rattle.c_core.proofs.View.{arm_views}
use Rattle.c_meaning.specs.Acts.{Res, Go, Stop, Flow, bind, go_on, scoped}
use Rattle.c_meaning.specs.Exec.{full, from_arm}
use Rattle.c_meaning.specs.Havoc.{Stopped}
use Rattle.sym_meaning.specs.Mode.{JudgedState, cells_judged, with_cells_judged, Mode}
use Rattle.c_meaning.specs.declared.run.Event.TheVariants.{Branch}
use Rattle.c_meaning.specs.Run.{way_for}
use Rattle.sym_meaning.specs.Judged.{judged, selected}
use Rattle.sym_state.specs.Telling.{telling}
use Rattle.sym_state.proofs.Telling.{told_as, told_follows}
use Rattle.c_meaning.specs.Meaning.{Used}
use Rattle.c_meaning.specs.Objects.{type_of}
use Rattle.c_meaning.specs.Run.{arm_for, is_case}
use Rattle.c_meaning.proofs.TypeFacts.{both, neither}
use Rattle.circuits.specs.declared.net.Bit.{Bit}
use Rattle.circuits.specs.declared.net.NetNode.{NetNode}
use Rattle.circuits.specs.Net.{holds, IsIn, opposite}
use Rattle.circuits.specs.Numbers.{typed, AreIn, AreTyped}
use Rattle.circuits.specs.Outcome.{conversion_cost}
use Rattle.sym_state.specs.declared.state.Sym.{Sym}
use Rattle.sym_state.specs.Standing.{Stand, stand, IsState, Turned, with_live}
use Rattle.sym_state.specs.Following.{Follows}
use Rattle.sym_state.proofs.Composed.{follows_then, net_follows}
use Rattle.sym_choices.proofs.Labels.{label_of, labels_are, arms_more}
use Rattle.sym_state.proofs.Nets.{in_added, holds_added, typed_added, all_added, longer_by}
use Rattle.sym_choices.proofs.Held.{all_held}
use Rattle.sym_state.proofs.Turning.{turned_then}
use Rattle.sym_choices.specs.Cases.{AreCases, cases_cost}
use Rattle.sym_values.specs.Valuing.{Reckoned}
use Rattle.sym_choices.specs.Choosing.{done_from, Entered}
use Rattle.sym_flow.specs.Ways.{Became, fresh_broken, behind_loop}
use Rattle.sym_flow.proofs.Bodies.{out_of_loop, broken_runs}
use Rattle.sym_flow.proofs.Branching.{arms_run}
use Rattle.sym_flow.proofs.Statements.{follows_runs, runs_then, runs_as, skip_runs}
use Rattle.sym_exprs.specs.Evaluating.{bits_of}
use Rattle.sym_exprs.proofs.Costs.{conversion_costs}
use Rattle.sym_exprs.proofs.Typed.{has_one}
use Rattle.sym_scale.specs.Cost as cost
use Rattle.sym_scale.specs.Cost.{Cost}
use Rattle.sym_weight.specs.Table.{labels_weight, chooses}
use Rattle.sym_scale.specs.Cost.{nodes, bits}
use Rattle.sym_eval.specs.Control.{FullReady, FullGives}
use Rattle.sym_eval.specs.Doing.{calls, weight_of_block, bits_of_block, BlockReady, BlockDoes, form_glue, weight_of_form, bits_of_form, FormReady, FormDoes}
use Rattle.sym_eval.specs.Switching.{arm_glue, choice_cost, weight_of_choice, ChoiceReady, Chooses, arm_done, ArmReady, ArmDoes, arms_done, weight_of_arms, bits_of_arms, ArmsReady, ArmsDo}
use Rattle.sym_eval.proofs.Fulls.{only_one, form_types, full_in, number_as}
use Rattle.sym_eval.proofs.Switched.{chosen_is, arms_snoc}
use Rattle.sym_eval.proofs.Turns.{became_as, kept_holds}

-- ---- amounts of arms add up
module _ (p : Program) (C : Cost) (gives : Option IntType) where
  abbrev all : Stms → ℕ
  all b = cost.statements p C gives b

  joined_amount : (b c : Stms) → all (joined b c) ≡ all b + all c
  joined_amount NoStm c = omega arith
  joined_amount (MoreStm s b) c = omega (arith, joined_amount b c)
  joined_amount (MoreCase spot l b) c = joined_amount b c

  first_amount : (a : Arm) (arms : List Arm) → all (switch_view (a ∷ arms)) ≡ all (stmts_view (out-Arm a).body) + all (switch_view arms)
  first_amount a arms = ap all (arm_views a (switch_view arms)) ∙ joined_amount (stmts_view (out-Arm a).body) (switch_view arms)

  append_amount : (xs ys : List Arm) → all (switch_view (xs ++ ys)) ≡ all (switch_view xs) + all (switch_view ys)
  append_amount [] ys = omega arith
  append_amount (a ∷ xs) ys = omega (arith, first_amount a (xs ++ ys), first_amount a xs, append_amount xs ys)

  pub arms_amount : (arms : List Arm) (k : ℕ) (a : Arm) → k < length arms → a ≡ get_or arms k a
      → all (switch_view (take (k + 1) arms)) ≡ all (switch_view (take k arms)) + all (stmts_view (out-Arm a).body)
  arms_amount arms k a h e = omega (arith, ap (λ z. all (switch_view z)) (arms_more arms k a h e), append_amount (take k arms) (a ∷ []), first_amount a [])

  pub arms_within : (arms : List Arm) (k : ℕ) → all (switch_view (take k arms)) ≤ all (switch_view arms)
  arms_within arms k = omega (arith, ap (λ z. all (switch_view z)) (take-append-drop k arms), append_amount (take k arms) (drop k arms))

-- ---- typed arms
module _ (q : Stm → Bool) where
  joined_typed : (b c : Stms) → IsTrue (every_statement_of q (joined b c)) → IsTrue (every_statement_of q b) × IsTrue (every_statement_of q c)
  joined_typed NoStm c h = (refl, h)
  joined_typed (MoreStm s b) c h =
      let t = both (every_statement q s) (every_statement_of q (joined b c)) h in
      let r = joined_typed b c t.1 in
      (yes_and (every_statement q s) (every_statement_of q b) t.0 r.0, r.1)
    where
      yes_and : (a b : Bool) → IsTrue a → IsTrue b → IsTrue (a && b)
      yes_and true b h k = k
      yes_and false b h k = neither h
  joined_typed (MoreCase spot l b) c h = joined_typed b c h

  first_typed : (a : Arm) (arms : List Arm) → IsTrue (every_statement_of q (switch_view (a ∷ arms))) → IsTrue (every_statement_of q (stmts_view (out-Arm a).body)) × IsTrue (every_statement_of q (switch_view arms))
  first_typed a arms h = joined_typed (stmts_view (out-Arm a).body) (switch_view arms) (subst (λ b. IsTrue (every_statement_of q b)) (arm_views a (switch_view arms)) h)

  pub arm_typed : (arms : List Arm) (k : ℕ) (d : Arm) → k < length arms → IsTrue (every_statement_of q (switch_view arms)) → IsTrue (every_statement_of q (stmts_view (out-Arm (get_or arms k d)).body))
  arm_typed [] k d h t = absurd (omega (arith, h))
  arm_typed (a ∷ arms) zero d h t = (first_typed a arms t).0
  arm_typed (a ∷ arms) (suc k) d h t = arm_typed arms k d (omega (arith, h)) (first_typed a arms t).1

-- ---- what the labels weigh
abbrev defaults : List ArmLabel → ℕ
defaults [] = 0
defaults (Case c ∷ ls) = defaults ls
defaults (Default ∷ ls) = 1 + defaults ls

defaults_more : (l : ArmLabel) (ls : List ArmLabel) → defaults (l ∷ ls) ≡ cond (is_default l) (1 + defaults ls) (defaults ls)
defaults_more (Case c) ls = refl
defaults_more Default ls = refl

counted : (ls : List ArmLabel) → defaults ls ≡ count_by is_default ls
counted ls = is_count_by defaults is_default refl defaults_more ls

own_cost : (m : DataModel) (ty : IntType) (ls : List ArmLabel) → cases_cost m ty ls + 6 * length ls ≤ labels_weight m ty ls + 6 * defaults ls
own_cost m ty [] = omega arith
own_cost m ty (Case c ∷ ls) = omega (arith, own_cost m ty ls)
own_cost m ty (Default ∷ ls) = omega (arith, own_cost m ty ls)

pub labels_cost : (m : DataModel) (ty : IntType) (ls : List ArmLabel) → cases_cost m ty ls + 6 * length ls ≤ labels_weight m ty ls + 6 * count_by is_default ls
labels_cost m ty ls = omega (arith, own_cost m ty ls, counted ls)

pub labels_many : (arms : List Arm) → length (labels_in (switch_view arms)) ≡ length arms
labels_many arms = ap length (labels_are arms) ∙ length-map arms label_of

done_length : (k : ℕ) (ls : List ArmLabel) → length (done_from k ls) ≡ length ls
done_length k [] = refl
done_length zero (l ∷ ls) = ap suc (done_length zero ls)
done_length (suc k) (l ∷ ls) = ap suc (done_length k ls)

-- what is typed of a switch
at_most_one : (n : ℕ) → IsTrue (nat_le n 1) → n ≤ 1
at_most_one n h = grind (arith, nat_tests)

pub switch_types : (m : DataModel) (e : Exp) (b : Stms) → IsTrue (switch_fits m (type_if e) b)
    → IsTrue (has_value e) × IsTrue (list_all (label_fits m (promote_of (type_of e))) (labels_in b)) × (count_by is_default (labels_in b) ≤ 1)
switch_types m (Expr spot None n) b h = neither h
switch_types m (Expr spot (Some ty) n) b h =
    let t = both (list_all (label_fits m (promote_of ty)) (labels_in b)) (nat_le (count_by is_default (labels_in b)) 1) h in
    (refl, t.0, at_most_one (count_by is_default (labels_in b)) t.1)

module _ (p : Program) (W : Mode) (n : ℕ) where
  -- ---- the choice of an arm
  module _ (at : Spot) (e : Exp) (ls : List ArmLabel) {s : Sym} (r : ChoiceReady p W n at s e ls) where
    abbrev promoted : IntType
    promoted = promote_of (type_of e)

    test_type : type_if e ≡ Some (type_of e)
    test_type = has_one e r.value

    pub chosen_by_ready : FullReady p W n s e
    chosen_by_ready = record { fits = r.fits; types = r.types; room = omega (arith, r.room) }

    module _ {a : Sym} {xs : List Bit} (x : FullGives p W n at Used e s a xs) where
      pub chosen_by_in : (from : IntType) → from ≡ type_of e → AreTyped p.model from a.net xs
      chosen_by_in from q = rw q (full_in p W n at Used e (type_of e) test_type x)

      -- the conversion, with its types by other names
      pub promoted_as : (from to : IntType) → from ≡ type_of e → to ≡ promote_of from → {b : Sym} {ys : List Bit} → Reckoned p (conversion_cost p.model from to) a b to ys (λ v. fit p.model to (typed p.model from v a.net xs))
          → Reckoned p (conversion_cost p.model (type_of e) promoted) a b promoted ys (λ v. fit p.model promoted (typed p.model (type_of e) v a.net xs))
      promoted_as from to ef et {b} {ys} y =
          let kind = et ∙ ap promote_of ef in
          subst (λ k. Reckoned p (conversion_cost p.model k promoted) a b promoted ys (λ v. fit p.model promoted (typed p.model k v a.net xs))) ef
          (subst (λ k. Reckoned p (conversion_cost p.model from k) a b k ys (λ v. fit p.model k (typed p.model from v a.net xs))) kind y)

      pub chosen_by_room : length a.net < 2 ^ 28
      chosen_by_room = omega (arith, (longer_by x.follows.added).1, r.room)

      module _ {b : Sym} {ys : List Bit} (y : Reckoned p (conversion_cost p.model (type_of e) promoted) a b promoted ys (λ v. fit p.model promoted (typed p.model (type_of e) v a.net xs))) where
        pub cases_room : length b.net + cases_cost p.model promoted ls < 2 ^ 28
        cases_room = omega (arith, (longer_by x.follows.added).1, (longer_by y.turned.added).1, r.room)

        module _ {c : Sym} {cs : List Bit} (z : AreCases p promoted ys ls b c cs) where
          pub told_room : (k : ℕ) → k ≡ length ls → length c.net + (k + W.scale.test at) < 2 ^ 27
          told_room k q = omega (arith, (longer_by x.follows.added).1, (longer_by y.turned.added).1, (longer_by z.turned.added).1, r.room, q)

          pub cases_many : length cs ≡ length ls
          cases_many = let v : ℕ → Bool = λ k. false in sym (length-map cs (holds v c.net)) ∙ ap length (z.are v) ∙ length-map ls _

          done_many : {m : ℕ} {f : (ℕ → Bool) → ℤ} {o d : Sym} {bits : List Bit} (v : ℕ → Bool) → Entered p m ls f o d bits → length bits ≡ length ls
          done_many {f = f} {d = d} {bits = bits} v w = sym (length-map bits (holds v d.net)) ∙ ap length (w.are v) ∙ done_length (arm_for (f v) ls) ls

          -- the event is told before the arms are entered
          module _ {t : Sym} (k : ℕ) (q : k ≡ length ls) (ev : Turned p (k + W.scale.test at) 0 c t (λ v. telling W (Branch at (way_for (typed p.model promoted v c.net ys) ls)))) where
            abbrev value : (ℕ → Bool) → ℤ
            value v = typed p.model promoted v b.net ys

            pub entries_room : (j : ℕ) → j ≡ length ls → length t.net + 2 * j < 2 ^ 28
            entries_room j u = omega (arith, (longer_by x.follows.added).1, (longer_by y.turned.added).1, (longer_by z.turned.added).1, (longer_by ev.added).1, r.room, q, u)

            pub cases_then : AreIn t.net cs
            cases_then = all_added ev.added cs z.inside

            pub cases_still : (v : ℕ → Bool) → map (holds v t.net) cs ≡ map (is_case (value v)) ls
            cases_still v = all_held ev.added v cs z.inside ∙ z.are v

            pub chosen_chooses : {d : Sym} {bits : List Bit} (j : ℕ) → j ≡ length ls → Entered p (2 * j) ls value t d bits → Chooses p W n at e ls s d bits
            chosen_chooses {d} {bits} j u w =
                let two = turned_then p (conversion_cost p.model (type_of e) promoted + cases_cost p.model promoted ls) 0 y.turned z.turned (omega arith) (omega arith) in
                let event = told_as p W (λ v. Branch at (way_for (value v) ls)) ev (λ v. ap (λ i. Branch at (way_for i ls)) (typed_added z.turned.added p.model promoted v ys y.bits_in)) in
                let entered : Follows W.duties p (2 * j) 0 t d (λ v i. map (holds v d.net) bits ≡ done_from i ls) (λ v s. Go (arm_for (value v) ls) s) = net_follows p W.duties (λ v. arm_for (value v) ls) w.turned (λ v. w.are v) in
                let chosen : Follows W.duties p (W.scale.test at + 3 * length ls) 0 c d (λ v i. map (holds v d.net) bits ≡ done_from i ls) (λ v. selected p W at (value v) ls) =
                follows_then p W.duties (W.scale.test at + 3 * length ls) 0 (λ v u s. Go (arm_for (value v) ls) s) (told_follows p W (λ v. Branch at (way_for (value v) ls)) event) entered (λ v u i s. refl) (omega (arith, q, u)) (omega arith) in
                record {
                  many = done_many (λ k. false) w;
                  inside = w.inside;
                  follows = follows_then p W.duties (weight_of_choice p W n at e ls) (bits_of p W n e) (λ v z. selected p W at (fit p.model promoted z) ls) x.follows
                      (follows_then p W.duties (W.scale.test at + choice_cost p W n (type_of e) ls) 0 (λ v u. selected p W at (value v) ls)
                      (net_follows p W.duties {S = λ v u. Unit {0}} (λ v. tt {0}) two (λ v. tt {0})) chosen (λ v u t s. refl) (omega arith) (omega arith))
                      (λ v z t s. ap (λ w. selected p W at w ls s) (ap (fit p.model promoted) (number_as p W n a xs e (type_of e) test_type v z t) ∙ sym (y.is v)))
                      (omega arith) (omega arith);
                }

  module _ (gives : Option IntType) where
    -- ---- one arm
    module _ (bit : Bit) (b : Stms) {s : Sym} (r : ArmReady p W n gives s bit b) where
      pub arm_room : length s.net < 2 ^ 28
      arm_room = omega (arith, r.room)

      module _ {a : Sym} {f : (ℕ → Bool) → Stand → Stand} (x : Turned p 1 0 s a f) where
        pub arm_starts : BlockReady p W n gives a b
        arm_starts = record { fits = x.fits; result = x.result ∙ r.result; types = r.types; room = omega (arith, (longer_by x.added).1, r.room) }

        module _ {c : Sym} (y : BlockDoes p W n gives b a c) where
          pub arm_still : (k : Bit) → IsIn s.net k → IsIn c.net k
          arm_still k q = in_added y.added k (in_added x.added k q)

          pub arm_room_again : length c.net < 2 ^ 28
          arm_room_again = omega (arith, (longer_by x.added).1, (longer_by y.added).1, r.room)

          module _ {d : Sym} {g : (ℕ → Bool) → Stand → Stand} (z : Turned p 1 0 c d g) where
            pub arm_last_in : IsIn d.net c.live
            arm_last_in = in_added z.added c.live y.fits.live

            pub arm_last_room : length d.net < 2 ^ 28
            arm_last_room = omega (arith, (longer_by x.added).1, (longer_by y.added).1, (longer_by z.added).1, r.room)

    pub arm_does : {s a c d e : Sym} (bit other : Bit) (b : Stms) → ArmReady p W n gives s bit b → other ≡ opposite bit
        → Turned p 1 0 s a (λ v. with_live (holds v s.net s.live && holds v s.net bit)) → BlockDoes p W n gives b a c → length c.cells.items ≡ length s.cells.items
        → Turned p 1 0 c d (λ v. with_live (holds v c.net s.live && holds v c.net other)) → Turned p 1 0 d e (λ v. with_live (holds v d.net c.live || holds v d.net d.live)) → ArmDoes p W n gives bit b s e
    arm_does {s} {a} {c} {d} {e} bit other b r q x y l z w =
        let z' : Turned p 1 0 c d (λ v. with_live (holds v c.net s.live && holds v c.net (opposite bit))) = subst (λ k. Turned p 1 0 c d (λ v. with_live (holds v c.net s.live && holds v c.net k))) q z in
        record {
          runs = arms_run p W.duties gives (arm_glue + weight_of_block p W n gives b) (bits_of_block p W n gives b) bit r.fits r.bit_in x y (l ∙ sym x.level) z' (skip_runs p W.duties gives d z.fits) refl w (omega arith) (omega arith);
          level = w.level ∙ z.level ∙ l;
        }

    -- ---- the arms
    pub arms_none : (s : Sym) → IsState p s → ArmsDo p W n gives [] [] s s
    arms_none s h = record { runs = runs_as p W.duties gives (skip_runs p W.duties gives s h) (λ v t. refl) (omega arith) (omega arith); level = refl }

    module _ (bits : List Bit) (arms : List Arm) (k : ℕ) (d bit : Bit) (a : Arm) (h : k < length arms) (e : a ≡ get_or arms k a) (i : k < length bits) (q : bit ≡ get_or bits k d) where
      abbrev body : Stms
      body = stmts_view (out-Arm a).body

      weight_more : weight_of_block p W n gives (switch_view (take (k + 1) arms)) ≡ weight_of_block p W n gives (switch_view (take k arms)) + weight_of_block p W n gives body
      weight_more = arms_amount p (nodes p W.scale n) gives arms k a h e

      bits_more : bits_of_block p W n gives (switch_view (take (k + 1) arms)) ≡ bits_of_block p W n gives (switch_view (take k arms)) + bits_of_block p W n gives body
      bits_more = arms_amount p (cost.bits p W.scale n) gives arms k a h e

      weight_within : weight_of_block p W n gives (switch_view (take (k + 1) arms)) ≤ weight_of_block p W n gives (switch_view arms)
      weight_within = arms_within p (nodes p W.scale n) gives arms (k + 1)

      bits_within : bits_of_block p W n gives (switch_view (take (k + 1) arms)) ≤ bits_of_block p W n gives (switch_view arms)
      bits_within = arms_within p (cost.bits p W.scale n) gives arms (k + 1)

      count : length (take k arms) ≡ k
      count = length-take-le k arms (omega (arith, h))

      count_more : length (take (k + 1) arms) ≡ k + 1
      count_more = length-take-le (k + 1) arms (omega (arith, h))

      -- the statements of an arm weigh no more than those of all
      pub arms_part : weight_of_block p W n gives body ≤ weight_of_block p W n gives (switch_view arms)
      arms_part = omega (arith, weight_more, weight_within)

      bit_inside : (net : List NetNode) → AreIn net bits → IsIn net bit
      bit_inside net f = subst (IsIn net) (sym q) (All-get_or (λ b. IsIn net b) bits k d i f)

      pub arms_next : {s m : Sym} → ArmsReady p W n gives s bits arms → ArmsDo p W n gives (take k bits) (take k arms) s m → ArmReady p W n gives m bit body
      arms_next {s} {m} r y = record {
        fits = y.runs.fits;
        result = y.runs.result ∙ r.result;
        types = subst (λ z. IsTrue (every_statement_of (statement_fits p gives) (stmts_view (out-Arm z).body))) (sym e) (arm_typed (statement_fits p gives) arms k a h r.types);
        bit_in = in_added y.runs.added bit (bit_inside s.net r.inside);
        room = omega (arith, (longer_by y.runs.added).1, weight_more, bits_more, weight_within, bits_within, count, h, r.room);
      }

      bits_on : take (k + 1) bits ≡ take k bits ++ bit ∷ []
      bits_on = let n : k + 1 ≡ suc k = omega arith in ap (λ j. take j bits) n ∙ take-suc bits k d i ∙ ap (λ x. take k bits ++ x ∷ []) (sym q)

      pub arms_on : {s m t : Sym} → AreIn s.net bits → ArmsDo p W n gives (take k bits) (take k arms) s m → ArmDoes p W n gives bit body m t → ArmsDo p W n gives (take (k + 1) bits) (take (k + 1) arms) s t
      arms_on {s} {m} {t} f y z = record {
        runs = runs_as p W.duties gives
            (runs_then p W.duties gives (weight_of_arms p W n gives (take (k + 1) arms)) (bits_of_arms p W n gives (take (k + 1) arms)) y.runs z.runs (omega (arith, weight_more, count, count_more)) (omega (arith, bits_more)))
            (λ v u.
            let hold : Bit → Bool = holds v s.net in
            ap (λ t. bind (arms_done p W n gives (map hold (take k bits)) (take k arms) u) (go_on (arm_done p W n gives t body))) (holds_added y.runs.added v bit (bit_inside s.net f))
            ∙ sym (arms_snoc p W n gives (map hold (take k bits)) (take k arms) (hold bit) a u (length-map (take k bits) hold ∙ length-take-le k bits (omega (arith, i)) ∙ sym count))
            ∙ ap (λ ts. arms_done p W n gives ts (take k arms ++ a ∷ []) u) (sym (map-append hold (take k bits) (bit ∷ [])) ∙ ap (map hold) (sym bits_on))
            ∙ ap (λ rest. arms_done p W n gives (map hold (take (k + 1) bits)) rest u) (sym (arms_more arms k a h e)))
            (omega arith) (omega arith);
        level = z.level ∙ y.level;
      }

    -- ---- the whole
    module _ (at : Spot) (e : Exp) (arms : List Arm) {s : Sym} (r : FormReady p W n gives at s (Switch e (switch_view arms))) where
      abbrev labels : List ArmLabel
      labels = labels_in (switch_view arms)

      switch_is : IsTrue (has_value e) × IsTrue (list_all (label_fits p.model (promote_of (type_of e))) labels) × (count_by is_default labels ≤ 1)
      switch_is = switch_types p.model e (switch_view arms) (form_types p gives at (Switch e (switch_view arms)) r.types).0

      -- the choice, the arms and the end of the switch are paid for by its weight
      switch_pays : choice_cost p W n (type_of e) labels + (arm_glue * length arms + 1) ≤ form_glue + chooses p.model (type_of e) labels
      switch_pays = omega (arith, conversion_costs p.model (type_of e) (promote_of (type_of e)), labels_cost p.model (promote_of (type_of e)) labels, labels_many arms, switch_is.2)

      pub switch_chooses : ChoiceReady p W n at s e labels
      switch_chooses = record {
        fits = r.fits;
        types = only_one (is_typed p) e (form_types p gives at (Switch e (switch_view arms)) r.types).1;
        value = switch_is.0;
        labels = switch_is.1;
        room = omega (arith, r.room, switch_pays);
      }

      module _ {a : Sym} {bits : List Bit} (x : Chooses p W n at e labels s a bits) where
        abbrev out : Flow → JudgedState → Res Stopped JudgedState Flow
        out f t = Go (out_of_loop f) t

        module _ {b : Sym} (y : Became p 0 a b (λ v. fresh_broken)) where
          pub arms_start : ArmsReady p W n gives b bits arms
          arms_start = record {
            fits = y.fits;
            result = y.result ∙ x.follows.result ∙ r.result;
            many = x.many ∙ labels_many arms;
            types = (form_types p gives at (Switch e (switch_view arms)) r.types).2;
            inside = all_added y.added bits x.inside;
            room = omega (arith, (longer_by x.follows.added).1, (longer_by y.added).1, switch_pays, r.room);
          }

          module _ {c : Sym} (z : ArmsDo p W n gives bits arms b c) where
            pub switch_kept_in : (kept : Bit) → kept ≡ a.broken → IsIn c.net kept
            switch_kept_in kept q = subst (IsIn c.net) (sym q) (in_added z.runs.added a.broken (in_added y.added a.broken x.follows.fits.broken))

            pub switch_room : length c.net < 2 ^ 28
            switch_room = omega (arith, (longer_by x.follows.added).1, (longer_by y.added).1, (longer_by z.runs.added).1, switch_pays, r.room)

            -- the arms of a number on, for each run by the value of its test
            as_chosen : (v : ℕ → Bool) (k : ℕ) → map (holds v a.net) bits ≡ done_from k labels → (u : JudgedState)
                → from_arm p (judged p W) (calls p W n) gives k (switch_view arms) true u ≡ scoped Stopped JudgedState cells_judged with_cells_judged (λ t. bind (arms_done p W n gives (map (holds v b.net) bits) arms t) out) u
            as_chosen v k t u =
                sym (chosen_is p W n gives k arms u)
                ∙ ap (λ ts. scoped Stopped JudgedState cells_judged with_cells_judged (λ t. bind (arms_done p W n gives ts arms t) out) u)
                (ap (done_from k) (sym (labels_are arms)) ∙ sym t ∙ sym (all_held y.added v bits x.inside))

            chosen_then : (w : Res Stopped JudgedState ℤ)
                → bind (bind w (λ z. selected p W at (fit p.model (promote_of (type_of e)) z) labels)) (λ k t. from_arm p (judged p W) (calls p W n) gives k (switch_view arms) true t)
                ≡ bind w (λ z t. bind (selected p W at (fit p.model (promote_of (type_of e)) z) labels t) (λ k t. from_arm p (judged p W) (calls p W n) gives k (switch_view arms) true t))
            chosen_then (Go z t) = refl
            chosen_then (Stop f t) = refl

            pub switch_does : {d : Sym} (kept : Bit) (cells : ℕ) → kept ≡ a.broken → cells ≡ length a.cells.items → Became p 1 c d (λ v. behind_loop (holds v c.net kept) cells) → FormDoes p W n gives at (Switch e (switch_view arms)) s d
            switch_does {d} kept cells ek en w =
                let w' : Became p 1 c d (λ v. behind_loop (stand p v a).broken (length a.cells.items)) =
                became_as (λ v. behind_loop (stand p v a).broken (length a.cells.items)) w (λ v t. ap₂ (λ k m. behind_loop k m t) (kept_holds p W n gives kept a.broken ek x.follows.fits.broken y z.runs v) en) in
                let f : Form = Switch e (switch_view arms) in
                runs_as p W.duties gives
                (follows_runs p W.duties gives (form_glue + weight_of_form p W n gives at f) (bits_of_form p W n gives at f) (λ v k t. from_arm p (judged p W) (calls p W n) gives k (switch_view arms) true t) x.follows
                (broken_runs p W.duties gives y z.runs w') as_chosen (omega (arith, switch_pays)) (omega arith))
                (λ v u. chosen_then (full p (judged p W) (calls p W n) at Used e u)) (omega arith) (omega arith)
