-- Draws, and the ends of runs.
use Rattle.std.proofs.Common.{◌≡◌, ℕ, Bool, true, false, cond, not, ◌&&◌, List, [], ◌∷◌, ◌++◌, length, refl, sym, ◌∙◌, ap, ap₂, subst, arith, append-nil, Some}
use Rattle.c_core.specs.Tree.{Program}
use Rattle.c_core.specs.Types.{width_of}
use Rattle.c_core.specs.declared.number.IntType.{IntType}
use Rattle.c_core.specs.declared.number.Spot.{Spot}
use Rattle.c_core.specs.declared.number.Property.TheVariants.{UnreachCall, NoOverflow}
use Rattle.c_meaning.specs.declared.run.Draw.{Draw}
use Rattle.c_meaning.specs.declared.run.DrawKind.TheVariants.{Input}
use Rattle.c_meaning.specs.Meaning.{Site}
use Rattle.sym_meaning.specs.Mode.{Mode}
use Rattle.sym_meaning.specs.Judged.{draw, reached}
use Rattle.circuits.specs.declared.net.Bit.{Bit}
use Rattle.circuits.specs.Net.{holds, Means}
use Rattle.sym_state.specs.declared.state.Sym.{Sym}
use Rattle.sym_state.specs.declared.state.Around.{Around}
use Rattle.sym_state.specs.Standing.{Stand, stand, Turned, marked, stopped, violated, drawing}
use Rattle.sym_state.specs.Following.{left_of, Taken, Came}
use Rattle.sym_state.specs.Drawn.{draw_of, IsDrawn}
use Rattle.sym_state.proofs.Composed.{turned_follows, same_kept}
use Rattle.sym_values.specs.Valuing.{where_of, IsDutyAt, CountsWhere, Gives}
use Rattle.sym_values.specs.Storing.{input_of, reach_of, end_of, Ends}
use Rattle.sym_values.proofs.Judging.{and_no, marked_none, violation_marks}

undrawn : (d : Draw) (a : Stand) → a.live ≡ false → drawing d a ≡ a
undrawn d a h = λ i. record a { draws = (ap (λ l. a.draws ++ cond l (d ∷ []) []) h ∙ append-nil a.draws) i }

-- an input call
pub input_gives : (p : Program) (W : Mode) (spot : Spot) (ty : IntType) (s n : Sym) (bits : List Bit) → IsDrawn p Input spot ty s n bits → Gives p W 0 (width_of p.model ty) s n (Some ty) bits (input_of p W spot ty)
input_gives p W spot ty s n bits x =
    let d : (ℕ → Bool) → Draw = λ v. draw_of p Input spot ty v n.net bits in
    record {
      bits_in = x.bits_in;
      follows = record {
        fits = x.turned.fits;
        added = x.turned.added;
        level = x.turned.level;
        result = x.turned.result;
        moves = λ v. record { more = cond (stand p v s).live (d v ∷ []) []; draws = ap (λ z. z.draws) (x.turned.is v); still = λ h. same_kept (x.turned.is v ∙ undrawn (d v) (stand p v s) h) };
        does = λ v here vs rest t.
            let a = stand p v s in
            let u : Taken p.model (d v ∷ []) vs rest = subst (λ l. Taken p.model (cond l (d v ∷ []) []) vs rest) here.live t in
            subst (λ z. Came W.duties (λ w. w ≡ (d v).value) z rest (draw p Input spot ty (left_of a vs))) (sym (x.turned.is v)) (
              record { live = here.live; broken = here.broken; again = here.again; gave = here.gave; failing = here.failing },
              (λ i. record { cells = a.cells; completed = a.completed; values = u.1 i; draws = (ap (λ q. a.draws ++ record { spot = spot; ty = ty; value = q; from = Input } ∷ []) u.0 ∙ ap (λ l. a.draws ++ cond l (d v ∷ []) []) (sym here.live)) i }),
              u.0,
            );
      };
    }

module _ (p : Program) (W : Mode) (s n : Sym) (b : Bit) (m : Means s.net b (λ v. true)) where
  dead_stop : (v : ℕ → Bool) (a : Stand) → a.live ≡ false → stopped (holds v s.net b) a ≡ a
  dead_stop v a h = λ i. record a { live = (ap (λ l. l && not (holds v s.net b)) h ∙ sym h) i }

  stops : (v : ℕ → Bool) (l : Bool) → (l && not (holds v s.net b)) ≡ false
  stops v l = ap (λ t. l && not t) (m.is v) ∙ and_no l

  -- a run that is here ends
  pub end_gives : Turned p 1 0 s n (λ v. stopped (holds v s.net b)) → Ends p W 1 s n (end_of p W)
  end_gives x =
      turned_follows p W.duties (λ v. stopped (holds v s.net b)) x (λ v. refl) (λ v d. dead_stop v (stand p v s) d)
      (λ v here rest. (record { live = stops v (stand p v s).live; broken = here.broken; again = here.again; gave = here.gave; failing = here.failing }, refl, refl))

  -- where a call of `reach_error` isn't the violation, it ends the run
  pub reach_ends : (at : Around) (site : Site) → p.property ≡ NoOverflow → Turned p 1 0 s n (λ v. stopped (holds v s.net b)) → Ends p W 4 s n (reach_of p W at site)
  reach_ends at site e x =
      turned_follows p W.duties (λ v. stopped (holds v s.net b)) (record { fits = x.fits; added = record { more = x.added.more; is = x.added.is; gates = omega (arith, x.added.gates); feeds = x.added.feeds; few = omega (arith, x.added.few) }; level = x.level; result = x.result; is = x.is }) (λ v. refl) (λ v d. dead_stop v (stand p v s) d)
      (λ v here rest.
      subst (λ y. Came W.duties (λ z. Unit {0}) (stopped (holds v s.net b) (stand p v s)) rest (reached p W y (where_of at) site (left_of (stand p v s) rest))) (sym e)
      (record { live = stops v (stand p v s).live; broken = here.broken; again = here.again; gave = here.gave; failing = here.failing }, refl, refl))

  -- where it is, the run fails its obligation, if that counts
  pub reach_fails : (at : Around) (site : Site) (c : Bit) → IsDutyAt p W at → CountsWhere p W at (Some site.spot) s c → p.property ≡ UnreachCall → Turned p 4 0 s n (λ v. violated at.duty (holds v s.net b) (holds v s.net c))
      → Ends p W 4 s n (reach_of p W at site)
  reach_fails at site c duty_at q e x =
      turned_follows p W.duties (λ v. violated at.duty (holds v s.net b) (holds v s.net c)) x (λ v. refl)
      (λ v d i. record (stand p v s) { live = (ap (λ l. l && not (holds v s.net b)) d ∙ sym d) i; failing = (ap (λ l. marked at.duty (l && (holds v s.net b && holds v s.net c)) (stand p v s).failing) d ∙ marked_none at.duty (stand p v s).failing) i })
      (λ v here rest.
      let a = stand p v s in
      subst (λ y. Came W.duties (λ z. Unit {0}) (violated at.duty (holds v s.net b) (holds v s.net c) a) rest (reached p W y (where_of at) site (left_of a rest))) (sym e) (
        record {
          live = stops v a.live;
          broken = here.broken;
          again = here.again;
          gave = here.gave;
          failing = ap (λ t. marked at.duty (a.live && (t && holds v s.net c)) a.failing) (m.is v) ∙ violation_marks p W at duty_at (Some site.spot) (holds v s.net c) a (q.is v) here.live here.failing;
        },
        refl,
        refl,
      ))
