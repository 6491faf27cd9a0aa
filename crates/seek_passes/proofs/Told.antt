-- An event is told.
use Rattle.std.proofs.Common.{◌≡◌, ℕ, Bool, true, false, cond, List, [], ◌∷◌, length, map, refl, sym, ◌∙◌, ap, ap₂, arith}
use Rattle.std.specs.declared.vec.Vec.{Vec}
use Rattle.std.specs.declared.alloc.Global.{Global}
use Rattle.std.proofs.lemmas.List.{length-map}
use Rattle.c_core.specs.Tree.{Program}
use Rattle.c_meaning.specs.Cells.{Cell}
use Rattle.c_meaning.specs.declared.run.Event.{Event as RunEvent}
use Rattle.circuits.specs.declared.net.Bit.{Bit}
use Rattle.circuits.specs.declared.net.NetNode.{NetNode}
use Rattle.circuits.specs.Net.{holds}
use Rattle.seek_events.specs.declared.segment.Passing.{Passing}
use Rattle.seek_events.specs.Events.{AreAfter, passed_in, values_in}
use Rattle.seek_events.specs.Laws.{passed_by, AreFollowed}
use Rattle.seek_events.specs.Passed.{Passed, completes, completed_from}
use Rattle.sym_meaning.specs.Mode.{Mode}
use Rattle.sym_state.specs.declared.state.Sym.{Sym}
use Rattle.sym_state.specs.Standing.{stand}
use Rattle.sym_state.specs.Telling.{telling}
use Rattle.sym_state.proofs.Nets.{added_of, added_then, state_grown, stand_grown}
use Rattle.way_match.specs.Points.{BoundSegment}
use Rattle.seek_passes.specs.declared.event.SymEvent.{SymEvent}
use Rattle.seek_passes.specs.Charges.{told_weight}
use Rattle.seek_passes.specs.Event.{event_in}
use Rattle.seek_passes.specs.Passing.{PassesSegments}
use Rattle.seek_passes.specs.Telling.{FollowsSegments, Tells}

-- as many bits as before
level_from : (came assumes : Bool) (xs : List Passed) (bs : List Bool) → length bs ≡ length xs → length (completed_from came assumes xs bs) ≡ length bs
level_from came assumes [] [] h = refl
level_from came assumes [] (b ∷ bs) h = absurd (omega (arith, h))
level_from came assumes (x ∷ xs) [] h = absurd (omega (arith, h))
level_from came assumes (x ∷ xs) (b ∷ bs) h = omega (arith, level_from (completes came assumes x b) x.assumes xs bs (omega (arith, h)))

level_either : (t : Bool) (xs : List Passed) (bs : List Bool) → length bs ≡ length xs → length (cond t (completed_from false false xs bs) bs) ≡ length bs
level_either true xs bs h = level_from false false xs bs h
level_either false xs bs h = refl

module _ (p : Program) (ss : List BoundSegment) (e : SymEvent) where
  -- as many as there are segments
  pub one_each : {a b : Sym} {rs : List Passing} → PassesSegments p e ss a b rs → length rs ≡ length ss
  one_each {a} {b} {rs} x =
      let v : ℕ → Bool = λ k. false in
      omega (arith, length-map rs (passed_in b.net v), ap length (x.are v), length-map ss (passed_by p (event_in p a.net e v) (stand p v a).cells))

  -- the bits are those of the runs before
  bits_before : {a b : Sym} {rs : List Passing} → PassesSegments p e ss a b rs → (v : ℕ → Bool) → values_in b.net v b.completed.items ≡ (stand p v a).completed
  bits_before x v = ap (λ s. s.completed) (x.turned.is v)

  pub level_before : {a b : Sym} {rs : List Passing} → PassesSegments p e ss a b rs → length b.completed.items ≡ length a.completed.items
  level_before {a} {b} x =
      let v : ℕ → Bool = λ k. false in
      omega (arith, length-map b.completed.items (holds v b.net), ap length (bits_before x v), length-map a.completed.items (holds v a.net))

  module _ (a b : Sym) (net : List NetNode) (rs : List Passing) (completed : Vec Bit Global) (x : PassesSegments p e ss a b rs) (y : AreAfter b.net net b.live rs b.completed.items completed.items) (same : length a.completed.items ≡ length ss)
      (followed : (E : RunEvent) (cells : List Cell) (bs : List Bool) → AreFollowed p ss E cells bs) where
    bits_after : (W : Mode) → FollowsSegments p ss W → (v : ℕ → Bool) → values_in net v completed.items ≡ (telling W (event_in p a.net e v) (stand p v a)).completed
    bits_after W h v =
        let s = stand p v a in
        let E = event_in p a.net e v in
        y.values v
        ∙ ap₂ (λ t bs. cond t (completed_from false false (map (passed_in b.net v) rs) bs) bs) (ap (λ s. s.live) (x.turned.is v)) (bits_before x v)
        ∙ ap (λ xs. cond s.live (completed_from false false xs s.completed) s.completed) (x.are v)
        ∙ ap (λ cs. cond s.live cs s.completed) ((followed E s.cells s.completed).after ∙ sym (h.next E s.cells s.completed))

    level_after : length completed.items ≡ length b.completed.items
    level_after =
        let v : ℕ → Bool = λ k. false in
        let many : length (values_in b.net v b.completed.items) ≡ length (map (passed_in b.net v) rs) = omega (arith, length-map b.completed.items (holds v b.net), length-map rs (passed_in b.net v), one_each x, same, level_before x) in
        let kept = level_either (holds v b.net b.live) (map (passed_in b.net v) rs) (values_in b.net v b.completed.items) many in
        omega (arith, length-map completed.items (holds v net), ap length (y.values v), length-map b.completed.items (holds v b.net), kept)

    pub told : Tells p ss e a (record b { net = net; completed = completed })
    told = record {
      told = λ W h.
          let w = state_grown p y.grown x.turned.fits in
          record {
            fits = record { live = w.live; broken = w.broken; again = w.again; gave = w.gave; given = w.given; failing = w.failing; completed = y.inside; cells = w.cells; sites = w.sites };
            added = added_then (told_weight p e ss) 0 x.turned.added (added_of y.grown) (omega (arith, one_each x)) (omega arith);
            level = x.turned.level;
            result = x.turned.result;
            is = λ v.
                let q = stand_grown p v y.grown x.turned.fits ∙ x.turned.is v in
                let z = bits_after W h v in
                λ i. record (q i) { completed = z i };
          };
      level = omega (arith, level_after, level_before x);
    }
