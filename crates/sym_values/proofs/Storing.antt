-- A value is stored where a run is here.
use Rattle.std.proofs.Common.{◌≡◌, ℕ, ◌*◌, Bool, false, cond, ℤ, List, refl, sym, ◌∙◌, ap, ap₂, arith, Some}
use Rattle.c_core.specs.Tree.{Program}
use Rattle.c_core.specs.Types.{width_of, fit}
use Rattle.c_core.specs.declared.number.IntType.{IntType}
use Rattle.c_meaning.specs.Cells.{Key, put}
use Rattle.sym_meaning.specs.Mode.{Mode}
use Rattle.circuits.specs.declared.net.Bit.{Bit}
use Rattle.circuits.specs.Net.{holds}
use Rattle.circuits.specs.Numbers.{typed}
use Rattle.circuits.specs.Outcome.{conversion_cost}
use Rattle.sym_state.specs.declared.state.Sym.{Sym}
use Rattle.sym_state.specs.Standing.{Stand, stand, Turned, stored}
use Rattle.sym_state.proofs.Nets.{added_then, typed_added, are_typed_added}
use Rattle.sym_state.proofs.Composed.{turned_follows}
use Rattle.sym_values.specs.Valuing.{Reckoned, Gives}
use Rattle.sym_values.specs.Storing.{stored_cost, stored_in}

dead_store : (k : Key) (z : ℤ) (a : Stand) → a.live ≡ false → stored a.live k z a ≡ a
dead_store k z a h = λ i. record a { cells = cond (h i) (put k z a.cells) a.cells }

pub store_gives : {i : ℕ} (p : Program) (W : Mode) (s one n : Sym) (k : Key) (from to own : IntType) (value bits : List Bit) → to ≡ own
    → Reckoned p i s one to bits (λ v. fit p.model to (typed p.model from v s.net value)) → i ≡ conversion_cost p.model from to
    → Turned p (4 * width_of p.model own) 0 one n (λ v. stored (holds v one.net one.live) k (typed p.model own v one.net bits))
    → Gives p W (stored_cost p.model from to) 0 s n (Some to) bits (stored_in p W k from to value s)
store_gives {i} p W s one n k from to own value bits e r c x =
    let z : (ℕ → Bool) → ℤ = λ v. fit p.model to (typed p.model from v s.net value) in
    let f : (ℕ → Bool) → Stand → Stand = λ v a. stored a.live k (z v) a in
    let whole : Turned p (stored_cost p.model from to) 0 s n f = record {
      fits = x.fits;
      added = added_then (stored_cost p.model from to) 0 r.turned.added x.added (omega (arith, c, ap (λ t. 4 * width_of p.model t) e)) (omega arith);
      level = x.level ∙ r.turned.level;
      result = x.result ∙ r.turned.result;
      is = λ v. x.is v ∙ ap₂ (λ a w. stored a.live k w a) (r.turned.is v) (ap (λ t. typed p.model t v one.net bits) (sym e) ∙ r.is v);
    } in
    record {
      bits_in = are_typed_added x.added r.bits_in;
      follows = turned_follows p W.duties f whole (λ v. refl) (λ v d. dead_store k (z v) (stand p v s) d)
          (λ v here rest.
          let a = stand p v s in (
            record { live = here.live; broken = here.broken; again = here.again; gave = here.gave; failing = here.failing },
            (λ i. record { cells = cond (sym here.live i) (put k (z v) a.cells) a.cells; values = rest; draws = a.draws; completed = a.completed }),
            sym (typed_added x.added p.model to v bits r.bits_in ∙ r.is v),
          ));
    }
