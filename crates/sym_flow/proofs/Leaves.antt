-- `break`, `continue` and `return`.
use Rattle.std.proofs.Common.{◌≡◌, ℕ, ◌≤◌, Bool, true, false, cond, ◌||◌, ℤ, List, [], ◌++◌, length, refl, sym, ◌∙◌, ap, ap₂, arith, append-nil, Option, Some, None, subst}
use Rattle.c_core.specs.Tree.{Program}
use Rattle.c_core.specs.declared.number.IntType.{IntType}
use Rattle.c_meaning.specs.declared.run.Duty.{Duty}
use Rattle.c_meaning.specs.Acts.{Go, Broken, Again, Gave}
use Rattle.sym_state.specs.declared.state.Sym.{Sym}
use Rattle.sym_state.specs.Standing.{Stand, stand, Kept}
use Rattle.sym_flow.specs.Leaving.{IsGiven, Runs}
use Rattle.sym_flow.specs.Ways.{Became, leaving, going_again, going_back, giving}
use Rattle.sym_flow.proofs.Bools.{or_no, count_cells, same_level}
use Rattle.sym_flow.proofs.Statements.{became_runs}

no_cells : (s : Stand) → s.cells ≡ s.cells ++ []
no_cells s = sym (append-nil s.cells)

leaving_dead : (s : Stand) → s.live ≡ false → Kept s (leaving s)
leaving_dead s d = record { live = sym d; broken = ap (λ l. s.broken || l) d ∙ or_no s.broken; again = refl; gave = refl; given = refl; failing = refl; completed = refl; draws = refl; junk = []; cells = no_cells s }

again_dead : (s : Stand) → s.live ≡ false → Kept s (going_again s)
again_dead s d = record { live = sym d; broken = refl; again = ap (λ l. s.again || l) d ∙ or_no s.again; gave = refl; given = refl; failing = refl; completed = refl; draws = refl; junk = []; cells = no_cells s }

back_dead : (s : Stand) → s.live ≡ false → Kept s (going_back s)
back_dead s d = record { live = sym d; broken = refl; again = refl; gave = ap (λ l. s.gave || l) d ∙ or_no s.gave; given = refl; failing = refl; completed = refl; draws = refl; junk = []; cells = no_cells s }

giving_dead : (z : ℤ) (s : Stand) → s.live ≡ false → Kept s (giving z s)
giving_dead z s d = record { live = sym d; broken = refl; again = refl; gave = ap (λ l. s.gave || l) d ∙ or_no s.gave; given = ap (λ l. cond l z s.given) d; failing = refl; completed = refl; draws = refl; junk = []; cells = no_cells s }

given_some : (ty : IntType) (z : ℤ) (s : Stand) → s.live ≡ true → IsGiven (Some ty) (giving z s) (Some z)
given_some ty z s h = sym (ap (λ l. cond l z s.given) h)

given_none : (result : Option IntType) (s : Stand) → result ≡ None → IsGiven result s None
given_none None s h = tt
given_none (Some ty) s h = cc

few : (p : Program) (a : Sym) (v : ℕ → Bool) → length a.cells.items ≤ length (stand p v a).cells
few p a v = omega (arith, count_cells p v a)

level : {i : ℕ} {a b : Sym} (p : Program) (f : (ℕ → Bool) → Stand → Stand) → Became p i a b f → ((v : ℕ → Bool) (s : Stand) → (f v s).cells ≡ s.cells) → length a.cells.items ≤ length b.cells.items
level {a = a} {b = b} p f x e = omega (arith, same_level {a = a} {b = b} p f x e)

module _ (p : Program) (ds : List Duty) (result : Option IntType) where
  pub leave_runs : {i : ℕ} {a b : Sym} → Became p i a b (λ v. leaving) → Runs ds p result i 0 a b (λ v s. Go Broken s)
  leave_runs {a = a} x = became_runs p ds result (λ v. leaving) x (level p (λ v. leaving) x (λ v s. refl)) (λ v. refl) (λ v. leaving_dead (stand p v a))
      (λ v here rest. let s = stand p v a in record { live = refl; broken = ap₂ (λ x y. x || y) here.broken here.live; again = here.again; gave = here.gave; failing = here.failing; completed = refl; values = refl; draws = refl; least = few p a v; junk = []; cells = no_cells s })

  pub again_runs : {i : ℕ} {a b : Sym} → Became p i a b (λ v. going_again) → Runs ds p result i 0 a b (λ v s. Go Again s)
  again_runs {a = a} x = became_runs p ds result (λ v. going_again) x (level p (λ v. going_again) x (λ v s. refl)) (λ v. refl) (λ v. again_dead (stand p v a))
      (λ v here rest. let s = stand p v a in record { live = refl; broken = here.broken; again = ap₂ (λ x y. x || y) here.again here.live; gave = here.gave; failing = here.failing; completed = refl; values = refl; draws = refl; least = few p a v; junk = []; cells = no_cells s })

  -- in a function without a result
  pub back_runs : {i : ℕ} {a b : Sym} → Became p i a b (λ v. going_back) → result ≡ None → Runs ds p result i 0 a b (λ v s. Go (Gave None) s)
  back_runs {a = a} x e = became_runs p ds result (λ v. going_back) x (level p (λ v. going_back) x (λ v s. refl)) (λ v. refl) (λ v. back_dead (stand p v a))
      (λ v here rest. let s = stand p v a in (record { live = refl; broken = here.broken; again = here.again; gave = ap₂ (λ x y. x || y) here.gave here.live; failing = here.failing; completed = refl; values = refl; draws = refl; least = few p a v; junk = []; cells = no_cells s }, given_none result (going_back s) e))

  pub give_runs : {i : ℕ} {a b : Sym} (ty : IntType) (z : (ℕ → Bool) → ℤ) → result ≡ Some ty → Became p i a b (λ v. giving (z v)) → Runs ds p result i 0 a b (λ v s. Go (Gave (Some (z v))) s)
  give_runs {a = a} ty z r x = became_runs p ds result (λ v. giving (z v)) x (level p (λ v. giving (z v)) x (λ v s. refl)) (λ v. refl) (λ v. giving_dead (z v) (stand p v a))
      (λ v here rest. let s = stand p v a in (record { live = refl; broken = here.broken; again = here.again; gave = ap₂ (λ x y. x || y) here.gave here.live; failing = here.failing; completed = refl; values = refl; draws = refl; least = few p a v; junk = []; cells = no_cells s }, subst (λ q. IsGiven q (giving (z v) s) (Some (z v))) (sym r) (given_some ty (z v) s here.live)))
