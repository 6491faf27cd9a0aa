-- Truth values, lengths of cells, and runs that are here or over by another name.
use Rattle.std.proofs.Common.{◌≡◌, ℕ, Bool, true, false, ◌&&◌, ◌||◌, List, length, refl, sym, ◌∙◌, ap, ◌≤◌, take, arith}
use Rattle.std.proofs.lemmas.List.{length-map, length-take-le}
use Rattle.c_core.specs.Tree.{Program}
use Rattle.c_meaning.specs.declared.run.Duty.{Duty}
use Rattle.c_meaning.specs.Havoc.{Stopped}
use Rattle.sym_state.specs.declared.state.Sym.{Sym}
use Rattle.sym_state.specs.Standing.{Stand, stand, cell_at, IsHere, IsOver}
use Rattle.sym_flow.specs.Ways.{Became}

pub and_no : (b : Bool) → (b && false) ≡ false
and_no true = refl
and_no false = refl

pub and_yes : (b : Bool) → (b && true) ≡ b
and_yes true = refl
and_yes false = refl

pub or_no : (b : Bool) → (b || false) ≡ b
or_no true = refl
or_no false = refl

pub or_yes : (b : Bool) → (b || true) ≡ true
or_yes true = refl
or_yes false = refl

-- how many cells a run has
pub count_cells : (p : Program) (v : ℕ → Bool) (s : Sym) → length (stand p v s).cells ≡ length s.cells.items
count_cells p v s = length-map s.cells.items (cell_at p v s.net)

pub became_count : {i : ℕ} {a b : Sym} (p : Program) (f : (ℕ → Bool) → Stand → Stand) → Became p i a b f → (v : ℕ → Bool) → length b.cells.items ≡ length (f v (stand p v a)).cells
became_count {b = b} p f x v = sym (count_cells p v b) ∙ ap (λ s. length s.cells) (x.is v)

-- a call that lets the cells be, and one that leaves those in front
pub same_level : {i : ℕ} {a b : Sym} (p : Program) (f : (ℕ → Bool) → Stand → Stand) → Became p i a b f → ((v : ℕ → Bool) (s : Stand) → (f v s).cells ≡ s.cells) → length b.cells.items ≡ length a.cells.items
same_level {a = a} {b = b} p f x e = let v : ℕ → Bool = λ k. false in became_count {a = a} {b = b} p f x v ∙ ap length (e v (stand p v a)) ∙ count_cells p v a

pub front_level : {i : ℕ} {b c : Sym} (p : Program) (n : ℕ) (f : (ℕ → Bool) → Stand → Stand) → Became p i b c f → ((v : ℕ → Bool) (s : Stand) → (f v s).cells ≡ take n s.cells) → n ≤ length b.cells.items → length c.cells.items ≡ n
front_level {b = b} {c = c} p n f x e h =
    let v : ℕ → Bool = λ k. false in
    became_count {a = b} {b = c} p f x v ∙ ap length (e v (stand p v b)) ∙ length-take-le n (stand p v b).cells (omega (arith, h, count_cells p v b))

pub here_as : {n : ℕ} {a b : Stand} → IsHere n a → b.live ≡ true → b.broken ≡ a.broken → b.again ≡ a.again → b.gave ≡ a.gave → b.failing ≡ a.failing → IsHere n b
here_as h l x y z f = record { live = l; broken = x ∙ h.broken; again = y ∙ h.again; gave = z ∙ h.gave; failing = f ∙ h.failing }

pub over_as : {ds : List Duty} {e : Stopped} {a b : Stand} → IsOver ds e a → b.live ≡ false → b.broken ≡ false → b.again ≡ false → b.gave ≡ false → b.failing ≡ a.failing → IsOver ds e b
over_as h l x y z f = record { live = l; broken = x; again = y; gave = z; failing = f ∙ h.failing }
