-- A cell is read, and is written where a run is here.
use Rattle.std.proofs.Common.{◌≡◌, ℕ, zero, suc, ◌*◌, ◌<◌, Bool, true, false, cond, ◌&&◌, nat_eq, eqb-true, ℤ, pos, List, [], ◌∷◌, length, map, get_or, set, refl, sym, ◌∙◌, ap, subst, arith, true≢false, length-set}
use Rattle.std.specs.Vec.{with_item}
use Rattle.std.proofs.lemmas.List.{map-set}
use Rattle.std.proofs.lemmas.List.Elements.{All-set, All-get_or}
use Rattle.c_core.specs.Tree.{Program}
use Rattle.c_core.specs.Types.{width_of, is_signed}
use Rattle.c_core.specs.declared.number.DataModel.{DataModel}
use Rattle.c_core.specs.declared.number.IntType.{IntType}
use Rattle.c_meaning.specs.Cells.{Cell, read, put}
use Rattle.c_meaning.specs.Objects.{type_of_object}
use Rattle.circuits.specs.declared.net.Bit.{Bit}
use Rattle.circuits.specs.declared.net.NetNode.{NetNode}
use Rattle.circuits.specs.declared.bits.Bits.{Bits}
use Rattle.circuits.specs.Net.{holds, Grown}
use Rattle.circuits.specs.Numbers.{number, read as read_number, typed, AreTyped, Counts, Reads}
use Rattle.sym_state.specs.declared.state.Sym.{Sym}
use Rattle.sym_state.specs.declared.state.SymCell.{SymCell}
use Rattle.sym_state.specs.Standing.{stand, cell_at, key_of, IsCell, IsState, Turned, stored}
use Rattle.sym_state.specs.Places.{key, is_of, live_in, IsInnermost}
use Rattle.sym_state.proofs.Nets.{added_of, unchanged, state_grown, stand_grown}
use Rattle.sym_state.proofs.Innermost.{read_found, read_none, put_found, put_none}

pub first_of_both : (a b : Bool) → (a && b) ≡ true → a ≡ true
first_of_both true b h = refl
first_of_both false b h = absurd (true≢false (sym h))

object_is : (o i : ℕ) (c : SymCell) → is_of o i c ≡ true → c.object ≡ o
object_is o i c h = eqb-true c.object o (first_of_both (nat_eq c.object o) (nat_eq c.index i) h)

module _ (p : Program) (s : Sym) (o i n : ℕ) (c : SymCell) (h : IsState p s) (at : IsInnermost o i s.cells.items n) (e : c ≡ get_or s.cells.items n c) where
  object : c.object ≡ o
  object = object_is o i c (ap (is_of o i) e ∙ at.is c)

  own_cell : IsCell p s.net c
  own_cell = rw e (All-get_or (IsCell p s.net) s.cells.items n c at.within h.cells)

  pub look_found : (ty : IntType) (bits : List Bit) → ty ≡ type_of_object p o → bits ≡ c.bits.bits → Reads p.model ty s.net bits (λ v. read (key o i) (stand p v s).cells)
  look_found ty bits et eb =
      let same : type_of_object p c.object ≡ ty = ap (type_of_object p) object ∙ sym et in
      let typed_in : AreTyped p.model ty s.net c.bits.bits = subst (λ t. AreTyped p.model t s.net c.bits.bits) same own_cell in
      record {
        bits_in = rw eb typed_in;
        is = λ v.
            ap (typed p.model ty v s.net) eb ∙ ap (λ t. typed p.model t v s.net c.bits.bits) (sym same)
            ∙ ap (λ x. typed p.model (type_of_object p x.object) v s.net x.bits.bits) e
            ∙ sym (read_found (λ x. typed p.model (type_of_object p x.object) v s.net x.bits.bits) o i s.cells.items n c at);
      }

  set_self : (f : SymCell → Cell) (cs : List SymCell) (k : ℕ) → c ≡ get_or cs k c → set (map f cs) k (f c) ≡ map f cs
  set_self f [] k q = refl
  set_self f (x ∷ xs) zero q = ap (λ z. f z ∷ map f xs) q
  set_self f (x ∷ xs) (suc k) q = ap (λ z. f x ∷ z) (set_self f xs k q)

  chosen_cell : (val : SymCell → ℤ) (z : ℤ) (b : Bool) → set (map (λ x. record { key = key_of x; value = val x }) s.cells.items) n (record { key = key_of c; value = cond b z (val c) })
      ≡ cond b (put (key o i) z (map (λ x. record { key = key_of x; value = val x }) s.cells.items)) (map (λ x. record { key = key_of x; value = val x }) s.cells.items)
  chosen_cell val z true =
      ap (λ x. set (map (λ x. record { key = key_of x; value = val x }) s.cells.items) n (record { key = key_of x; value = z })) e ∙ sym (put_found val o i z s.cells.items n c at)
  chosen_cell val z false = set_self (λ x. record { key = key_of x; value = val x }) s.cells.items n e

  either_typed : (m : DataModel) (ty : IntType) (b : Bool) (x y : ℕ) → read_number (width_of m ty) (is_signed ty) (cond b x y) ≡ cond b (read_number (width_of m ty) (is_signed ty) x) (read_number (width_of m ty) (is_signed ty) y)
  either_typed m ty true x y = refl
  either_typed m ty false x y = refl

  pub write_turned : (net : List NetNode) (here : Bit) (value : List Bit) (chosen : Bits) → AreTyped p.model (type_of_object p o) s.net value → Grown (4 * length value) s.net net
      → Counts net chosen.bits (length value) (λ v. cond (holds v s.net here) (number v s.net value) (number v s.net c.bits.bits))
      → Turned p (4 * width_of p.model (type_of_object p o)) 0 s (record s { net = net; cells = with_item s.cells n (record { object = c.object; index = c.index; bits = chosen }) })
      (λ v. stored (holds v s.net here) (key o i) (typed p.model (type_of_object p o) v s.net value))
  write_turned net here value chosen iv g m =
      let ty = type_of_object p o in
      let w = state_grown p g h in
      let now : SymCell = record { object = c.object; index = c.index; bits = chosen } in
      let now_in : IsCell p net now = rw object (record { inside = m.inside; wide = m.wide ∙ iv.wide }) in
      record {
        fits = record { live = w.live; broken = w.broken; again = w.again; gave = w.gave; given = w.given; failing = w.failing; completed = w.completed; cells = All-set (IsCell p net) s.cells.items n now now_in w.cells; sites = w.sites };
        added = added_of (subst (λ k. Grown (4 * k) s.net net) iv.wide g);
        level = length-set s.cells.items n now;
        result = refl;
        is = λ v.
            let q = stand_grown p v g h in
            let val : SymCell → ℤ = λ x. typed p.model (type_of_object p x.object) v s.net x.bits.bits in
            let z = typed p.model ty v s.net value in
            let number_is : typed p.model (type_of_object p c.object) v net chosen.bits ≡ cond (holds v s.net here) z (val c) =
            ap (read_number (width_of p.model (type_of_object p c.object)) (is_signed (type_of_object p c.object))) (m.is v) ∙ either_typed p.model (type_of_object p c.object) (holds v s.net here) (number v s.net value) (number v s.net c.bits.bits)
            ∙ ap (λ x. cond (holds v s.net here) (typed p.model (type_of_object p x) v s.net value) (val c)) object in
            let e : map (cell_at p v net) (set s.cells.items n now) ≡ cond (holds v s.net here) (put (key o i) z (map (cell_at p v s.net) s.cells.items)) (map (cell_at p v s.net) s.cells.items) =
            map-set (cell_at p v net) s.cells.items n now ∙ ap (λ l. set l n (cell_at p v net now)) (ap (λ z. z.cells) q)
            ∙ ap (λ x. set (map (cell_at p v s.net) s.cells.items) n (record { key = key_of c; value = x })) number_is ∙ chosen_cell val z (holds v s.net here) in
            λ i. record (q i) { cells = e i };
      }

-- one item, read twice
pub same_item : {A : Type 0} (xs : List A) (n : ℕ) (x y : A) → x ≡ get_or xs n x → y ≡ get_or xs n y → n < length xs → x ≡ y
same_item [] n x y e f h = absurd (omega (arith, h))
same_item (z ∷ zs) zero x y e f h = e ∙ sym f
same_item (z ∷ zs) (suc n) x y e f h = same_item zs n x y e f (omega (arith, h))

pub look_none : (p : Program) (s : Sym) (o i : ℕ) (ty : IntType) (bits : List Bit) → live_in o i s.cells.items ≡ false → Reads p.model ty s.net bits (λ v. pos 0)
    → Reads p.model ty s.net bits (λ v. read (key o i) (stand p v s).cells)
look_none p s o i ty bits none r = record {
  bits_in = r.bits_in;
  is = λ v. r.is v ∙ sym (read_none (λ x. typed p.model (type_of_object p x.object) v s.net x.bits.bits) o i s.cells.items none);
}

same_either : {A : Type 0} (b : Bool) (x y : A) → y ≡ x → x ≡ cond b y x
same_either true x y e = sym e
same_either false x y e = refl

pub write_none : (p : Program) (s : Sym) (o i k : ℕ) (here : Bit) (value : List Bit) → IsState p s → live_in o i s.cells.items ≡ false
    → Turned p k 0 s s (λ v. stored (holds v s.net here) (key o i) (typed p.model (type_of_object p o) v s.net value))
write_none p s o i k here value h none = record {
  fits = h;
  added = unchanged k s.net;
  level = refl;
  result = refl;
  is = λ v.
      let val : SymCell → ℤ = λ x. typed p.model (type_of_object p x.object) v s.net x.bits.bits in
      let cs = map (cell_at p v s.net) s.cells.items in
      let z = typed p.model (type_of_object p o) v s.net value in
      let e : cs ≡ cond (holds v s.net here) (put (key o i) z cs) cs = same_either (holds v s.net here) cs (put (key o i) z cs) (put_none val o i z s.cells.items none) in
      λ i. record (stand p v s) { cells = e i };
}
