-- A cell is read: it is live, or there is no value. What it holds is a number of its type.
use Rattle.std.proofs.Common.{◌≡◌, ℕ, zero, suc, ◌^◌, ◌<◌, Bool, true, false, cond, ◌||◌, ℤ, pos, List, [], ◌∷◌, map, refl, sym, ◌∙◌, ap, subst, arith, Some, None, is_some}
use Rattle.std.proofs.Math.Nat.{mod-eq_of_lt}
use Rattle.std.proofs.lemmas.Bool.{lt-ltb}
use Rattle.c_core.specs.Tree.{Program}
use Rattle.c_core.specs.Types.{width_of, is_signed, fits_signed, fits_unsigned, residue, wrapped, signed_of, fit}
use Rattle.c_core.specs.declared.number.DataModel.{DataModel}
use Rattle.c_core.specs.declared.number.DataModel.TheVariants.{Ilp32, Lp64}
use Rattle.c_core.specs.declared.number.IntType.{IntType}
use Rattle.c_core.specs.declared.number.IntType.TheVariants.{Long, ULong}
use Rattle.c_core.proofs.Fits.{fit_kept, wrapped_signed_fits}
use Rattle.c_meaning.specs.Cells.{Cell, read, live}
use Rattle.c_meaning.specs.Objects.{type_of_object}
use Rattle.c_meaning.specs.Value.{and_then, seen_at}
use Rattle.circuits.specs.declared.net.Bit.{Bit}
use Rattle.circuits.specs.declared.net.NetNode.{NetNode}
use Rattle.circuits.specs.Net.{Means}
use Rattle.circuits.specs.Numbers.{number, read as read_number, typed, AreTyped, Reads}
use Rattle.circuits.proofs.Counting.{number_lt}
use Rattle.sym_state.specs.declared.state.Sym.{Sym}
use Rattle.sym_state.specs.declared.state.SymCell.{SymCell}
use Rattle.sym_state.specs.Places.{key, is_of, live_in, IsInnermost}
use Rattle.sym_state.specs.Standing.{stand, key_of}
use Rattle.sym_invariants.specs.Valued.{IsSeen}
use Rattle.sym_invariants.proofs.Seeing.{seen_as}

-- ---- numbers of a type are in its range

pub some_bits : (m : DataModel) (ty : IntType) → 0 < width_of m ty
some_bits Ilp32 Long = omega arith
some_bits Lp64 Long = omega arith
some_bits Ilp32 ULong = omega arith
some_bits Lp64 ULong = omega arith
some_bits m _ = omega arith

read_wrapped : (w : ℕ) (s : Bool) (n : ℕ) → n < 2 ^ w → read_number w s n ≡ wrapped w s (pos n)
unfolding wrapped residue
read_wrapped w true n h = ap (signed_of w) (sym (mod-eq_of_lt h))
read_wrapped w false n h = ap pos (sym (mod-eq_of_lt h))

read_fits : (w : ℕ) (s : Bool) (n : ℕ) → 0 < w → n < 2 ^ w → cond s (fits_signed w (read_number w s n)) (fits_unsigned w (read_number w s n)) ≡ true
read_fits w true n p h = ap (fits_signed w) (read_wrapped w true n h) ∙ wrapped_signed_fits w (pos n) p
read_fits w false n p h = lt-ltb n (2 ^ w) h

pub typed_kept : (m : DataModel) (ty : IntType) (v : ℕ → Bool) (net : List NetNode) (bits : List Bit) → AreTyped m ty net bits → fit m ty (typed m ty v net bits) ≡ typed m ty v net bits
typed_kept m ty v net bits h =
    let below : number v net bits < 2 ^ width_of m ty = subst (λ (k : ℕ). number v net bits < 2 ^ k) h.wide (number_lt v net bits) in
    fit_kept m ty (typed m ty v net bits) (read_fits (width_of m ty) (is_signed ty) (number v net bits) (some_bits m ty) below)

-- ---- is a cell live?

or_true : (b : Bool) → (b || true) ≡ true
or_true true = refl
or_true false = refl

module _ (val : SymCell → ℤ) (o i : ℕ) where
  abbrev made : SymCell → Cell
  made c = record { key = key_of c; value = val c }

  live_map : (cs : List SymCell) → live (key o i) (map made cs) ≡ live_in o i cs
  live_map [] = refl
  live_map (c ∷ cs) = ap (λ x. is_of o i c || x) (live_map cs)

  behind : {c : SymCell} {cs : List SymCell} {n : ℕ} → IsInnermost o i (c ∷ cs) (suc n) → IsInnermost o i cs n
  behind h = record { within = omega (arith, h.within); is = h.is; none = h.none }

  live_at : (cs : List SymCell) (n : ℕ) → IsInnermost o i cs n → live_in o i cs ≡ true
  live_at [] n h = absurd (omega (arith, h.within))
  live_at (c ∷ cs) zero h = ap (λ x. x || live_in o i cs) (h.is c)
  live_at (c ∷ cs) (suc n) h = ap (λ x. is_of o i c || x) (live_at cs n (behind h)) ∙ or_true (is_of o i c)

pub innermost_live : (o i n : ℕ) (cs : List SymCell) → IsInnermost o i cs n → live_in o i cs ≡ true
innermost_live o i n cs h = live_at (λ c. pos 0) o i cs n h

module _ (p : Program) (s : Sym) (o i : ℕ) where
  pub same_live : (v : ℕ → Bool) → live (key o i) (stand p v s).cells ≡ live_in o i s.cells.items
  same_live v = let val : SymCell → ℤ = λ x. typed p.model (type_of_object p x.object) v s.net x.bits.bits in live_map val o i s.cells.items

  pub cell_live : (n : ℕ) → IsInnermost o i s.cells.items n → (v : ℕ → Bool) → live (key o i) (stand p v s).cells ≡ true
  cell_live n h v = let val : SymCell → ℤ = λ x. typed p.model (type_of_object p x.object) v s.net x.bits.bits in live_map val o i s.cells.items ∙ live_at val o i s.cells.items n h

  pub cell_dead : live_in o i s.cells.items ≡ false → (v : ℕ → Bool) → live (key o i) (stand p v s).cells ≡ false
  cell_dead h v = let val : SymCell → ℤ = λ x. typed p.model (type_of_object p x.object) v s.net x.bits.bits in live_map val o i s.cells.items ∙ h

  -- what is read of a live cell
  pub seen_live : (cs : List Cell) → live (key o i) cs ≡ true → Some (fit p.model (type_of_object p o) (read (key o i) cs)) ≡ seen_at p (key o i) cs
  seen_live cs h = ap (λ b. and_then (cond b (Some (read (key o i) cs)) None) (λ z. Some (fit p.model (type_of_object p o) z))) (sym h)

  pub seen_dead : (cs : List Cell) → live (key o i) cs ≡ false → None ≡ seen_at p (key o i) cs
  seen_dead cs h = ap (λ b. and_then (cond b (Some (read (key o i) cs)) None) (λ z. Some (fit p.model (type_of_object p o) z))) (sym h)

  pub there_is_live : (cs : List Cell) → is_some (seen_at p (key o i) cs) ≡ live (key o i) cs
  there_is_live cs = by_case (live (key o i) cs)
    where
      by_case : (b : Bool) → is_some (and_then (cond b (Some (read (key o i) cs)) None) (λ z. Some (fit p.model (type_of_object p o) z))) ≡ b
      by_case true = refl
      by_case false = refl

  -- it is of the type already
  pub read_kept : (ty : IntType) (bits : List Bit) → ty ≡ type_of_object p o → Reads p.model ty s.net bits (λ v. read (key o i) (stand p v s).cells) → (v : ℕ → Bool)
      → typed p.model ty v s.net bits ≡ fit p.model (type_of_object p o) (read (key o i) (stand p v s).cells)
  read_kept ty bits e r v = sym (typed_kept p.model ty v s.net bits r.bits_in) ∙ ap (fit p.model ty) (r.is v) ∙ ap (λ t. fit p.model t (read (key o i) (stand p v s).cells)) e

  pub live_seen : (n : ℕ) (ty : IntType) (bits : List Bit) (d : Bit) → IsInnermost o i s.cells.items n → ty ≡ type_of_object p o → Reads p.model ty s.net bits (λ v. read (key o i) (stand p v s).cells) → Means s.net d (λ v. true)
      → IsSeen p.model (Some ty) s.net bits d (λ v. seen_at p (key o i) (stand p v s).cells)
  live_seen n ty bits d h e r y = seen_as p.model (λ v. seen_at p (key o i) (stand p v s).cells)
      (record { bits_in = r.bits_in; defined = y; is = λ v. sym (read_kept ty bits e r v) })
      (λ v. seen_live (stand p v s).cells (cell_live n h v))

  pub dead_seen : (ty : IntType) (bits : List Bit) (d : Bit) → live_in o i s.cells.items ≡ false → IsSeen p.model (Some ty) s.net bits d (λ v. None) → IsSeen p.model (Some ty) s.net bits d (λ v. seen_at p (key o i) (stand p v s).cells)
  dead_seen ty bits d h x = seen_as p.model (λ v. seen_at p (key o i) (stand p v s).cells) x (λ v. seen_dead (stand p v s).cells (cell_dead h v))
