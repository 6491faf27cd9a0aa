-- Invariants bound behind others.
use Rattle.std.proofs.Common.{◌≡◌, sym, ap, ◌∙◌, subst, ℕ, ◌+◌, ◌<◌, true, IsTrue, IsErrAnd, List, [], ◌∷◌, ◌++◌, length, take, drop, get_or, Result, Ok, Err, arith}
use Rattle.std.proofs.lemmas.List.{append_assoc, append-nil, length-append, length-map, map-append}
use Rattle.std.proofs.lemmas.Grind.{flat_map-append}
use Rattle.std.specs.List.{list_any}
use Rattle.c_core.specs.Parts.{same_spot}
use Rattle.c_core.specs.Places.{spots_of_kind}
use Rattle.c_core.specs.Tree.{Program}
use Rattle.c_core.specs.declared.number.Spot.{Spot}
use Rattle.c_meaning.specs.declared.run.PlacedInvariant.{PlacedInvariant}
use Rattle.c_meaning.specs.Placing.{placed, placed_view}
use Rattle.wv_schema.specs.declared.witness.InvariantKind.{InvariantKind}
use Rattle.wv_schema.specs.declared.witness.InvariantKind.TheVariants.{Loop, Location}
use Rattle.wv_schema.specs.declared.witness.Invariant.{Invariant}
use Rattle.wv_schema.specs.declared.witness.Entry.{Entry}
use Rattle.way_names.specs.Visible.{is_scoped}
use Rattle.way_bind.specs.declared.fault.Unbound.{Unbound}
use Rattle.way_bind.specs.declared.fault.BindFault.{BindFault}
use Rattle.way_bind.specs.InOrder.{TellsLeast, told}
use Rattle.way_bind.proofs.InOrderLaws.{next_taken, whole_split, each_both, each_length, told_here, told_among}
use Rattle.way_invariants.specs.Invariants.{BindsInvariant, invariants_among, place_of, set_of}
use Rattle.way_invariants.specs.Steps.{BindsNext}

-- a place of an invariant has a scope
pub scoped : (p : Program) (kind : InvariantKind) (s : Spot) → list_any (same_spot s) (spots_of_kind (place_of kind) p) ≡ true → IsTrue (is_scoped p (place_of kind) s)
scoped p Loop s h = h
scoped p Location s h = h

-- ---- one behind another

grown : (p : Program) (vs : List Invariant) (old new : List PlacedInvariant) → BindsNext p vs old new (Ok tt) → length new ≡ length old + length vs
grown p vs old new h =
    let views : length (placed_view new) ≡ length (placed_view old) + length h.0 = ap length h.1 ∙ length-append (placed_view old) h.0 in
    let bound : length vs ≡ length h.0 = each_length (λ v x. BindsInvariant p v (Ok x)) vs h.0 h.2 in
    omega (arith, views, bound, length-map new placed, length-map old placed)

-- none are bound yet
pub none_yet : (p : Program) (old : List PlacedInvariant) → BindsNext p [] old old (Ok tt)
none_yet p old = ([], sym (append-nil (placed_view old)), tt)

joined : (p : Program) (us vs : List Invariant) (old mid new : List PlacedInvariant) → BindsNext p us old mid (Ok tt) → BindsNext p vs mid new (Ok tt) → BindsNext p (us ++ vs) old new (Ok tt)
joined p us vs old mid new h k =
    (h.0 ++ k.0, k.1 ∙ ap (λ l. l ++ k.0) h.1 ∙ append_assoc (placed_view old) h.0 k.0, each_both (λ v x. BindsInvariant p v (Ok x)) us vs h.0 k.0 h.2 k.2)

told_behind : (p : Program) (us vs ws : List Invariant) (old mid : List PlacedInvariant) (f : BindFault) → BindsNext p us old mid (Ok tt) → TellsLeast (BindsInvariant p) (length mid + 1) vs f → TellsLeast (BindsInvariant p) (length old + 1) (us ++ (vs ++ ws)) f
told_behind p us vs ws old mid f h k =
    let count : length mid + 1 ≡ length old + 1 + length us = omega (arith, grown p us old mid h) in
    told_among (BindsInvariant p) (length old + 1) us h.0 vs ws f h.2 (subst (λ n. TellsLeast (BindsInvariant p) n vs f) count k)

answered : (p : Program) (vs : List Invariant) (old new : List PlacedInvariant) (f : BindFault) (r : Result (Unit {0}) BindFault) → IsErrAnd r (λ g. g ≡ f) → TellsLeast (BindsInvariant p) (length old + 1) vs f → BindsNext p vs old new r
answered p vs old new f (Ok done) from h = elim from [ ]
answered p vs old new f (Err g) from h = subst (λ g. TellsLeast (BindsInvariant p) (length old + 1) vs g) (sym from) h

-- ---- one invariant

pub one_bound : (p : Program) (v : Invariant) (old new : List PlacedInvariant) (x : PlacedInvariant) → new ≡ old ++ x ∷ [] → BindsInvariant p v (Ok (placed x)) → BindsNext p (v ∷ []) old new (Ok tt)
one_bound p v old new x same h = (placed x ∷ [], ap placed_view same ∙ map-append placed old (x ∷ []), (h, tt))

pub one_lacking : (p : Program) (v : Invariant) (old : List PlacedInvariant) (n number : ℕ) (lack : Unbound) (f : BindFault) → n ≡ length old → number ≡ n + 1 → f ≡ told number lack → BindsInvariant p v (Err lack) → TellsLeast (BindsInvariant p) (length old + 1) (v ∷ []) f
one_lacking p v old n number lack f count next same h =
    let first : length old + 1 + 0 ≡ number = omega (arith, count, next) in
    subst (λ g. TellsLeast (BindsInvariant p) (length old + 1) (v ∷ []) g) (sym same)
    (subst (λ m. TellsLeast (BindsInvariant p) (length old + 1) (v ∷ []) (told m lack)) first
    (told_here (BindsInvariant p) (length old + 1) [] [] v [] lack tt h))

-- ---- a turn over a set

pub set_kept : (p : Program) (vs : List Invariant) (i : ℕ) (v : Invariant) (old mid new : List PlacedInvariant) → i < length vs → v ≡ get_or vs i v → BindsNext p (take i vs) old mid (Ok tt) → BindsNext p (v ∷ []) mid new (Ok tt) → BindsNext p (take (i + 1) vs) old new (Ok tt)
set_kept p vs i v old mid new lt is h k =
    subst (λ l. BindsNext p l old new (Ok tt)) (sym (next_taken vs i v lt is)) (joined p (take i vs) (v ∷ []) old mid new h k)

pub set_told : (p : Program) (vs : List Invariant) (i : ℕ) (v : Invariant) (old mid new : List PlacedInvariant) (f : BindFault) (r : Result (Unit {0}) BindFault) → i < length vs → v ≡ get_or vs i v → BindsNext p (take i vs) old mid (Ok tt) → IsErrAnd r (λ g. g ≡ f) → TellsLeast (BindsInvariant p) (length mid + 1) (v ∷ []) f → BindsNext p vs old new r
set_told p vs i v old mid new f r lt is h from k =
    answered p vs old new f r from
    (subst (λ l. TellsLeast (BindsInvariant p) (length old + 1) l f) (sym (whole_split vs i v lt is))
    (told_behind p (take i vs) (v ∷ []) (drop (i + 1) vs) old mid f h k))

-- ---- a turn over the entries

sets_next : (es : List Entry) (i : ℕ) (e : Entry) → i < length es → e ≡ get_or es i e → invariants_among (take (i + 1) es) ≡ invariants_among (take i es) ++ set_of e
sets_next es i e lt is =
    ap invariants_among (next_taken es i e lt is) ∙ flat_map-append set_of (take i es) (e ∷ []) ∙ ap (λ l. invariants_among (take i es) ++ l) (append-nil (set_of e))

sets_split : (es : List Entry) (i : ℕ) (e : Entry) → i < length es → e ≡ get_or es i e → invariants_among es ≡ invariants_among (take i es) ++ (set_of e ++ invariants_among (drop (i + 1) es))
sets_split es i e lt is = ap invariants_among (whole_split es i e lt is) ∙ flat_map-append set_of (take i es) (e ∷ drop (i + 1) es)

pub sets_kept : (p : Program) (es : List Entry) (i : ℕ) (e : Entry) (set : List Invariant) (old mid new : List PlacedInvariant) → i < length es → e ≡ get_or es i e → set ≡ set_of e → BindsNext p (invariants_among (take i es)) old mid (Ok tt) → BindsNext p set mid new (Ok tt) → BindsNext p (invariants_among (take (i + 1) es)) old new (Ok tt)
sets_kept p es i e set old mid new lt is same h k =
    subst (λ l. BindsNext p l old new (Ok tt)) (sym (sets_next es i e lt is))
    (joined p (invariants_among (take i es)) (set_of e) old mid new h (subst (λ l. BindsNext p l mid new (Ok tt)) same k))

pub sets_told : (p : Program) (es : List Entry) (i : ℕ) (e : Entry) (set : List Invariant) (old mid new : List PlacedInvariant) (f : BindFault) (r : Result (Unit {0}) BindFault) → i < length es → e ≡ get_or es i e → set ≡ set_of e → BindsNext p (invariants_among (take i es)) old mid (Ok tt) → IsErrAnd r (λ g. g ≡ f) → TellsLeast (BindsInvariant p) (length mid + 1) set f → BindsNext p (invariants_among es) old new r
sets_told p es i e set old mid new f r lt is same h from k =
    answered p (invariants_among es) old new f r from
    (subst (λ l. TellsLeast (BindsInvariant p) (length old + 1) l f) (sym (sets_split es i e lt is))
    (told_behind p (invariants_among (take i es)) (set_of e) (invariants_among (drop (i + 1) es)) old mid f h (subst (λ l. TellsLeast (BindsInvariant p) (length mid + 1) l f) same k)))
