-- A call of a function: its body in a scope of its own, and the value that it gave, if it gave one.
use Rattle.std.proofs.Common.{◌≡◌, ℕ, ◌+◌, ◌≤◌, Bool, true, false, not, ◌&&◌, ◌||◌, ℤ, pos, List, [], ◌++◌, length, take, refl, sym, ◌∙◌, ap, ap₂, subst, arith, true≢false, Option, Some, None}
use Rattle.std.proofs.lemmas.List.{length-take-le}
use Rattle.c_core.specs.Tree.{Program}
use Rattle.c_core.specs.declared.number.IntType.{IntType}
use Rattle.c_meaning.specs.declared.run.Duty.{Duty}
use Rattle.c_meaning.specs.Acts.{Res, Go, Stop, Flow, Next, Broken, Again, Gave, bind, cut, scoped, given}
use Rattle.c_meaning.specs.Havoc.{Stopped}
use Rattle.c_meaning.specs.declared.run.Event.TheVariants.{Return}
use Rattle.sym_meaning.specs.Mode.{JudgedState, cells_judged, with_cells_judged, Mode}
use Rattle.sym_meaning.specs.Judged.{tell, returned}
use Rattle.c_meaning.specs.Meaning.{Site}
use Rattle.circuits.specs.declared.net.Bit.{Bit}
use Rattle.circuits.specs.declared.net.NetNode.{NetNode}
use Rattle.circuits.specs.declared.bits.Bits.{Bits}
use Rattle.circuits.specs.Net.{holds, opposite, Grown, Means, IsIn}
use Rattle.circuits.specs.Numbers.{typed, AreTyped, Reads}
use Rattle.circuits.proofs.Nets.{means_by, holds-opposite}
use Rattle.std.specs.declared.vec.Vec.{Vec}
use Rattle.std.specs.declared.alloc.Global.{Global}
use Rattle.sym_state.specs.declared.state.Sym.{Sym}
use Rattle.sym_state.specs.declared.state.SymCell.{SymCell}
use Rattle.sym_state.specs.Standing.{Stand, stand, IsState, Added, Kept, IsHere, Turned, stopped}
use Rattle.sym_state.specs.Telling.{telling}
use Rattle.sym_state.specs.Following.{left_of, Deed, Came, Follows}
use Rattle.sym_state.proofs.Composed.{came_as, turned_follows, follows_then, follows_as}
use Rattle.sym_state.proofs.Telling.{told_follows}
use Rattle.sym_state.proofs.Nets.{added_then, added_of, unchanged, in_added, holds_added, typed_added, are_typed_added, state_grown, stand_grown}
use Rattle.sym_flow.specs.Leaving.{IsGiven, Went, Runs}
use Rattle.sym_flow.specs.Calling.{fresh_function, behind_call, value_given, after_return, Enters, Returns, IsAround, IsAroundIn, CameBack, is_value}
use Rattle.sym_flow.specs.declared.calling.Caller.{Caller}
use Rattle.sym_flow.proofs.Becoming.{front_in, front_are}
use Rattle.sym_flow.proofs.Bools.{and_no, and_yes, count_cells, over_as}
use Rattle.sym_flow.proofs.Bodies.{cut_left, cut_here, kept_cells}

stopped_none : (a : Stand) → stopped false a ≡ a
stopped_none a = λ i. record a { live = and_yes a.live i }

none_given : (gives : Option IntType) (gave : Bool) (z : ℤ) → gave ≡ false → None ≡ value_given gives gave z
none_given None gave z h = refl
none_given (Some ty) true z h = absurd (true≢false h)
none_given (Some ty) false z h = refl

void_given : (gives : Option IntType) (c : Stand) (gave : Bool) → IsGiven gives c None → None ≡ value_given gives gave c.given
void_given None c gave w = refl
void_given (Some ty) c gave w = absurd w

some_given : (gives : Option IntType) (c : Stand) (gave : Bool) (z : ℤ) → gave ≡ true → IsGiven gives c (Some z) → Some z ≡ value_given gives gave c.given
some_given None c gave z h w = absurd w
some_given (Some ty) c true z h w = ap Some w
some_given (Some ty) c false z h w = absurd (true≢false (sym h))

module _ (p : Program) (ds : List Duty) (gives : Option IntType) where
  module _ (n : ℕ) (a c : Stand) (here : IsHere (length ds) a) (rest : List ℤ) where
    abbrev d : Stand
    d = behind_call a n c

    call_came : (r : Res Stopped JudgedState Flow) → Went ds gives n c rest r → Came ds (λ o. o ≡ value_given gives c.gave c.given) d rest (bind (cut Stopped JudgedState cells_judged with_cells_judged n r) (λ flow s. Go (given flow) s))
    call_came (Go Next s) w = (
      record { live = ap (λ l. l || (c.broken || (c.again || c.gave))) w.0.live; broken = here.broken; again = here.again; gave = here.gave; failing = w.0.failing },
      ap (cut_left n) w.1,
      none_given gives c.gave c.given w.0.gave,
    )
    call_came (Go Broken s) w = (
      record { live = ap₂ (λ x y. x || (y || (c.again || c.gave))) w.live w.broken; broken = here.broken; again = here.again; gave = here.gave; failing = w.failing },
      cut_here d w refl refl refl,
      none_given gives c.gave c.given w.gave,
    )
    call_came (Go Again s) w = (
      record { live = ap₂ (λ x y. x || y) w.live (ap₂ (λ x y. x || (y || c.gave)) w.broken w.again); broken = here.broken; again = here.again; gave = here.gave; failing = w.failing },
      cut_here d w refl refl refl,
      none_given gives c.gave c.given w.gave,
    )
    call_came (Go (Gave None) s) w = (
      record { live = ap₂ (λ x y. x || y) w.0.live (ap₂ (λ x y. x || y) w.0.broken (ap₂ (λ x y. x || y) w.0.again w.0.gave)); broken = here.broken; again = here.again; gave = here.gave; failing = w.0.failing },
      cut_here d w.0 refl refl refl,
      void_given gives c c.gave w.1,
    )
    call_came (Go (Gave (Some z)) s) w = (
      record { live = ap₂ (λ x y. x || y) w.0.live (ap₂ (λ x y. x || y) w.0.broken (ap₂ (λ x y. x || y) w.0.again w.0.gave)); broken = here.broken; again = here.again; gave = here.gave; failing = w.0.failing },
      cut_here d w.0 refl refl refl,
      some_given gives c c.gave z w.0.gave w.1,
    )
    call_came (Stop f s) w = (
      over_as w.0 (ap₂ (λ x y. x || y) w.0.live (ap₂ (λ x y. x || y) w.0.broken (ap₂ (λ x y. x || y) w.0.again w.0.gave))) here.broken here.again here.gave refl,
      w.1,
      w.2,
    )

  -- where no run is, nothing happens
  call_dead : (n : ℕ) (a c : Stand) → a.live ≡ false → Kept (fresh_function a) c → length a.cells ≡ n → Kept a (behind_call a n c)
  call_dead n a c h k e = record {
    live = ap₂ (λ x y. x || y) (k.live ∙ h) (ap₂ (λ x y. x || y) k.broken (ap₂ (λ x y. x || y) k.again k.gave)) ∙ sym h;
    broken = refl;
    again = refl;
    gave = refl;
    given = refl;
    failing = k.failing;
    completed = k.completed;
    draws = k.draws;
    junk = [];
    cells = kept_cells n k e;
  }

  -- the body in a scope, and what it gave; gave: did the run leave it by `return`
  pub called_follows : {i j k : ℕ} {a b c d : Sym} {body : Deed Flow} (m : ℕ) (ty : IntType) (gave : (ℕ → Bool) → Bool) (value : (ℕ → Bool) → ℤ) → Enters p ty a b → Runs ds p gives i j b c body
      → Returns p k a c d → ((v : ℕ → Bool) → gave v ≡ (stand p v c).gave) → ((v : ℕ → Bool) → value v ≡ (stand p v c).given) → i + k ≤ m
      → Follows ds p m j a d (λ v o. o ≡ value_given gives (gave v) (value v)) (λ v s. bind (scoped Stopped JudgedState cells_judged with_cells_judged (body v) s) (λ flow s. Go (given flow) s))
  called_follows {i} {j} {k} {a} {b} {c} {d} {body} m ty gave value x y z gave_is value_is le =
      let n = length a.cells.items in
      let v0 : ℕ → Bool = λ k. false in
      let count0 : length b.cells.items ≡ n = sym (count_cells p v0 b) ∙ ap (λ s. length s.cells) (x.is v0) ∙ count_cells p v0 a in
      record {
        fits = z.fits;
        added = added_then m j (added_then i j x.added y.added (omega arith) (omega arith)) z.added le (omega arith);
        level = sym (count_cells p v0 d) ∙ ap (λ s. length s.cells) (z.is v0) ∙ length-take-le n (stand p v0 c).cells (omega (arith, count0, y.grows, count_cells p v0 c));
        result = z.result;
        moves = λ v.
            let A = stand p v a in
            record {
              more = (y.moves v).more;
              draws = ap (λ s. s.draws) (z.is v) ∙ (y.moves v).draws ∙ ap (λ s. s.draws ++ (y.moves v).more) (x.is v);
              still = λ q.
                  let was : (stand p v b).live ≡ false = ap (λ s. s.live) (x.is v) ∙ q in
                  subst (Kept A) (sym (z.is v)) (call_dead n A (stand p v c) q (subst (λ s. Kept s (stand p v c)) (x.is v) ((y.moves v).still was)) (count_cells p v a));
            };
        does = λ v h vs rest t.
            let A = stand p v a in
            let C = stand p v c in
            let fresh : IsHere (length ds) (fresh_function A) = record { live = h.live; broken = refl; again = refl; gave = refl; failing = h.failing } in
            let went : Went ds gives n C rest (body v (left_of A vs)) =
            subst (λ w. Went ds gives w C rest (body v (left_of A vs))) count0
            (subst (λ l. Went ds gives (length b.cells.items) C rest (body v l)) (λ i. record { cells = (x.is v i).cells; values = vs; draws = (x.is v i).draws; completed = (x.is v i).completed })
            (y.does v (subst (IsHere (length ds)) (sym (x.is v)) fresh) vs rest t)) in
            let G : Option ℤ → Type 0 = λ o. o ≡ value_given gives (gave v) (value v) in
            let same : (o : Option ℤ) → o ≡ value_given gives C.gave C.given → G o = λ o e. e ∙ ap₂ (value_given gives) (sym (gave_is v)) (sym (value_is v)) in
            subst (λ s. Came ds G s rest (bind (cut Stopped JudgedState cells_judged with_cells_judged (length A.cells) (body v (left_of A vs))) (λ flow s. Go (given flow) s))) (sym (z.is v))
            (subst (λ w. Came ds G (behind_call A n C) rest (bind (cut Stopped JudgedState cells_judged with_cells_judged w (body v (left_of A vs))) (λ flow s. Go (given flow) s))) (sym (count_cells p v a))
            (came_as p.model ds (λ o. o ≡ value_given gives C.gave C.given) G (behind_call A n C) rest _ same (call_came n A C h rest (body v (left_of A vs)) went)));
      }

-- a call's value, once its event is told: where it is needed, only runs that gave one go on
module _ (p : Program) (W : Mode) (gives : Option IntType) (site : Site) (void : gives ≡ None → site.needed ≡ false) where
  needs_one : (gives : Option IntType) → (gives ≡ None → site.needed ≡ false) → (b : Bool) → site.needed ≡ b → (gave : Bool) (z : ℤ) (a : Stand) (rest : List ℤ) → IsHere (length W.duties) a
      → Came W.duties (is_value b z) (stopped (b && not gave) a) rest (after_return b (value_given gives gave z) (left_of a rest))
  needs_one None void true e gave z a rest h = absurd (true≢false (sym e ∙ void refl))
  needs_one None void false e gave z a rest h = let q = sym (stopped_none a) in (subst (IsHere (length W.duties)) q h, ap (λ b. left_of b rest) q, tt)
  needs_one (Some ty) void true e true z a rest h = let q = sym (stopped_none a) in (subst (IsHere (length W.duties)) q h, ap (λ b. left_of b rest) q, refl)
  needs_one (Some ty) void true e false z a rest h = (record { live = and_no a.live; broken = h.broken; again = h.again; gave = h.gave; failing = h.failing }, refl, refl)
  needs_one (Some ty) void false e true z a rest h = let q = sym (stopped_none a) in (subst (IsHere (length W.duties)) q h, ap (λ b. left_of b rest) q, tt)
  needs_one (Some ty) void false e false z a rest h = let q = sym (stopped_none a) in (subst (IsHere (length W.duties)) q h, ap (λ b. left_of b rest) q, tt)

  stop_dead : (t : Bool) (a : Stand) → a.live ≡ false → stopped t a ≡ a
  stop_dead t a h = λ i. record a { live = (ap (λ l. l && not t) h ∙ sym h) i }

  value_follows : {a b : Sym} (gave : (ℕ → Bool) → Bool) (z : (ℕ → Bool) → ℤ) → Turned p 1 0 a b (λ v. stopped (site.needed && not (gave v)))
      → Follows W.duties p 1 0 a b (λ v. is_value site.needed (z v)) (λ v. after_return site.needed (value_given gives (gave v) (z v)))
  value_follows {a} gave z x =
      turned_follows p W.duties (λ v. stopped (site.needed && not (gave v))) x (λ v. refl) (λ v d. stop_dead (site.needed && not (gave v)) (stand p v a) d)
      (λ v here rest. needs_one gives void site.needed refl (gave v) (z v) (stand p v a) rest here)

  is_returned : (o : Option ℤ) (s : JudgedState) → bind (tell p W (Return site.close o) s) (λ u. after_return site.needed o) ≡ returned p W site o s
  is_returned (Some v) s = refl
  is_returned None s = refl

  return_after : (r : Res Stopped JudgedState Flow) → bind (bind r (λ flow s. Go (given flow) s)) (λ o. returned p W site o) ≡ bind r (λ flow. returned p W site (given flow))
  return_after (Go flow s) = refl
  return_after (Stop e s) = refl

  -- the body in a scope, its event, and its value
  pub returned_follows : {i j k : ℕ} {a d e f : Sym} (body : Deed Flow) (m : ℕ) (gave : (ℕ → Bool) → Bool) (z : (ℕ → Bool) → ℤ)
      → Follows W.duties p i j a d (λ v o. o ≡ value_given gives (gave v) (z v)) (λ v s. bind (scoped Stopped JudgedState cells_judged with_cells_judged (body v) s) (λ flow s. Go (given flow) s))
      → Turned p k 0 d e (λ v. telling W (Return site.close (value_given gives (gave v) (z v)))) → Turned p 1 0 e f (λ v. stopped (site.needed && not (gave v))) → i + (k + 1) ≤ m
      → Follows W.duties p m j a f (λ v. is_value site.needed (z v)) (λ v s. bind (scoped Stopped JudgedState cells_judged with_cells_judged (body v) s) (λ flow. returned p W site (given flow)))
  returned_follows {j = j} {k = k} body m gave z x y w le =
      let rest = follows_then p W.duties (k + 1) 0 (λ v u. after_return site.needed (value_given gives (gave v) (z v))) (told_follows p W (λ v. Return site.close (value_given gives (gave v) (z v))) y) (value_follows gave z w) (λ v u t s. refl) (omega arith) (omega arith) in
      follows_as p W.duties (follows_then p W.duties m j (λ v o. returned p W site o) x rest (λ v o q s. ap (λ t. returned p W site t s) q ∙ sym (is_returned (value_given gives (gave v) (z v)) s)) le (omega arith))
      (λ v u q. q) (λ v s. return_after (scoped Stopped JudgedState cells_judged with_cells_judged (body v) s)) (omega arith) (omega arith)

-- a bit of the runs that gave a value
pub needed_turned : (p : Program) (a b : Sym) (gave bad : Bit) → bad ≡ opposite gave → Turned p 1 0 a b (λ v. stopped (holds v a.net bad)) → Turned p 1 0 a b (λ v. stopped (true && not (holds v a.net gave)))
needed_turned p a b gave bad e x = record {
  fits = x.fits;
  added = x.added;
  level = x.level;
  result = x.result;
  is = λ v. x.is v ∙ ap (λ t. stopped t (stand p v a)) (ap (holds v a.net) e ∙ holds-opposite v a.net gave);
}

pub unneeded_turned : (p : Program) (a : Sym) (gave : Bit) → IsState p a → Turned p 1 0 a a (λ v. stopped (false && not (holds v a.net gave)))
unneeded_turned p a gave h = record { fits = h; added = unchanged 1 a.net; level = refl; result = refl; is = λ v. sym (stopped_none (stand p v a)) }

-- what comes back is what was around the call
module _ (p : Program) where
  pub entered : (s : Sym) (ty : IntType) (zero given : Bits) (dead : Bit) → IsState p s → given ≡ zero → Reads p.model ty s.net zero.bits (λ v. pos 0) → Means s.net dead (λ v. false)
      → Enters p ty s (record s { broken = dead; again = dead; gave = dead; result = ty; given = given })
  entered s ty zero given dead h e r m = subst (λ z. Enters p ty s (record s { broken = dead; again = dead; gave = dead; result = ty; given = z })) (sym e) (record {
    fits = record { live = h.live; broken = m.inside; again = m.inside; gave = m.inside; given = r.bits_in; failing = h.failing; completed = h.completed; cells = h.cells; sites = h.sites };
    added = unchanged 0 s.net;
    result = refl;
    is = λ v i. record (stand p v s) { broken = m.is v i; again = m.is v i; gave = m.is v i; given = r.is v i };
  })

  came_back_so : (s : Sym) (net : List NetNode) (live : Bit) (r : Caller) (n : ℕ) (cells : Vec SymCell Global) (bits : Bits) → IsState p s → IsAroundIn p r s.net → Grown 3 s.net net
      → Means net live (λ v. holds v s.net s.live || (holds v s.net s.broken || (holds v s.net s.again || holds v s.net s.gave))) → cells.items ≡ take n s.cells.items → bits ≡ s.given
      → CameBack p r n s (record s { net = net; live = live; broken = r.broken; again = r.again; gave = r.gave; given = r.given; result = r.result; cells = cells }) bits.bits s.gave
  came_back_so s net live r n cells bits h a g m e b =
      let w = state_grown p g h in
      let added = added_of g in
      record {
        fits = record { live = m.inside; broken = in_added added r.broken a.broken; again = in_added added r.again a.again; gave = in_added added r.gave a.gave; given = are_typed_added added a.given; failing = w.failing; completed = w.completed; cells = front_in p s net h g n cells e; sites = w.sites };
        added = added;
        result = refl;
        is = λ v.
            let q = stand_grown p v g h in
            λ i. record {
              live = m.is v i;
              broken = holds_added added v r.broken a.broken i;
              again = holds_added added v r.again a.again i;
              gave = holds_added added v r.gave a.gave i;
              given = typed_added added p.model r.result v r.given.bits a.given i;
              failing = (q i).failing;
              completed = (q i).completed;
              cells = front_are p s net h g n cells e v i;
              draws = (q i).draws;
            };
        bits_in = subst (λ z. AreTyped p.model s.result net z.bits) (sym b) (are_typed_added added h.given);
        value = λ v. ap (λ z. typed p.model s.result v net z.bits) b ∙ typed_added added p.model s.result v s.given.bits h.given;
        gave_in = in_added added s.gave h.gave;
        gave = λ v. holds_added added v s.gave h.gave;
      }

  pub came_back : (s : Sym) (net : List NetNode) (live : Bit) (r : Caller) (n : ℕ) (cells : Vec SymCell Global) (bits given : Bits) → IsState p s → given ≡ r.given → IsAroundIn p r s.net → Grown 3 s.net net
      → Means net live (λ v. holds v s.net s.live || (holds v s.net s.broken || (holds v s.net s.again || holds v s.net s.gave))) → cells.items ≡ take n s.cells.items → bits ≡ s.given
      → CameBack p r n s (record s { net = net; live = live; broken = r.broken; again = r.again; gave = r.gave; given = given; result = r.result; cells = cells }) bits.bits s.gave
  came_back s net live r n cells bits given h eg a g m e b =
      subst (λ z. CameBack p r n s (record s { net = net; live = live; broken = r.broken; again = r.again; gave = r.gave; given = z; result = r.result; cells = cells }) bits.bits s.gave) (sym eg) (came_back_so s net live r n cells bits h a g m e b)

  -- the caller's bits keep their values while the body is walked
  pub came_returns : {i j : ℕ} (r : Caller) (n : ℕ) (a c d : Sym) (bits : List Bit) (gave : Bit) → IsState p a → IsAround r a → Added i j a.net c.net → n ≡ length a.cells.items → CameBack p r n c d bits gave → Returns p 3 a c d
  came_returns r n a c d bits gave h x g e y = record {
    fits = y.fits;
    added = y.added;
    result = y.result ∙ x.result;
    is = λ v.
        let broken : holds v c.net r.broken ≡ holds v a.net a.broken = ap (holds v c.net) x.broken ∙ holds_added g v a.broken h.broken in
        let again : holds v c.net r.again ≡ holds v a.net a.again = ap (holds v c.net) x.again ∙ holds_added g v a.again h.again in
        let kept : holds v c.net r.gave ≡ holds v a.net a.gave = ap (holds v c.net) x.gave ∙ holds_added g v a.gave h.gave in
        let given : typed p.model r.result v c.net r.given.bits ≡ (stand p v a).given = ap₂ (λ t z. typed p.model t v c.net z.bits) x.result x.given ∙ typed_added g p.model a.result v a.given.bits h.given in
        y.is v ∙ (λ i. record (stand p v c) {
          live = (stand p v c).live || ((stand p v c).broken || ((stand p v c).again || (stand p v c).gave));
          broken = broken i;
          again = again i;
          gave = kept i;
          given = given i;
          cells = take (e i) (stand p v c).cells;
        });
  }

-- four ways come together
pub four_means : {i j k : ℕ} (n0 n1 n2 n3 : List NetNode) (l b g o x y z : Bit) → IsIn n0 l → IsIn n0 b → IsIn n0 g → IsIn n0 o → Grown i n0 n1 → Grown j n1 n2 → Grown k n2 n3 → Means n1 x (λ v. holds v n0 g || holds v n0 o)
    → Means n2 y (λ v. holds v n1 b || holds v n1 x) → Means n3 z (λ v. holds v n2 l || holds v n2 y) → Means n3 z (λ v. holds v n0 l || (holds v n0 b || (holds v n0 g || holds v n0 o)))
four_means n0 n1 n2 n3 l b g o x y z il ib ig io g1 g2 g3 m1 m2 m3 =
    let a1 = added_of g1 in
    let a2 = added_of g2 in
    means_by n3 z (λ v. holds v n2 l || holds v n2 y) (λ v. holds v n0 l || (holds v n0 b || (holds v n0 g || holds v n0 o))) m3
    (λ v. ap₂ (λ x y. x || y) (holds_added a2 v l (in_added a1 l il) ∙ holds_added a1 v l il) (m2.is v ∙ ap₂ (λ x y. x || y) (holds_added a1 v b ib) (m1.is v)))
