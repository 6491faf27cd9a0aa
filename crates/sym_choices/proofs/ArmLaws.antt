-- Which arms of a switch are done, bit by bit.
use Rattle.std.proofs.Common.{◌≡◌, ℕ, zero, suc, ◌+◌, ◌*◌, ◌≤◌, ◌<◌, Bool, true, false, cond, not, ◌&&◌, ◌||◌, ◌^◌, ℤ, List, [], ◌∷◌, ◌++◌, length, map, take, drop, drop-cons, get_or, refl, sym, ◌∙◌, ap, ap₂, subst, arith, append_assoc, append-nil, length-append}
use Rattle.std.proofs.lemmas.List.{map-append, at_drop_all, length-take-le, take-append-drop}
use Rattle.std.proofs.lemmas.List.Elements.{All-nil, All-cons, All-append, All-get_or}
use Rattle.std.specs.List.{list_any}
use Rattle.std.specs.Ordering.{int_eq}
use Rattle.c_core.specs.Tree.{Program}
use Rattle.c_core.specs.Typing.{is_default, labels_in}
use Rattle.c_core.specs.View.{switch_view}
use Rattle.c_core.specs.declared.tree.Arm.{Arm}
use Rattle.c_core.specs.declared.tree.Label.{Label as ArmLabel}
use Rattle.c_core.specs.declared.tree.Label.TheVariants.{Case, Default}
use Rattle.c_meaning.specs.Run.{is_case, first_label, arm_for}
use Rattle.circuits.specs.declared.net.Bit.{Bit}
use Rattle.circuits.specs.declared.net.NetNode.{NetNode}
use Rattle.circuits.specs.Net.{holds, Grown, IsIn, Means, opposite}
use Rattle.circuits.specs.Numbers.{AreIn}
use Rattle.circuits.proofs.Nets.{grown_not, grown_then, longer, wider, opp, own, and_of, means_by}
use Rattle.sym_state.specs.declared.state.Sym.{Sym}
use Rattle.sym_state.specs.Standing.{Stand, IsState, Turned}
use Rattle.sym_state.proofs.Nets.{added_of, in_added, holds_added, all_added, state_grown, stand_grown}
use Rattle.sym_choices.proofs.Held.{all_held}
use Rattle.sym_choices.proofs.Labels.{label_of, labels_from}
use Rattle.sym_choices.specs.Choosing.{done_from, entry_of, entered_by, AreEntries, Entered}

-- ---- numbers of arms
pub any_of_all : {A : Type 0} (f : A → Bool) (xs : List A) → list_any f xs ≡ list_any (λ b. b) (map f xs)
any_of_all f [] = refl
any_of_all f (x ∷ xs) = ap (λ b. f x || b) (any_of_all f xs)

-- after an arm that is entered all are done
all_done : (n : Bool) (ls : List ArmLabel) (g : ArmLabel → Bool) → entered_by true n ls (map g ls) ≡ done_from 0 ls
all_done n [] g = refl
all_done n (l ∷ ls) g = ap (λ bs. true ∷ bs) (all_done n ls g)

module _ (w : ℤ) where
  -- a constant equals the value
  by_case : (t : Bool) (l : ArmLabel) (ls : List ArmLabel) → entry_of l (is_case w l) false ≡ t → entered_by false false ls (map (is_case w) ls) ≡ done_from (first_label (is_case w) ls) ls
      → entered_by false false (l ∷ ls) (map (is_case w) (l ∷ ls)) ≡ done_from (cond t 0 (suc (first_label (is_case w) ls))) (l ∷ ls)
  by_case true l ls q h = ap (λ b. b ∷ entered_by b false ls (map (is_case w) ls)) q ∙ ap (λ bs. true ∷ bs) (all_done false ls (is_case w))
  by_case false l ls q h = ap (λ b. b ∷ entered_by b false ls (map (is_case w) ls)) q ∙ ap (λ bs. false ∷ bs) h

  own_entry : (l : ArmLabel) → entry_of l (is_case w l) false ≡ is_case w l
  own_entry (Case c) = refl
  own_entry Default = refl

  some_entered : (ls : List ArmLabel) → entered_by false false ls (map (is_case w) ls) ≡ done_from (first_label (is_case w) ls) ls
  some_entered [] = refl
  some_entered (l ∷ ls) = by_case (is_case w l) l ls (own_entry l) (some_entered ls)

  no_first : (a b : Bool) → (a || b) ≡ false → a ≡ false
  no_first false b h = refl
  no_first true b h = h

  no_others : (a b : Bool) → (a || b) ≡ false → b ≡ false
  no_others false b h = h
  no_others true b h = cc

  -- no constant equals the value
  none_entered : (ls : List ArmLabel) → list_any (is_case w) ls ≡ false → entered_by false true ls (map (is_case w) ls) ≡ done_from (first_label is_default ls) ls
  none_entered [] h = refl
  none_entered (Case c ∷ ls) h =
      ap (λ b. b ∷ entered_by b true ls (map (is_case w) ls)) (no_first (int_eq w c) (list_any (is_case w) ls) h)
      ∙ ap (λ bs. false ∷ bs) (none_entered ls (no_others (int_eq w c) (list_any (is_case w) ls) h))
  none_entered (Default ∷ ls) h = ap (λ bs. true ∷ bs) (all_done true ls (is_case w))

  chosen_by : (t : Bool) (ls : List ArmLabel) → list_any (is_case w) ls ≡ t
      → entered_by false (not t) ls (map (is_case w) ls) ≡ done_from (cond t (first_label (is_case w) ls) (first_label is_default ls)) ls
  chosen_by true ls h = some_entered ls
  chosen_by false ls h = none_entered ls h

  pub chosen_done : (ls : List ArmLabel) → entered_by false (not (list_any (is_case w) ls)) ls (map (is_case w) ls) ≡ done_from (arm_for w ls) ls
  chosen_done ls = chosen_by (list_any (is_case w) ls) ls refl

-- ---- some bit of a list
or_thrice : (a b c : Bool) → ((a || b) || c) ≡ (a || (b || c))
or_thrice true b c = refl
or_thrice false b c = refl

or_none : (b : Bool) → (b || false) ≡ b
or_none true = refl
or_none false = refl

-- a bit, or one of those that are left
pub record Gathered (most : ℕ) (rest all : List Bit) (any : Bit) (old net : List NetNode) : Type 0 where
  pub grown : Grown most old net
  pub inside : IsIn net any
  pub is : (v : ℕ → Bool) → (holds v net any || list_any (λ b. holds v old b) rest) ≡ list_any (λ b. holds v old b) all

pub some_none : (all rest : List Bit) (never : Bit) (net : List NetNode) → rest ≡ all → Means net never (λ v. false) → Gathered 0 rest all never net net
some_none all rest never net e m = record {
  grown = grown_not 0 net;
  inside = m.inside;
  is = λ v. ap (λ b. b || list_any (λ b. holds v net b) rest) (m.is v) ∙ ap (list_any (λ b. holds v net b)) e;
}

pub some_next : (most more : ℕ) (rest others all : List Bit) (x any next : Bit) (old net new : List NetNode) → more ≡ most + 1 → rest ≡ x ∷ others → IsIn old x → Gathered most rest all any old net → Grown 1 net new
    → Means new next (λ v. holds v net any || holds v net x) → Gathered more others all next old new
some_next most more rest others all x any next old net new em er ix h g m = record {
  grown = grown_then most 1 more old net new h.grown g (omega (arith, em));
  inside = m.inside;
  is = λ v.
      let f : Bit → Bool = λ b. holds v old b in
      ap (λ b. b || list_any f others) (m.is v ∙ ap (λ b. holds v net any || b) (holds_added (added_of h.grown) v x ix))
      ∙ or_thrice (holds v net any) (f x) (list_any f others) ∙ ap (λ bs. holds v net any || list_any f bs) (sym er) ∙ h.is v;
}

pub some_all : (most : ℕ) (rest all : List Bit) (any : Bit) (old net : List NetNode) → rest ≡ [] → Gathered most rest all any old net → Means net any (λ v. list_any (λ b. holds v old b) all)
some_all most rest all any old net e h = record {
  inside = h.inside;
  is = λ v. sym (or_none (holds v net any)) ∙ ap (λ bs. holds v net any || list_any (λ b. holds v old b) bs) (sym e) ∙ h.is v;
}

-- the item at an index, and those after it
bit_first : (bits : List Bit) (i : ℕ) (d x : Bit) → i < length bits → x ≡ get_or bits i d → drop i bits ≡ x ∷ drop (i + 1) bits
bit_first bits i d x l e =
    let n : i + 1 ≡ suc i = omega arith in drop-cons bits i d l ∙ ap (λ y. y ∷ drop (suc i) bits) (sym e) ∙ ap (λ n. x ∷ drop n bits) (sym n)

-- item by item
module _ (bits : List Bit) (i : ℕ) (d x : Bit) (l : i < length bits) (e : x ≡ get_or bits i d) where
  one_longer : length (take (i + 1) bits) ≡ length (take i bits) + 1
  one_longer = omega (arith, length-take-le (i + 1) bits (omega (arith, l)), length-take-le i bits (omega (arith, l)))

  pub item_inside : (net : List NetNode) → AreIn net bits → IsIn net x
  item_inside net h = subst (IsIn net) (sym e) (All-get_or (λ b. IsIn net b) bits i d l h)

  pub some_on : (any next : Bit) (old net new : List NetNode) → AreIn old bits → Gathered (length (take i bits)) (drop i bits) bits any old net → Grown 1 net new → Means new next (λ v. holds v net any || holds v net x)
      → Gathered (length (take (i + 1) bits)) (drop (i + 1) bits) bits next old new
  some_on any next old net new h g s m = some_next (length (take i bits)) (length (take (i + 1) bits)) (drop i bits) (drop (i + 1) bits) bits x any next old net new one_longer (bit_first bits i d x l e) (item_inside old h) g s m

  pub some_item : (any : Bit) (old net : List NetNode) → AreIn old bits → Gathered (length (take i bits)) (drop i bits) bits any old net → IsIn net x
  some_item any old net h g = in_added (added_of g.grown) x (item_inside old h)

front_short : {A : Type 0} (i : ℕ) (xs : List A) → length (take i xs) ≤ length xs
front_short i xs = omega (arith, ap length (take-append-drop i xs), length-append (take i xs) (drop i xs))

pub some_room : (bits : List Bit) (i : ℕ) (any : Bit) (old net : List NetNode) → Gathered (length (take i bits)) (drop i bits) bits any old net → length old + length bits < 2 ^ 28 → length net < 2 ^ 29
some_room bits i any old net g h = omega (arith, (longer (length (take i bits)) old net g.grown).1, front_short i bits, h)

pub some_end : (bits : List Bit) (i : ℕ) (any : Bit) (old net : List NetNode) → length bits ≤ i → Gathered (length (take i bits)) (drop i bits) bits any old net → Grown (length bits) old net × Means net any (λ v. list_any (λ b. holds v old b) bits)
some_end bits i any old net h g = (wider g.grown (front_short i bits), some_all (length (take i bits)) (drop i bits) bits any old net (at_drop_all (λ z. z) bits i (omega (arith, h))) g)

-- ---- the bits of the arms
-- those so far, and those that are left
pub record Entering (most : ℕ) (whole : (ℕ → Bool) → List Bool) (ls : List ArmLabel) (cases : List Bit) (none entered : Bit) (old net : List NetNode) (bits : List Bit) : Type 0 where
  pub grown : Grown most old net
  pub entered_in : IsIn net entered
  pub inside : AreIn net bits
  pub are : (v : ℕ → Bool) → map (holds v net) bits ++ entered_by (holds v net entered) (holds v old none) ls (map (holds v old) cases) ≡ whole v

pub entering_none : (ls all : List ArmLabel) (cases given : List Bit) (none never : Bit) (net : List NetNode) (bits : List Bit) → ls ≡ all → cases ≡ given → bits ≡ [] → Means net never (λ v. false)
    → Entering 0 (λ v. entered_by false (holds v net none) all (map (holds v net) given)) ls cases none never net net bits
entering_none ls all cases given none never net bits el ec eb m = record {
  grown = grown_not 0 net;
  entered_in = m.inside;
  inside = subst (AreIn net) (sym eb) (All-nil (λ b. IsIn net b));
  are = λ v.
      ap (λ bs. map (holds v net) bs ++ entered_by (holds v net never) (holds v net none) ls (map (holds v net) cases)) eb
      ∙ ap (λ b. entered_by b (holds v net none) ls (map (holds v net) cases)) (m.is v)
      ∙ ap₂ (λ a c. entered_by false (holds v net none) a (map (holds v net) c)) el ec;
}

entry_in : (net : List NetNode) (l : ArmLabel) (c none : Bit) → IsIn net c → IsIn net none → IsIn net (entry_of l c none)
entry_in net (Case z) c none ic io = ic
entry_in net Default c none ic io = io

entry_holds : (v : ℕ → Bool) (net : List NetNode) (l : ArmLabel) (c none : Bit) → holds v net (entry_of l c none) ≡ entry_of l (holds v net c) (holds v net none)
entry_holds v net (Case z) c none = refl
entry_holds v net Default c none = refl

pub entry_inside : {most : ℕ} {whole : (ℕ → Bool) → List Bool} {ls : List ArmLabel} {cases : List Bit} {none entered : Bit} {old net : List NetNode} {bits : List Bit} → Entering most whole ls cases none entered old net bits
    → (l : ArmLabel) (c x : Bit) → x ≡ entry_of l c none → IsIn old c → IsIn old none → IsIn net x
entry_inside {none = none} {old = old} {net = net} h l c x e ic io = subst (IsIn net) (sym e) (in_added (added_of h.grown) (entry_of l c none) (entry_in old l c none ic io))

pub entering_next : {whole : (ℕ → Bool) → List Bool} (most more : ℕ) (l : ArmLabel) (ls rest : List ArmLabel) (c : Bit) (cases others : List Bit) (none entered next x : Bit) (old net new : List NetNode) (bits out : List Bit)
    → more ≡ most + 1 → ls ≡ l ∷ rest → cases ≡ c ∷ others → out ≡ bits ++ next ∷ [] → x ≡ entry_of l c none → IsIn old c → IsIn old none → Entering most whole ls cases none entered old net bits → Grown 1 net new
    → Means new next (λ v. holds v net entered || holds v net x) → Entering more whole rest others none next old new out
entering_next {whole} most more l ls rest c cases others none entered next x old net new bits out em el ec eo ex ic io h g m = record {
  grown = grown_then most 1 more old net new h.grown g (omega (arith, em));
  entered_in = m.inside;
  inside = subst (AreIn new) (sym eo) (All-append (λ b. IsIn new b) bits (next ∷ []) (all_added (added_of g) bits h.inside) (All-cons (λ b. IsIn new b) next [] m.inside (All-nil (λ b. IsIn new b))));
  are = λ v.
      let n = holds v old none in
      let cs = map (holds v old) others in
      let e = holds v net entered || entry_of l (holds v old c) n in
      let is : holds v new next ≡ e =
      m.is v ∙ ap (λ b. holds v net entered || b) (ap (holds v net) ex ∙ holds_added (added_of h.grown) v (entry_of l c none) (entry_in old l c none ic io) ∙ entry_holds v old l c none) in
      ap (λ bs. map (holds v new) bs ++ entered_by (holds v new next) n rest cs) eo
      ∙ ap (λ bs. bs ++ entered_by (holds v new next) n rest cs) (map-append (holds v new) bits (next ∷ []))
      ∙ ap (λ bs. (bs ++ holds v new next ∷ []) ++ entered_by (holds v new next) n rest cs) (all_held (added_of g) v bits h.inside)
      ∙ append_assoc (map (holds v net) bits) (holds v new next ∷ []) (entered_by (holds v new next) n rest cs)
      ∙ ap (λ b. map (holds v net) bits ++ (b ∷ entered_by b n rest cs)) is
      ∙ sym (ap₂ (λ a b. map (holds v net) bits ++ entered_by (holds v net entered) n a (map (holds v old) b)) el ec)
      ∙ h.are v;
}

pub entering_all : {most : ℕ} {whole : (ℕ → Bool) → List Bool} {ls : List ArmLabel} {cases : List Bit} {none entered : Bit} {old net : List NetNode} {bits : List Bit} → ls ≡ [] → Entering most whole ls cases none entered old net bits
    → (v : ℕ → Bool) → map (holds v net) bits ≡ whole v
entering_all {cases = cases} {none = none} {entered = entered} {old = old} {net = net} {bits = bits} e h v =
    sym (append-nil (map (holds v net) bits)) ∙ ap (λ ls. map (holds v net) bits ++ entered_by (holds v net entered) (holds v old none) ls (map (holds v old) cases)) (sym e) ∙ h.are v

module _ (arms : List Arm) (cases : List Bit) (i : ℕ) (a : Arm) (d c : Bit) (many : length cases ≡ length arms) (l : i < length arms) (e : a ≡ get_or arms i a) (q : c ≡ get_or cases i d) (none : Bit) where
  inside_cases : i < length cases
  inside_cases = omega (arith, l, many)

  pub entering_item : {whole : (ℕ → Bool) → List Bool} (entered x : Bit) (old net : List NetNode) (bits : List Bit) → AreIn old cases → IsIn old none
      → Entering (length (take i arms)) whole (labels_in (switch_view (drop i arms))) (drop i cases) none entered old net bits → x ≡ entry_of (label_of a) c none → IsIn net x
  entering_item entered x old net bits ic io h ex = entry_inside h (label_of a) c x ex (item_inside cases i d c inside_cases q old ic) io

  pub entering_on : {whole : (ℕ → Bool) → List Bool} (entered next x : Bit) (old net new : List NetNode) (bits out : List Bit) → AreIn old cases → IsIn old none
      → Entering (length (take i arms)) whole (labels_in (switch_view (drop i arms))) (drop i cases) none entered old net bits → x ≡ entry_of (label_of a) c none → Grown 1 net new
      → Means new next (λ v. holds v net entered || holds v net x) → out ≡ bits ++ next ∷ []
      → Entering (length (take (i + 1) arms)) whole (labels_in (switch_view (drop (i + 1) arms))) (drop (i + 1) cases) none next old new out
  entering_on entered next x old net new bits out ic io h ex g m eo =
      entering_next (length (take i arms)) (length (take (i + 1) arms)) (label_of a) (labels_in (switch_view (drop i arms))) (labels_in (switch_view (drop (i + 1) arms))) c (drop i cases) (drop (i + 1) cases) none entered next x old net new bits out
      (omega (arith, length-take-le (i + 1) arms (omega (arith, l)), length-take-le i arms (omega (arith, l)))) (labels_from arms i a l e) (bit_first cases i d c inside_cases q) eo ex (item_inside cases i d c inside_cases q old ic) io h g m

pub entering_room : {whole : (ℕ → Bool) → List Bool} {ls : List ArmLabel} {cs : List Bit} {none entered : Bit} (arms : List Arm) (i : ℕ) (old net : List NetNode) (bits : List Bit) → Entering (length (take i arms)) whole ls cs none entered old net bits
    → length old + length arms < 2 ^ 28 → length net < 2 ^ 29
entering_room arms i old net bits h r = omega (arith, (longer (length (take i arms)) old net h.grown).1, front_short i arms, r)

pub entering_end : {none entered : Bit} {cs given : List Bit} (arms : List Arm) (i : ℕ) (old net : List NetNode) (bits : List Bit) → length arms ≤ i
    → Entering (length (take i arms)) (λ v. entered_by false (holds v old none) (labels_in (switch_view arms)) (map (holds v old) given)) (labels_in (switch_view (drop i arms))) cs none entered old net bits
    → AreEntries (length arms) (labels_in (switch_view arms)) given none old net bits
entering_end arms i old net bits h g = record {
  grown = wider g.grown (front_short i arms);
  inside = g.inside;
  are = entering_all (at_drop_all (λ z. labels_in (switch_view z)) arms i (omega (arith, h))) g;
}

-- ---- both
module _ (p : Program) where
  pub arms_entered : (s : Sym) (mid new : List NetNode) (n most : ℕ) (ls : List ArmLabel) (cases bits : List Bit) (any none : Bit) (w : (ℕ → Bool) → ℤ) → IsState p s → most ≡ 2 * n → AreIn s.net cases → Grown n s.net mid
      → Means mid any (λ v. list_any (λ b. holds v s.net b) cases) → none ≡ record { node = any.node; negated = not any.negated } → AreEntries n ls cases none mid new bits
      → ((v : ℕ → Bool) → map (holds v s.net) cases ≡ map (is_case (w v)) ls) → Entered p most ls w s (record s { net = new }) bits
  arms_entered s mid new n most ls cases bits any none w h en ic g m eo x e =
      let whole = grown_then n n most s.net mid new g x.grown (omega (arith, en)) in
      record {
        turned = record { fits = state_grown p whole h; added = added_of whole; level = refl; result = refl; is = λ v. stand_grown p v whole h };
        inside = x.inside;
        are = λ v.
            x.are v
            ∙ ap₂ (λ b cs. entered_by false b ls cs)
            ((opp eo m).is v ∙ ap not (any_of_all (λ b. holds v s.net b) cases ∙ ap (list_any (λ b. b)) (e v) ∙ sym (any_of_all (is_case (w v)) ls)))
            (all_held (added_of g) v cases ic ∙ e v)
            ∙ chosen_done (w v) ls;
      }
