-- Trees stay where nodes are added, and one with an object more has it for its key.
use Rattle.std.proofs.Common.{◌≡◌, ◌<◌, ◌≤◌, ◌+◌, ◌-◌, ◌^◌, ◌%◌, ◌/◌, ℕ, zero, suc, refl, sym, ap, subst, ◌∙◌, Bool, true, false, not, cond, nat_eq, List, [], ◌∷◌, ◌++◌, length, Option, Some, None, arith, eq-eqb, eqb-true}
use Rattle.std.specs.Prelude.{slice_get}
use Rattle.std.proofs.lemmas.Bool.{false≢true}
use Rattle.std.proofs.lemmas.Bool.Decides.{nat_tests}
use Rattle.std.proofs.lemmas.List.{append-nil, append_assoc}
use Rattle.way_names.specs.Versions.{IsThere, Puts, Stands, found_in, half, half_of, is_odd, node_of}
use Rattle.way_names.specs.declared.versions.Node.{Node}

pub get_within : {X : Type 0} (xs ys : List X) (n : ℕ) → n < length xs → slice_get (xs ++ ys) n ≡ slice_get xs n
get_within [] ys n h = grind arith
get_within (x ∷ xs) ys zero h = refl
get_within (x ∷ xs) ys (suc n) h = get_within xs ys n (omega (arith, h))

pub get_end : {X : Type 0} (xs : List X) (x : X) → slice_get (xs ++ x ∷ []) (length xs) ≡ Some x
get_end [] x = refl
get_end (y ∷ xs) x = get_end xs x

length_more : {X : Type 0} (xs ys : List X) → length xs ≤ length (xs ++ ys)
length_more [] ys = omega arith
length_more (x ∷ xs) ys = let h = length_more xs ys in omega (arith, h)

-- ---- more nodes

module _ (nodes more : List Node) where
  there_stays : (at : Option ℕ) → IsThere nodes at → IsThere (nodes ++ more) at
  there_stays None h = tt
  there_stays (Some n) h = let l = length_more nodes more in omega (arith, h, l)

  half_stays : (odd : Bool) (at : Option ℕ) → IsThere nodes at → half_of (nodes ++ more) odd at ≡ half_of nodes odd at
  half_stays odd None h = refl
  half_stays odd (Some n) h = ap (half odd) (get_within nodes more n h)

  stands_still : (bits : ℕ) (at : Option ℕ) → Stands nodes bits at → Stands (nodes ++ more) bits at
  stands_still zero at h = tt
  stands_still (suc bits) at h = (
    there_stays at h.0,
    subst (Stands (nodes ++ more) bits) (sym (half_stays false at h.0)) (stands_still bits (half_of nodes false at) h.1),
    subst (Stands (nodes ++ more) bits) (sym (half_stays true at h.0)) (stands_still bits (half_of nodes true at) h.2),
  )

half_stands : (nodes : List Node) (bits : ℕ) (at : Option ℕ) (odd : Bool) → Stands nodes (suc bits) at → Stands nodes bits (half_of nodes odd at)
half_stands nodes bits at true h = h.2
half_stands nodes bits at false h = h.1

found_still : (nodes more : List Node) (bits : ℕ) (at : Option ℕ) (key : ℕ) → Stands nodes bits at → found_in (nodes ++ more) bits at key ≡ found_in nodes bits at key
found_still nodes more zero at key h = refl
found_still nodes more (suc bits) at key h =
    ap (λ a. found_in (nodes ++ more) bits a (key / 2)) (half_stays nodes more (is_odd key) at h.0)
    ∙ found_still nodes more bits (half_of nodes (is_odd key) at) (key / 2) (half_stands nodes bits at (is_odd key) h)

module _ (old new more : List Node) (grown : new ≡ old ++ more) (bits : ℕ) (at : Option ℕ) (stood : Stands old bits at) where
  pub stands_in : Stands new bits at
  stands_in = subst (λ nodes. Stands nodes bits at) (sym grown) (stands_still old more bits at stood)

  pub found_same : (key : ℕ) → found_in new bits at key ≡ found_in old bits at key
  found_same key = ap (λ nodes. found_in nodes bits at key) grown ∙ found_still old more bits at key stood

-- ---- halves of keys

half_below : (x bits : ℕ) → x < 2 ^ suc bits → x / 2 < 2 ^ bits
half_below x bits h = omega (arith, h)

same_rest : (a b : ℕ) → is_odd a ≡ is_odd b → a % 2 ≡ b % 2
same_rest a b h = grind (arith, nat_tests)

same_test : (a b c d : ℕ) → (a ≡ b → c ≡ d) → (c ≡ d → a ≡ b) → nat_eq a b ≡ nat_eq c d
same_test a b c d there back = by_tests (nat_eq a b) (nat_eq c d) refl refl
  where
    by_tests : (t u : Bool) → nat_eq a b ≡ t → nat_eq c d ≡ u → t ≡ u
    by_tests true true e k = refl
    by_tests false false e k = refl
    by_tests true false e k = absurd (false≢true (sym k ∙ eq-eqb c d (there (eqb-true a b e))))
    by_tests false true e k = absurd (false≢true (sym e ∙ eq-eqb a b (back (eqb-true c d k))))

same_halves : (a b : ℕ) → is_odd a ≡ is_odd b → nat_eq a b ≡ nat_eq (a / 2) (b / 2)
same_halves a b h = let r = same_rest a b h in same_test a b (a / 2) (b / 2) (λ e. omega (arith, e)) (λ e. omega (arith, e, r))

differs : (a b : ℕ) (odd : Bool) → is_odd a ≡ odd → is_odd b ≡ not odd → nat_eq a b ≡ false
differs a b odd e k = by_test (nat_eq a b) refl odd e k
  where
    by_test : (t : Bool) → nat_eq a b ≡ t → (o : Bool) → is_odd a ≡ o → is_odd b ≡ not o → t ≡ false
    by_test false h o e k = refl
    by_test true h true e k = absurd (false≢true (sym k ∙ ap is_odd (sym (eqb-true a b h)) ∙ e))
    by_test true h false e k = absurd (false≢true (sym e ∙ ap is_odd (eqb-true a b h) ∙ k))

-- ---- an object more

this_half : (o : Bool) (this other : Option ℕ) → half o (Some (node_of o this other)) ≡ this
this_half true this other = refl
this_half false this other = refl

other_half : (o : Bool) (this other : Option ℕ) → half (not o) (Some (node_of o this other)) ≡ other
other_half true this other = refl
other_half false this other = refl

from_both : (o : Bool) (P : Bool → Type 0) → P o → P (not o) → (b : Bool) → P b
from_both true P h k true = h
from_both true P h k false = k
from_both false P h k true = k
from_both false P h k false = h

module _ (old mid new : List Node) (bits : ℕ) (at : Option ℕ) (key object : ℕ) (inner : Option ℕ) (stood : Stands old (suc bits) at)
    (h : Puts old mid bits (half_of old (is_odd key) at) (λ x. nat_eq (key / 2) x) object inner)
    (pushed : new ≡ mid ++ node_of (is_odd key) inner (half_of old (not (is_odd key)) at) ∷ []) where
  abbrev odd : Bool
  odd = is_odd key

  abbrev rest : Option ℕ
  rest = half_of old (not odd) at

  abbrev node : Node
  node = node_of odd inner rest

  abbrev root : Option ℕ
  root = Some (length mid)

  more_nodes : (more : List Node) × (new ≡ old ++ more)
  more_nodes = (h.grown.0 ++ node ∷ [], pushed ∙ ap (λ (l : List Node). l ++ node ∷ []) h.grown.1 ∙ append_assoc old h.grown.0 (node ∷ []))

  half_read : (b : Bool) → half_of new b root ≡ half b (Some node)
  half_read b = ap (half b) (ap (λ (l : List Node). slice_get l (length mid)) pushed ∙ get_end mid node)

  this_read : half_of new odd root ≡ inner
  this_read = half_read odd ∙ this_half odd inner rest

  other_read : half_of new (not odd) root ≡ rest
  other_read = half_read (not odd) ∙ other_half odd inner rest

  rest_stood : Stands old bits rest
  rest_stood = half_stands old bits at (not odd) stood

  halves_stand : (b : Bool) → Stands new bits (half_of new b root)
  halves_stand =
      from_both odd (λ b. Stands new bits (half_of new b root))
      (subst (Stands new bits) (sym this_read) (stands_in mid new (node ∷ []) pushed bits inner h.stands))
      (subst (Stands new bits) (sym other_read) (stands_in old new more_nodes.0 more_nodes.1 bits rest rest_stood))

  root_there : IsThere new root
  root_there = subst (λ (l : List Node). length mid < length l) (sym pushed) (longer mid node)
    where
      longer : {X : Type 0} (xs : List X) (x : X) → length xs < length (xs ++ x ∷ [])
      longer [] x = omega arith
      longer (y ∷ xs) x = let l = longer xs x in omega (arith, l)

  abbrev Finds : ℕ → Type 0
  Finds x = found_in new (suc bits) root x ≡ cond (nat_eq key x) (Some object) (found_in old (suc bits) at x)

  finds_this : (x : ℕ) → x < 2 ^ suc bits → is_odd x ≡ odd → Finds x
  finds_this x l e =
      ap (λ b. found_in new bits (half_of new b root) (x / 2)) e
      ∙ ap (λ a. found_in new bits a (x / 2)) this_read
      ∙ found_same mid new (node ∷ []) pushed bits inner h.stands (x / 2)
      ∙ h.found (x / 2) (half_below x bits l)
      ∙ ap (λ b. cond b (Some object) (found_in old bits (half_of old odd at) (x / 2))) (sym (same_halves key x (sym e)))
      ∙ ap (λ b. cond (nat_eq key x) (Some object) (found_in old bits (half_of old b at) (x / 2))) (sym e)

  finds_other : (x : ℕ) → is_odd x ≡ not odd → Finds x
  finds_other x e =
      ap (λ b. found_in new bits (half_of new b root) (x / 2)) e
      ∙ ap (λ a. found_in new bits a (x / 2)) other_read
      ∙ found_same old new more_nodes.0 more_nodes.1 bits rest rest_stood (x / 2)
      ∙ ap (λ b. found_in old bits (half_of old b at) (x / 2)) (sym e)
      ∙ ap (λ b. cond b (Some object) (found_in old (suc bits) at x)) (sym (differs key x odd refl e))

  puts_more : Puts old new (suc bits) at (λ x. nat_eq key x) object root
  puts_more = record {
    grown = more_nodes;
    stands = (root_there, halves_stand false, halves_stand true);
    found = λ x l. from_both odd (λ b. is_odd x ≡ b → Finds x) (finds_this x l) (finds_other x) (is_odd x) refl;
  }

-- no bit is left
pub put_last : (nodes : List Node) (bits : ℕ) (at : Option ℕ) (key object : ℕ) → bits ≡ 0 → key < 2 ^ bits → Puts nodes nodes bits at (λ x. nat_eq key x) object (Some object)
put_last nodes zero at key object e l = record {
  grown = ([], sym (append-nil nodes));
  stands = tt;
  found = λ x k. ap (λ b. cond b (Some object) at) (sym (eq-eqb key x (omega (arith, l, k))));
}
put_last nodes (suc bits) at key object e l = absurd (omega (arith, e))

one_less : (bits : ℕ) → suc bits - 1 ≡ bits
one_less bits = omega arith

pub key_below : (bits key : ℕ) → (bits ≡ 0 → ⊥) → key < 2 ^ bits → key / 2 < 2 ^ (bits - 1)
key_below zero key more l = absurd (more refl)
key_below (suc bits) key more l = subst (λ n. key / 2 < 2 ^ n) (sym (one_less bits)) (half_below key bits l)

pub below_stands : (nodes : List Node) (bits : ℕ) (at : Option ℕ) (odd : Bool) → (bits ≡ 0 → ⊥) → Stands nodes bits at → Stands nodes (bits - 1) (half_of nodes odd at)
below_stands nodes zero at odd more h = absurd (more refl)
below_stands nodes (suc bits) at odd more h = subst (λ n. Stands nodes n (half_of nodes odd at)) (sym (one_less bits)) (half_stands nodes bits at odd h)

pub put_more : (old mid new : List Node) (bits : ℕ) (at : Option ℕ) (key object : ℕ) (inner : Option ℕ) → (bits ≡ 0 → ⊥) → Stands old bits at
    → Puts old mid (bits - 1) (half_of old (is_odd key) at) (λ x. nat_eq (key / 2) x) object inner
    → new ≡ mid ++ node_of (is_odd key) inner (half_of old (not (is_odd key)) at) ∷ [] → Puts old new bits at (λ x. nat_eq key x) object (Some (length mid))
put_more old mid new zero at key object inner more h p e = absurd (more refl)
put_more old mid new (suc bits) at key object inner more h p e =
    puts_more old mid new bits at key object inner h (subst (λ n. Puts old mid n (half_of old (is_odd key) at) (λ x. nat_eq (key / 2) x) object inner) (one_less bits) p) e

pub found_last : (nodes : List Node) (bits : ℕ) (at : Option ℕ) (key : ℕ) → bits ≡ 0 → at ≡ found_in nodes bits at key
found_last nodes zero at key e = refl
found_last nodes (suc bits) at key e = absurd (omega (arith, e))

pub found_more : (nodes : List Node) (bits : ℕ) (at : Option ℕ) (key : ℕ) → (bits ≡ 0 → ⊥) → found_in nodes (bits - 1) (half_of nodes (is_odd key) at) (key / 2) ≡ found_in nodes bits at key
found_more nodes zero at key more = absurd (more refl)
found_more nodes (suc bits) at key more = ap (λ n. found_in nodes n (half_of nodes (is_odd key) at) (key / 2)) (one_less bits)

-- the same from what the code reads
pub put_read : (old mid new : List Node) (bits : ℕ) (at : Option ℕ) (key object : ℕ) (odd : Bool) (before other inner number : Option ℕ) (node : Node) → (bits ≡ 0 → ⊥) → Stands old bits at → odd ≡ is_odd key
    → before ≡ half_of old odd at → other ≡ half_of old (not odd) at → Puts old mid (bits - 1) before (λ x. nat_eq (key / 2) x) object inner → node ≡ node_of odd inner other
    → new ≡ mid ++ node ∷ [] → number ≡ Some (length mid) → Puts old new bits at (λ x. nat_eq key x) object number
put_read old mid new bits at key object odd before other inner number node more stood is first second h made pushed last =
    subst (λ n. Puts old new bits at (λ x. nat_eq key x) object n) (sym last)
    (put_more old mid new bits at key object inner more stood
    (subst (λ b. Puts old mid (bits - 1) b (λ x. nat_eq (key / 2) x) object inner) (first ∙ ap (λ o. half_of old o at) is) h)
    (pushed
    ∙ ap (λ (n : Node). mid ++ n ∷ []) (made ∙ ap (λ o. node_of o inner other) is ∙ ap (node_of (is_odd key) inner) (second ∙ ap (λ o. half_of old (not o) at) is))))
