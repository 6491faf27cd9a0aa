use Rattle.std.proofs.Common.{◌≡◌, ℕ, ◌+◌, Bool, true, false, not, ◌&&◌, List, [], ◌∷◌, ◌++◌, length, refl, ◌∙◌, ap, arith, length-append}
use Rattle.circuits.specs.declared.net.NetNode.{NetNode}
use Rattle.circuits.specs.declared.net.NetNode.TheVariants.{Input}
use Rattle.circuits.specs.Net.{holds, IsIn}
use Rattle.circuits.proofs.Nets.{kept, longer, opp, own}
use Rattle.folded_nets.proofs.tests.is_smaller.Goals as goal

-- "a and b" and "not a and c" are never true together
apart : (a b c : Bool) → ((a && b) && (not a && c)) ≡ false
apart true true c = refl
apart true false c = refl
apart false b c = refl

one_more : (old new : List NetNode) (k : ℕ) → new ≡ old ++ Input k ∷ [] → length new ≡ length old + 1
one_more old new k e = omega (arith, ap length e, length-append old (Input k ∷ []))

pub note_never-requires-clause-never : goal.note_never-requires-clause-never
note_never-requires-clause-never c v =
    let inputs = c.input-3.new.self in
    let net = c.and.new.self in
    let a = c.in_ok-a.a in
    let b = c.in_ok-b.b in
    let a_in : IsIn inputs a = omega (arith, c.in_ok-a.ensures.value.inside, one_more _ _ _ c.in_ok-b.ensures.added, one_more _ _ _ c.in_ok-c.ensures.added) in
    let other = opp c.not.ensures (kept c.and.ensures.grown (own inputs a a_in)) in
    let both = kept c.and-4.ensures.grown c.in_ok-both.ensures.value in
    let first = kept c.and-2.ensures.grown c.in_ok-first.ensures.value in
    both.is v ∙ ap (λ l. l && holds v c.and-2.new.self c.in_ok-second.second) (first.is v)
    ∙ ap (λ r. (holds v inputs a && holds v inputs b) && r) (c.in_ok-second.ensures.value.is v ∙ ap (λ l. l && holds v net c.in_ok-c.c) (other.is v))
    ∙ apart (holds v inputs a) (holds v inputs b) (holds v net c.in_ok-c.c)

pub copy-requires-2-clause-room : goal.copy-requires-2-clause-room
copy-requires-2-clause-room c =
    omega (
      arith,
      ap length c.in_ok-net.ensures,
      one_more _ _ _ c.in_ok-a.ensures.added,
      one_more _ _ _ c.in_ok-b.ensures.added,
      one_more _ _ _ c.in_ok-c.ensures.added,
      (longer 1 _ _ c.and.ensures.grown).1,
      (longer 1 _ _ c.and-2.ensures.grown).1,
      (longer 1 _ _ c.and-3.ensures.grown).1,
      (longer 1 _ _ c.and-4.ensures.grown).1,
    )

pub copy-requires-3-clause-room : goal.copy-requires-3-clause-room
copy-requires-3-clause-room c =
    omega (
      arith,
      ap length c.in_ok-net.ensures,
      one_more _ _ _ c.in_ok-a.ensures.added,
      one_more _ _ _ c.in_ok-b.ensures.added,
      one_more _ _ _ c.in_ok-c.ensures.added,
      (longer 1 _ _ c.and.ensures.grown).1,
      (longer 1 _ _ c.and-2.ensures.grown).1,
      (longer 1 _ _ c.and-3.ensures.grown).1,
      (longer 1 _ _ c.and-4.ensures.grown).1,
    )
