-- An event that can move no segment: only the state behind all segments doesn't stay.
use Rattle.c_core.specs.Tree.{Program}
use Rattle.std.proofs.Common.{◌≡◌, inl, ℕ, ◌+◌, ◌==◌, true, false, List, [], length, get_or, Option, None, refl, sym, ◌∙◌, ap, subst, arith, is_some}
use Rattle.std.proofs.Math.ListN.{set}
use Rattle.std.proofs.lemmas.Bool.{eqb-true}
use Rattle.std.proofs.lemmas.List.{append-nil}
use Rattle.way_match.specs.Points.{BoundSegment}
use Rattle.way_match.specs.declared.states.Node.{Node}
use Rattle.way_match.specs.Matching.{Seen}
use Rattle.c_meaning.specs.Watching.{event_spot}
use Rattle.way_match.specs.inside.ByPlace.{moved}
use Rattle.way_match.specs.inside.Steps.{step, way_now}
use Rattle.way_match.specs.inside.Arena.{ways_of, AreHeld, Grown}
use Rattle.way_match.specs.inside.Turning.{ArePassed}
use Rattle.way_match.proofs.Numbers.{Ahead, all_ahead, idle_if}
use Rattle.way_match.proofs.Passed.{within_of}
use Rattle.way_match.proofs.Skips.{skipped_all}
use Rattle.way_match.proofs.Turn.{came_none, drop_past, finished, set_other}

pub none_there : (xs : List ℕ) → (length xs == 0) ≡ true → xs ≡ []
none_there xs h = let e = eqb-true (length xs) 0 h in drop_past 0 xs (omega (arith, e))

pub grown_none : (ns : List Node) → Grown ns ns
grown_none ns = ([], sym (append-nil ns))

pub passed_by : (pr : Program) (e : Seen) (n : ℕ) (ns : List Node) (ss : List BoundSegment) (live : List (Option ℕ)) (last : ℕ) → AreHeld ns 0 live → last ≡ length ss → length live ≡ length ss + 1 →
    moved (event_spot e.event) 0 ss ≡ [] → ways_of ns 0 (set live last None) ≡ step pr e n None false ss (ways_of ns 0 live)
passed_by pr e n ns ss live last h l states none =
    let at = event_spot e.event in
    let ahead = subst (λ (numbers : List ℕ). Ahead at ss 0 numbers) none (all_ahead at ss) in
    finished pr e n ns ns ss live last None None false h l states (grown_none ns) (sym (ap (way_now n None) (came_none ns last))) ∙
    sym (skipped_all pr e n ns ss live 0 last None (omega arith) l states (λ g. refl) (λ k a b. idle_if pr e ss k (get_or live k None) b (inl (ahead.0 k a tt))))

pub stay_passed_by : (ss : List BoundSegment) (live : List (Option ℕ)) (low last : ℕ) → last ≡ length ss → ArePassed ss live low → ArePassed ss (set live last None) low
stay_passed_by ss live low last l h k lt =
    let p = h k lt in
    let within = within_of ss (k + 1) p.1.0 in
    let there = set_other live last (k + 1) None (λ e. absurd (omega (arith, e, l, within))) in
    (p.0, (p.1.0, ap is_some there ∙ p.1.1))
