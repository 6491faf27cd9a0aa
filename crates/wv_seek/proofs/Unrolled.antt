-- What a state that stands for all runs that seek says of the hit.
use Rattle.std.proofs.Common.{◌≡◌, ◌≤◌, ℕ, suc, arith, Bool, true, false, ℤ, List, [], ◌∷◌, refl, sym, ◌∙◌, ap, subst, slice_get}
use Rattle.std.specs.List.{All}
use Rattle.c_core.specs.Tree.{Program}
use Rattle.c_meaning.specs.declared.run.HavocEnd.TheVariants.{Failed}
use Rattle.c_meaning.specs.Acts.{Res, Go, Stop, Flow}
use Rattle.c_meaning.specs.Havoc.{havoc_run}
use Rattle.c_meaning.specs.Replay.{values_of}
use Rattle.circuits.specs.Net.{holds, IsIn}
use Rattle.circuits.specs.Numbers.{AreIn}
use Rattle.circuits.specs.declared.net.Bit.{Bit}
use Rattle.seek_answer.specs.Reaching.{HaveRoom, IsPromised, IsReach, StandsFor, Tells, TellsSought}
use Rattle.seek_answer.specs.declared.reach.Reach.{Reach}
use Rattle.seek_meaning.specs.Progress.{none_completed}
use Rattle.seek_meaning.specs.Seeking.{SeekEnd, Hits, Misses, SeekState, SeekRun, hits, draws_sought}
use Rattle.seek_mode.specs.SeekingMode.{the_hit}
use Rattle.seek_mode.specs.SoughtRuns.{IsSoughtRun, as_judged, judged_to_seek}
use Rattle.seek_walk.specs.Whole.{IsLightToSeek, IsWholeSought}
use Rattle.seek_weight.specs.Laws.{IsDecidedWithin}
use Rattle.seek_weight.specs.SeekWeight.{SeekWeight, SeekBits}
use Rattle.sym_meaning.specs.Obliging.{as_havoc}
use Rattle.sym_state.specs.Standing.{draws_at}
use Rattle.sym_state.specs.declared.state.DrawSite.{DrawSite}
use Rattle.sym_state.specs.declared.state.Sym.{Sym}
use Rattle.sym_whole.specs.Deciding as whole
use Rattle.way_match.specs.Points.{BoundSegment}
use Rattle.wv_seek.specs.Seeking.{IsUnrolled}

-- ---- a run that seeks, as a havoc run with one obligation

draws_are : (r : Res SeekEnd SeekState Flow) → (havoc_run (the_hit ∷ []) (as_havoc (as_judged r))).draws ≡ draws_sought r
draws_are (Go a s) = refl
draws_are (Stop Hits s) = refl
draws_are (Stop Misses s) = refl

-- it fails the obligation exactly where it hits
hit_fails : (r : Res SeekEnd SeekState Flow) → hits r ≡ true → (havoc_run (the_hit ∷ []) (as_havoc (as_judged r))).end ≡ Failed 1
hit_fails (Go a s) on = cc
hit_fails (Stop Hits s) on = refl
hit_fails (Stop Misses s) on = cc

failed_hits : (r : Res SeekEnd SeekState Flow) → (havoc_run (the_hit ∷ []) (as_havoc (as_judged r))).end ≡ Failed 1 → hits r ≡ true
failed_hits (Go a s) failed = cc
failed_hits (Stop Hits s) failed = refl
failed_hits (Stop Misses s) failed = cc

same_truth : (a b : Bool) → (a ≡ true → b ≡ true) → (b ≡ true → a ≡ true) → a ≡ b
same_truth true b there back = sym (there refl)
same_truth false true there back = back refl
same_truth false false there back = refl

module _ (p : Program) (ss : List BoundSegment) (k : ℕ) (s : Sym) (hit : Bit) (one : s.failing.items ≡ hit ∷ []) where
  abbrev made : Reach
  made = record { net = s.net; reach = hit; sites = s.sites.items }

  -- under inputs the state tells of the judged run, which is the run that seeks
  told : (v : ℕ → Bool) (w : List ℤ) → IsSoughtRun p ss k (suc k) w (none_completed ss)
      → whole.Tells p s v (havoc_run (the_hit ∷ []) (as_havoc (judged_to_seek p ss k w))) → Tells p ss k made v w
  told v w law t =
      let run = SeekRun p ss k w in
      let q : whole.Tells p s v (havoc_run (the_hit ∷ []) (as_havoc (as_judged run))) = subst (λ r. whole.Tells p s v (havoc_run (the_hit ∷ []) (as_havoc r))) law t in
      let ends = q.ends 0 hit (ap (λ bits. slice_get bits 0) one) in
      record {
        draws = sym (draws_are run) ∙ q.draws;
        hits = same_truth (holds v s.net hit) (hits run) (λ on. failed_hits run (ends.0 on)) (λ on. ends.1 (hit_fails run on));
      }

  module _ (law : (w : List ℤ) → IsSoughtRun p ss k (suc k) w (none_completed ss)) (h : IsWholeSought p ss k s) (light : IsLightToSeek p ss k)
      (bits : SeekBits p k ≤ SeekWeight p ss k) (stand : All (StandsFor p) s.sites.items) where
    hit_in : IsIn s.net hit
    hit_in = (subst (AreIn s.net) one h.fits.failing) 0 hit (omega arith)

    is_reach : IsReach p ss k (SeekWeight p ss k) (SeekBits p k) made
    is_reach = record {
      reach_in = hit_in;
      sites_in = h.fits.sites;
      stand = stand;
      each = λ v. let w = values_of (draws_at p v s.net s.sites.items) in told v w (law w) (h.decides.each v);
      all = λ w. let t = h.decides.all w in (t.0, told t.0 w (law w) t.1);
      gates = h.gates;
      feeds = h.feeds;
      drawn = bits;
      light = light;
    }

    pub is_unrolled : ((w : List ℤ) → IsDecidedWithin p ss k w) → ((r : Reach) → IsPromised p ss k r → HaveRoom p k → TellsSought p ss k r)
        → (sites : List DrawSite) → sites ≡ s.sites.items → IsUnrolled p ss k (record { net = s.net; reach = hit; sites = sites })
    is_unrolled decides tells sites e = rw e (record {
      fits = λ too_big. omega (arith, too_big, light);
      reach = is_reach;
      tells = tells made (SeekWeight p ss k, SeekBits p k, is_reach) (λ w. (decides w).room);
    })
