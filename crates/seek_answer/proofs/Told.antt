-- What the bit of all runs tells of the values that are sought.
use Rattle.std.proofs.Common.{◌≡◌, ◌<◌, ◌^◌, arith, ℕ, true, false, ℤ, List, [], ◌∷◌, length, sym, ◌∙◌, true≢false}
use Rattle.std.specs.List.{All}
use Rattle.bit_answers.specs.Deciding.{IsNeverTrue, IsWide}
use Rattle.bit_answers.proofs.Numbers.{sites_wide}
use Rattle.c_core.specs.Tree.{Program}
use Rattle.c_core.specs.declared.number.DataModel.{DataModel}
use Rattle.c_draws.specs.Drawing.{place}
use Rattle.c_draws.specs.declared.places.DrawPlace.{DrawPlace}
use Rattle.circuits.specs.declared.net.NetNode.{NetNode}
use Rattle.circuits.specs.Net.{IsNet, count_inputs}
use Rattle.circuits.proofs.Nets.{counted}
use Rattle.seek_answer.specs.declared.reach.Reach.{Reach}
use Rattle.seek_answer.specs.Reaching.{HaveRoom, IsOpen, IsPromised, StandsFor, TellsSought, values_under}
use Rattle.seek_meaning.specs.Bounded.{HasRoom}
use Rattle.seek_meaning.specs.Sought.{IsDecided, NoneAreSought}
use Rattle.sym_state.specs.Standing.{AreSites}
use Rattle.sym_state.specs.declared.state.DrawSite.{DrawSite}
use Rattle.way_match.specs.Points.{BoundSegment}

-- where there are inputs there is a site
first_site : (m : DataModel) (net : List NetNode) (top : ℕ) (ds : List DrawSite) → AreSites m net 0 ds top → 0 < top → 0 < length ds
first_site m net top [] same some = absurd (omega (arith, same, some))
first_site m net top (d ∷ ds) sites some = omega arith

first_open : (p : Program) (ds : List DrawSite) → All (StandsFor p) ds → 0 < length ds → (x : DrawPlace) × IsOpen p x
first_open p [] stand some = absurd (omega (arith, some))
first_open p (d ∷ ds) stand some = (place d.spot d.ty d.from, stand 0 d some)

module _ (p : Program) (ss : List BoundSegment) (k : ℕ) (r : Reach) (h : IsPromised p ss k r) where
  pub small : IsNet r.net → length r.net < 2 ^ 28
  small n = omega (arith, counted r.net n, h.2.gates, h.2.feeds, h.2.drawn, h.2.light)

  pub wide : All (IsWide p.model) r.sites
  wide = sites_wide p.model r.net 0 (count_inputs r.net) r.sites h.2.sites_in

  -- where there are inputs the program has an open part
  pub open_part : 0 < count_inputs r.net → (x : DrawPlace) × IsOpen p x
  open_part some = first_open p r.sites h.2.stand (first_site p.model r.net (count_inputs r.net) r.sites h.2.sites_in some)

  module _ (decides : (w : List ℤ) → HasRoom p k w → IsDecided p ss k w) (room : HaveRoom p k) where
    pub tells_sought : TellsSought p ss k r
    tells_sought = record {
      exact = λ v.
          let told = h.2.each v in
          let d = decides (values_under p v r) (room (values_under p v r)) in
          (λ on. d.exact.0 (sym told.hits ∙ on), λ sought. told.hits ∙ d.exact.1 sought);
      drawn = λ v positions found.
          let d = decides (values_under p v r) (room (values_under p v r)) in
          sym (d.draws positions found) ∙ (h.2.each v).draws;
      all = λ w positions found.
          let run = h.2.all w in
          let d = decides w (room w) in
          (run.0, run.1.hits ∙ d.exact.1 (positions, found), sym (d.draws positions found) ∙ run.1.draws);
    }

    pub none_sought : IsNeverTrue r.net r.reach → NoneAreSought p ss k
    none_sought never w sought =
        let some = tells_sought.all w sought.0 sought.1 in
        true≢false (sym some.1 ∙ never some.0)
