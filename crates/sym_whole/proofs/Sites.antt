-- Site by site inputs are found that draw the next value of a list wherever a run is there.
use Rattle.std.proofs.Common.{◌≡◌, ℕ, ◌+◌, Bool, true, false, cond, ℤ, List, [], ◌∷◌, refl, sym, ◌∙◌, ap, subst, arith}
use Rattle.c_core.specs.Tree.{Program}
use Rattle.c_core.specs.Types.{width_of, is_signed, fit}
use Rattle.c_meaning.specs.Run.{first_value, other_values, or_zero}
use Rattle.circuits.specs.declared.net.NetNode.{NetNode}
use Rattle.circuits.specs.Net.{holds, IsNet, count_inputs}
use Rattle.circuits.specs.Numbers.{read, typed}
use Rattle.sym_state.specs.declared.state.Sym.{Sym}
use Rattle.sym_state.specs.declared.state.DrawSite.{DrawSite}
use Rattle.sym_state.specs.Standing.{draw_at, draws_at, IsState, IsSite, AreSites}
use Rattle.sym_state.specs.Following.{Taken}
use Rattle.sym_whole.specs.Finding.{IsFound}
use Rattle.sym_whole.proofs.Numbers.{Agree, number_in, digits_found, drawn_agrees}
use Rattle.sym_whole.proofs.Inputs.{early_agree}

module _ (p : Program) (net : List NetNode) (fine : IsNet net) where
  abbrev Found : ℕ → List DrawSite → (ℕ → Bool) → List ℤ → Type 0
  Found base ds v w = (u : ℕ → Bool) × (rest : List ℤ) × Agree base v u × Taken p.model (draws_at p u net ds) w rest

  module _ (base : ℕ) (d : DrawSite) (x : IsSite p.model net base d) where
    live_agrees : (v u : ℕ → Bool) → Agree base v u → holds u net d.live ≡ holds v net d.live
    live_agrees v u g = early_agree v u net x.before x.after d.live x.is fine x.live (subst (λ n. Agree n v u) (sym x.inputs) g)

    site_found : (ds : List DrawSite) (top : ℕ) (v : ℕ → Bool) (w : List ℤ) → ((v : ℕ → Bool) (w : List ℤ) → Found (base + width_of p.model d.ty) ds v w) → (b : Bool) → holds v net d.live ≡ b → Found base (d ∷ ds) v w
    site_found ds top v w next true e =
        let m = p.model in
        let k = width_of m d.ty in
        let n = number_in m d.ty (or_zero (first_value w)) in
        let a = digits_found v base k n.0 n.1 in
        let r = next a.0 (other_values w) in
        let near : Agree base v r.0 = λ i q. r.2 i (omega (arith, q)) ∙ a.1 i q in
        let live : holds r.0 net d.live ≡ true = live_agrees v r.0 near ∙ e in
        let value : typed m d.ty r.0 net d.bits.bits ≡ fit m d.ty (or_zero (first_value w)) =
        ap (read k (is_signed d.ty)) (x.bits.is r.0 ∙ drawn_agrees a.0 r.0 base k r.2 ∙ a.2) ∙ n.2 in
        (r.0, r.1, near, subst (λ l. Taken m (cond l (draw_at p r.0 net d ∷ draws_at p r.0 net ds) (draws_at p r.0 net ds)) w r.1) (sym live) (sym value, r.3))
    site_found ds top v w next false e =
        let r = next v w in
        let near : Agree base v r.0 = λ i q. r.2 i (omega (arith, q)) in
        let live : holds r.0 net d.live ≡ false = live_agrees v r.0 near ∙ e in
        (r.0, r.1, near, subst (λ l. Taken p.model (cond l (draw_at p r.0 net d ∷ draws_at p r.0 net ds) (draws_at p r.0 net ds)) w r.1) (sym live) r.3)

  sites_found : (ds : List DrawSite) (base top : ℕ) → AreSites p.model net base ds top → (v : ℕ → Bool) (w : List ℤ) → Found base ds v w
  sites_found [] base top h v w = (v, w, (λ i q. refl), refl)
  sites_found (d ∷ ds) base top h v w = site_found base d h.0 ds top v w (sites_found ds (base + width_of p.model d.ty) top h.1) (holds v net d.live) refl

pub state_found : (p : Program) (s : Sym) → IsNet s.net → IsState p s → (w : List ℤ) → IsFound p s w
state_found p s fine h w =
    let r = sites_found p s.net fine s.sites.items 0 (count_inputs s.net) h.sites (λ k. false) w in
    (r.0, r.1, r.3)
