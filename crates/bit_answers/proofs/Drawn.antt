-- The draws at the live ones of the sites that were looked at.
use Rattle.std.proofs.Common.{◌≡◌, ℕ, ◌+◌, ◌<◌, Bool, true, false, cond, List, [], ◌∷◌, ◌++◌, length, take, get_or, sym, ◌∙◌, ap}
use Rattle.std.proofs.lemmas.List.{take_more, append-nil}
use Rattle.c_core.specs.Tree.{Program}
use Rattle.c_meaning.specs.declared.run.Draw.{Draw}
use Rattle.circuits.specs.declared.net.NetNode.{NetNode}
use Rattle.circuits.specs.Net.{holds}
use Rattle.sym_state.specs.declared.state.DrawSite.{DrawSite}
use Rattle.sym_state.specs.Standing.{draw_at, draws_at}
use Rattle.sym_state.proofs.Sites.{draws_more}

module _ (p : Program) (v : ℕ → Bool) (net : List NetNode) (sites : List DrawSite) (i : ℕ) (x : DrawSite) where
  -- the next site, and its draw where it is live
  one_more : (b : Bool) → i < length sites → x ≡ get_or sites i x → holds v net x.live ≡ b → draws_at p v net (take i sites) ++ cond b (draw_at p v net x ∷ []) [] ≡ draws_at p v net (take (i + 1) sites)
  one_more b lt at live =
      ap (λ c. draws_at p v net (take i sites) ++ cond c (draw_at p v net x ∷ []) []) (sym live) ∙ sym (draws_more p v net x (take i sites))
      ∙ sym (ap (draws_at p v net) (take_more sites i x lt ∙ ap (λ y. take i sites ++ y ∷ []) (sym at)))

  pub drawn : (draws after : List Draw) (d : Draw) → i < length sites → x ≡ get_or sites i x → holds v net x.live ≡ true → draws ≡ draws_at p v net (take i sites) → d ≡ draw_at p v net x → after ≡ draws ++ d ∷ []
      → after ≡ draws_at p v net (take (i + 1) sites)
  drawn draws after d lt at live h e q = q ∙ ap (λ l. l ++ d ∷ []) h ∙ ap (λ y. draws_at p v net (take i sites) ++ y ∷ []) e ∙ one_more true lt at live

  pub passed : (draws : List Draw) → i < length sites → x ≡ get_or sites i x → holds v net x.live ≡ false → draws ≡ draws_at p v net (take i sites) → draws ≡ draws_at p v net (take (i + 1) sites)
  passed draws lt at live h = h ∙ sym (append-nil (draws_at p v net (take i sites))) ∙ one_more false lt at live
