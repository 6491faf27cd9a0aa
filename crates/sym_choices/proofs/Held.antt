-- Values of bits over a larger net.
use Rattle.std.proofs.Common.{◌≡◌, ℕ, Bool, List, [], ◌∷◌, map, refl, ap₂}
use Rattle.std.proofs.lemmas.List.Elements.{All-head, All-tail}
use Rattle.circuits.specs.declared.net.Bit.{Bit}
use Rattle.circuits.specs.declared.net.NetNode.{NetNode}
use Rattle.circuits.specs.Net.{holds, IsIn}
use Rattle.circuits.specs.Numbers.{AreIn}
use Rattle.sym_state.specs.Standing.{Added}
use Rattle.sym_state.proofs.Nets.{holds_added}

pub all_held : {i j : ℕ} {old new : List NetNode} → Added i j old new → (v : ℕ → Bool) (bs : List Bit) → AreIn old bs → map (holds v new) bs ≡ map (holds v old) bs
all_held g v [] h = refl
all_held {old = old} g v (b ∷ bs) h = ap₂ (λ x y. x ∷ y) (holds_added g v b (All-head (λ b. IsIn old b) b bs h)) (all_held g v bs (All-tail (λ b. IsIn old b) b bs h))
