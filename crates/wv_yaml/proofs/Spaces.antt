-- Spaces that a loop passes.
use Rattle.std.proofs.Common.{◌≡◌, ℕ, ◌<◌, List, ◌∷◌, take, drop, true, refl, ap, ◌∙◌, arith, false, ◌-◌, ◌==◌}
use Rattle.wv_yaml.specs.Block.{all_spaces}
use Rattle.yaml_lines.proofs.Places.{take_one}

pub spaces_on : (left next : List ℕ) (more c : ℕ) → left ≡ c ∷ drop 1 left → next ≡ drop 1 left → 0 < more → (c == 32) ≡ true →
    all_spaces (take more left) ≡ all_spaces (take (more - 1) next)
spaces_on left next more c e n h b = ap all_spaces (take_one left next more c e n h) ∙ rw b refl

pub spaces_off : (left : List ℕ) (more c : ℕ) → left ≡ c ∷ drop 1 left → 0 < more → (c == 32) ≡ false → all_spaces (take more left) ≡ false
spaces_off left more c e h b = ap all_spaces (take_one left (drop 1 left) more c e refl h) ∙ rw b refl
