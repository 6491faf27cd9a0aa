-- The invariant of a net, kept as nodes are added.
use Rattle.std.proofs.Common.{◌≡◌, ℕ, ◌+◌, true, List, [], ◌∷◌, ◌++◌, length, sym, ap, arith}
use Rattle.circuits.specs.declared.net.Bit.{Bit}
use Rattle.circuits.specs.declared.net.NetNode.{NetNode}
use Rattle.circuits.specs.declared.net.NetNode.TheVariants.{Constant, Input, And}
use Rattle.circuits.specs.declared.hints.Hints.{Hints}
use Rattle.circuits.specs.Net.{count_inputs, AreFine, IsFine}
use Rattle.circuits.specs.Words.{AreTrue, IsSound}
use Rattle.circuits.proofs.Nets.{IsNet-push, inputs-append}
use Rattle.circuits.proofs.WordLaws.{true_later}

pub sound_new : {h : Hints} (net : List NetNode) → net ≡ Constant true ∷ [] → ((nodes : List NetNode) → AreTrue nodes h) → IsSound net 0 h
unfolding count_inputs AreFine
sound_new {h} net e t = record { fine = ([], e, tt); is = sym (ap count_inputs e); hints = t net }

pub sound_and : {h : Hints} (net : List NetNode) (k : ℕ) (a b : Bit) → IsSound net k h → IsFine (length net) (count_inputs net) (And a b) → IsSound (net ++ And a b ∷ []) k h
unfolding count_inputs
sound_and {h} net k a b s f = record {
  fine = IsNet-push net (And a b) s.fine f;
  is = omega (arith, s.is, inputs-append net (And a b ∷ []));
  hints = true_later (And a b ∷ []) s.hints;
}

pub sound_input : {h : Hints} (net : List NetNode) (k : ℕ) → IsSound net k h → IsSound (net ++ Input k ∷ []) (k + 1) h
unfolding count_inputs
sound_input {h} net k s = record {
  fine = IsNet-push net (Input k) s.fine s.is;
  is = omega (arith, s.is, inputs-append net (Input k ∷ []));
  hints = true_later (Input k ∷ []) s.hints;
}

-- other hints of the same net
pub sound_hints : {net nodes : List NetNode} {k : ℕ} {h g : Hints} → IsSound net k h → nodes ≡ net → AreTrue nodes g → IsSound net k g
sound_hints {net} {nodes} {k} {h} {g} s e t = record { fine = s.fine; is = s.is; hints = rw (← e) t }
