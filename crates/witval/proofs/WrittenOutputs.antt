-- What is written of a witness, by the length of its canonical text.
use Rattle.std.proofs.Common.{◌≡◌, ◌<◌, ◌≤◌, ◌∙◌, ℕ, List, Bool, true, false, length, nat_lt, lt-ltb, le-ltb, codes, refl, sym, subst, ap}
use Rattle.std.specs.Prelude.{if◌then◌else◌}
use Rattle.wv_report.specs.declared.reply.Reply.{Reply}
use Rattle.wv_schema.specs.Canonical.{tree_of}
use Rattle.wv_schema.specs.declared.witness.Witness.{Witness}
use Rattle.wv_yaml.specs.Canon.{canon}
use Rattle.witval.specs.Inputs.{limit_of}
use Rattle.witval.specs.Refusals.{plain}
use Rattle.witval.specs.Writing.{IsWritten, too_large, written_text}
use Rattle.witval.specs.declared.input.File.TheVariants.{Witness as WitnessFile}
use Rattle.witval.specs.declared.output.Output.{Output}
use Rattle.witval.specs.declared.output.Output.TheVariants.{Report, Canonical}
use Rattle.witval.proofs.Refusing.{Refuses}

beyond : (text : List ℕ) → limit_of WitnessFile < length text → too_large ≡ written_text text
beyond text long = rw (lt-ltb (limit_of WitnessFile) (length text) long) refl

within : (text : List ℕ) → length text ≤ limit_of WitnessFile → Canonical text ≡ written_text text
within text short = rw (le-ltb (limit_of WitnessFile) (length text) short) refl

pub refused_by_length : (w : Witness) (text : List ℕ) (reply : Reply) → text ≡ canon (tree_of w) → limit_of WitnessFile < length text → reply ≡ plain (codes "too-large")
    → IsWritten w (Report reply)
refused_by_length w text reply e long is = ap Report is ∙ beyond text long ∙ ap written_text e

pub written_by : (w : Witness) (text : List ℕ) → text ≡ canon (tree_of w) → length text ≤ limit_of WitnessFile → IsWritten w (Canonical text)
written_by w text e short = within text short ∙ ap written_text e

-- what holds of that refusal and of every text holds of it
either_kept : (P : Output → Type 0) (b : Bool) (x y : Output) → P x → P y → P (if b then x else y)
either_kept P true x y h k = h
either_kept P false x y h k = k

pub written_kept : (P : Output → Type 0) → ((reply : Reply) → Refuses reply → P (Report reply)) → ((text : List ℕ) → P (Canonical text)) → (w : Witness) (output : Output)
    → IsWritten w output → P output
unfolding Refuses
written_kept P refused canonical w output e =
    let text = canon (tree_of w) in
    subst P (sym e) (either_kept P (nat_lt (limit_of WitnessFile) (length text)) too_large (Canonical text) (refused (plain (codes "too-large")) refl) (canonical text))
