-- A witness that is made is read as it was, and it is about its program.
use Rattle.std.proofs.Common.{◌≡◌, ◌<◌, ℕ, zero, suc, List, [], ◌∷◌, ◌++◌, length, slice_index, true, Result, Ok, Err, Some, codes, refl, sym, ap, subst, ◌∙◌, arith, lit<}
use Rattle.std.specs.Int.{byte_at, bytes_high_first}
use Rattle.std.specs.List.{AllByRecursion}
use Rattle.std.proofs.lemmas.Option.{none-some, same_Some}
use Rattle.std.proofs.lemmas.Slice.Eq.{bytes_eq-Decides}
use Rattle.hex.specs.Hex.{IsBytes}
use Rattle.hex.proofs.HexLemmas.{decode_sized-encode_lower}
use Rattle.sha2.specs.Sha256.{sha256, digest_bytes, final_hash, initial_hash_256}
use Rattle.uuid.specs.Text.{by_index}
use Rattle.c_core.specs.declared.number.DataModel.TheVariants.{Ilp32}
use Rattle.c_core.specs.declared.number.Property.TheVariants.{UnreachCall}
use Rattle.wv_arguments.specs.Words.{Budgets}
use Rattle.wv_author.specs.Demo.{CanBeWritten, demo_of}
use Rattle.wv_author.specs.Programs.{correct_program, faulty_program}
use Rattle.wv_author.specs.Sequence.{bounds, loop_count}
use Rattle.wv_author.specs.Witnesses.{drawn, hash_of, ranges, reached, witness}
use Rattle.wv_author.specs.declared.making.Made.{Made}
use Rattle.wv_report.specs.declared.reply.Reply.{Reply}
use Rattle.wv_schema.specs.Canonical.{tree_of}
use Rattle.wv_schema.specs.declared.witness.Content.{Content}
use Rattle.wv_schema.specs.declared.witness.Content.TheVariants.{Invariants, Violation}
use Rattle.wv_schema.specs.declared.witness.Witness.{Witness}
use Rattle.wv_schema.proofs.WrittenWitness.{read_again}
use Rattle.wv_task.specs.PropertyText.{property_of}
use Rattle.wv_task.specs.Task.{is_decoded, judged, spells}
use Rattle.wv_yaml.specs.declared.tree.Tree.{Tree}
use Rattle.wv_yaml.specs.Canon.{canon}
use Rattle.wv_yaml.specs.Document.{Spelled}
use Rattle.wv_yaml.proofs.CanonLaws.{spelled_back}
use Rattle.yaml_scalars.specs.Gives.{Gives}
use Rattle.yaml_scalars.specs.declared.fault.YamlFault.{YamlFault}
use Rattle.yaml_scalars.specs.declared.fault.YamlFault.TheVariants.{Bytes, Grammar, Duplicate, OutOfMemory}
use Rattle.witval.specs.Demos.{IsDemonstration, RightOnMade, RightOnRead, unreach_text}
use Rattle.witval.specs.declared.demonstration.Demonstration.{Demonstration}
use Rattle.witval.specs.Purposes.{Judging, RightOnInputs, ToJudge}
use Rattle.witval.specs.Refusals.{IsRefusal, IsSchemaRefusal, IsTaskRefusal, plain}
use Rattle.witval.specs.Stages.{given, known, itself, refusing}
use Rattle.witval.specs.declared.output.Output.{Output}
use Rattle.witval.specs.declared.output.Output.TheVariants.{Report}
use Rattle.witval.specs.inside.Rests.{RightOnModel, RightOnText, RightOnTree, RightOnWitness, RightUnder}

-- ---- the hash

abbrev Small : ℕ → Type 0
Small b = b < 256

byte_small : (k v : ℕ) → byte_at k v < 256
byte_small zero v = omega arith
byte_small (suc k) v = omega arith

bytes_small : (k v : ℕ) → AllByRecursion Small (bytes_high_first k v)
bytes_small zero v = tt
bytes_small (suc k) v = (byte_small k v, bytes_small k v)

joined_small : (xs ys : List ℕ) → AllByRecursion Small xs → AllByRecursion Small ys → AllByRecursion Small (xs ++ ys)
joined_small [] ys h k = k
joined_small (x ∷ xs) ys h k = (h.0, joined_small xs ys h.1 k)

digest_small : (h : List ℕ) (n : ℕ) → AllByRecursion Small (digest_bytes h n)
unfolding digest_bytes
digest_small h zero = tt
digest_small h (suc n) = joined_small (digest_bytes h n) _ (digest_small h n) (bytes_small 4 (slice_index h n))

are_bytes : (xs : List ℕ) → AllByRecursion Small xs → IsBytes xs
are_bytes [] h i = lit< tt
are_bytes (x ∷ xs) h zero = h.0
are_bytes (x ∷ xs) h (suc i) = are_bytes xs h.1 i

digests_are_bytes : (text : List ℕ) → IsBytes (sha256 text)
unfolding sha256
digests_are_bytes text = are_bytes (sha256 text) (digest_small (final_hash initial_hash_256 text) 8)

hash_spelled : (program : List ℕ) → spells (sha256 program) (hash_of program) ≡ true
hash_spelled program =
    ap (λ r. is_decoded (sha256 program) r) (decode_sized-encode_lower (sha256 program) (length (sha256 program)) refl (digests_are_bytes program))
    ∙ (bytes_eq-Decides (sha256 program) (sha256 program)).1 refl

-- it names its program, the property, the language and a data model
pub about_its_program : (program : List ℕ) (content : Content) → judged (sha256 program) UnreachCall (witness program content).entries ≡ Ok Ilp32
unfolding by_index
about_its_program program content = rw (hash_spelled program) refl

-- ---- the stages

past_task : (budgets : Budgets) (program : List ℕ) (w : Witness) (output : Output) → judged (sha256 program) UnreachCall w.entries ≡ Ok Ilp32
    → RightOnWitness (Judging budgets) UnreachCall program w output → RightOnText (ToJudge budgets) UnreachCall program w Ilp32 output
past_task budgets program w output task right =
    subst (λ a. known itself (refusing IsTaskRefusal) a (RightOnModel (Judging budgets) UnreachCall program w) output) task right

past_schema : (budgets : Budgets) (program : List ℕ) (w : Witness) (output : Output) → CanBeWritten w → RightOnTree (Judging budgets) UnreachCall program (tree_of w) output
    → RightOnWitness (Judging budgets) UnreachCall program w output
past_schema budgets program w output can right =
    subst (λ a. known itself (refusing IsSchemaRefusal) a (RightOnWitness (Judging budgets) UnreachCall program) output) (read_again w can.meets) right

past_answer : (budgets : Budgets) (program : List ℕ) (t : Tree) (reply : Reply) (answer : Result Tree YamlFault) → Gives (λ (u : Tree). u) answer (Some t)
    → known itself (refusing IsRefusal) answer (RightOnTree (Judging budgets) UnreachCall program) (Report reply) → RightOnTree (Judging budgets) UnreachCall program t (Report reply)
past_answer budgets program t reply (Ok u) given right = subst (λ x. RightOnTree (Judging budgets) UnreachCall program x (Report reply)) (sym (same_Some t u given)) right
past_answer budgets program t reply (Err Bytes) given right = absurd given
past_answer budgets program t reply (Err Grammar) given right = absurd (none-some t (sym given))
past_answer budgets program t reply (Err Duplicate) given right = absurd given
past_answer budgets program t reply (Err OutOfMemory) given right = absurd right

-- no refusal of YAML, of the schema or of the task applies to it
pub read_as_made : (budgets : Budgets) (program bytes : List ℕ) (w : Witness) (reply : Reply) → CanBeWritten w → Spelled (tree_of w) bytes
    → judged (sha256 program) UnreachCall w.entries ≡ Ok Ilp32 → RightUnder (Judging budgets) program bytes UnreachCall (Report reply)
    → RightOnText (ToJudge budgets) UnreachCall program w Ilp32 (Report reply)
read_as_made budgets program bytes w reply can spelled task right =
    past_task budgets program w (Report reply) task (past_schema budgets program w (Report reply) can
    (past_answer budgets program (tree_of w) reply right.0 (spelled_back (tree_of w) bytes right.0 spelled can.no_repeats right.1) right.2))

-- the same where p and b are these bytes
pub read_if : (budgets : Budgets) (program p bytes b : List ℕ) (w : Witness) (output : Output) (reply : Reply) → p ≡ program → b ≡ bytes → CanBeWritten w → Spelled (tree_of w) bytes
    → judged (sha256 program) UnreachCall w.entries ≡ Ok Ilp32 → output ≡ Report reply → RightUnder (Judging budgets) p b UnreachCall output → RightOnRead budgets program w reply
read_if budgets program p bytes b w output reply same_program same_bytes can spelled task is right =
    read_as_made budgets program bytes w reply can spelled task
    (subst (λ x. RightUnder (Judging budgets) program x UnreachCall (Report reply)) same_bytes
    (subst (λ x. RightUnder (Judging budgets) x b UnreachCall (Report reply)) same_program
    (subst (RightUnder (Judging budgets) p b UnreachCall) is right)))

-- the property file asks for the property that they are about
property_known : property_of unreach_text ≡ Some UnreachCall
property_known = refl

pub as_files_if : (budgets : Budgets) (program p bytes b : List ℕ) (w : Witness) (output : Output) (reply : Reply) → p ≡ program → b ≡ bytes → bytes ≡ canon (tree_of w)
    → output ≡ Report reply → RightUnder (Judging budgets) p b UnreachCall output → RightOnMade budgets program w reply
as_files_if budgets program p bytes b w output reply same_program same_bytes text is right =
    let here : RightUnder (Judging budgets) program b UnreachCall (Report reply) =
    subst (λ x. RightUnder (Judging budgets) x b UnreachCall (Report reply)) same_program (subst (RightUnder (Judging budgets) p b UnreachCall) is right) in
    subst (λ x. RightOnInputs (Judging budgets) program unreach_text x (Report reply)) (same_bytes ∙ text)
    (subst (λ o. given (Report (plain (codes "property"))) o (RightUnder (Judging budgets) program b) (Report reply)) (sym property_known) here)

-- ---- a demo

-- each of its witnesses is about its program
pub of_demo : (n : ℕ) (made : Made) → made ≡ demo_of n
    → (judged (sha256 made.correct) UnreachCall made.invariants.entries ≡ Ok Ilp32) × (judged (sha256 made.faulty) UnreachCall made.violation.entries ≡ Ok Ilp32)
unfolding demo_of
of_demo n made e =
    subst (λ (m : Made). (judged (sha256 m.correct) UnreachCall m.invariants.entries ≡ Ok Ilp32) × (judged (sha256 m.faulty) UnreachCall m.violation.entries ≡ Ok Ilp32)) (sym e)
    (about_its_program (correct_program n) (Invariants (ranges 1 (bounds n loop_count))), about_its_program (faulty_program n) (Violation (drawn n ∷ reached ∷ [])))

-- the replies to what was made are those to the demo of the number
pub demonstrated : (n : ℕ) (budgets : Budgets) (made : Made) (demo : Demonstration) → made ≡ demo_of n → demo.number ≡ n
    → RightOnMade budgets made.correct made.invariants demo.correct → RightOnMade budgets made.faulty made.violation demo.faulty
    → RightOnRead budgets made.correct made.invariants demo.correct → RightOnRead budgets made.faulty made.violation demo.faulty → IsDemonstration n budgets demo
unfolding demo_of
demonstrated n budgets made demo e same on_correct on_faulty correct_read faulty_read = record {
  same_number = same;
  on_correct = subst (λ (m : Made). RightOnMade budgets m.correct m.invariants demo.correct) e on_correct;
  on_faulty = subst (λ (m : Made). RightOnMade budgets m.faulty m.violation demo.faulty) e on_faulty;
  correct_read = subst (λ (m : Made). RightOnRead budgets m.correct m.invariants demo.correct) e correct_read;
  faulty_read = subst (λ (m : Made). RightOnRead budgets m.faulty m.violation demo.faulty) e faulty_read;
}
