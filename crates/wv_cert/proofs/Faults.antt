-- A fault that is handed on.
use Rattle.std.proofs.Common.{◌≡◌, ◌++◌, ℕ, List, Err, refl}
use Rattle.wv_cert.specs.declared.fault.CertFault.{CertFault}
use Rattle.wv_cert.specs.declared.fault.CertFault.TheVariants.{Form, OutOfMemory}
use Rattle.wv_cert.specs.Reading.{AnswersFor, Gets, ReadsBack}
use Rattle.wv_cert.specs.Text.{IsCertificate}
use Rattle.clauses.specs.declared.log.Refutation.{Refutation}

-- no text begins with something where none begins with a part of it
pub failed : {A B : Type 0} (IsPart : A → Type 0) (part_text : A → List ℕ) (IsFine : B → Type 0) (text_of : B → List ℕ) (before mid after last : List ℕ) (e : CertFault)
    → Gets IsPart part_text mid (Err e) last
    → (((a : A) (rest : List ℕ) → IsPart a → mid ≡ part_text a ++ rest → ⊥) → (b : B) (rest : List ℕ) → IsFine b → before ≡ text_of b ++ rest → ⊥)
    → Gets IsFine text_of before (Err e) after
failed IsPart part_text IsFine text_of before mid after last Form h k = k h
failed IsPart part_text IsFine text_of before mid after last OutOfMemory h k = tt

pub failed_at_all : {A : Type 0} (IsPart : A → Type 0) (part_text : A → List ℕ) (bytes mid last : List ℕ) (e : CertFault) → Gets IsPart part_text mid (Err e) last
    → (((a : A) (rest : List ℕ) → IsPart a → mid ≡ part_text a ++ rest → ⊥) → (logs : List Refutation) → IsCertificate logs bytes → ⊥) → AnswersFor bytes (Err e)
failed_at_all IsPart part_text bytes mid last Form h k = k h
failed_at_all IsPart part_text bytes mid last OutOfMemory h k = tt

-- the certificate of logs is some certificate
pub only_memory : (logs : List Refutation) (bytes : List ℕ) (e : CertFault) → IsCertificate logs bytes → AnswersFor bytes (Err e) → ReadsBack logs (Err e)
only_memory logs bytes Form is none = absurd (none logs is)
only_memory logs bytes OutOfMemory is none = refl
