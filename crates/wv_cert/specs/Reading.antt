-- What a reader says of the text before it and of the text that it leaves.
use Rattle.std.specs.Prelude.{◌≡◌, ℕ, Bool, true, false, List, [], ◌∷◌, ◌++◌, length, Option, Some, None, Result, Ok, Err, decimal}
use Rattle.std.specs.Char.{is_ascii_digit}
use Rattle.std.specs.List.{All}
use Rattle.clauses.specs.declared.log.Chain.{Chain}
use Rattle.clauses.specs.declared.log.Refutation.{Refutation}
use Rattle.wv_cert.specs.declared.fault.CertFault.{CertFault}
use Rattle.wv_cert.specs.declared.fault.CertFault.TheVariants.{Form, OutOfMemory}
use Rattle.wv_cert.specs.Text.{IsCertificate, IsChain, IsLog}

-- a number that stands before the text ends there: no digit follows
abbrev pub EndsNumber : List ℕ → Type 0
EndsNumber [] = Unit {0}
EndsNumber (b ∷ text) = is_ascii_digit b ≡ false

-- the text begins with these bytes, which are passed; or it doesn't
abbrev pub Passes : List ℕ → List ℕ → Bool → List ℕ → Type 0
Passes word before true after = before ≡ word ++ after
Passes word before false after = (before ≡ after) × ((rest : List ℕ) → before ≡ word ++ rest → ⊥)

-- something that ends with a number, from its text; or the text begins with no such thing
abbrev pub Reads : {A : Type 0} → (A → Type 0) → (A → List ℕ) → List ℕ → Option A → List ℕ → Type 0
Reads IsFine text_of before (Some a) after = IsFine a × (before ≡ text_of a ++ after) × EndsNumber after
Reads {A} IsFine text_of before None after = (a : A) (rest : List ℕ) → IsFine a → EndsNumber rest → before ≡ text_of a ++ rest → ⊥

-- something that ends with a word
abbrev pub Finds : {A : Type 0} → (A → Type 0) → (A → List ℕ) → List ℕ → Option A → List ℕ → Type 0
Finds IsFine text_of before (Some a) after = IsFine a × (before ≡ text_of a ++ after)
Finds {A} IsFine text_of before None after = (a : A) (rest : List ℕ) → IsFine a → before ≡ text_of a ++ rest → ⊥

-- the same where memory runs out: `Form` exactly where the text begins with no such thing
abbrev pub Gets : {A : Type 0} → (A → Type 0) → (A → List ℕ) → List ℕ → Result A CertFault → List ℕ → Type 0
Gets IsFine text_of before (Ok a) after = IsFine a × (before ≡ text_of a ++ after)
Gets {A} IsFine text_of before (Err Form) after = (a : A) (rest : List ℕ) → IsFine a → before ≡ text_of a ++ rest → ⊥
Gets IsFine text_of before (Err OutOfMemory) after = Unit {0}

-- a number between two words
abbrev pub between : List ℕ → List ℕ → ℕ → List ℕ
between first last number = first ++ decimal number ++ last

-- this many chains
pub record HasChains (count : ℕ) (chains : List Chain) : Type 0 where
  pub many : length chains ≡ count
  pub fine : All IsChain chains

-- this many logs
pub record HasLogs (count : ℕ) (logs : List Refutation) : Type 0 where
  pub many : length logs ≡ count
  pub fine : All IsLog logs

-- the logs that have these bytes as their text; `Form` exactly where none have
abbrev pub AnswersFor : List ℕ → Result (List Refutation) CertFault → Type 0
AnswersFor bytes (Ok logs) = IsCertificate logs bytes
AnswersFor bytes (Err Form) = (logs : List Refutation) → IsCertificate logs bytes → ⊥
AnswersFor bytes (Err OutOfMemory) = Unit {0}

-- a text is that of one list of logs at most
abbrev pub OneList : Type 0
OneList = (bytes : List ℕ) (these those : List Refutation) → IsCertificate these bytes → IsCertificate those bytes → these ≡ those

-- what was written is read back
abbrev pub ReadsBack : List Refutation → Result (List Refutation) CertFault → Type 0
ReadsBack logs (Ok read) = read ≡ logs
ReadsBack logs (Err fault) = fault ≡ OutOfMemory
