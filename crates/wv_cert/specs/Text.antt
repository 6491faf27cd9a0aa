-- The text of a certificate: a log for each obligation, each a list of chains, each chain a line.
use Rattle.std.specs.Prelude.{◌≡◌, ℕ, ◌+◌, ◌<◌, ◌^◌, List, [], ◌∷◌, ◌++◌, ℤ, length, codes, decimal}
use Rattle.std.specs.Fmt.{signed_decimal}
use Rattle.std.specs.List.{All, flat_map}
use Rattle.clauses.specs.Clause.{IsClause}
use Rattle.clauses.specs.declared.log.Chain.{Chain}
use Rattle.clauses.specs.declared.log.Refutation.{Refutation}
use Rattle.clauses.specs.declared.log.Resolve.{Resolve}

-- a resolution: the clause, a colon, the variable
abbrev pub step_text : Resolve → List ℕ
step_text step = codes " " ++ decimal step.with ++ codes ":" ++ decimal step.on

-- a number of a clause
abbrev pub number_text : ℤ → List ℕ
number_text number = codes " " ++ signed_decimal number

-- resolutions in a row, and an equals sign
abbrev pub steps_text : List Resolve → List ℕ
steps_text steps = flat_map step_text steps ++ codes " ="

-- the numbers of a clause, and the line's end
abbrev pub clause_text : List ℤ → List ℕ
clause_text numbers = flat_map number_text numbers ++ codes "\n"

-- a chain: the clause that it starts from, its resolutions, and the clause that it gives
abbrev pub chain_line : Chain → List ℕ
chain_line chain = decimal chain.start ++ steps_text chain.steps ++ clause_text chain.gives

-- the first line of a log: the number of its obligation and of its chains
abbrev pub log_line : ℕ → ℕ → List ℕ
log_line obligation chains = codes "obligation " ++ decimal obligation ++ codes " chains " ++ decimal chains ++ codes "\n"

-- a log: its first line, and a line for each chain
abbrev pub log_text : ℕ → Refutation → List ℕ
log_text obligation log = log_line obligation (length log.chains) ++ flat_map chain_line log.chains

-- logs of obligations in a row, the first of this number
abbrev pub log_texts : ℕ → List Refutation → List ℕ
log_texts obligation [] = []
log_texts obligation (log ∷ logs) = log_text obligation log ++ log_texts (obligation + 1) logs

-- what stands before the logs: the format and how many they are
abbrev pub heading : ℕ → List ℕ
heading obligations = codes "witval certificate 1\nobligations " ++ decimal obligations ++ codes "\n"

-- the whole text
unfoldable pub certificate_text : List Refutation → List ℕ
certificate_text logs = heading (length logs) ++ log_texts 1 logs

-- ---- which logs have a text

-- a number of 32 bits
abbrev pub IsSmall : ℕ → Type 0
IsSmall n = n < 2 ^ 32

-- a resolution of small numbers
abbrev pub IsStep : Resolve → Type 0
IsStep step = IsSmall step.with × IsSmall step.on

-- a chain of small numbers that gives a clause
pub record IsChain (chain : Chain) : Type 0 where
  pub start : IsSmall chain.start
  pub steps : All IsStep chain.steps
  pub gives : IsClause chain.gives

-- as many chains as a list in memory can have
pub record IsLog (log : Refutation) : Type 0 where
  pub many : length log.chains < 2 ^ 64
  pub chains : All IsChain log.chains

-- the bytes are the text of these logs
pub record IsCertificate (logs : List Refutation) (bytes : List ℕ) : Type 0 where
  pub many : length logs < 2 ^ 64
  pub fine : All IsLog logs
  pub text : bytes ≡ certificate_text logs
