-- A test of what some tokens spell holds where the numbers among these tokens fit.
use Rattle.std.proofs.Common.{◌≡◌, List, ◌∷◌, Bool, true, ◌&&◌, refl}
use Rattle.c_core.proofs.TextOrderLaws.{right}
use Rattle.c_core.specs.declared.number.Spot.{Spot}
use Rattle.c_tokens.specs.declared.token.Token.{Token}
use Rattle.c_parser.specs.Formed.{kind_fits, constants_fit}
use Rattle.c_parser.proofs.Along.{Along, AtEnd, Past, Met}

pub and_true : (a b : Bool) → a ≡ true → b ≡ true → (a && b) ≡ true
and_true a b x y = rw x y

-- the numbers among the tokens behind them fit too
pub record Passing (x : Bool) (ts rest : List Token) : Type 0 where
  pub holds : constants_fit ts ≡ true → x ≡ true
  pub behind : constants_fit ts ≡ true → constants_fit rest ≡ true

pub nothing_passed : {rest : List Token} → Passing true rest rest
nothing_passed = record { holds = λ f. refl; behind = λ f. f }

one_fewer : (t : Token) (ts : List Token) → constants_fit (t ∷ ts) ≡ true → constants_fit ts ≡ true
one_fewer t ts f = right (kind_fits t.kind) _ f

pub past : {x : Bool} {ts rest : List Token} {t : Token} → Passing x ts rest → Passing x (t ∷ ts) rest
past {x} {ts} {rest} {t} p = record { holds = λ f. p.holds (one_fewer t ts f); behind = λ f. p.behind (one_fewer t ts f) }

pub both : {x y : Bool} {ts mid rest : List Token} → Passing x ts mid → Passing y mid rest → Passing (x && y) ts rest
both {x} {y} p r = record { holds = λ f. and_true x y (p.holds f) (r.holds (p.behind f)); behind = λ f. r.behind (p.behind f) }

-- a test of the first of them alone, and of those behind it alone
pub up_to : {x : Bool} {ts mid rest : List Token} → Passing x ts mid → Passing true mid rest → Passing x ts rest
up_to p r = record { holds = p.holds; behind = λ f. r.behind (p.behind f) }

pub from : {x : Bool} {ts mid rest : List Token} → Passing true ts mid → Passing x mid rest → Passing x ts rest
from p r = record { holds = λ f. r.holds (p.behind f); behind = λ f. r.behind (p.behind f) }

pub alone : {x : Bool} {ts rest : List Token} → Passing x ts rest → Passing (x && true) ts rest
alone p = both p nothing_passed

-- any tokens that are passed
pub along_passing : {ps : List Spot} {ts rest : List Token} → Along ps ts rest → Passing true ts rest
along_passing AtEnd = nothing_passed
along_passing (Past a) = past (along_passing a)
along_passing (Met a) = past (along_passing a)
