-- Worked texts.
use Rattle.std.specs.Prelude.{◌≡◌, [], ◌∷◌, pos, negsuc, codes, refl}
use Rattle.std.specs.Fmt.{digits}
use Rattle.clauses.specs.declared.log.Chain.{Chain}
use Rattle.clauses.specs.declared.log.Refutation.{Refutation}
use Rattle.wv_cert.specs.Text.{certificate_text}

-- one resolution to the empty clause
abbrev pub one_step : Refutation
one_step = record { chains = record { start = 1; steps = record { with = 2; on = 1 } ∷ []; gives = [] } ∷ [] }

-- no resolution: a clause given again
abbrev pub again : Chain
again = record { start = 4294967295; steps = []; gives = negsuc 6 ∷ pos 3 ∷ pos 10 ∷ [] }

abbrev pub two_steps : Chain
two_steps = record { start = 12; steps = record { with = 2; on = 1 } ∷ record { with = 10; on = 7 } ∷ []; gives = pos 4 ∷ [] }

abbrev pub two_chains : Refutation
two_chains = record { chains = again ∷ two_steps ∷ [] }

abbrev pub no_chains : Refutation
no_chains = record { chains = [] }

pub one_log : certificate_text (one_step ∷ []) ≡ codes "witval certificate 1\nobligations 1\nobligation 1 chains 1\n1 2:1 =\n"
unfolding certificate_text digits
one_log = refl

pub no_logs : certificate_text [] ≡ codes "witval certificate 1\nobligations 0\n"
unfolding certificate_text digits
no_logs = refl

pub log_without_chains : certificate_text (no_chains ∷ []) ≡ codes "witval certificate 1\nobligations 1\nobligation 1 chains 0\n"
unfolding certificate_text digits
log_without_chains = refl

pub two_logs : certificate_text (two_chains ∷ one_step ∷ [])
    ≡ codes "witval certificate 1\nobligations 2\nobligation 1 chains 2\n4294967295 = -7 3 10\n12 2:1 10:7 = 4\nobligation 2 chains 1\n1 2:1 =\n"
unfolding certificate_text digits
two_logs = refl
