-- The objects of replies without a list, and that of a drawn value, have no float: their texts are the compact ones.
use Rattle.std.proofs.Common.{◌≡◌, ℕ, ℤ, pos, negsuc, List, false, refl}
use Rattle.serde_json.specs.Find.{is_float, of_integer}
use Rattle.serde_json.specs.Written.{has_float}
use Rattle.c_meaning.specs.declared.run.Draw.{Draw}
use Rattle.c_meaning.specs.declared.verdict.Cause.{Cause}
use Rattle.c_meaning.specs.declared.verdict.Reason.{Reason}
use Rattle.wv_report.specs.Json.{draw_json, unconfirmed_json, correct_json, cause_json, refusal_json, fault_json}

of_value : (z : ℤ) → is_float (of_integer z) ≡ false
of_value (pos n) = refl
of_value (negsuc n) = refl

pub of_draw : (draw : Draw) → has_float (draw_json draw) ≡ false
unfolding draw_json
of_draw draw = rw (of_value draw.value)

pub of_unconfirmed : (reason : Reason) (unfixed : ℕ) → has_float (unconfirmed_json reason unfixed) ≡ false
unfolding unconfirmed_json
of_unconfirmed reason unfixed = refl

pub of_correct : (count : ℕ) → has_float (correct_json count) ≡ false
unfolding correct_json
of_correct count = refl

pub of_cause : (cause : Cause) → has_float (cause_json cause) ≡ false
unfolding cause_json
of_cause cause = refl

pub of_refusal : (code detail : List ℕ) → has_float (refusal_json code detail) ≡ false
unfolding refusal_json
of_refusal code detail = refl

pub of_fault : (which : List ℕ) → has_float (fault_json which) ≡ false
unfolding fault_json
of_fault which = refl
