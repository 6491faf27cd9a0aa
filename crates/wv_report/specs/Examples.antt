-- Worked reports.
use Rattle.std.specs.Prelude.{◌≡◌, ℕ, ℤ, pos, negsuc, [], ◌∷◌, Some, codes, refl}
use Rattle.std.specs.Fmt.{digits}
use Rattle.serde_json.proofs.OnLiterals.{serde_json_on_literals}
use Rattle.c_core.specs.declared.number.IntType.{IntType}
use Rattle.c_core.specs.declared.number.IntType.TheVariants.{Int}
use Rattle.c_core.specs.declared.number.Spot.{Spot}
use Rattle.c_meaning.specs.declared.run.Draw.{Draw}
use Rattle.c_meaning.specs.declared.run.DrawKind.TheVariants.{Input}
use Rattle.c_meaning.specs.declared.run.Duty.{Duty}
use Rattle.c_meaning.specs.declared.run.DutyKind.TheVariants.{Entry}
use Rattle.c_meaning.specs.declared.verdict.Cause.TheVariants.{Steps}
use Rattle.c_meaning.specs.declared.verdict.Reason.TheVariants.{Undefined}
use Rattle.c_meaning.specs.declared.verdict.Verdict.TheVariants.{ViolationConfirmed, ViolationNot, CorrectnessConfirmed, CorrectnessNot, Undecided}
use Rattle.wv_report.specs.Json.{json_of, reply_json, verdict_json, confirmed_json, unconfirmed_json, correct_json, incorrect_json, cause_json, refusal_json, fault_json, draw_json}
use Rattle.wv_report.specs.Report.{found_text, text_of}
use Rattle.wv_report.specs.declared.reply.Reply.TheVariants.{Verdict as Judged, Refused, ReadFault}

abbrev at : ℕ → ℕ → Spot
at line column = record { line = line; column = column }

abbrev drawn : Spot → IntType → ℤ → Draw
drawn spot ty value = record { spot = spot; ty = ty; value = value; from = Input }

confirmed_text : text_of (Judged (ViolationConfirmed (drawn (at 4 11) Int (pos 5) ∷ []) (2 ∷ 8 ∷ [])))
    ≡ codes "violation confirmed\nvalue 4:11 int 5\nsegment 1 event 2\nsegment 2 event 8\n"
unfolding digits
confirmed_text = refl

found : found_text (drawn (at 4 11) Int (pos 5) ∷ []) (8 ∷ []) ≡ codes "values found\nvalue 4:11 int 5\nsegment 1 event 8\n"
unfolding digits
found = refl

confirmed : json_of (Judged (ViolationConfirmed (drawn (at 4 11) Int (pos 5) ∷ []) (2 ∷ 8 ∷ [])))
    ≡ codes "{\"answer\":\"violation confirmed\",\"positions\":[2,8],\"values\":[{\"column\":11,\"line\":4,\"type\":\"int\",\"value\":5}]}\n"
unfolding json_of reply_json verdict_json confirmed_json draw_json serde_json_on_literals digits
confirmed = refl

not_confirmed : json_of (Judged (ViolationNot (Undefined (at 5 3)) 0))
    ≡ codes "{\"answer\":\"violation not confirmed\",\"reason\":\"undefined 5:3\",\"unfixed\":0}\n"
unfolding json_of reply_json verdict_json unconfirmed_json serde_json_on_literals digits
not_confirmed = refl

correct : json_of (Judged (CorrectnessConfirmed 3)) ≡ codes "{\"answer\":\"correctness confirmed\",\"obligations\":3}\n"
unfolding json_of reply_json verdict_json correct_json serde_json_on_literals digits
correct = refl

abbrev entered : Duty
entered = record { spot = at 17 3; kind = Entry; invariant = Some 0 }

incorrect : json_of (Judged (CorrectnessNot 2 entered (drawn (at 15 20) Int (negsuc 0) ∷ [])))
    ≡ codes "{\"answer\":\"correctness not confirmed\",\"column\":3,\"kind\":\"entry\",\"line\":17,\"obligation\":2,\"values\":[{\"column\":20,\"line\":15,\"type\":\"int\",\"value\":-1}]}\n"
unfolding json_of reply_json verdict_json incorrect_json draw_json serde_json_on_literals digits
incorrect = refl

spent : json_of (Judged (Undecided (Steps 10))) ≡ codes "{\"answer\":\"undecided\",\"cause\":\"steps 10\"}\n"
unfolding json_of reply_json verdict_json cause_json serde_json_on_literals digits
spent = refl

-- a detail is empty where there is none, and its quotes are escaped
refused : json_of (Refused (codes "weight") []) ≡ codes "{\"answer\":\"refused\",\"code\":\"weight\",\"detail\":\"\"}\n"
unfolding json_of reply_json refusal_json serde_json_on_literals digits
refused = refl

refused_hash : json_of (Refused (codes "hash") (codes "\"x\" e3")) ≡ codes "{\"answer\":\"refused\",\"code\":\"hash\",\"detail\":\"\\\"x\\\" e3\"}\n"
unfolding json_of reply_json refusal_json serde_json_on_literals digits
refused_hash = refl

fault : json_of (ReadFault (codes "property")) ≡ codes "{\"answer\":\"fault\",\"detail\":\"read property\"}\n"
unfolding json_of reply_json fault_json serde_json_on_literals digits
fault = refl
