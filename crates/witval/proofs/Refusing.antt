-- The refusals of the readers are neither read faults nor the refusal of a long file.
use Rattle.std.proofs.Common.{◌≡◌, ℕ, List, false, refl, sym, subst}
use Rattle.std.specs.Str.{bytes_eq}
use Rattle.c_parser.specs.declared.fault.ParseFault.{ParseFault}
use Rattle.c_parser.specs.declared.fault.ParseFault.TheVariants as parse
use Rattle.check_rules.specs.declared.fault.CheckCode.{CheckCode}
use Rattle.check_rules.specs.declared.fault.CheckCode.TheVariants as code
use Rattle.check_rules.specs.declared.fault.CheckFault.{CheckFault}
use Rattle.check_rules.specs.declared.fault.CheckFault.TheVariants as check
use Rattle.c_tokens.specs.declared.token.TokenFault.{TokenFault}
use Rattle.c_tokens.specs.declared.token.TokenFault.TheVariants as tokens
use Rattle.sym_duties.specs.declared.fault.SymFault.{SymFault}
use Rattle.sym_duties.specs.declared.fault.SymFault.TheVariants as duties
use Rattle.way_bind.specs.declared.fault.BindFault.{BindFault}
use Rattle.way_bind.specs.declared.fault.BindFault.TheVariants as bind
use Rattle.wv_seek.specs.declared.fault.SeekFault.{SeekFault}
use Rattle.wv_seek.specs.declared.fault.SeekFault.TheVariants as seek
use Rattle.wv_report.specs.Json.{HasJsonIntegers}
use Rattle.wv_report.specs.declared.reply.Reply.{Reply}
use Rattle.wv_report.specs.declared.reply.Reply.TheVariants.{Verdict as Judged, Refused, ReadFault}
use Rattle.wv_schema.specs.declared.fault.SchemaFault.{SchemaFault}
use Rattle.wv_schema.specs.declared.fault.SchemaFault.TheVariants as schema
use Rattle.wv_task.specs.declared.fault.TaskFault.{TaskFault}
use Rattle.wv_task.specs.declared.fault.TaskFault.TheVariants as task
use Rattle.yaml_scalars.specs.declared.fault.YamlFault.{YamlFault}
use Rattle.yaml_scalars.specs.declared.fault.YamlFault.TheVariants.{Bytes, Grammar, Duplicate, OutOfMemory}
use Rattle.witval.specs.Refusals.{IsBindRefusal, IsCertificateRefusal, IsCheckRefusal, IsObligationRefusal, IsRefusal, IsSchemaRefusal, IsSearchRefusal, IsSyntaxRefusal, IsTaskRefusal, IsTokenRefusal, check_code, place_text}
use Rattle.witval.specs.Replies.{too_long}
use Rattle.wv_cert.specs.declared.fault.CertFault.{CertFault}
use Rattle.wv_cert.specs.declared.fault.CertFault.TheVariants as cert

-- a reply that is neither a read fault nor the refusal of a long file; a verdict shows no number beyond 64 bits
unfoldable pub NotOfLength : Reply → Type 0
NotOfLength (Refused code detail) = bytes_eq code too_long ≡ false
NotOfLength (ReadFault file) = ⊥
NotOfLength (Judged verdict) = HasJsonIntegers (Judged verdict)

-- a refusal, and not that of a long file
unfoldable pub Refuses : Reply → Type 0
Refuses (Refused code detail) = bytes_eq code too_long ≡ false
Refuses (ReadFault file) = ⊥
Refuses (Judged verdict) = ⊥

pub not_of_length : (reply : Reply) → Refuses reply → NotOfLength reply
unfolding NotOfLength Refuses
not_of_length (Refused code detail) other = other
not_of_length (ReadFault file) other = absurd other
not_of_length (Judged verdict) other = absurd other

pub refusals : (fault : YamlFault) (reply : Reply) → IsRefusal fault reply → Refuses reply
unfolding Refuses
refusals Bytes reply e = subst Refuses (sym e) refl
refusals Grammar reply e = subst Refuses (sym e) refl
refusals Duplicate reply e = subst Refuses (sym e) refl
refusals OutOfMemory reply e = absurd e

pub schema_refusals : (fault : SchemaFault) (reply : Reply) → IsSchemaRefusal fault reply → Refuses reply
unfolding Refuses
schema_refusals (schema.Missing path) reply e = subst Refuses (sym e) refl
schema_refusals (schema.WrongKind path) reply e = subst Refuses (sym e) refl
schema_refusals (schema.BadValue path) reply e = subst Refuses (sym e) refl
schema_refusals schema.Version reply e = subst Refuses (sym e) refl
schema_refusals (schema.Shape segment) reply e = subst Refuses (sym e) refl
schema_refusals schema.Entries reply e = subst Refuses (sym e) refl
schema_refusals schema.OutOfMemory reply e = absurd e

pub task_refusals : (fault : TaskFault) (reply : Reply) → IsTaskRefusal fault reply → Refuses reply
unfolding Refuses
task_refusals task.Files reply e = subst Refuses (sym e) refl
task_refusals (task.Hash stated found) reply e = subst Refuses (sym e) refl
task_refusals task.Specification reply e = subst Refuses (sym e) refl
task_refusals task.Language reply e = subst Refuses (sym e) refl
task_refusals task.Model reply e = subst Refuses (sym e) refl
task_refusals task.Uuid reply e = subst Refuses (sym e) refl
task_refusals task.OutOfMemory reply e = absurd e

pub token_refusals : (fault : TokenFault) (reply : Reply) → IsTokenRefusal fault reply → Refuses reply
unfolding Refuses
token_refusals (tokens.Token line column) reply e = subst Refuses (sym e) refl
token_refusals (tokens.Directive line) reply e = subst Refuses (sym e) refl
token_refusals tokens.OutOfMemory reply e = absurd e

pub syntax_refusals : (fault : ParseFault) (reply : Reply) → IsSyntaxRefusal fault reply → Refuses reply
unfolding Refuses
syntax_refusals (parse.Syntax line column) reply e = subst Refuses (sym e) refl
syntax_refusals parse.OutOfMemory reply e = absurd e

pub coded : (c : CheckCode) (detail : List ℕ) → Refuses (Refused (check_code c) detail)
unfolding Refuses
coded code.Name detail = refl
coded code.Again detail = refl
coded code.Typing detail = refl
coded code.Size detail = refl
coded code.Order detail = refl
coded code.Body detail = refl
coded code.Main detail = refl
coded code.Cells detail = refl

pub certificate_refusals : (fault : CertFault) (reply : Reply) → IsCertificateRefusal fault reply → Refuses reply
unfolding Refuses
certificate_refusals cert.Form reply e = subst Refuses (sym e) refl
certificate_refusals cert.OutOfMemory reply e = absurd e

pub check_refusals : (fault : CheckFault) (reply : Reply) → IsCheckRefusal fault reply → Refuses reply
check_refusals (check.Refused c spot) reply e = subst Refuses (sym e) (coded c (place_text spot.line spot.column))
check_refusals check.OutOfMemory reply e = absurd e

pub bind_refusals : (fault : BindFault) (reply : Reply) → IsBindRefusal fault reply → Refuses reply
unfolding Refuses
bind_refusals (bind.NoPlace waypoint) reply e = subst Refuses (sym e) refl
bind_refusals (bind.Expression waypoint) reply e = subst Refuses (sym e) refl
bind_refusals (bind.Scope waypoint) reply e = subst Refuses (sym e) refl
bind_refusals bind.OutOfMemory reply e = absurd e

pub search_refusals : (fault : SeekFault) (reply : Reply) → IsSearchRefusal fault reply → Refuses reply
unfolding Refuses
search_refusals seek.TooBig reply e = subst Refuses (sym e) refl
search_refusals seek.OutOfMemory reply e = absurd e

pub obligation_refusals : (fault : SymFault) (reply : Reply) → IsObligationRefusal fault reply → Refuses reply
unfolding Refuses
obligation_refusals (duties.Recursion name) reply e = subst Refuses (sym e) refl
obligation_refusals duties.TooBig reply e = subst Refuses (sym e) refl
obligation_refusals duties.OutOfMemory reply e = absurd e
