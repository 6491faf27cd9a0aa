-- The refusals of the readers: of YAML, of the schema, of the task, of certificates, of tokens, of the grammar, of the rules of a source, of the
-- waypoints and invariants, of the obligations, and of a search for values.
use Rattle.std.specs.Prelude.{◌≡◌, ℕ, List, [], ◌∷◌, ◌++◌, codes, decimal}
use Rattle.c_parser.specs.declared.fault.ParseFault.{ParseFault}
use Rattle.c_parser.specs.declared.fault.ParseFault.TheVariants as parse
use Rattle.check_rules.specs.declared.fault.CheckCode.{CheckCode}
use Rattle.check_rules.specs.declared.fault.CheckCode.TheVariants as code
use Rattle.check_rules.specs.declared.fault.CheckFault.{CheckFault}
use Rattle.check_rules.specs.declared.fault.CheckFault.TheVariants as check
use Rattle.c_tokens.specs.declared.token.TokenFault.{TokenFault}
use Rattle.c_tokens.specs.declared.token.TokenFault.TheVariants as tokens
use Rattle.sym_duties.specs.declared.fault.SymFault.{SymFault}
use Rattle.sym_duties.specs.declared.fault.SymFault.TheVariants as duties
use Rattle.way_bind.specs.declared.fault.BindFault.{BindFault}
use Rattle.way_bind.specs.declared.fault.BindFault.TheVariants as bind
use Rattle.wv_cert.specs.declared.fault.CertFault.{CertFault}
use Rattle.wv_cert.specs.declared.fault.CertFault.TheVariants as cert
use Rattle.wv_report.specs.declared.reply.Reply.{Reply}
use Rattle.wv_report.specs.declared.reply.Reply.TheVariants.{Refused}
use Rattle.wv_schema.specs.declared.fault.SchemaFault.{SchemaFault}
use Rattle.wv_schema.specs.declared.fault.SchemaFault.TheVariants as schema
use Rattle.wv_task.specs.declared.fault.TaskFault.{TaskFault}
use Rattle.wv_task.specs.declared.fault.TaskFault.TheVariants as task
use Rattle.wv_yaml.specs.Canon.{quoted_text}
use Rattle.wv_seek.specs.declared.fault.SeekFault.{SeekFault}
use Rattle.wv_seek.specs.declared.fault.SeekFault.TheVariants as seek
use Rattle.yaml_scalars.specs.declared.fault.YamlFault.{YamlFault}
use Rattle.yaml_scalars.specs.declared.fault.YamlFault.TheVariants.{Bytes, Grammar, Duplicate, OutOfMemory}

-- a refusal by its code alone
abbrev pub plain : List ℕ → Reply
plain code = Refused code []

-- the refusal of bytes that are no tree; out of memory is no refusal
abbrev pub IsRefusal : YamlFault → Reply → Type 0
IsRefusal Bytes reply = reply ≡ plain (codes "yaml-bytes")
IsRefusal Grammar reply = reply ≡ plain (codes "yaml-grammar")
IsRefusal Duplicate reply = reply ≡ plain (codes "yaml-duplicate")
IsRefusal OutOfMemory reply = ⊥

-- the refusal of a tree that is no witness
abbrev pub IsSchemaRefusal : SchemaFault → Reply → Type 0
IsSchemaRefusal (schema.Missing path) reply = reply ≡ Refused (codes "schema-missing") path
IsSchemaRefusal (schema.WrongKind path) reply = reply ≡ Refused (codes "schema-kind") path
IsSchemaRefusal (schema.BadValue path) reply = reply ≡ Refused (codes "schema-value") path
IsSchemaRefusal schema.Version reply = reply ≡ plain (codes "schema-version")
IsSchemaRefusal (schema.Shape segment) reply = reply ≡ Refused (codes "schema-shape") (decimal segment)
IsSchemaRefusal schema.Entries reply = reply ≡ plain (codes "schema-entries")
IsSchemaRefusal schema.OutOfMemory reply = ⊥

-- the hash that was stated, quoted, and the one that was found
abbrev pub both_hashes : List ℕ → List ℕ → List ℕ
both_hashes stated found = quoted_text stated ++ 32 ∷ found

-- the refusal of a witness that isn't about this task
abbrev pub IsTaskRefusal : TaskFault → Reply → Type 0
IsTaskRefusal task.Files reply = reply ≡ plain (codes "files")
IsTaskRefusal (task.Hash stated found) reply = reply ≡ Refused (codes "hash") (both_hashes stated found)
IsTaskRefusal task.Specification reply = reply ≡ plain (codes "specification")
IsTaskRefusal task.Language reply = reply ≡ plain (codes "language")
IsTaskRefusal task.Model reply = reply ≡ plain (codes "model")
IsTaskRefusal task.Uuid reply = reply ≡ plain (codes "uuid")
IsTaskRefusal task.OutOfMemory reply = ⊥

-- a place as it is reported: the line, a colon, the column
abbrev pub place_text : ℕ → ℕ → List ℕ
place_text line column = decimal line ++ 58 ∷ decimal column

-- the refusal of bytes that are no certificate; out of memory is no refusal
abbrev pub IsCertificateRefusal : CertFault → Reply → Type 0
IsCertificateRefusal cert.Form reply = reply ≡ plain (codes "certificate")
IsCertificateRefusal cert.OutOfMemory reply = ⊥

-- the refusal of a program that is no list of tokens
abbrev pub IsTokenRefusal : TokenFault → Reply → Type 0
IsTokenRefusal (tokens.Token line column) reply = reply ≡ Refused (codes "token") (place_text line column)
IsTokenRefusal (tokens.Directive line) reply = reply ≡ Refused (codes "directive") (decimal line)
IsTokenRefusal tokens.OutOfMemory reply = ⊥

-- the refusal of tokens that are no source
abbrev pub IsSyntaxRefusal : ParseFault → Reply → Type 0
IsSyntaxRefusal (parse.Syntax line column) reply = reply ≡ Refused (codes "syntax") (place_text line column)
IsSyntaxRefusal parse.OutOfMemory reply = ⊥

-- the word for what a source breaks
abbrev pub check_code : CheckCode → List ℕ
check_code code.Name = codes "check-name"
check_code code.Again = codes "check-again"
check_code code.Typing = codes "check-typing"
check_code code.Size = codes "check-size"
check_code code.Order = codes "check-order"
check_code code.Body = codes "check-body"
check_code code.Main = codes "check-main"
check_code code.Cells = codes "check-cells"

-- the refusal of a source that is no program
abbrev pub IsCheckRefusal : CheckFault → Reply → Type 0
IsCheckRefusal (check.Refused code spot) reply = reply ≡ Refused (check_code code) (place_text spot.line spot.column)
IsCheckRefusal check.OutOfMemory reply = ⊥

-- the refusal of a waypoint or an invariant that isn't bound, by its number
abbrev pub IsBindRefusal : BindFault → Reply → Type 0
IsBindRefusal (bind.NoPlace number) reply = reply ≡ Refused (codes "place") (decimal number)
IsBindRefusal (bind.Expression number) reply = reply ≡ Refused (codes "expression") (decimal number)
IsBindRefusal (bind.Scope number) reply = reply ≡ Refused (codes "scope") (decimal number)
IsBindRefusal bind.OutOfMemory reply = ⊥

-- the refusal of invariant sets about a program whose obligations aren't judged: it has a recursion, reported by a function's
-- name, or it is too big
abbrev pub IsObligationRefusal : SymFault → Reply → Type 0
IsObligationRefusal (duties.Recursion name) reply = reply ≡ Refused (codes "recursion") name
IsObligationRefusal duties.TooBig reply = reply ≡ plain (codes "weight")
IsObligationRefusal duties.OutOfMemory reply = ⊥

-- the refusal of a violation sequence about a program whose runs within the bound are too heavy
abbrev pub IsSearchRefusal : SeekFault → Reply → Type 0
IsSearchRefusal seek.TooBig reply = reply ≡ plain (codes "weight")
IsSearchRefusal seek.OutOfMemory reply = ⊥
