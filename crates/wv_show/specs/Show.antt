-- The text that `show` prints of a witness.
use Rattle.std.specs.Prelude.{ℕ, ◌+◌, List, [], ◌∷◌, ◌++◌, Option, Some, None, option_map, length, codes, decimal}
use Rattle.std.specs.Fmt.{signed_decimal}
use Rattle.wv_yaml.specs.Canon.{quoted_text}
use Rattle.wv_schema.specs.Canonical.{content_word, invariant_word, way_word}
use Rattle.wv_schema.specs.declared.witness.Constraint.{Constraint}
use Rattle.wv_schema.specs.declared.witness.Content.{Content}
use Rattle.wv_schema.specs.declared.witness.Content.TheVariants.{Violation, Invariants}
use Rattle.wv_schema.specs.declared.witness.Entry.{Entry}
use Rattle.wv_schema.specs.declared.witness.Invariant.{Invariant}
use Rattle.wv_schema.specs.declared.witness.Location.{Location}
use Rattle.wv_schema.specs.declared.witness.Metadata.{Metadata}
use Rattle.wv_schema.specs.declared.witness.Segment.{Segment}
use Rattle.wv_schema.specs.declared.witness.Waypoint.{Waypoint}
use Rattle.wv_schema.specs.declared.witness.Witness.{Witness}
use Rattle.wv_task.specs.Readings.{created_of, identifier_of}

-- a line feed ends each line
abbrev pub line : List ℕ → List ℕ
line text = text ++ 10 ∷ []

-- a word for what can't be read
abbrev pub or_unread : Option (List ℕ) → List ℕ
or_unread None = codes "unread"
or_unread (Some text) = text

-- an identifier in lower case with hyphens
abbrev pub uuid_text : List ℕ → List ℕ
uuid_text uuid = or_unread (identifier_of uuid)

-- seconds since 1970
abbrev pub created_text : List ℕ → List ℕ
created_text time = or_unread (option_map signed_decimal (created_of time))

-- an entry's number and type
abbrev pub entry_line : ℕ → Content → List ℕ
entry_line position content = line (codes "entry " ++ decimal position ++ codes " " ++ content_word content)

-- the tool that the entry names, with its version
abbrev pub producer_line : Metadata → List ℕ
producer_line metadata = line (codes "producer " ++ quoted_text metadata.producer_name ++ codes " " ++ quoted_text metadata.producer_version)

-- the identifier of the entry
abbrev pub uuid_line : Metadata → List ℕ
uuid_line metadata = line (codes "uuid " ++ uuid_text metadata.uuid)

-- when the entry says it was made
abbrev pub created_line : Metadata → List ℕ
created_line metadata = line (codes "created " ++ created_text metadata.creation_time)

-- a colon and the column, where there is one
abbrev pub column_text : Option ℕ → List ℕ
column_text None = []
column_text (Some column) = codes ":" ++ decimal column

-- the line, and the column where there is one
abbrev pub place : Location → List ℕ
place location = decimal location.line ++ column_text location.column

-- a blank and the quoted value, where there is a constraint
abbrev pub constraint_text : Option Constraint → List ℕ
constraint_text None = []
constraint_text (Some constraint) = codes " " ++ quoted_text constraint.value

-- a waypoint: its number, its action, its type, its place and its constraint
abbrev pub waypoint_line : List ℕ → ℕ → Waypoint → List ℕ
waypoint_line action number waypoint =
    line (codes "waypoint " ++ decimal number ++ codes " " ++ action ++ codes " " ++ way_word waypoint.kind ++ codes " "
    ++ place waypoint.location ++ constraint_text waypoint.constraint)

-- an invariant: its number, its type, its place and its expression
abbrev pub invariant_line : ℕ → Invariant → List ℕ
invariant_line number invariant =
    line (codes "invariant " ++ decimal number ++ codes " " ++ invariant_word invariant.kind ++ codes " "
    ++ place invariant.location ++ codes " " ++ quoted_text invariant.value)

-- the avoids of a segment, the first having this number
abbrev pub avoid_lines : ℕ → List Waypoint → List ℕ
avoid_lines number [] = []
avoid_lines number (waypoint ∷ waypoints) = waypoint_line (codes "avoid") number waypoint ++ avoid_lines (number + 1) waypoints

-- its avoids, then its follow
abbrev pub segment_lines : ℕ → Segment → List ℕ
segment_lines number segment =
    avoid_lines number segment.avoids ++ waypoint_line (codes "follow") (number + length segment.avoids) segment.follow

-- how many waypoints it has
abbrev pub segment_size : Segment → ℕ
segment_size segment = length segment.avoids + 1

-- a line for each waypoint of segments, the first having this number
abbrev pub sequence_lines : ℕ → List Segment → List ℕ
sequence_lines number [] = []
sequence_lines number (segment ∷ segments) = segment_lines number segment ++ sequence_lines (number + segment_size segment) segments

-- how many waypoints segments have
abbrev pub sequence_size : List Segment → ℕ
sequence_size [] = 0
sequence_size (segment ∷ segments) = segment_size segment + sequence_size segments

-- a line for each invariant, the first having this number
abbrev pub invariant_lines : ℕ → List Invariant → List ℕ
invariant_lines number [] = []
invariant_lines number (invariant ∷ invariants) = invariant_line number invariant ++ invariant_lines (number + 1) invariants

-- a line for each waypoint or invariant, the first having this number
abbrev pub content_lines : ℕ → Content → List ℕ
content_lines number (Violation segments) = sequence_lines number segments
content_lines number (Invariants invariants) = invariant_lines number invariants

-- how many waypoints or invariants an entry has
abbrev pub content_size : Content → ℕ
content_size (Violation segments) = sequence_size segments
content_size (Invariants invariants) = length invariants

-- what an entry says of itself, and what it claims
unfoldable pub entry_lines : ℕ → ℕ → Entry → List ℕ
entry_lines position number entry =
    entry_line position entry.content ++ producer_line entry.metadata ++ uuid_line entry.metadata ++ created_line entry.metadata
    ++ content_lines number entry.content

-- entries are numbered, and waypoints or invariants over all entries
abbrev pub entries_lines : ℕ → ℕ → List Entry → List ℕ
entries_lines position number [] = []
entries_lines position number (entry ∷ entries) =
    entry_lines position number entry ++ entries_lines (position + 1) (number + content_size entry.content) entries

-- the whole text
unfoldable pub summary_of : Witness → List ℕ
summary_of witness = entries_lines 1 1 witness.entries
