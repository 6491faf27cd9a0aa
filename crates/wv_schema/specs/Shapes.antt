-- The form of the segments of a violation sequence, and of the entries of a witness.
use Rattle.std.specs.Prelude.{ℕ, ◌+◌, ◌-◌, ◌^◌, List, [], ◌∷◌, Bool, true, false, not, ◌&&◌, ◌||◌, nat_le, min, Option, Some, None, option_map, count_by, if◌then◌else◌, codes}
use Rattle.std.specs.List.{list_any}
use Rattle.std.specs.Str.{bytes_eq}
use Rattle.wv_yaml.specs.declared.tree.Tree.{Tree}
use Rattle.wv_schema.specs.declared.fault.SchemaFault.{SchemaFault}
use Rattle.wv_schema.specs.declared.fault.SchemaFault.TheVariants.{Shape, Entries}
use Rattle.wv_schema.specs.declared.witness.WayKind.{WayKind}
use Rattle.wv_schema.specs.declared.witness.WayKind.TheVariants.{Assumption, Target, FunctionEnter, FunctionReturn, Branching}
use Rattle.wv_schema.specs.declared.witness.Content.{Content}
use Rattle.wv_schema.specs.declared.witness.Content.TheVariants.{Violation, Invariants}
use Rattle.wv_schema.specs.declared.witness.Entry.{Entry}
use Rattle.wv_schema.specs.Judging.{when_not}
use Rattle.wv_schema.specs.Values.{text_at, kind_at, waypoint_pairs, front, last, steps_in}

-- its action is `follow`
unfoldable pub is_follow : Tree → Bool
is_follow t = bytes_eq (text_at (codes "action") (waypoint_pairs t)) (codes "follow")

-- the type `target`
abbrev pub is_target_kind : WayKind → Bool
is_target_kind Assumption = false
is_target_kind Target = true
is_target_kind FunctionEnter = false
is_target_kind FunctionReturn = false
is_target_kind Branching = false

-- a target
unfoldable pub is_target : Tree → Bool
is_target t = is_target_kind (kind_at (waypoint_pairs t))

-- nothing is left
abbrev pub is_end : {X : Type 0} → List X → Bool
is_end [] = true
is_end (x ∷ xs) = false

-- What may be wrong with a segment, by the trees of its waypoints: its last waypoint isn't follow; a waypoint before its last
-- is follow; it holds a target elsewhere than as the follow of the final segment; it is the final segment and doesn't end with
-- a target.
abbrev pub ends_avoiding : List Tree → Bool
ends_avoiding ts = not (is_follow (last ts))

-- a waypoint to follow stands before the last one
abbrev pub follows_early : List Tree → Bool
follows_early ts = list_any is_follow (front ts)

-- a target stands elsewhere than last in the last segment, followed
abbrev pub has_stray_target : Bool → List Tree → Bool
has_stray_target is_final ts = list_any is_target (front ts) || (is_target (last ts) && not (is_final && is_follow (last ts)))

-- the last segment doesn't end with a target
abbrev pub lacks_target : Bool → List Tree → Bool
lacks_target is_final ts = is_final && not (is_target (last ts))

-- it holds no waypoint, or one of these
unfoldable pub is_misshapen : Bool → List Tree → Bool
is_misshapen is_final ts =
    is_end ts || (ends_avoiding ts || (follows_early ts || (has_stray_target is_final ts || lacks_target is_final ts)))

-- the least misshapen segment, the first having this number
abbrev pub misshapen_from : ℕ → List Tree → Option ℕ
misshapen_from n [] = None
misshapen_from n (t ∷ ts) = if is_misshapen (is_end ts) (steps_in t) then Some n else misshapen_from (n + 1) ts

-- a violation sequence without segments counts as having a misshapen first one
abbrev pub misshapen : List Tree → Option ℕ
misshapen [] = Some 1
misshapen (t ∷ ts) = misshapen_from 1 (t ∷ ts)

-- a number beyond the type's end is reported as its end
unfoldable pub shape_fault : List Tree → Option SchemaFault
shape_fault ts = option_map (λ n. Shape (min n (2 ^ 32 - 1))) (misshapen ts)

-- a violation sequence
abbrev pub violates : Content → Bool
violates (Violation segments) = true
violates (Invariants list) = false

-- its content is a violation sequence
abbrev pub is_sequence : Entry → Bool
is_sequence entry = violates entry.content

-- its content is an invariant set
abbrev pub is_set : Entry → Bool
is_set entry = not (violates entry.content)

-- what is wrong with the entries: there is none; there are entries of both types; there are two violation sequences
abbrev pub are_mixed : List Entry → Bool
are_mixed entries = list_any is_sequence entries && list_any is_set entries

-- more than one violation sequence
abbrev pub has_two_sequences : List Entry → Bool
has_two_sequences entries = nat_le 2 (count_by is_sequence entries)

-- no entry, entries of both types, or two violation sequences
unfoldable pub entries_fault : List Entry → Option SchemaFault
entries_fault entries = when_not (not (is_end entries || (are_mixed entries || has_two_sequences entries))) Entries
