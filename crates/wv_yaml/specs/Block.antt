-- Block collections (YAML 1.2.2, 8.2), from the outside in.
use Rattle.std.specs.Prelude.{ℕ, zero, suc, ◌+◌, List, [], ◌∷◌, length, drop, Bool, true, false, ◌==◌, ◌&&◌, ◌||◌, not, nat_lt, Option, Some, None, if◌then◌else◌}
use Rattle.yaml_lines.specs.Line.{Line, line_at}
use Rattle.wv_yaml.specs.declared.tree.Tree.{Tree}
use Rattle.wv_yaml.specs.declared.tree.Tree.TheVariants as tree
use Rattle.wv_yaml.specs.declared.tree.Pair.{Pair}
use Rattle.yaml_lines.specs.Chunks.{chunked, ◌>>=◌, collected}
use Rattle.yaml_lines.specs.Marks.{trimmed, gap, nothing, quiet, ahead, dash}
use Rattle.wv_yaml.specs.Flow.{pair_of, as_list, as_map}

-- a line that begins an item or a pair, with the lines that are more indented
abbrev pub Chunk : Type 0
Chunk = Line × List Line

-- an entry of a sequence at n, or a pair of a mapping at n, begins with this line
abbrev pub is_item : ℕ → Line → Bool
is_item n l = (l.indent == n) && dash l.text

-- a line that begins a pair at this indentation
abbrev pub is_pair : ℕ → Line → Bool
is_pair n l = (l.indent == n) && (not (dash l.text) && not (quiet l.text))

-- there are only spaces
abbrev pub all_spaces : List ℕ → Bool
all_spaces [] = true
all_spaces (c ∷ cs) = (c == 32) && all_spaces cs

abbrev pub has_key : Option (List ℕ × List ℕ) → Bool
has_key None = false
has_key (Some k) = true

-- a block collection begins so
abbrev pub opens : (List ℕ → Option (List ℕ × List ℕ)) → List ℕ → Bool
opens key text = dash text || has_key (key text)

-- a line on which the value of an indicator at n may stand; own: of a key, whose sequence may stand at n itself
abbrev pub is_under : Bool → ℕ → Line → Bool
is_under own n l = nat_lt n l.indent || (own && is_item n l)

-- `inline here n text body`: the scalar or flow collection that begins with this text after an indicator at n, and goes on
-- over the body's lines up to their end; `here` tells whether it stands on the indicator's line.
-- `key text`: the key that the text begins with, and what follows its colon. `read`: the collection that lines are.
module _ (inline : Bool → ℕ → List ℕ → List Line → Option Tree) (key : List ℕ → Option (List ℕ × List ℕ)) where
  -- what stands on the lines after an indicator at n
  abbrev pub below : (List Line → Option Tree) → Bool → ℕ → List Line → Option Tree
  below read own n [] = Some (tree.Text [])
  below read own n (l ∷ ls) =
      if is_under own n l then (if opens key l.text then read (l ∷ ls) else inline false n (trimmed l.text) ls) else None

  -- what follows `:` of a pair at n
  abbrev pub value_of : (List Line → Option Tree) → ℕ → List ℕ → List Line → Option Tree
  value_of read n text body = if nothing text then below read true n (ahead body) else inline true n text body

  -- What follows `-` of an entry at n, the first line being a collection's if blanks in front of it are spaces.
  abbrev pub entry_of : (List Line → Option Tree) → ℕ → Bool → Line → List Line → Option Tree
  entry_of read n compact l body =
      if nothing l.text then below read false n (ahead body)
      else (if compact && opens key l.text then read (l ∷ body) else inline true n l.text body)

  abbrev pub item : (List Line → Option Tree) → ℕ → Chunk → Option Tree
  item read n c =
      let blanks = gap (drop 1 c.0.text) in
      entry_of read n (all_spaces blanks) (line_at (n + 1 + length blanks) (trimmed (drop 1 c.0.text)) c.0.ended) c.1

  abbrev pub pair : (List Line → Option Tree) → ℕ → Chunk → Option Pair
  pair read n c = key c.0.text >>= λ k. value_of read n (trimmed k.1) c.1 >>= λ v. Some (pair_of k.0 v)

  abbrev pub sequence : (List Line → Option Tree) → Line → List Line → Option Tree
  sequence read l ls = as_list (collected (item read l.indent) (chunked (is_item l.indent) (l ∷ ls)).1)

  abbrev pub mapping : (List Line → Option Tree) → Line → List Line → Option Tree
  mapping read l ls = as_map (collected (pair read l.indent) (chunked (is_pair l.indent) (l ∷ ls)).1)

  -- the collection whose first line is this one
  abbrev pub collection : (List Line → Option Tree) → Line → List Line → Option Tree
  collection read l ls =
      if dash l.text then sequence read l ls else (if quiet l.text then None else mapping read l ls)

-- with at most this many collections in one another
unfoldable pub block : (ℕ → Bool → ℕ → List ℕ → List Line → Option Tree) → (List ℕ → Option (List ℕ × List ℕ)) → ℕ → List Line → Option Tree
block inline key zero ls = None
block inline key (suc d) [] = None
block inline key (suc d) (l ∷ ls) = collection (inline d) key (block inline key d) l ls
