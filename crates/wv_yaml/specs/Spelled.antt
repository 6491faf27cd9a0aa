-- Which trees block collections spell.
use Rattle.std.specs.Prelude.{◌≡◌, ℕ, zero, suc, ◌+◌, List, [], ◌∷◌, ◌++◌, length, Bool, true, false, ◌⊎◌}
use Rattle.yaml_lines.specs.Line.{Line, line_at}
use Rattle.wv_yaml.specs.declared.tree.Tree.{Tree}
use Rattle.wv_yaml.specs.declared.tree.Tree.TheVariants as tree
use Rattle.wv_yaml.specs.declared.tree.Pair.{Pair}
use Rattle.yaml_lines.specs.Chunks.{Each, Pairwise, unchunked, AreChunks}
use Rattle.yaml_lines.specs.Marks.{blank, trimmed, nothing, quiet, dash, Quiet, Trimmed}
use Rattle.wv_yaml.specs.Flow.{pair_of}
use Rattle.wv_yaml.specs.Block.{Chunk, is_item, is_pair, is_under, all_spaces}

-- `KeyAt text name rest`: the text begins with this key and its colon, and the rest follows. `Inline here n body text t`: the
-- tree is the scalar or flow collection that begins with this text after an indicator at n, and ends with the body's lines.
module _ (KeyAt : List ℕ → List ℕ → List ℕ → Type 0) (Inline : Bool → ℕ → List Line → List ℕ → Tree → Type 0) where
  -- a block collection begins so
  abbrev pub Begins : List ℕ → Type 0
  Begins text = (dash text ≡ true) ⊎ ((name rest : List ℕ) × KeyAt text name rest)

  module _ (R : List Line → Tree → Type 0) where
    -- nothing at all: the empty text
    pub record Nothing (body : List Line) (t : Tree) : Type 0 where
      pub after : Quiet body
      pub is : t ≡ tree.Text []

    -- what stands on later lines begins with this one
    pub record First (own : Bool) (n : ℕ) (body : List Line) (l : Line) (ls : List Line) : Type 0 where
      pub before : List Line
      pub whole : body ≡ before ++ (l ∷ ls)
      pub skipped : Quiet before
      pub loud : quiet l.text ≡ false
      pub under : is_under own n l ≡ true

    -- what stands on the lines after an indicator at n
    pub data Below (own : Bool) (n : ℕ) (body : List Line) (t : Tree) : Type 0 where
      Empty : Nothing body t → Below own n body t
      Nested : (l : Line) (ls : List Line) → First own n body l ls → Begins l.text → R (l ∷ ls) t → Below own n body t
      Later : (l : Line) (ls : List Line) → First own n body l ls → (Begins l.text → ⊥) → Inline false n ls (trimmed l.text) t → Below own n body t

    -- what follows `:` of a pair at n
    pub data Value (n : ℕ) (text : List ℕ) (body : List Line) (t : Tree) : Type 0 where
      Under : nothing text ≡ true → Below true n body t → Value n text body t
      Beside : nothing text ≡ false → Inline true n body text t → Value n text body t

    -- what follows `-` of an entry at n
    pub data Entry (n : ℕ) (compact : Bool) (l : Line) (body : List Line) (t : Tree) : Type 0 where
      EntryUnder : nothing l.text ≡ true → Below false n body t → Entry n compact l body t
      Compact : nothing l.text ≡ false → compact ≡ true → Begins l.text → R (l ∷ body) t → Entry n compact l body t
      EntryBeside : nothing l.text ≡ false → (compact ≡ true → Begins l.text → ⊥) → Inline true n body l.text t → Entry n compact l body t

    -- an item of a block sequence: `-`, blanks, the item (YAML 1.2.2, 8.2.1)
    pub record Item (n : ℕ) (c : Chunk) (t : Tree) : Type 0 where
      pub gap : List ℕ
      pub text : List ℕ
      pub whole : c.0.text ≡ 45 ∷ (gap ++ text)
      pub blanks : Each blank gap
      pub no_more : Trimmed text
      -- the column of what follows is the number of characters before it
      pub entry : Entry n (all_spaces gap) (line_at (n + 1 + length gap) text c.0.ended) c.1 t

    -- a pair of a block mapping: the key, then its value (YAML 1.2.2, 8.2.2)
    pub record PairAt (n : ℕ) (c : Chunk) (p : Pair) : Type 0 where
      pub name : List ℕ
      pub gap : List ℕ
      pub text : List ℕ
      pub value : Tree
      pub whole : KeyAt c.0.text name (gap ++ text)
      pub blanks : Each blank gap
      pub no_more : Trimmed text
      pub spelled : Value n text c.1 value
      pub is : p ≡ pair_of name value

    -- a block sequence from a line on
    pub record Sequence (n : ℕ) (l : Line) (ls : List Line) (t : Tree) : Type 0 where
      pub chunks : List Chunk
      pub items : List Tree
      pub whole : l ∷ ls ≡ unchunked chunks
      pub heads : AreChunks (is_item n) chunks
      pub each : Pairwise (Item n) chunks items
      pub is : t ≡ tree.List items

    -- a block mapping from a line on
    pub record Mapping (n : ℕ) (l : Line) (ls : List Line) (t : Tree) : Type 0 where
      pub chunks : List Chunk
      pub pairs : List Pair
      pub whole : l ∷ ls ≡ unchunked chunks
      pub heads : AreChunks (is_pair n) chunks
      pub each : Pairwise (PairAt n) chunks pairs
      pub is : t ≡ tree.Map pairs

    -- a block collection
    pub data Collection (l : Line) (ls : List Line) (t : Tree) : Type 0 where
      Items : Sequence l.indent l ls t → Collection l ls t
      Pairs : Mapping l.indent l ls t → Collection l ls t

-- with at most this many collections in one another
unfoldable pub Block : (List ℕ → List ℕ → List ℕ → Type 0) → (ℕ → Bool → ℕ → List Line → List ℕ → Tree → Type 0) → ℕ → List Line → Tree → Type 0
Block KeyAt Inline zero ls t = ⊥
Block KeyAt Inline (suc d) [] t = ⊥
Block KeyAt Inline (suc d) (l ∷ ls) t = Collection KeyAt (Inline d) (Block KeyAt Inline d) l ls t
