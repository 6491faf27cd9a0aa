-- Flow collections (YAML 1.2.2, 7.4), from their tokens.
use Rattle.std.specs.Prelude.{◌≡◌, ℕ, zero, suc, ◌-◌, List, [], ◌∷◌, ◌++◌, Bool, true, false, ◌==◌, ◌&&◌, Option, Some, None, if◌then◌else◌}
use Rattle.yaml_scalars.specs.declared.token.Token.{Token}
use Rattle.yaml_scalars.specs.declared.token.Token.TheVariants.{OpenList, CloseList, OpenMap, CloseMap, Comma, Key, Word}
use Rattle.wv_yaml.specs.declared.tree.Tree.{Tree}
use Rattle.wv_yaml.specs.declared.tree.Tree.TheVariants as tree
use Rattle.wv_yaml.specs.declared.tree.Pair.{Pair}
use Rattle.yaml_lines.specs.Chunks.{Pairwise, ◌>>=◌, collected, provided}
use Rattle.yaml_lines.specs.Marks.{is_end}

-- a key with its value
abbrev pub pair_of : List ℕ → Tree → Pair
pair_of k v = record { key = k; value = v }

abbrev pub as_list : Option (List Tree) → Option Tree
as_list o = o >>= λ ts. Some (tree.List ts)

abbrev pub as_map : Option (List Pair) → Option Tree
as_map o = o >>= λ ps. Some (tree.Map ps)

abbrev pub is_comma : Token → Bool
is_comma Comma = true
is_comma OpenList = false
is_comma CloseList = false
is_comma OpenMap = false
is_comma CloseMap = false
is_comma (Key v) = false
is_comma (Word v) = false

abbrev pub closes_list : Token → Bool
closes_list CloseList = true
closes_list OpenList = false
closes_list OpenMap = false
closes_list CloseMap = false
closes_list Comma = false
closes_list (Key v) = false
closes_list (Word v) = false

abbrev pub closes_map : Token → Bool
closes_map CloseMap = true
closes_map OpenList = false
closes_map CloseList = false
closes_map OpenMap = false
closes_map Comma = false
closes_map (Key v) = false
closes_map (Word v) = false

-- how many collections are open after a token
abbrev pub open_after : ℕ → Token → ℕ
open_after k OpenList = suc k
open_after k OpenMap = suc k
open_after k CloseList = k - 1
open_after k CloseMap = k - 1
open_after k Comma = k
open_after k (Key v) = k
open_after k (Word v) = k

abbrev pub to_part : Token → List Token × List (List Token) → List Token × List (List Token)
to_part t r = (t ∷ r.0, r.1)

abbrev pub new_part : List Token × List (List Token) → List Token × List (List Token)
new_part r = ([], r.0 ∷ r.1)

-- the parts between the commas outside inner collections, k of which are open: the first, and the others
abbrev pub parts : ℕ → List Token → List Token × List (List Token)
parts k [] = ([], [])
parts k (t ∷ ts) = if is_comma t && (k == 0) then new_part (parts 0 ts) else to_part t (parts (open_after k t) ts)

-- the parts of a collection, where a comma before the end is allowed
abbrev pub without_empty_last : List Token → List (List Token) → List (List Token)
without_empty_last p [] = p ∷ []
without_empty_last p (q ∷ []) = if is_end q then p ∷ [] else p ∷ q ∷ []
without_empty_last p (q ∷ r ∷ rs) = p ∷ without_empty_last q (r ∷ rs)

abbrev pub entries_of : List Token → List (List Token)
entries_of [] = []
entries_of (t ∷ ts) = let r = parts 0 (t ∷ ts) in without_empty_last r.0 r.1

-- what stands before the last token, where that closes
abbrev pub before_last : (Token → Bool) → List Token → Option (List Token)
before_last closes [] = None
before_last closes (t ∷ []) = provided (closes t) (Some [])
before_last closes (t ∷ u ∷ ts) = before_last closes (u ∷ ts) >>= λ front. Some (t ∷ front)

-- the last token closes, and what stands before it
abbrev pub closer : Bool → Token → Bool
closer true = closes_list
closer false = closes_map

abbrev pub flow_word : List Token → Option Tree
flow_word [] = None
flow_word (Word v ∷ []) = Some (tree.Text v)
flow_word (t ∷ ts) = None

-- a pair, where `read` reads its value
abbrev pub flow_pair : (List Token → Option Tree) → List Token → Option Pair
flow_pair read [] = None
flow_pair read (Key k ∷ ts) = read ts >>= λ v. Some (pair_of k v)
flow_pair read (t ∷ ts) = None

-- a scalar or a collection, where `read` reads what is in the collection
abbrev pub flow_value : (List Token → Option Tree) → List Token → Option Tree
flow_value read [] = None
flow_value read (OpenList ∷ ts) = before_last closes_list ts >>= λ inner. as_list (collected read (entries_of inner))
flow_value read (OpenMap ∷ ts) = before_last closes_map ts >>= λ inner. as_map (collected (flow_pair read) (entries_of inner))
flow_value read (t ∷ ts) = flow_word (t ∷ ts)

-- with at most this many collections in one another
unfoldable pub flow : ℕ → List Token → Option Tree
flow zero ts = flow_word ts
flow (suc d) ts = flow_value (flow d) ts

-- The same as relations.

-- parts with a comma between each two, and maybe one at the end
pub data Separated : List (List Token) → List Token → Type 0 where
  NoPart : Separated [] []
  LastPart : (p : List Token) → Separated (p ∷ []) p
  LastComma : (p : List Token) → Separated (p ∷ []) (p ++ (Comma ∷ []))
  NextPart : (p q : List Token) (ps : List (List Token)) (ts : List Token) → Separated (q ∷ ps) ts → Separated (p ∷ q ∷ ps) (p ++ (Comma ∷ ts))

-- a pair of a flow mapping
pub record PairOf (R : List Token → Tree → Type 0) (ts : List Token) (p : Pair) : Type 0 where
  pub rest : List Token
  pub key : ts ≡ Key p.key ∷ rest
  pub value : R rest p.value

-- a value in flow style (YAML 1.2.2, 7.4)
pub data FlowValue (R : List Token → Tree → Type 0) : List Token → Tree → Type 0 where
  FlowWord : (v : List ℕ) → FlowValue R (Word v ∷ []) (tree.Text v)
  FlowList : (entries : List (List Token)) (inner : List Token) (items : List Tree) → Separated entries inner → Pairwise R entries items →
      FlowValue R (OpenList ∷ (inner ++ (CloseList ∷ []))) (tree.List items)
  FlowMap : (entries : List (List Token)) (inner : List Token) (pairs : List Pair) → Separated entries inner → Pairwise (PairOf R) entries pairs →
      FlowValue R (OpenMap ∷ (inner ++ (CloseMap ∷ []))) (tree.Map pairs)

-- the tokens are one scalar
abbrev pub IsFlowWord : List Token → Tree → Type 0
IsFlowWord ts t = (v : List ℕ) × (ts ≡ Word v ∷ []) × (t ≡ tree.Text v)

-- with at most this many collections in one another
unfoldable pub Flow : ℕ → List Token → Tree → Type 0
Flow zero ts t = IsFlowWord ts t
Flow (suc d) ts t = FlowValue (Flow d) ts t
