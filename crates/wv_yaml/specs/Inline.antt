-- Keys, and the values that begin on a line: scalars and flow collections.
use Rattle.std.specs.Prelude.{◌≡◌, ℕ, suc, ◌≤◌, List, [], ◌∷◌, ◌++◌, length, drop, Bool, true, false, ◌==◌, ◌&&◌, ◌||◌, nat_le, Option, Some, None, if◌then◌else◌}
use Rattle.std.specs.Str.{encode_utf8_all}
use Rattle.yaml_lines.specs.Line.{Line}
use Rattle.wv_yaml.specs.declared.tree.Tree.{Tree}
use Rattle.wv_yaml.specs.declared.tree.Tree.TheVariants as tree
use Rattle.yaml_scalars.specs.declared.token.Token.{Token}
use Rattle.yaml_lines.specs.Chunks.{Each, ◌>>=◌, provided}
use Rattle.yaml_lines.specs.Marks.{blank, trimmed, without_end, parted, Quiet}
use Rattle.yaml_scalars.specs.Plain.{plain_start, stops, cut, plain_lines, Part, Continues}
use Rattle.yaml_lines.specs.Lines.{joined}
use Rattle.yaml_scalars.specs.Quoted.{quoted, double_step, single_step, Double, Single}
use Rattle.yaml_scalars.specs.BlockScalar.{block_scalar, BlockText}
use Rattle.yaml_scalars.specs.Tokens.{max_key, tokens, is_silent, Lexed}
use Rattle.wv_yaml.specs.Flow.{flow, Flow}

-- a name, where a colon with a blank or the line's end after it follows; and what follows the colon
abbrev pub colon : List ℕ → List ℕ → Option (List ℕ × List ℕ)
colon name [] = None
colon name (c ∷ cs) = provided ((c == 58) && (parted cs && nat_le (length name) max_key)) (Some (name, cs))

-- a colon with a blank or the line's end after it
abbrev pub is_colon : List ℕ → Bool
is_colon [] = false
is_colon (c ∷ cs) = (c == 58) && parted cs

abbrev pub quoted_key : (List ℕ → Option (List ℕ × ℕ)) → List ℕ → Option (List ℕ × List ℕ)
quoted_key inside cs = inside cs >>= λ r. colon r.0 (trimmed (drop r.1 cs))

abbrev pub plain_key : List ℕ → Option (List ℕ × List ℕ)
plain_key text = provided (plain_start parted text) (let part = cut stops false text in colon (without_end part.0) part.1)

-- the key that a line's text begins with, and what follows its colon
abbrev pub key : List ℕ → Option (List ℕ × List ℕ)
key [] = None
key (c ∷ cs) =
    if c == 34 then quoted_key (quoted double_step 0) cs
    else (if c == 39 then quoted_key (quoted single_step 0) cs
    else plain_key (c ∷ cs))

-- the same, the name as bytes
abbrev pub named : Option (List ℕ × List ℕ) → Option (List ℕ × List ℕ)
named o = o >>= λ k. Some (encode_utf8_all k.0, k.1)

abbrev pub key_bytes : List ℕ → Option (List ℕ × List ℕ)
key_bytes text = named (key text)

abbrev pub as_text : Option (List ℕ) → Option Tree
as_text o = o >>= λ v. Some (tree.Text (encode_utf8_all v))

-- a quoted scalar with nothing after it
abbrev pub quoted_alone : (List ℕ → Option (List ℕ × ℕ)) → List ℕ → Option (List ℕ)
quoted_alone inside cs = inside cs >>= λ r. provided (is_silent (drop r.1 cs)) (Some r.0)

abbrev pub flow_text : ℕ → List ℕ → Option Tree
flow_text d text = tokens false 0 text >>= λ ts. flow d ts

-- `[` and `{`
abbrev pub opens_flow : ℕ → Bool
opens_flow c = (c == 91) || (c == 123)

-- The scalar or flow collection that begins with a text after an indicator at n, and goes on over the lines of the body, up
-- to its end. `here` tells whether it stands on the indicator's line; d more collections may be open.
abbrev pub scalar : Bool → ℕ → List ℕ → List Line → Option (List ℕ)
scalar here n [] body = None
scalar here n (c ∷ cs) body =
    if c == 34 then quoted_alone (quoted double_step 0) (joined (suc n) cs body)
    else (if c == 39 then quoted_alone (quoted single_step 0) (joined (suc n) cs body)
    else (if (c == 124) || (c == 62) then (if here then block_scalar (c == 62) n cs body else None)
    else plain_lines n (c ∷ cs) body))

-- the text begins a flow collection
abbrev pub begins_flow : List ℕ → Bool
begins_flow [] = false
begins_flow (c ∷ cs) = opens_flow c

abbrev pub inline : ℕ → Bool → ℕ → List ℕ → List Line → Option Tree
inline d here n text body = if begins_flow text then flow_text d (joined (suc n) text body) else as_text (scalar here n text body)

-- The same as relations.

-- the text begins with this key, and the rest follows its colon
pub record KeyEnd (name gap rest : List ℕ) : Type 0 where
  pub blanks : Each blank gap
  pub apart : parted rest ≡ true
  pub short : length name ≤ max_key

-- a key with the blanks before its colon, and what is after it (YAML 1.2.2, 7.4, 8.2.2)
pub data KeyAt : List ℕ → List ℕ → List ℕ → Type 0 where
  PlainKey : (text name rest : List ℕ) → plain_start parted text ≡ true → Part stops text name (58 ∷ rest) → KeyEnd name [] rest → KeyAt text name rest
  DoubleKey : (inner name gap rest : List ℕ) → Double inner name (gap ++ (58 ∷ rest)) → KeyEnd name gap rest → KeyAt (34 ∷ inner) name rest
  SingleKey : (inner name gap rest : List ℕ) → Single inner name (gap ++ (58 ∷ rest)) → KeyEnd name gap rest → KeyAt (39 ∷ inner) name rest

-- the same, the name as bytes
abbrev pub KeyText : List ℕ → List ℕ → List ℕ → Type 0
KeyText text name rest = (value : List ℕ) × KeyAt text value rest × (name ≡ encode_utf8_all value)

-- the tokens of the text are a flow collection
abbrev pub FlowText : ℕ → List ℕ → Tree → Type 0
FlowText d text t = (ts : List Token) × Lexed false text ts × Flow d ts t

-- nothing but blanks and comments
abbrev pub Silent : List ℕ → Type 0
Silent text = Lexed false text []

-- a value that begins on a line, and the lines that it goes on over
pub data Inline (d : ℕ) (here : Bool) (n : ℕ) (body : List Line) : List ℕ → Tree → Type 0 where
  -- a plain scalar that goes on over lines, or ends with a comment on its first
  PlainOver : (text value more : List ℕ) → plain_start parted text ≡ true → Part stops text value [] → Continues n body more →
      Inline d here n body text (tree.Text (encode_utf8_all (value ++ more)))
  PlainThen : (text value comment : List ℕ) → plain_start parted text ≡ true → Part stops text value (35 ∷ comment) → Quiet body →
      Inline d here n body text (tree.Text (encode_utf8_all value))
  InDouble : (inner value rest : List ℕ) → Double (joined (suc n) inner body) value rest → Silent rest →
      Inline d here n body (34 ∷ inner) (tree.Text (encode_utf8_all value))
  InSingle : (inner value rest : List ℕ) → Single (joined (suc n) inner body) value rest → Silent rest →
      Inline d here n body (39 ∷ inner) (tree.Text (encode_utf8_all value))
  Literal : (header value : List ℕ) → here ≡ true → BlockText false n header body value → Inline d here n body (124 ∷ header) (tree.Text (encode_utf8_all value))
  Folded : (header value : List ℕ) → here ≡ true → BlockText true n header body value → Inline d here n body (62 ∷ header) (tree.Text (encode_utf8_all value))
  InFlow : (c : ℕ) (cs : List ℕ) (t : Tree) → opens_flow c ≡ true → FlowText d (joined (suc n) (c ∷ cs) body) t → Inline d here n body (c ∷ cs) t
