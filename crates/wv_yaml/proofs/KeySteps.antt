-- Keys, from what the code has read.
use Rattle.std.proofs.Common.{◌≡◌, ℕ, ◌+◌, List, [], ◌∷◌, length, drop, Bool, true, false, refl, sym, ap, ◌∙◌, Option, Some, None, arith, ◌==◌, ◌&&◌, nat_le, ◌||◌}
use Rattle.std.proofs.lemmas.Bool.{cond-true, cond-false}
use Rattle.std.proofs.lemmas.List.{drop-drop}
use Rattle.std.proofs.lemmas.Str.{chars_from_encodes}
use Rattle.std.specs.Str.{chars, IsUtf8}
use Rattle.std.proofs.lemmas.Option.{same_Some}
use lib.Utf8.{encodes}
use Rattle.yaml_scalars.specs.declared.fault.YamlFault.{YamlFault}
use Rattle.yaml_scalars.specs.declared.fault.YamlFault.TheVariants.{Bytes, Grammar, Duplicate, OutOfMemory}
use Rattle.yaml_lines.specs.Chunks.{◌>>=◌, provided}
use Rattle.yaml_lines.specs.Marks.{begins_with, trimmed, parted, without_end}
use Rattle.yaml_scalars.specs.Plain.{plain_start, cut, stops}
use Rattle.yaml_scalars.specs.Quoted.{quoted, step_in}
use Rattle.yaml_scalars.specs.Tokens.{max_key, first_quote}
use Rattle.wv_yaml.specs.Inline.{key, colon, is_colon, quoted_key, plain_key, named}
use Rattle.yaml_scalars.specs.Gives.{with_text, Fails}

regroup : (a b c : Bool) → (a && (b && c)) ≡ ((a && b) && c)
regroup true b c = refl
regroup false b c = refl

colon_by : (v rest : List ℕ) → colon v rest ≡ provided (is_colon rest && nat_le (length v) max_key) (Some (v, drop 1 rest))
colon_by v [] = refl
colon_by v (c ∷ cs) = ap (λ (b : Bool). provided b (Some (v, cs))) (regroup (c == 58) (parted cs) (nat_le (length v) max_key))

-- what the code has of a key's end
abbrev pub ends_key : List ℕ → List ℕ → Bool
ends_key value rest = is_colon rest && nat_le (length (chars value)) max_key

colon_gives : (v out rest : List ℕ) (b : Bool) → out ≡ encodes v → IsUtf8 out → b ≡ ends_key out rest → named (colon v rest) ≡ provided b (Some (out, drop 1 rest))
colon_gives v out rest b o u k =
    let same : v ≡ chars out = chars_from_encodes v out u (sym o) in
    ap named (colon_by v rest) ∙ ap (λ (xs : List ℕ). named (provided (is_colon rest && nat_le (length xs) max_key) (Some (v, drop 1 rest)))) same
    ∙ ap (λ (x : Bool). named (provided x (Some (v, drop 1 rest)))) (sym k) ∙ by_test b
  where
    by_test : (x : Bool) → named (provided x (Some (v, drop 1 rest))) ≡ provided x (Some (out, drop 1 rest))
    by_test true = ap (λ xs. Some (xs, drop 1 rest)) (sym o)
    by_test false = refl

-- what the code has read of a quoted scalar
pub record Read (o : Option (List ℕ × ℕ)) (out : List ℕ) (count : ℕ) : Type 0 where
  pub value : List ℕ
  pub is : o ≡ Some (value, count)
  pub bytes : out ≡ encodes value

pub read_of : (o : Option (List ℕ × ℕ)) (out : List ℕ) (count : ℕ) → with_text [] o ≡ Some (out, count) → Read o out count
read_of None out count e = absurd (cc)
read_of (Some (v, n)) out count e =
    let p : (encodes v, n) ≡ (out, count) = same_Some _ _ e in
    record { value = v; is = ap (λ m. Some (v, m)) (ap (λ (r : List ℕ × ℕ). r.1) p); bytes = sym (ap (λ (r : List ℕ × ℕ). r.0) p) }

pub quoted_key_gives : (d : Bool) (text out after rest : List ℕ) (count : ℕ) (b : Bool) → with_text [] (quoted (step_in d) 0 text) ≡ Some (out, count) → IsUtf8 out →
    after ≡ drop count text → rest ≡ trimmed after → b ≡ ends_key out rest → named (quoted_key (quoted (step_in d) 0) text) ≡ provided b (Some (out, drop 1 rest))
quoted_key_gives d text out after rest count b e u a r k =
    let w = read_of (quoted (step_in d) 0 text) out count e in
    ap (λ (o : Option (List ℕ × ℕ)). named (o >>= λ q. colon q.0 (trimmed (drop q.1 text)))) w.is
    ∙ ap (λ xs. named (colon w.value (trimmed xs))) (sym a) ∙ ap (λ xs. named (colon w.value xs)) (sym r) ∙ colon_gives w.value out rest b w.bytes u k

pub plain_key_gives : (text value out rest : List ℕ) (b : Bool) → plain_start parted text ≡ true → value ≡ without_end (cut stops false text).0 → rest ≡ (cut stops false text).1 →
    out ≡ encodes value → IsUtf8 out → b ≡ ends_key out rest → named (plain_key text) ≡ provided b (Some (out, drop 1 rest))
plain_key_gives text value out rest b s v r o u k =
    ap (λ (x : Bool). named (provided x (colon (without_end (cut stops false text).0) (cut stops false text).1))) s
    ∙ ap (λ xs. named (colon xs (cut stops false text).1)) (sym v) ∙ ap (λ xs. named (colon value xs)) (sym r) ∙ colon_gives value out rest b o u k

pub plain_key_off : (text rest : List ℕ) → plain_start parted text ≡ true → rest ≡ (cut stops false text).1 → is_colon rest ≡ false → named (plain_key text) ≡ None
plain_key_off text rest s r off =
    let value = without_end (cut stops false text).0 in
    ap (λ (x : Bool). named (provided x (colon value (cut stops false text).1))) s
    ∙ ap (λ xs. named (colon value xs)) (sym r) ∙ ap named (colon_by value rest ∙ ap (λ (b : Bool). provided (b && nat_le (length value) max_key) (Some (value, drop 1 rest))) off)

pub given : {A : Type 0} (b : Bool) (x : A) (o : Option A) → o ≡ provided b (Some x) → b ≡ true → o ≡ Some x
given b x o e t = e ∙ ap (λ v. provided v (Some x)) t

pub refused : {A : Type 0} (b : Bool) (x : A) (o : Option A) → o ≡ provided b (Some x) → b ≡ false → o ≡ None
refused b x o e t = e ∙ ap (λ v. provided v (Some x)) t

pub key_place : (text after rest : List ℕ) (count g : ℕ) → after ≡ drop count text → rest ≡ drop g after → drop 1 rest ≡ drop (count + g + 1) text
key_place text after rest count g a r =
    let n : count + (g + 1) ≡ count + g + 1 = omega arith in
    ap (drop 1) r ∙ drop-drop 1 g after ∙ ap (drop (g + 1)) a ∙ drop-drop (g + 1) count text ∙ ap (λ k. drop k text) n

-- a key that begins with a quote
pub key_quote : (text rest : List ℕ) (b : Bool) → first_quote text ≡ true → b ≡ begins_with 34 text → rest ≡ drop 1 text → key text ≡ quoted_key (quoted (step_in b) 0) rest
key_quote [] rest b h k r = absurd (cc)
key_quote (c ∷ cs) rest b h k r = at_double (c == 34) refl ∙ ap (quoted_key (quoted (step_in b) 0)) (sym r)
  where
    single : (c == 34) ≡ false → (c == 39) ≡ true
    single e = ap (λ (v : Bool). v || (c == 39)) (sym e) ∙ h

    at_double : (v : Bool) → (c == 34) ≡ v → key (c ∷ cs) ≡ quoted_key (quoted (step_in b) 0) cs
    at_double true e = cond-true (c == 34) _ _ e ∙ ap (λ (v : Bool). quoted_key (quoted (step_in v) 0) cs) (sym (k ∙ e))
    at_double false e = cond-false (c == 34) _ _ e ∙ cond-true (c == 39) _ _ (single e) ∙ ap (λ (v : Bool). quoted_key (quoted (step_in v) 0) cs) (sym (k ∙ e))

-- a refusal goes on
pub still_fails : {A B : Type 0} (fault : YamlFault) (o : Option A) (f : A → Option B) → Fails fault o → Fails fault (o >>= f)
still_fails Bytes o f e = e
still_fails Grammar o f e = ap (λ x. x >>= f) e
still_fails Duplicate o f e = e
still_fails OutOfMemory o f e = tt
