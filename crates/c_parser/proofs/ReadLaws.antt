-- What stood there, where something was read.
use Rattle.std.proofs.Common.{◌≡◌, ℕ, ◌≤◌, List, [], ◌∷◌, drop, Bool, true, false, refl, sym, ap, ◌∙◌, cond, Option, Some, None, nat_lt}
use Rattle.std.proofs.lemmas.Bool.{ltb-false}
use Rattle.c_core.specs.declared.number.Spot.{Spot}
use Rattle.c_tokens.specs.declared.token.Token.{Token}
use Rattle.c_tokens.specs.declared.token.TokenKind.{TokenKind}
use Rattle.c_tokens.specs.declared.token.TokenKind.TheVariants as kind
use Rattle.c_tokens.specs.declared.token.Punct.{Punct}
use Rattle.c_parser.specs.Tree.{Exp, Expr, Node}
use Rattle.c_parser.specs.Heights.{height_in}
use Rattle.c_parser.specs.Signs.{◌>>=◌, token, sign_token, word_token, sign_at, word_at, is_sign, is_word}
use Rattle.c_parser.specs.Words.{is_name}
use Rattle.c_parser.specs.ReadExpressions.{closing, grown}
use Rattle.c_parser.specs.Declarations.{name_of, name_at}
use Rattle.c_parser.proofs.SignLaws.{some_same, taken}
use Rattle.c_parser.proofs.WordLaws.{spelled_same}

pub bind_some : {A B : Type 0} (o : Option A) (f : A → Option B) (y : B) → (o >>= f) ≡ Some y → (x : A) × (o ≡ Some x) × (f x ≡ Some y)
bind_some None f y e = absurd (cc)
bind_some (Some x) f y e = (x, refl, e)

-- by the test that chose
pub chosen : {A Z : Type 0} (b : Bool) (x y z : A) → cond b x y ≡ z → (b ≡ true → x ≡ z → Z) → (b ≡ false → y ≡ z → Z) → Z
chosen true x y z e then other = then refl e
chosen false x y z e then other = other refl e

-- the same of a test that waits
pub parted : {A Z : Type 0} (b : Bool) (x y z : A) → elim b [ true ↦ x | false ↦ y ] ≡ z → (b ≡ true → x ≡ z → Z) → (b ≡ false → y ≡ z → Z) → Z
parted true x y z e then other = then refl e
parted false x y z e then other = other refl e

pub none_some : {A Z : Type 0} (x : A) → None ≡ Some x → Z
none_some x e = absurd (cc)

-- a sign stood there, and was passed
pub closed : {X : Type 0} (s : Punct) (x : X) (ts : List Token) (r : X × List Token) → closing s x ts ≡ Some r → (p : Spot) × (ts ≡ sign_token s p ∷ r.1) × (x ≡ r.0)
closed {X = X} s x ts r e =
    chosen (is_sign s ts) (Some (x, drop 1 ts)) None (Some r) e
    (λ f g.
    let t = taken s ts f in
    let q = some_same g in
    (t.0, t.1 ∙ ap (λ (y : X × List Token). sign_token s t.0 ∷ y.1) q, ap (λ (y : X × List Token). y.0) q))
    (λ f g. none_some r g)

pub grown_is : (h : ℕ) (p : Spot) (n : Node) (ts : List Token) (r : Exp × List Token) → grown h p n ts ≡ Some r → (height_in n ≤ h) × ((Expr p n, ts) ≡ r)
grown_is h p n ts r e = chosen (nat_lt h (height_in n)) None (Some (Expr p n, ts)) (Some r) e (λ f g. none_some r g) (λ f g. (ltb-false h (height_in n) f, some_same g))

sign_kind : {A : Type 0} (f : Punct → Option A) (k : TokenKind) (p : Spot) (ts : List Token) (x : A) → (sign_at (token k p ∷ ts) >>= f) ≡ Some x → (s : Punct) × (q : Spot) × (token k p ∷ ts ≡ sign_token s q ∷ ts) × (f s ≡ Some x)
sign_kind f (kind.Word w) p ts x e = none_some x e
sign_kind f (kind.Number v d u l) p ts x e = none_some x e
sign_kind f (kind.Char v) p ts x e = none_some x e
sign_kind f kind.Str p ts x e = none_some x e
sign_kind f (kind.Punct s) p ts x e = (s, p, refl, e)

-- a sign of a table stood there
pub sign_in : {A : Type 0} (f : Punct → Option A) (ts : List Token) (x : A) → (sign_at ts >>= f) ≡ Some x → (s : Punct) × (q : Spot) × (ts ≡ sign_token s q ∷ drop 1 ts) × (f s ≡ Some x)
sign_in f [] x e = none_some x e
sign_in f (t ∷ ts) x e = sign_kind f t.kind t.spot ts x e

word_kind : (k : TokenKind) (p : Spot) (ts : List Token) (w : List ℕ) → word_at (token k p ∷ ts) ≡ Some w → token k p ∷ ts ≡ word_token w p ∷ ts
word_kind (kind.Word v) p ts w e = ap (λ (x : List ℕ). word_token x p ∷ ts) (some_same e)
word_kind (kind.Number v d u l) p ts w e = none_some w e
word_kind (kind.Char v) p ts w e = none_some w e
word_kind kind.Str p ts w e = none_some w e
word_kind (kind.Punct s) p ts w e = none_some w e

-- a word stood there
pub word_in : (ts : List Token) (w : List ℕ) → word_at ts ≡ Some w → (p : Spot) × (ts ≡ word_token w p ∷ drop 1 ts)
word_in [] w e = none_some w e
word_in (t ∷ ts) w e = (t.spot, word_kind t.kind t.spot ts w e)

name_of_word : (o : Option (List ℕ)) (w : List ℕ) → name_of o ≡ Some w → (o ≡ Some w) × (is_name w ≡ true)
name_of_word None w e = none_some w e
name_of_word (Some v) w e = chosen (is_name v) (Some v) None (Some w) e (λ f g. (g, ap is_name (sym (some_same g)) ∙ f)) (λ f g. none_some w g)

-- a name stood there
pub name_in : (ts : List Token) (w : List ℕ) → name_at ts ≡ Some w → (p : Spot) × (ts ≡ word_token w p ∷ drop 1 ts) × (is_name w ≡ true)
name_in ts w e = let f = name_of_word (word_at ts) w e in let g = word_in ts w f.0 in (g.0, g.1, f.1)

same_word_kind : (v : List ℕ) (k : TokenKind) (p : Spot) (ts : List Token) → is_word v (token k p ∷ ts) ≡ true → token k p ∷ ts ≡ word_token v p ∷ ts
same_word_kind v (kind.Word w) p ts e = ap (λ (x : List ℕ). word_token x p ∷ ts) (spelled_same v w e)
same_word_kind v (kind.Number x d u l) p ts e = absurd (cc)
same_word_kind v (kind.Char x) p ts e = absurd (cc)
same_word_kind v kind.Str p ts e = absurd (cc)
same_word_kind v (kind.Punct s) p ts e = absurd (cc)

-- the word stands there
pub word_taken : (v : List ℕ) (ts : List Token) → is_word v ts ≡ true → (p : Spot) × (ts ≡ word_token v p ∷ drop 1 ts)
word_taken v [] e = absurd (cc)
word_taken v (t ∷ ts) e = (t.spot, same_word_kind v t.kind t.spot ts e)
