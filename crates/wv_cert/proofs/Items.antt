-- Texts of lists: things in a row up to a word, and lines in a number.
use Rattle.std.proofs.Common.{◌≡◌, ◌<◌, ◌≤◌, ℕ, List, [], ◌∷◌, ◌++◌, length, append_assoc, arith, refl, sym, ap, subst, ◌∙◌}
use Rattle.std.specs.List.{All, flat_map}
use Rattle.std.proofs.lemmas.List.{append-nil, append_cancel_left, length-append}
use Rattle.std.proofs.lemmas.List.Elements.{All-head, All-tail}
use Rattle.wv_cert.specs.Reading.{EndsNumber}

-- ---- things in a row up to a word

-- a text begins with one such thing at most, a number of it ends where the next one or the word begins, and the word begins none
pub record AreItems {A : Type 0} (IsFine : A → Type 0) (text_of : A → List ℕ) (word : List ℕ) : Type 0 where
  pub one : (a b : A) (x y : List ℕ) → IsFine a → IsFine b → EndsNumber x → EndsNumber y → text_of a ++ x ≡ text_of b ++ y → (a ≡ b) × (x ≡ y)
  pub parted : (a : A) (x : List ℕ) → EndsNumber (text_of a ++ x)
  pub ended : (x : List ℕ) → EndsNumber (word ++ x)
  pub apart : (a : A) (x y : List ℕ) → IsFine a → word ++ x ≡ text_of a ++ y → ⊥

-- a text with the word goes on
pub ends_after : {A : Type 0} (IsFine : A → Type 0) (text_of : A → List ℕ) (word : List ℕ) → AreItems IsFine text_of word → (these : List A) (rest : List ℕ)
    → EndsNumber (flat_map text_of these ++ (word ++ rest))
ends_after IsFine text_of word are [] rest = are.ended rest
ends_after IsFine text_of word are (a ∷ these) rest =
    subst EndsNumber (sym (append_assoc (text_of a) (flat_map text_of these) (word ++ rest))) (are.parted a (flat_map text_of these ++ (word ++ rest)))

-- after at least one of them a number ends
abbrev pub Ends : {A : Type 0} → List A → List ℕ → Type 0
Ends [] now = Unit {0}
Ends (a ∷ these) now = EndsNumber now

ends_between : {A : Type 0} (IsFine : A → Type 0) (text_of : A → List ℕ) (word : List ℕ) → AreItems IsFine text_of word → (these : List A) (now : List ℕ)
    → EndsNumber now → EndsNumber (flat_map text_of these ++ now)
ends_between IsFine text_of word are [] now ends = ends
ends_between IsFine text_of word are (a ∷ these) now ends =
    subst EndsNumber (sym (append_assoc (text_of a) (flat_map text_of these) now)) (are.parted a (flat_map text_of these ++ now))

pub ends_less : {A : Type 0} (these : List A) (now : List ℕ) → EndsNumber now → Ends these now
ends_less [] now ends = tt
ends_less (a ∷ these) now ends = ends

-- what is left of things of which some were read
pub record Left {A : Type 0} (IsFine : A → Type 0) (text_of : A → List ℕ) (these done : List A) (now end : List ℕ) : Type 0 where
  pub more : List A
  pub all : these ≡ done ++ more
  pub fine : All IsFine more
  pub text : now ≡ flat_map text_of more ++ end

pub left_of : {A : Type 0} (IsFine : A → Type 0) (text_of : A → List ℕ) (word : List ℕ) → AreItems IsFine text_of word → (done these : List A) (now rest : List ℕ)
    → All IsFine done → All IsFine these → Ends done now → flat_map text_of done ++ now ≡ flat_map text_of these ++ (word ++ rest)
    → Left IsFine text_of these done now (word ++ rest)
left_of IsFine text_of word are [] these now rest fine good ends is = record { more = these; all = refl; fine = good; text = is }
left_of IsFine text_of word are (d ∷ done) [] now rest fine good ends is =
    absurd (are.apart d rest (flat_map text_of done ++ now) (All-head IsFine d done fine) (sym is ∙ append_assoc (text_of d) (flat_map text_of done) now))
left_of IsFine text_of word are (d ∷ done) (a ∷ these) now rest fine good ends is =
    let regrouped : text_of d ++ (flat_map text_of done ++ now) ≡ text_of a ++ (flat_map text_of these ++ (word ++ rest))
    = sym (append_assoc (text_of d) (flat_map text_of done) now) ∙ is ∙ append_assoc (text_of a) (flat_map text_of these) (word ++ rest) in
    let same = are.one d a _ _ (All-head IsFine d done fine) (All-head IsFine a these good) (ends_between IsFine text_of word are done now ends)
    (ends_after IsFine text_of word are these rest) regrouped in
    let further = left_of IsFine text_of word are done these now rest (All-tail IsFine d done fine) (All-tail IsFine a these good) (ends_less done now ends) same.1 in
    record { more = further.more; all = ap (λ b. b ∷ these) (sym same.0) ∙ ap (λ those. d ∷ those) further.all; fine = further.fine; text = further.text }

next_of : {A : Type 0} (IsFine : A → Type 0) (text_of : A → List ℕ) (word : List ℕ) → AreItems IsFine text_of word → (now rest : List ℕ)
    → ((rest : List ℕ) → now ≡ word ++ rest → ⊥) → ((a : A) (rest : List ℕ) → IsFine a → EndsNumber rest → now ≡ text_of a ++ rest → ⊥)
    → (more : List A) → All IsFine more → now ≡ flat_map text_of more ++ (word ++ rest) → ⊥
next_of IsFine text_of word are now rest no_word no_item [] fine is = no_word rest is
next_of IsFine text_of word are now rest no_word no_item (a ∷ more) fine is =
    no_item a (flat_map text_of more ++ (word ++ rest)) (All-head IsFine a more fine) (ends_after IsFine text_of word are more rest)
    (is ∙ append_assoc (text_of a) (flat_map text_of more) (word ++ rest))

-- where neither the word nor one more thing begins what is left, the text isn't that of such a list
pub stuck : {A : Type 0} (IsFine : A → Type 0) (text_of : A → List ℕ) (word : List ℕ) → AreItems IsFine text_of word → (done these : List A) (now rest : List ℕ)
    → All IsFine done → All IsFine these → Ends done now → flat_map text_of done ++ now ≡ flat_map text_of these ++ (word ++ rest)
    → ((rest : List ℕ) → now ≡ word ++ rest → ⊥) → ((a : A) (rest : List ℕ) → IsFine a → EndsNumber rest → now ≡ text_of a ++ rest → ⊥) → ⊥
stuck IsFine text_of word are done these now rest fine good ends is no_word no_item =
    let here = left_of IsFine text_of word are done these now rest fine good ends is in
    next_of IsFine text_of word are now rest no_word no_item here.more here.fine here.text

last : {A : Type 0} (IsFine : A → Type 0) (text_of : A → List ℕ) (word : List ℕ) → AreItems IsFine text_of word → (these those : List A) (x y : List ℕ)
    → (more : List A) → those ≡ these ++ more → All IsFine more → word ++ x ≡ flat_map text_of more ++ (word ++ y) → (these ≡ those) × (x ≡ y)
last IsFine text_of word are these those x y [] all fine is = (sym (all ∙ append-nil these), append_cancel_left word x y is)
last IsFine text_of word are these those x y (a ∷ more) all fine is =
    absurd (are.apart a x (flat_map text_of more ++ (word ++ y)) (All-head IsFine a more fine) (is ∙ append_assoc (text_of a) (flat_map text_of more) (word ++ y)))

-- a text begins with one such list at most
pub one_list : {A : Type 0} (IsFine : A → Type 0) (text_of : A → List ℕ) (word : List ℕ) → AreItems IsFine text_of word → (these those : List A) (x y : List ℕ)
    → All IsFine these → All IsFine those → flat_map text_of these ++ (word ++ x) ≡ flat_map text_of those ++ (word ++ y) → (these ≡ those) × (x ≡ y)
one_list IsFine text_of word are these those x y fine good is =
    let here = left_of IsFine text_of word are these those (word ++ x) y fine good (ends_less these (word ++ x) (are.ended x)) is in
    last IsFine text_of word are these those x y here.more here.all here.fine here.text

-- ---- lines in a number

-- a text begins with one such line at most
abbrev pub AreLines : {A : Type 0} → (A → Type 0) → (A → List ℕ) → Type 0
AreLines {A} IsFine text_of = (a b : A) (x y : List ℕ) → IsFine a → IsFine b → text_of a ++ x ≡ text_of b ++ y → (a ≡ b) × (x ≡ y)

pub lines_left : {A : Type 0} (IsFine : A → Type 0) (text_of : A → List ℕ) → AreLines IsFine text_of → (done these : List A) (now rest : List ℕ)
    → All IsFine done → All IsFine these → length done ≤ length these → flat_map text_of done ++ now ≡ flat_map text_of these ++ rest
    → Left IsFine text_of these done now rest
lines_left IsFine text_of are [] these now rest fine good few is = record { more = these; all = refl; fine = good; text = is }
lines_left IsFine text_of are (d ∷ done) [] now rest fine good few is = absurd (omega arith)
lines_left IsFine text_of are (d ∷ done) (a ∷ these) now rest fine good few is =
    let regrouped : text_of d ++ (flat_map text_of done ++ now) ≡ text_of a ++ (flat_map text_of these ++ rest)
    = sym (append_assoc (text_of d) (flat_map text_of done) now) ∙ is ∙ append_assoc (text_of a) (flat_map text_of these) rest in
    let same = are d a _ _ (All-head IsFine d done fine) (All-head IsFine a these good) regrouped in
    let further = lines_left IsFine text_of are done these now rest (All-tail IsFine d done fine) (All-tail IsFine a these good) (omega arith) same.1 in
    record { more = further.more; all = ap (λ b. b ∷ these) (sym same.0) ∙ ap (λ those. d ∷ those) further.all; fine = further.fine; text = further.text }

next_line : {A : Type 0} (IsFine : A → Type 0) (text_of : A → List ℕ) (now rest : List ℕ) → ((a : A) (rest : List ℕ) → IsFine a → now ≡ text_of a ++ rest → ⊥)
    → (more : List A) → All IsFine more → now ≡ flat_map text_of more ++ rest → 0 < length more → ⊥
next_line IsFine text_of now rest no_line [] fine is some = omega arith
next_line IsFine text_of now rest no_line (a ∷ more) fine is some =
    no_line a (flat_map text_of more ++ rest) (All-head IsFine a more fine) (is ∙ append_assoc (text_of a) (flat_map text_of more) rest)

-- where what is left doesn't begin with a line that is wanted, the text isn't that of such lines
pub lines_stuck : {A : Type 0} (IsFine : A → Type 0) (text_of : A → List ℕ) → AreLines IsFine text_of → (done these : List A) (now rest : List ℕ)
    → All IsFine done → All IsFine these → length done < length these → flat_map text_of done ++ now ≡ flat_map text_of these ++ rest
    → ((a : A) (rest : List ℕ) → IsFine a → now ≡ text_of a ++ rest → ⊥) → ⊥
lines_stuck IsFine text_of are done these now rest fine good few is no_line =
    let here = lines_left IsFine text_of are done these now rest fine good (omega arith) is in
    next_line IsFine text_of now rest no_line here.more here.fine here.text (omega (arith, ap length here.all, length-append done here.more))

-- a text begins with one list of lines in a number at most
pub one_list_of_lines : {A : Type 0} (IsFine : A → Type 0) (text_of : A → List ℕ) → AreLines IsFine text_of → (these those : List A) (x y : List ℕ)
    → All IsFine these → All IsFine those → length these ≡ length those → flat_map text_of these ++ x ≡ flat_map text_of those ++ y → (these ≡ those) × (x ≡ y)
one_list_of_lines IsFine text_of are [] [] x y fine good many is = (refl, is)
one_list_of_lines IsFine text_of are [] (b ∷ those) x y fine good many is = absurd (omega arith)
one_list_of_lines IsFine text_of are (a ∷ these) [] x y fine good many is = absurd (omega arith)
one_list_of_lines IsFine text_of are (a ∷ these) (b ∷ those) x y fine good many is =
    let regrouped : text_of a ++ (flat_map text_of these ++ x) ≡ text_of b ++ (flat_map text_of those ++ y)
    = sym (append_assoc (text_of a) (flat_map text_of these) x) ∙ is ∙ append_assoc (text_of b) (flat_map text_of those) y in
    let same = are a b _ _ (All-head IsFine a these fine) (All-head IsFine b those good) regrouped in
    let further = one_list_of_lines IsFine text_of are these those x y (All-tail IsFine a these fine) (All-tail IsFine b those good) (omega arith) same.1 in
    (ap (λ c. c ∷ these) same.0 ∙ ap (λ list. b ∷ list) further.0, further.1)
