-- Lines of chains, and what stands between them.
use Rattle.std.proofs.Common.{◌≡◌, ◌<◌, ◌≤◌, ◌+◌, ℕ, List, [], ◌∷◌, ◌++◌, ℤ, false, suc, length, drop, take, get_or, codes, decimal, to_z, of_z, w32, append_assoc, arith, refl, sym, ap, subst, ◌∙◌}
use Rattle.std.specs.Fmt.{signed_decimal}
use Rattle.std.specs.List.{All, flat_map}
use Rattle.std.proofs.lemmas.Int.{fits_signed_from_abs, to_z-of_z}
use Rattle.std.proofs.lemmas.List.{drop_more, flat_map_more, length-append, take_all}
use Rattle.std.proofs.lemmas.List.Elements.{All-more, All-push}
use Rattle.clauses.specs.Clause.{IsNumber, IsClause}
use Rattle.clauses.specs.declared.log.Chain.{Chain}
use Rattle.clauses.specs.declared.log.Resolve.{Resolve}
use Rattle.wv_cert.specs.Reading.{EndsNumber, Passes}
use Rattle.wv_cert.specs.Text.{IsSmall, IsStep, IsChain, number_text, step_text, steps_text, clause_text, chain_line}
use Rattle.wv_cert.proofs.Digits.{one_number}
use Rattle.wv_cert.proofs.Items.{AreItems, AreLines, Ends, ends_after, stuck, one_list}
use Rattle.wv_cert.proofs.Shapes.{numbers_are, steps_are}

-- ---- things in a row, read one after the other

-- one more of them
pub items_more : {A : Type 0} (text_of : A → List ℕ) (done : List A) (a : A) (before now mid after : List ℕ) → flat_map text_of done ++ now ≡ before → now ≡ mid
    → mid ≡ text_of a ++ after → flat_map text_of (done ++ a ∷ []) ++ after ≡ before
items_more text_of done a before now mid after is same more =
    ap (λ t. t ++ after) (sym (flat_map_more text_of [] done a)) ∙ append_assoc (flat_map text_of done) (text_of a) after
    ∙ ap (λ t. flat_map text_of done ++ t) (sym (same ∙ more)) ∙ is

-- the word after them
pub items_done : {A : Type 0} (text_of : A → List ℕ) (word : List ℕ) (done : List A) (before now after : List ℕ) → flat_map text_of done ++ now ≡ before
    → now ≡ word ++ after → before ≡ (flat_map text_of done ++ word) ++ after
items_done text_of word done before now after is last =
    sym is ∙ ap (λ t. flat_map text_of done ++ t) last ∙ sym (append_assoc (flat_map text_of done) word after)

-- neither the word nor one more of them
pub items_stuck : {A : Type 0} (IsFine : A → Type 0) (text_of : A → List ℕ) (word : List ℕ) → AreItems IsFine text_of word → (done : List A) (before now mid : List ℕ)
    → All IsFine done → Ends done now → flat_map text_of done ++ now ≡ before → Passes word now false mid
    → ((a : A) (rest : List ℕ) → IsFine a → EndsNumber rest → mid ≡ text_of a ++ rest → ⊥)
    → (these : List A) (rest : List ℕ) → All IsFine these → before ≡ (flat_map text_of these ++ word) ++ rest → ⊥
items_stuck IsFine text_of word are done before now mid fine ends is passed none these rest good spelled =
    stuck IsFine text_of word are done these now rest fine good ends (is ∙ spelled ∙ append_assoc (flat_map text_of these) word rest) passed.1
    (λ a left one stops here. none a left one stops (sym passed.0 ∙ here))

-- what is left is shorter
pub shorter : (before text after : List ℕ) → 0 < length text → before ≡ text ++ after → length after < length before
shorter before text after some is = omega (arith, ap length is, length-append text after)

-- ---- resolutions and clauses

steps_end : (steps : List Resolve) (x : List ℕ) → EndsNumber (steps_text steps ++ x)
steps_end steps x = subst EndsNumber (sym (append_assoc (flat_map step_text steps) (codes " =") x)) (ends_after IsStep step_text (codes " =") steps_are steps x)

one_row : (ss ts : List Resolve) (x y : List ℕ) → All IsStep ss → All IsStep ts → steps_text ss ++ x ≡ steps_text ts ++ y → (ss ≡ ts) × (x ≡ y)
one_row ss ts x y fine good is =
    one_list IsStep step_text (codes " =") steps_are ss ts x y fine good
    (sym (append_assoc (flat_map step_text ss) (codes " =") x) ∙ is ∙ append_assoc (flat_map step_text ts) (codes " =") y)

pub one_clause : (a b : List ℤ) (x y : List ℕ) → All IsNumber a → All IsNumber b → clause_text a ++ x ≡ clause_text b ++ y → (a ≡ b) × (x ≡ y)
one_clause a b x y fine good is =
    one_list IsNumber number_text (codes "\n") numbers_are a b x y fine good
    (sym (append_assoc (flat_map number_text a) (codes "\n") x) ∙ is ∙ append_assoc (flat_map number_text b) (codes "\n") y)

-- numbers that aren't those of a clause
pub no_clause : (before after : List ℕ) (numbers : List ℤ) → All IsNumber numbers → before ≡ clause_text numbers ++ after → (IsClause numbers → ⊥)
    → (c : List ℤ) (rest : List ℕ) → IsClause c → before ≡ clause_text c ++ rest → ⊥
no_clause before after numbers fine is none c rest good spelled =
    let same = one_clause numbers c after rest fine good.real (sym is ∙ spelled) in
    none (subst IsClause (sym same.0) good)

-- ---- chains

chain_shape : (c : Chain) (rest : List ℕ) → chain_line c ++ rest ≡ decimal c.start ++ (steps_text c.steps ++ (clause_text c.gives ++ rest))
chain_shape c rest =
    append_assoc (decimal c.start ++ steps_text c.steps) (clause_text c.gives) rest ∙ append_assoc (decimal c.start) (steps_text c.steps) (clause_text c.gives ++ rest)

-- a chain begins with a number
pub no_start : (before : List ℕ) → ((n : ℕ) (rest : List ℕ) → IsSmall n → EndsNumber rest → before ≡ decimal n ++ rest → ⊥)
    → (c : Chain) (rest : List ℕ) → IsChain c → before ≡ chain_line c ++ rest → ⊥
no_start before none c rest fine is =
    none c.start (steps_text c.steps ++ (clause_text c.gives ++ rest)) fine.start (steps_end c.steps (clause_text c.gives ++ rest)) (is ∙ chain_shape c rest)

-- after its start
pub chain_second : (before after rest : List ℕ) (c : Chain) (start : ℕ) → IsSmall start → before ≡ decimal start ++ after → EndsNumber after → IsChain c
    → before ≡ chain_line c ++ rest → (start ≡ c.start) × (after ≡ steps_text c.steps ++ (clause_text c.gives ++ rest))
chain_second before after rest c start small is ends fine spelled =
    one_number start c.start after (steps_text c.steps ++ (clause_text c.gives ++ rest)) (omega (arith, small)) (omega (arith, fine.start)) ends
    (steps_end c.steps (clause_text c.gives ++ rest)) (sym is ∙ spelled ∙ chain_shape c rest)

-- after its resolutions
pub chain_third : (before after mid rest : List ℕ) (c : Chain) (start : ℕ) (steps : List Resolve) → IsSmall start → before ≡ decimal start ++ after → EndsNumber after
    → All IsStep steps → after ≡ steps_text steps ++ mid → IsChain c → before ≡ chain_line c ++ rest → (steps ≡ c.steps) × (mid ≡ clause_text c.gives ++ rest)
chain_third before after mid rest c start steps small is ends good row fine spelled =
    one_row steps c.steps mid (clause_text c.gives ++ rest) good fine.steps (sym row ∙ (chain_second before after rest c start small is ends fine spelled).1)

pub chain_read : (before after mid rest : List ℕ) (c : Chain) → before ≡ decimal c.start ++ after → after ≡ steps_text c.steps ++ mid → mid ≡ clause_text c.gives ++ rest
    → before ≡ chain_line c ++ rest
chain_read before after mid rest c start steps gives =
    start ∙ ap (λ t. decimal c.start ++ t) (steps ∙ ap (λ t. steps_text c.steps ++ t) gives) ∙ sym (chain_shape c rest)

same_chain : (a b : Chain) → a.start ≡ b.start → a.steps ≡ b.steps → a.gives ≡ b.gives → a ≡ b
same_chain a b start steps gives =
    let first : a ≡ record { start = b.start; steps = a.steps; gives = a.gives } = ap (λ (n : ℕ). record { start = n; steps = a.steps; gives = a.gives }) start in
    let second : record { start = b.start; steps = a.steps; gives = a.gives } ≡ record { start = b.start; steps = b.steps; gives = a.gives }
    = ap (λ (s : List Resolve). record { start = b.start; steps = s; gives = a.gives }) steps in
    let third : record { start = b.start; steps = b.steps; gives = a.gives } ≡ b = ap (λ (g : List ℤ). record { start = b.start; steps = b.steps; gives = g }) gives in
    first ∙ second ∙ third

pub one_chain : AreLines IsChain chain_line
one_chain a b x y fine good is =
    let shape = chain_shape a x in
    let second = chain_second (chain_line a ++ x) (steps_text a.steps ++ (clause_text a.gives ++ x)) y b a.start fine.start shape (steps_end a.steps (clause_text a.gives ++ x)) good is in
    let third = one_row a.steps b.steps (clause_text a.gives ++ x) (clause_text b.gives ++ y) fine.steps good.steps second.1 in
    let last = one_clause a.gives b.gives x y fine.gives.real good.gives.real third.1 in
    (same_chain a b second.0 third.0 last.0, last.1)

-- ---- loops that read things in a row

pub row_fine : {A : Type 0} (IsFine : A → Type 0) (done new : List A) (a : A) → new ≡ done ++ a ∷ [] → All IsFine done → IsFine a → All IsFine new
row_fine IsFine done new a is fine one = subst (All IsFine) (sym is) (All-push IsFine done a fine one)

pub row_so_far : {A : Type 0} (text_of : A → List ℕ) (done new : List A) (a : A) (before now mid after : List ℕ) → new ≡ done ++ a ∷ []
    → flat_map text_of done ++ now ≡ before → now ≡ mid → mid ≡ text_of a ++ after → flat_map text_of new ++ after ≡ before
row_so_far text_of done new a before now mid after is so_far same more =
    ap (λ list. flat_map text_of list ++ after) is ∙ items_more text_of done a before now mid after so_far same more

pub row_shorter : {A : Type 0} (text_of : A → List ℕ) (a : A) (now mid after : List ℕ) → 0 < length (text_of a) → now ≡ mid → mid ≡ text_of a ++ after → length after < length now
row_shorter text_of a now mid after some same more = shorter now (text_of a) after some (same ∙ more)

-- ---- loops that read lines

pub lines_read : {A : Type 0} (text_of : A → List ℕ) (done new : List A) (a : A) (before now after : List ℕ) → new ≡ done ++ a ∷ []
    → flat_map text_of done ++ now ≡ before → now ≡ text_of a ++ after → flat_map text_of new ++ after ≡ before
lines_read text_of done new a before now after is so_far more = row_so_far text_of done new a before now now after is so_far refl more

pub step_some : (s : Resolve) → 0 < length (step_text s)
step_some s = let more : length (step_text s) ≡ suc (length ((decimal s.with ++ 58 ∷ []) ++ decimal s.on)) = refl in omega (arith, more)

pub number_some : (z : ℤ) → 0 < length (number_text z)
number_some z = let more : length (number_text z) ≡ suc (length (signed_decimal z)) = refl in omega (arith, more)

-- the machine's form of a number of a clause
pub as_kept : (done new : List ℤ) (z : ℤ) → new ≡ done ++ to_z w32 (of_z w32 z) ∷ [] → IsNumber z → new ≡ done ++ z ∷ []
as_kept done new z is fine = is ∙ ap (λ x. done ++ x ∷ []) (to_z-of_z w32 z (fits_signed_from_abs w32 z fine.1))

-- ---- loops that write

pub written_more : {A : Type 0} (text_of : A → List ℕ) (list : List A) (i : ℕ) (d : A) (out before more : List ℕ) → i < length list
    → out ++ flat_map text_of (drop i list) ≡ before → more ≡ out ++ text_of (get_or list i d) → more ++ flat_map text_of (drop (i + 1) list) ≡ before
written_more text_of list i d out before more inside so_far written =
    ap (λ t. t ++ flat_map text_of (drop (i + 1) list)) written ∙ append_assoc out (text_of (get_or list i d)) (flat_map text_of (drop (i + 1) list))
    ∙ ap (λ rest. out ++ flat_map text_of rest) (sym (drop_more list i d inside)) ∙ so_far

pub item_written : {A : Type 0} (text_of : A → List ℕ) (list : List A) (i : ℕ) (x : A) (out before more : List ℕ) → i < length list → x ≡ get_or list i x
    → out ++ flat_map text_of (drop i list) ≡ before → more ≡ out ++ text_of x → more ++ flat_map text_of (drop (i + 1) list) ≡ before
item_written text_of list i x out before more inside is so_far written =
    written_more text_of list i x out before more inside so_far (written ∙ ap (λ y. out ++ text_of y) is)

pub fine_more : {A : Type 0} (IsFine : A → Type 0) (items list : List A) (i : ℕ) (x : A) → items ≡ list → i < length items → x ≡ get_or items i x
    → All IsFine (take i list) → IsFine x → All IsFine (take (i + 1) list)
fine_more IsFine items list i x same inside is all one =
    All-more IsFine list i x (omega (arith, inside, ap length same)) all (subst IsFine (is ∙ ap (λ l. get_or l i x) same) one)

pub fine_all : {A : Type 0} (IsFine : A → Type 0) (items list : List A) (i : ℕ) → items ≡ list → length items ≤ i → All IsFine (take i items) → All IsFine list
fine_all IsFine items list i same past all = subst (All IsFine) (take_all i items past ∙ same) all
