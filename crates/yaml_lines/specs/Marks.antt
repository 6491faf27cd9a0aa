-- The marks of YAML within one line (YAML 1.2.2, 5.3 to 6.7).
use Rattle.std.specs.Prelude.{◌≡◌, ℕ, zero, suc, List, [], ◌∷◌, Bool, true, false, ◌==◌, ◌&&◌, ◌||◌, if◌then◌else◌}
use Rattle.yaml_lines.specs.Line.{Line}
use Rattle.yaml_lines.specs.Chunks.{Each}

-- a space or a tab
abbrev pub blank : ℕ → Bool
blank c = (c == 32) || (c == 9)

-- nothing is left
abbrev pub is_end : {X : Type 0} → List X → Bool
is_end [] = true
is_end (x ∷ xs) = false

-- the text begins with this character
abbrev pub begins_with : ℕ → List ℕ → Bool
begins_with b [] = false
begins_with b (c ∷ cs) = c == b

-- the text begins with a blank
abbrev pub begins_blank : List ℕ → Bool
begins_blank [] = false
begins_blank (c ∷ cs) = blank c

-- the blanks at the front, and the text without them
abbrev pub gap : List ℕ → List ℕ
gap [] = []
gap (c ∷ cs) = if blank c then c ∷ gap cs else []

-- without the blanks at the front
abbrev pub trimmed : List ℕ → List ℕ
trimmed [] = []
trimmed (c ∷ cs) = if blank c then trimmed cs else c ∷ cs

abbrev pub unless_blank : ℕ → List ℕ → List ℕ
unless_blank c [] = if blank c then [] else c ∷ []
unless_blank c (d ∷ ds) = c ∷ d ∷ ds

-- without the blanks at its end
abbrev pub without_end : List ℕ → List ℕ
without_end [] = []
without_end (c ∷ cs) = unless_blank c (without_end cs)

-- nothing, or a comment
abbrev pub nothing : List ℕ → Bool
nothing [] = true
nothing (c ∷ cs) = c == 35

-- an empty line or a comment line
abbrev pub quiet : List ℕ → Bool
quiet text = nothing (trimmed text)

abbrev pub all_quiet : List Line → Bool
all_quiet [] = true
all_quiet (l ∷ ls) = quiet l.text && all_quiet ls

-- the lines from the first on that isn't quiet
abbrev pub ahead : List Line → List Line
ahead [] = []
ahead (l ∷ ls) = if quiet l.text then ahead ls else l ∷ ls

-- a line of blanks alone
abbrev pub is_empty : Line → Bool
is_empty l = is_end (trimmed l.text)

-- what may stand after a value on its line: nothing, or blanks and maybe a comment
abbrev pub is_tail : List ℕ → Bool
is_tail [] = true
is_tail (c ∷ cs) = blank c && quiet cs

-- after an indicator stands a blank or the line's end
abbrev pub parted : List ℕ → Bool
parted [] = true
parted (c ∷ cs) = blank c

-- an entry of a sequence begins here
abbrev pub dash : List ℕ → Bool
dash [] = false
dash (c ∷ cs) = (c == 45) && parted cs

-- this many spaces in front of a text
abbrev pub indented : ℕ → List ℕ → List ℕ
indented zero text = text
indented (suc n) text = 32 ∷ indented n text

-- this many line feeds
abbrev pub breaks : ℕ → List ℕ
breaks zero = []
breaks (suc k) = 10 ∷ breaks k

-- a line break with k empty lines after it, folded
abbrev pub folded : ℕ → List ℕ
folded zero = 32 ∷ []
folded (suc k) = breaks (suc k)

-- the number of elements that pass
abbrev pub count_of : {X : Type 0} → (X → Bool) → List X → ℕ
count_of p [] = 0
count_of p (x ∷ xs) = if p x then suc (count_of p xs) else count_of p xs

-- text without a blank at its front
abbrev pub Trimmed : List ℕ → Type 0
Trimmed [] = Unit {0}
Trimmed (c ∷ cs) = blank c ≡ false

-- the last character is no blank
abbrev pub EndsWell : List ℕ → Type 0
EndsWell [] = Unit {0}
EndsWell (c ∷ []) = blank c ≡ false
EndsWell (c ∷ d ∷ ds) = EndsWell (d ∷ ds)

-- lines of blanks and comments alone
abbrev pub Quiet : List Line → Type 0
Quiet ls = Each (λ l. quiet l.text) ls
