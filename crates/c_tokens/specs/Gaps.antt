-- What stands between tokens: blanks, line ends, comments (C11 6.4.9) and directives (C11 6.10).
use Rattle.std.specs.Prelude.{◌+◌, ℕ, Bool, false, List, [], ◌∷◌, ◌==◌, ◌||◌, ◌&&◌, Option, Some, None, drop, if◌then◌else◌, codes}
use Rattle.std.specs.Option.{option_map}
use Rattle.std.specs.List.{prefix_len, position_or_len, take_while}
use Rattle.c_tokens.specs.declared.gap.Gap.{Gap}
use Rattle.c_tokens.specs.declared.gap.Gap.TheVariants.{Space, Refused, Unclosed, Absent}
use Rattle.c_tokens.specs.Bytes.{is_blank, is_digit, is_word_byte, line_feed, form_feed, carriage_return, hash, slash, star}
use Rattle.c_tokens.specs.Numbers.{is_spelled}

-- how many bytes stand before the line's end
abbrev pub line_length : List ℕ → ℕ
line_length text = position_or_len (λ b. b == line_feed) text

-- the text begins with this byte
abbrev pub begins_with : ℕ → List ℕ → Bool
begins_with b [] = false
begins_with b (c ∷ text) = c == b

-- `*/` stands here
abbrev pub closes : List ℕ → Bool
closes [] = false
closes (b ∷ text) = (b == star) && begins_with slash text

-- how many bytes there are up to the first `*/` and with it
abbrev pub close_length : List ℕ → Option ℕ
close_length [] = None
close_length (b ∷ text) = if closes (b ∷ text) then Some 2 else option_map (λ n. n + 1) (close_length text)

-- a comment of this many bytes up to its end, or one without an end
abbrev pub closed : Option ℕ → Gap
closed None = Unclosed
closed (Some n) = Space (n + 2)

-- what begins with a slash that this text follows
abbrev pub comment : List ℕ → Gap
comment [] = Absent
comment (b ∷ text) = if b == slash then Space (line_length text + 2) else if b == star then closed (close_length text) else Absent

-- whether a directive of this text is passed over: `include`, `line`, `pragma` as whole words, or a digit
abbrev pub is_passed_name : List ℕ → Bool
is_passed_name name = is_spelled (codes "include") name || (is_spelled (codes "line") name || is_spelled (codes "pragma") name)

-- the text begins with a digit
abbrev pub begins_with_digit : List ℕ → Bool
begins_with_digit [] = false
begins_with_digit (b ∷ text) = is_digit b

-- the rest of a directive's line is one that is passed over
abbrev pub is_passed_over : List ℕ → Bool
is_passed_over line =
    let first = drop (prefix_len is_blank line) line in
    begins_with_digit first || is_passed_name (take_while is_word_byte first)

-- what begins with a `#` that this text follows
abbrev pub directive : List ℕ → Gap
directive text = if is_passed_over text then Space (line_length text + 1) else Refused

-- what stands between tokens here; only blanks stand before it on its line, or not
abbrev pub gap : Bool → List ℕ → Gap
gap fresh [] = Absent
gap fresh (b ∷ text) =
    if is_blank b || ((b == line_feed) || (b == form_feed)) then Space 1
    else if (b == carriage_return) && begins_with line_feed text then Space 2
    else if fresh && (b == hash) then directive text
    else if b == slash then comment text
    else Absent
