-- The bytes of a source text and their classes, in ASCII.
use Rattle.std.specs.Prelude.{ℕ, ◌-◌, Bool, ◌&&◌, ◌||◌, ◌==◌, nat_le, if◌then◌else◌}

-- the horizontal tab
abbrev pub tab : ℕ
tab = 9

-- the line feed, which ends a line
abbrev pub line_feed : ℕ
line_feed = 10

-- the form feed
abbrev pub form_feed : ℕ
form_feed = 12

-- the carriage return
abbrev pub carriage_return : ℕ
carriage_return = 13

-- the space
abbrev pub space : ℕ
space = 32

-- `"`
abbrev pub double_quote : ℕ
double_quote = 34

-- `#`
abbrev pub hash : ℕ
hash = 35

-- `'`
abbrev pub quote : ℕ
quote = 39

-- `*`
abbrev pub star : ℕ
star = 42

-- `/`
abbrev pub slash : ℕ
slash = 47

-- `\`
abbrev pub backslash : ℕ
backslash = 92

-- `x`
abbrev pub small_x : ℕ
small_x = 120

-- from the first to the second, both included
abbrev pub is_within : ℕ → ℕ → ℕ → Bool
is_within low high b = nat_le low b && nat_le b high

-- `a` to `z`, `A` to `Z`, `_`
abbrev pub is_letter : ℕ → Bool
is_letter b = is_within 97 122 b || (is_within 65 90 b || (b == 95))

-- `0` to `9`
abbrev pub is_digit : ℕ → Bool
is_digit b = is_within 48 57 b

-- `0` to `7`
abbrev pub is_octal_digit : ℕ → Bool
is_octal_digit b = is_within 48 55 b

-- `0` to `9`, `a` to `f`, `A` to `F`
abbrev pub is_hexadecimal_digit : ℕ → Bool
is_hexadecimal_digit b = is_within 48 57 b || (is_within 97 102 b || is_within 65 70 b)

-- the value of a hexadecimal digit
abbrev pub digit_value : ℕ → ℕ
digit_value b = if nat_le b 57 then b - 48 else if nat_le b 70 then b - 55 else b - 87

-- what goes on with a word (C11 6.4.2.1)
abbrev pub is_word_byte : ℕ → Bool
is_word_byte b = is_letter b || is_digit b

-- what goes on with a number
abbrev pub is_number_byte : ℕ → Bool
is_number_byte b = is_word_byte b || (b == 46)

-- a blank
abbrev pub is_blank : ℕ → Bool
is_blank b = (b == space) || (b == tab)

-- a character that stands for itself between single quotes
abbrev pub is_plain : ℕ → Bool
is_plain b = is_within 32 38 b || (is_within 40 91 b || is_within 93 126 b)
