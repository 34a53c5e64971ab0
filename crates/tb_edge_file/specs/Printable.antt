-- A path or an argument as a line of standard error shows it: no control character is left in it, so that no escape code reaches a
-- terminal, and one line stays one line.
use Rattle.std.specs.Prelude.{ℕ, ◌≡◌, List, [], ◌∷◌, map, if◌then◌else◌, refl}
use Rattle.std.specs.Char.{is_control}
use Rattle.std.specs.Str.{chars, encode_utf8_all}

-- the character that is shown for a character: `?` for a control character, U+0000 to U+001F and U+007F to U+009F
abbrev pub printable_char : ℕ → ℕ
printable_char c = if is_control c then 63 else c

-- the bytes that are shown for a text in UTF-8
unfoldable pub printable : List ℕ → List ℕ
printable text = encode_utf8_all (map printable_char (chars text))

-- rows

-- `a`, escape, `[`, `2`, `J`, which would clear a terminal, a line end and `b`
pub no_escape_is_shown : printable (97 ∷ 27 ∷ 91 ∷ 50 ∷ 74 ∷ 10 ∷ 98 ∷ []) ≡ 97 ∷ 63 ∷ 91 ∷ 50 ∷ 74 ∷ 63 ∷ 98 ∷ []
unfolding printable chars lib.Utf8.encode
no_escape_is_shown = refl

-- U+009B, which begins an escape code too, and `ä`
pub no_long_escape_is_shown : printable (194 ∷ 155 ∷ 195 ∷ 164 ∷ []) ≡ 63 ∷ 195 ∷ 164 ∷ []
unfolding printable chars lib.Utf8.encode
no_long_escape_is_shown = refl
