-- Believed: how a text that others chose is shown (of this project). The characters that a line may not have are those that a terminal or a
-- browser obeys or doesn't show: the controls (Unicode's Cc), and of the format characters (Cf) those that turn text around, join it, or
-- are invisible.
use Rattle.std.specs.Prelude.{ℕ, ◌==◌, ◌||◌, Bool, false, List, ◌++◌, codes, chars, flat_map, if◌then◌else◌}
use Rattle.std.specs.Char.{encode_utf8, is_control}
use Rattle.std.specs.Fmt.{digits}
use Rattle.std.specs.Int.{is_in_range}

-- soft hyphen; Arabic letter mark; Mongolian vowel separator; zero width spaces, joiners and marks; separators of lines and paragraphs,
-- embeddings and overrides; word joiner, isolates and deprecated controls; byte order mark; annotations; tags
abbrev pub is_format : ℕ → Bool
is_format c =
    (c == 0xad) || (c == 0x61c) || (c == 0x180e) || is_in_range 0x200b 0x200f c || is_in_range 0x2028 0x202e c
    || is_in_range 0x2060 0x206f c || (c == 0xfeff) || is_in_range 0xfff9 0xfffb c || is_in_range 0xe0000 0xe007f c

abbrev pub is_hidden : ℕ → Bool
is_hidden c = is_control c || is_format c

-- the bytes of a character as it is shown: `\n`, `\r`, `\t` and `\\`, and of any other that is hidden its number, as `\u{1b}`
abbrev pub escaped_char : ℕ → List ℕ
escaped_char c =
    if c == 10 then codes "\\n"
    else (if c == 13 then codes "\\r"
    else (if c == 9 then codes "\\t"
    else (if c == 92 then codes "\\\\"
    else (if is_hidden c then codes "\\u{" ++ digits 16 false c ++ codes "}"
    else encode_utf8 c))))

-- those of a text
abbrev pub escaped : List ℕ → List ℕ
escaped text = flat_map escaped_char (chars text)

-- those of a text of several lines, whose line feeds stay
abbrev pub lines_char : ℕ → List ℕ
lines_char c = if c == 10 then codes "\n" else escaped_char c

abbrev pub escaped_lines : List ℕ → List ℕ
escaped_lines text = flat_map lines_char (chars text)
