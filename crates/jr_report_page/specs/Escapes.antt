-- Believed: how a text of a job file stands in a page: as a line of the program shows it, but that no character of it begins a tag, ends one
-- or ends an attribute's value (HTML, "Writing HTML documents").
use Rattle.std.specs.Prelude.{ℕ, ◌==◌, List, codes, chars, flat_map, if◌then◌else◌}
use Rattle.jr_escape.specs.Escapes.{escaped_char as shown_char}

-- the bytes of a character in a page
abbrev pub escaped_char : ℕ → List ℕ
escaped_char c =
    if c == 38 then codes "&amp;"
    else (if c == 60 then codes "&lt;"
    else (if c == 62 then codes "&gt;"
    else (if c == 34 then codes "&quot;"
    else (if c == 39 then codes "&#39;"
    else shown_char c))))

-- those of a text
abbrev pub escaped : List ℕ → List ℕ
escaped text = flat_map escaped_char (chars text)
