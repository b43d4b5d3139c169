-- Claimed: what holds of every text that is shown so.
use Rattle.std.specs.Prelude.{◌≡◌, ℕ, ◌==◌, ◌||◌, Bool, false, List, chars}
use Rattle.std.specs.List.{list_any}
use Rattle.std.specs.Str.{IsUtf8}
use Rattle.jr_escape.specs.Escapes.{escaped, is_hidden}

-- none of its characters is one that a line may not have
abbrev pub ShownHidesNothing : Type 0
ShownHidesNothing = (text : List ℕ) → IsUtf8 text → list_any is_hidden (chars (escaped text)) ≡ false

-- a backslash, or such a character
abbrev pub is_changed : ℕ → Bool
is_changed c = (c == 92) || is_hidden c

-- a text with none of these is shown as it is
abbrev pub PlainStays : Type 0
PlainStays = (text : List ℕ) → IsUtf8 text → list_any is_changed (chars text) ≡ false → escaped text ≡ text
