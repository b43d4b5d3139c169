-- Claimed: what an escaped text can't do to the page that it stands in, nor to who reads it.
use Rattle.std.specs.Prelude.{◌≡◌, ℕ, ◌==◌, ◌||◌, Bool, false, List, chars}
use Rattle.std.specs.List.{list_any}
use Rattle.std.specs.Str.{IsUtf8}
use Rattle.jr_escape.specs.Escapes.{is_hidden}
use Rattle.jr_report_page.specs.Escapes.{escaped}

-- <, >, " and '
abbrev pub is_markup : ℕ → Bool
is_markup byte = (byte == 60) || (byte == 62) || (byte == 34) || (byte == 39)

abbrev pub NothingComesRaw : Type 0
NothingComesRaw = (text : List ℕ) → list_any is_markup (escaped text) ≡ false

-- none of its characters turns text around or isn't seen
abbrev pub PageHidesNothing : Type 0
PageHidesNothing = (text : List ℕ) → IsUtf8 text → list_any is_hidden (chars (escaped text)) ≡ false
