-- Believed: what a page begins and ends with (HTML, "Writing HTML documents"; how it looks is of this project).
use Rattle.std.specs.Prelude.{ℕ, Bool, List, ◌++◌, codes, if◌then◌else◌}
use Rattle.jr_report_page.specs.Escapes.{escaped}
use Rattle.jr_report_page.specs.declared.styles.TheConstants.{STYLE}

-- the first line is marked where something was found
abbrev pub found_head : Bool → List ℕ
found_head has_found = if has_found then codes "<h1 class=\"found\">" else codes "<h1>"

unfoldable pub line_text : List ℕ → Bool → List ℕ
line_text title has_found = found_head has_found ++ escaped title ++ codes "</h1>\n"

-- the document up to its first line, which is its title
unfoldable pub head_text : List ℕ → Bool → List ℕ
head_text title has_found =
    codes "<!DOCTYPE html>\n<html lang=\"en\">\n<head>\n<meta charset=\"utf-8\">\n"
    ++ codes "<meta name=\"viewport\" content=\"width=device-width, initial-scale=1\">\n<title>" ++ escaped title
    ++ codes " - fiorun</title>\n<style>" ++ STYLE.now ++ codes "</style>\n</head>\n<body>\n" ++ line_text title has_found

abbrev pub tail_text : List ℕ
tail_text = codes "</body>\n</html>\n"
