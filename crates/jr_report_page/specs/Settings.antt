-- Believed: when and where a run was, over which devices and by what text, as a page says it (of this project).
use Rattle.std.specs.Prelude.{ℕ, ◌/◌, ◌%◌, ◌==◌, List, [], ◌++◌, Option, Some, None}
use Rattle.std.specs.Prelude.{codes, chars, decimal, flat_map, length, if◌then◌else◌}
use Rattle.jr_report_json.specs.Json.{FileFacts, Setting}
use Rattle.jr_report_page.specs.Escapes.{escaped, escaped_char}
use Rattle.jr_report_page.specs.Rows.{number_cell, text_cell}

abbrev pub ended_text : Option (List ℕ) → List ℕ
ended_text None = []
ended_text (Some time) = codes " to " ++ escaped time

-- seconds with three decimals
abbrev pub took_text : Option ℕ → List ℕ
took_text None = []
took_text (Some ms) =
    codes ", " ++ decimal (ms / 1000) ++ codes "." ++ decimal (ms % 1000 / 100) ++ decimal (ms % 100 / 10) ++ decimal (ms % 10)
    ++ codes " s"

abbrev pub host_text : Option (List ℕ) → List ℕ
host_text None = []
host_text (Some host) = codes ", on " ++ escaped host

-- when it was, how long it took, and on which host; nothing if its beginning isn't known
abbrev pub times_text : Setting → Option (List ℕ) → List ℕ
times_text setting None = []
times_text setting (Some began) =
    codes "<p>From " ++ escaped began ++ ended_text setting.ended ++ took_text setting.milliseconds ++ host_text setting.host
    ++ codes "</p>\n"

unfoldable pub setting_text : Setting → List ℕ
setting_text setting = times_text setting setting.began

-- a cell with what may not be known
abbrev pub said_cell : Option (List ℕ) → List ℕ
said_cell None = text_cell []
said_cell (Some text) = text_cell text

abbrev pub size_cell : Option ℕ → List ℕ
size_cell None = text_cell []
size_cell (Some size) = number_cell size

abbrev pub file_row : FileFacts → List ℕ
file_row file =
    codes "<tr>" ++ text_cell file.name ++ said_cell file.model ++ said_cell file.serial ++ size_cell file.size ++ codes "</tr>\n"

-- the devices of the files, where there are files
unfoldable pub files_table : List FileFacts → List ℕ
files_table files =
    codes "<h2>Files</h2>\n<div class=\"table\"><table class=\"files\">\n<tr><th>file</th>"
    ++ codes "<th>model</th><th>serial</th><th>device size</th></tr>\n" ++ flat_map file_row files ++ codes "</table></div>\n"

abbrev pub files_text : List FileFacts → List ℕ
files_text files = if length files == 0 then [] else files_table files

-- the text of the job: its line feeds are kept
abbrev pub job_char : ℕ → List ℕ
job_char c = if c == 10 then codes "\n" else escaped_char c

abbrev pub job_lines : List ℕ → List ℕ
job_lines text = flat_map job_char (chars text)

unfoldable pub job_text : List ℕ → List ℕ
job_text text = codes "<h2>Job</h2>\n<pre>" ++ job_lines text ++ codes "\n</pre>\n"

abbrev pub known_job_text : Option (List ℕ) → List ℕ
known_job_text None = []
known_job_text (Some text) = job_text text

unfoldable pub surroundings_text : List FileFacts → Setting → List ℕ
surroundings_text files setting = files_text files ++ known_job_text setting.job
