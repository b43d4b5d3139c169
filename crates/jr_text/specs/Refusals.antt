-- Believed: why a text is no job file, want of memory aside.
use Rattle.std.specs.Prelude.{ℕ, List, Option}
use Rattle.std.specs.Result.{result_err}
use Rattle.jr_text.specs.declared.faults.TextFault.{TextFault}
use Rattle.jr_text.specs.JobText.{sections_of}

-- the text's first fault, where it has one
abbrev pub refusal_of : List ℕ → Option TextFault
refusal_of text = result_err (sections_of text)
