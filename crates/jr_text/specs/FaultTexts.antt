-- Believed: what the faults print.
use Rattle.std.specs.Prelude.{ℕ, List, ◌++◌, codes, decimal}
use Rattle.jr_text.specs.declared.faults.NumFault.{NumFault}
use Rattle.jr_text.specs.declared.faults.NumFault.TheVariants.{NoDigits, BadUnit, UnitOutOfScope, TooLarge}
use Rattle.jr_text.specs.declared.faults.TextFault.{TextFault}
use Rattle.jr_text.specs.declared.faults.TextFault.TheVariants.{TooLong, NotUtf8, OpenBracket, EmptyName, Outside, Memory}

abbrev pub number_fault_text : NumFault → List ℕ
number_fault_text NoDigits = codes "no digits"
number_fault_text BadUnit = codes "no such unit"
number_fault_text UnitOutOfScope = codes "unit out of scope"
number_fault_text TooLarge = codes "number too large"

-- what is wrong at a line
abbrev pub at_line : ℕ → List ℕ → List ℕ
at_line line what = codes "job file: line " ++ decimal line ++ what

abbrev pub text_fault_text : TextFault → List ℕ
text_fault_text TooLong = codes "job file: longer than 1048576 bytes"
text_fault_text NotUtf8 = codes "job file: not UTF-8"
text_fault_text (OpenBracket line) = at_line line (codes ": no closing bracket")
text_fault_text (EmptyName line) = at_line line (codes ": empty section name")
text_fault_text (Outside line) = at_line line (codes ": option before any section")
text_fault_text Memory = codes "out of memory"
