-- Internal: the text of a fault of the program that has no fault of another crate in it.
use Rattle.std.specs.Prelude.{◌≡◌, ℕ, List}
use Rattle.jr_cli_words.specs.FaultTexts.{fault_text}
use Rattle.jr_cli_words.specs.declared.faults.CliFault.{CliFault}
use Rattle.jr_cli_words.specs.declared.faults.CliFault.TheVariants as fault

-- of one that has another's, nothing is said
abbrev pub IsOwnText : CliFault → List ℕ → Type 0
IsOwnText (fault.Text _) text = Unit {0}
IsOwnText (fault.Job _) text = Unit {0}
IsOwnText (fault.Ledger _) text = Unit {0}
IsOwnText (fault.Run _) text = Unit {0}
IsOwnText (fault.Trace _) text = Unit {0}
IsOwnText other text = text ≡ fault_text other
