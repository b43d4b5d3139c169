-- Believed: by which fault the program ends where the files of its plan are refused.
use Rattle.jr_io_files.specs.declared.faults.FileFault.{FileFault}
use Rattle.jr_io_files.specs.declared.faults.FileFault.TheVariants as file
use Rattle.jr_cli_words.specs.declared.faults.CliFault.{CliFault}
use Rattle.jr_cli_words.specs.declared.faults.CliFault.TheVariants as fault

abbrev pub files_fault : FileFault → CliFault
files_fault (file.File index) = fault.Open
files_fault file.Memory = fault.Memory
