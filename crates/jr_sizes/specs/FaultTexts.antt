-- Believed: what the faults print.
use Rattle.std.specs.Prelude.{ℕ, List, codes}
use Rattle.jr_sizes.specs.declared.faults.SplitFault.{SplitFault}
use Rattle.jr_sizes.specs.declared.faults.SplitFault.TheVariants.{TooMany, BadSize, BadPercent, Over, Under}

abbrev pub split_fault_text : SplitFault → List ℕ
split_fault_text TooMany = codes "more than 64 entries"
split_fault_text BadSize = codes "bad size"
split_fault_text BadPercent = codes "bad percent"
split_fault_text Over = codes "more than 100 percent"
split_fault_text Under = codes "less than 100 percent"
