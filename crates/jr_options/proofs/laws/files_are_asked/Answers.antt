use Rattle.jr_options.proofs.FileNaming.{are_named, are_shared, in_order}
use Rattle.jr_options.proofs.laws.files_are_asked.Goals as goal

pub returns-clause-named : goal.returns-clause-named
returns-clause-named c = are_named

pub returns-clause-shared : goal.returns-clause-shared
returns-clause-shared c = are_shared

pub returns-clause-in_order : goal.returns-clause-in_order
returns-clause-in_order c = in_order
