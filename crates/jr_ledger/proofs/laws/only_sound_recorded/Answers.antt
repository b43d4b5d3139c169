use Rattle.jr_ledger.proofs.SyncLaws.{only_sound_recorded}
use Rattle.jr_ledger.proofs.laws.only_sound_recorded.Goals as goal

pub returns : goal.returns
returns c = only_sound_recorded
