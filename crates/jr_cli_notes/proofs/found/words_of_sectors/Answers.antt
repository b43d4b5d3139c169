use Rattle.std.proofs.Common.{append_assoc}
use Rattle.jr_cli_notes.proofs.found.words_of_sectors.Goals as goal

pub returns : goal.returns
returns c = simp (c.in_ok-push_sectors.ensures, c.in_ok-text.ensures.ok, c.as_slice.ensures.value, append_assoc)
