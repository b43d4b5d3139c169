use Rattle.std.proofs.Common.{string_bytes, append_assoc}
use Rattle.jr_cli_notes.specs.Words.{words_of}
use Rattle.jr_cli_notes.proofs.WordLemmas.{ok_same}
use Rattle.jr_cli_notes.proofs.found.words_of.Goals as goal

pub returns-in-OtherWrite : goal.returns-in-OtherWrite
returns-in-OtherWrite c =
    ok_same string_bytes c.format-in-OtherWrite.result _ (words_of c.args.found.now)
    (simp (c.in-OtherWrite.is, append_assoc))
    c.format-in-OtherWrite.ensures.ok
