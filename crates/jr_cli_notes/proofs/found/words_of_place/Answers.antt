use Rattle.std.proofs.Common.{string_bytes, append_assoc}
use Rattle.std.proofs.lemmas.Bool.{lt-ltb, le-ltb}
use Rattle.jr_cli_notes.specs.Words.{place_words}
use Rattle.jr_cli_notes.proofs.WordLemmas.{ok_same}
use Rattle.jr_cli_notes.proofs.found.words_of_place.Goals as goal

pub returns-then-there-here : goal.returns-then-there-here
returns-then-there-here c =
    ok_same string_bytes c.format.result _ (place_words c.args.here c.args.there)
    (simp (lt-ltb c.args.here c.args.there c.if-there-here.true, append_assoc))
    c.format.ensures.ok

pub returns-else-there-here : goal.returns-else-there-here
returns-else-there-here c =
    ok_same string_bytes c.format-else-there-here.result _ (place_words c.args.here c.args.there)
    (simp (le-ltb c.args.here c.args.there c.if-there-here.false, append_assoc))
    c.format-else-there-here.ensures.ok
