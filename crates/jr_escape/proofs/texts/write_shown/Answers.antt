use Rattle.std.proofs.Common.{rules}
use Rattle.jr_escape.proofs.WriterLemmas.{shown_is_written}
use Rattle.jr_escape.proofs.texts.write_shown.Goals as goal

pub returns : goal.returns
returns g c =
    shown_is_written _ c.write.result (g.D.Display.output c.args.value.now) _ c.write.new.self _ c.write.ensures.writes (search rules)
