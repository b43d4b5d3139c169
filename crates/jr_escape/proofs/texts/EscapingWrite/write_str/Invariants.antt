use Rattle.std.proofs.Common.{◌≡◌}
use Rattle.std.specs.Prelude.{flat_map}
use Rattle.std.specs.Fmt.{HasWritten, IsPlainFormatter}
use Rattle.jr_escape.specs.Writers.{shown_char}
use Rattle.jr_escape.proofs.texts.EscapingWrite.write_str.Given as goal

abbrev pub invariant-loop-c : goal.invariant-loop-c
invariant-loop-c g l =
    (l.self.to.ghost_name ≡ l.initial.self.to.ghost_name)
    × (l.self.keeps_breaks ≡ l.initial.self.keeps_breaks)
    × (IsPlainFormatter l.initial.self.to.now → HasWritten g.W.Write.write_str_gives l.initial.self.to.now (flat_map (shown_char l.initial.self.keeps_breaks) l.yielded) l.self.to.now)
