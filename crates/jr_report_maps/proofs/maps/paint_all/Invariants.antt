use Rattle.std.proofs.Common.{◌≡◌, ℕ, ◌<◌, length, get_or, take, map}
use Rattle.jr_report_maps.specs.declared.fates.Fate.{Fate}
use Rattle.jr_report_maps.specs.Marked.{fate_by}
use Rattle.jr_report_maps.specs.Spans.{said_by}
use Rattle.jr_report_maps.proofs.maps.paint_all.Given as goal

abbrev pub invariant-loop-mark : goal.invariant-loop-mark
invariant-loop-mark l = (cell : ℕ) (d : Fate) → cell < length l.fates
    → get_or l.fates cell d ≡ fate_by l.file l.size cell (map said_by (take l.mark-index l.mark-items))
