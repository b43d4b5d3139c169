use Rattle.std.proofs.Common.{◌≡◌, ℕ, ◌<◌, length, get_or, take}
use Rattle.std.specs.Prelude.{Option}
use Rattle.jr_report_maps.specs.Firsts.{first_bad}
use Rattle.jr_report_maps.proofs.firsts.note_all.Given as goal
use Rattle.jr_desk_totals.specs.declared.tallies.Bad.{Bad}

abbrev pub invariant-loop-bad : goal.invariant-loop-bad
invariant-loop-bad l = (cell : ℕ) (d : Option Bad) → cell < length l.firsts
    → get_or l.firsts cell d ≡ first_bad l.plan (take l.bad-index l.bads) l.file l.size cell
