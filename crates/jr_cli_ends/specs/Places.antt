-- Believed: the list of a run's bad blocks, as it is asked for (of this project).
use Rattle.std.specs.Prelude.{◌≡◌, ℕ, List}
use Rattle.jr_model.specs.declared.events.Event.{Event}
use Rattle.jr_model.specs.Plan.{Plan}
use Rattle.jr_model.specs.Report.{miscompares}
use Rattle.jr_report_maps.specs.BadBlocks.{AreBadBlocks, blocks_text}
use Rattle.jr_report_maps.specs.WrongBlocks.{AreWrongBlocks}

-- the text is the list of the bad blocks of this history, of the only file of its plan
abbrev pub IsListOf : Plan → List Event → ℕ → List ℕ → Type 0
IsListOf plan history size text = (blocks : List ℕ) × AreBadBlocks plan (miscompares history) 0 size blocks × (text ≡ blocks_text blocks)

-- the text is that list with the blocks of I/Os that failed
abbrev pub IsListWithFaults : Plan → List Event → ℕ → List ℕ → Type 0
IsListWithFaults plan history size text =
    (blocks : List ℕ) × AreWrongBlocks plan history (miscompares history) 0 size blocks × (text ≡ blocks_text blocks)
