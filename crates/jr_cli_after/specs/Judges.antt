-- Internal: by what chunks are judged: all writes of a plan with their lines, and an index of them.
use Rattle.std.specs.Prelude.{◌≡◌, ℕ, All, List, map}
use Rattle.jr_ledger.specs.declared.lines.LedgerLine.{LedgerLine}
use Rattle.jr_model.specs.Plan.{Plan}
use Rattle.jr_after.specs.declared.writes.Named.{Named}
use Rattle.jr_after.specs.Findings.{named_by}
use Rattle.jr_after.specs.Writes.{writes_of}
use Rattle.jr_after_chunks.specs.declared.index.Index.{Index}
use Rattle.jr_after_chunks.specs.Index.{IsIndexOf}
use Rattle.jr_after_chunks.specs.Judging.{CanBeNamed, longest_of}
use Rattle.jr_cli_after.specs.Found.{Asked}

pub record IsJudge (plan : Plan) (lines : List LedgerLine) (named : List Named) (index : Index) (most : ℕ) : Type 0 where
  pub named_are : named ≡ map (named_by lines) (writes_of plan)
  pub fit : All CanBeNamed named
  pub indexed : IsIndexOf index named
  pub most_is : most ≡ longest_of named

-- the length of the longest block of the plan's writes
abbrev pub longest : Asked → ℕ
longest asked = longest_of (map (named_by asked.lines) (writes_of asked.plan))
