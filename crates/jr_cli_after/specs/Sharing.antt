-- Internal: a chunk with its bytes and what it is judged by, as it is handed to a thread.
use Rattle.jr_after.specs.declared.findings.Finding.{Finding}
use Rattle.jr_after.specs.Findings.{finding_on}
use Rattle.jr_after.specs.Writes.{writes_of}
use Rattle.jr_cli_after.specs.declared.part.Part.{Part}

-- what is found by it
abbrev pub found_of : Part → Finding
found_of part = finding_on (writes_of part.judge.now.plan) part.judge.now.lines part.chunk part.bytes.now
