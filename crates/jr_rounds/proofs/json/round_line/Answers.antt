use Rattle.std.proofs.Common.{◌≡◌, IfOk, subst}
use Rattle.jr_cli_ends.specs.Findings.{RunOf}
use Rattle.jr_report_json.specs.Rows.{notes_of}
use Rattle.jr_rounds.specs.Json.{round_line}
use Rattle.jr_rounds.proofs.json.round_line.Goals as goal

pub returns : goal.returns
returns c =
    subst (λ (run : RunOf). IfOk c.round_json.result (λ text. text.items ≡ round_line c.args.round run (notes_of c.args.notes.now) c.args.storage.now))
    c.in_ok-findings.ensures c.round_json.ensures
