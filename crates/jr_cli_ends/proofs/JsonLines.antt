-- The text of a report that is made of the parts of a run.
use Rattle.std.proofs.Common.{◌≡◌, ℕ, List, ◌++◌, map, take, codes, ap, ◌∙◌}
use Rattle.serde_json.specs.Written.{compact_text}
use Rattle.jr_model.specs.declared.totals.Totals.{Totals}
use Rattle.jr_model.specs.Plan.{Plan}
use Rattle.jr_model.specs.Report.{Miscompare, all_totals, in_order, miscompares}
use Rattle.jr_report_faults.specs.declared.faults.Faults.{Faults}
use Rattle.jr_report_faults.specs.Faults.{AreFaultsOf, NamedFault, faults_of, named, named_by}
use Rattle.jr_report_json.specs.Json.{Notes, RunEnd, report_json}
use Rattle.jr_cli_ends.specs.declared.storage.Storage.{Storage}
use Rattle.jr_cli_ends.specs.Findings.{RunOf, end_of, json_line}

abbrev line_of : Notes → RunEnd → Plan → List Totals → List Miscompare → List NamedFault → ℕ → List ℕ
line_of notes ending plan totals found faults more = compact_text (report_json ending plan totals found faults notes more) ++ codes "\n"

pub line_of_parts : (run : RunOf) (ending : RunEnd) (plan : Plan) (totals : List Totals) (found : List Miscompare) (faults : Faults)
    (notes : Notes) (storage : Storage) → ending ≡ end_of run storage → plan ≡ run.plan → totals ≡ all_totals run.plan run.history
    → found ≡ in_order run.plan (miscompares run.history) → AreFaultsOf run.plan run.history faults
    → compact_text (report_json ending plan totals found (map named faults.first.items) notes faults.more) ++ codes "\n" ≡ json_line run notes storage
line_of_parts run ending plan totals found faults notes storage ended planned counted sorted kept =
    let first : List NamedFault = map named faults.first.items in
    let all : List Totals = all_totals run.plan run.history in
    let bad : List Miscompare = in_order run.plan (miscompares run.history) in
    ap (λ (e : RunEnd). line_of notes e plan totals found first faults.more) ended
    ∙ ap (λ (p : Plan). line_of notes (end_of run storage) p totals found first faults.more) planned
    ∙ ap (λ (t : List Totals). line_of notes (end_of run storage) run.plan t found first faults.more) counted
    ∙ ap (λ (f : List Miscompare). line_of notes (end_of run storage) run.plan all f first faults.more) sorted
    ∙ ap (λ (n : List NamedFault). line_of notes (end_of run storage) run.plan all bad n faults.more) kept.first
    ∙ ap (λ (m : ℕ). line_of notes (end_of run storage) run.plan all bad (map (named_by run.plan) (take 100 (faults_of run.history))) m) kept.more
