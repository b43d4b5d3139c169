use Rattle.std.proofs.Common.{◌≡◌, ◌++◌, List, ℕ, flat_map, map, ap, ◌∙◌, arith}
use Rattle.std.proofs.lemmas.List.{take_all}
use Rattle.std.proofs.lemmas.List.Folds.{flat_map-map}
use Rattle.jr_after_report.specs.Reports.{lines_in, report_by, state_of, totals_line}
use Rattle.jr_after_report.proofs.reports.report.Goals as goal

pub returns-clause-report : goal.returns-clause-report
returns-clause-report c = λ found is.
    let plan = c.args.plan.now in
    let value : c.push_lines.new.text.items ≡ report_by plan c.args.files.now =
    c.in_ok-push_lines.ensures
    ∙ ap (λ (front : List ℕ). front ++ flat_map lines_in c.args.files.now)
    (c.loop-file.invariant ∙ ap (flat_map (totals_line plan)) (take_all c.loop-file.file-index c.args.files.now (omega (arith, c.loop-file-test.false)))) in
    value
    ∙ ap (report_by plan) is
    ∙ ap (λ (front : List ℕ). front ++ flat_map lines_in (map (state_of plan) found)) (flat_map-map (totals_line plan) (state_of plan) found)
    ∙ ap (λ (rest : List ℕ). flat_map (λ one. totals_line plan (state_of plan one)) found ++ rest) (flat_map-map lines_in (state_of plan) found)
