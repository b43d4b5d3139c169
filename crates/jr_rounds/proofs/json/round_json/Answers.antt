use Rattle.std.proofs.Common.{◌≡◌, ℕ, ◌-◌, List, ◌++◌, length, take, ap, ◌∙◌, arith, length-append}
use Rattle.std.specs.Prelude.{codes, decimal}
use Rattle.serde_json.specs.Written.{compact_text}
use Rattle.jr_report_json.specs.Json.{json_of}
use Rattle.jr_report_json.specs.Rows.{notes_of}
use Rattle.jr_cli_ends.specs.Findings.{end_of}
use Rattle.jr_rounds.specs.Seeds.{seed_offset}
use Rattle.jr_rounds.proofs.JsonLemmas.{five_pieces, two_more, without_last}
use Rattle.jr_rounds.proofs.json.round_json.Goals as goal

pub returns : goal.returns
returns c =
    let run = c.args.findings.now in
    let value : List ℕ = compact_text (json_of (end_of run c.args.storage.now) run.plan run.history (notes_of c.args.notes.now)) in
    let report = c.in_ok-report.report in
    let line : report.items ≡ value ++ codes "\n" = c.in_ok-report.ensures in
    let count = ap (λ (text : List ℕ). length text) line in
    let long = length-append value (codes "\n") in
    let short : c.pop.new.self.items ≡ value =
    c.pop.ensures.rest ∙ ap (λ (text : List ℕ). take (report.len - 1) text) line
    ∙ without_last value 10 (report.len - 1) (omega (arith, count, long, report.ok.0)) in
    let number = c.in_ok-push_number.ensures ∙ ap (λ (n : ℕ). c.push_text.new.text.items ++ decimal n) c.from.ensures in
    let offset = c.in_ok-push_number-2.ensures ∙ ap (λ (n : ℕ). c.push_text-2.new.text.items ++ decimal n) c.seed_offset.ensures in
    let front =
    five_pieces c.new-text.result.items c.push_text.new.text.items c.push_number.new.text.items c.push_text-2.new.text.items
    c.push_number-2.new.text.items c.push_text-3.new.text.items
    (codes "{\"round\":") (decimal c.args.round) (codes ",\"randseed_offset\":") (decimal (seed_offset c.args.round))
    (codes ",\"report\":")
    c.new-text.ensures.items c.in_ok-push_text.ensures number c.in_ok-push_text-2.ensures offset c.in_ok-push_text-3.ensures in
    let more =
    c.in_ok-extend_from_slice.ensures.items
    ∙ ap (λ (text : List ℕ). c.push_text-3.new.text.items ++ text) (c.as_slice.ensures.value ∙ short) in
    two_more c.push_text-3.new.text.items c.extend_from_slice.new.self.items c.push_text-4.new.text.items
    (codes "{\"round\":" ++ decimal c.args.round ++ codes ",\"randseed_offset\":" ++ decimal
    (seed_offset c.args.round) ++ codes ",\"report\":")
    value (codes "}\n") front more c.in_ok-push_text-4.ensures
