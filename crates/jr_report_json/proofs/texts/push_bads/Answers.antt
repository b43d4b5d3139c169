use Rattle.std.proofs.Common.{◌++◌, ◌≤◌, List, length, map, ap, sym, ◌∙◌, arith}
use Rattle.serde_json.specs.Data.{Data}
use Rattle.jr_model.specs.declared.events.What.TheVariants.{Header}
use Rattle.jr_desk_totals.specs.Bads.{miscompare_of}
use Rattle.jr_desk_totals.specs.declared.tallies.Bad.{Bad}
use Rattle.jr_diagnosis.specs.Rulings.{told}
use Rattle.jr_report_json.specs.Json.{miscompare_json}
use Rattle.jr_report_json.specs.Rows.{bads_json, is_wanted, rest_text}
use Rattle.jr_report_json.proofs.Items.{kept_less, kept_more, none_past, written_more}
use Rattle.jr_report_json.proofs.texts.push_bads.Goals as goal
use Rattle.jr_report_json.proofs.texts.push_bads.Goals.{then-is_wanted+in_ok-push_bad, else-is_wanted}

-- what stands behind the end of a list of bad verdicts
abbrev none : Bad
none = record { write = record { clone = 0; pass = 0; number = 0 }; piece = record { file = 0; offset = 0; len = 0 }; what = Header }

pub loop-bad-preserved : goal.loop-bad-preserved
loop-bad-preserved c =
    let plan = c.args.plan.now in
    let bads = c.args.bads.now in
    let i = c.loop-bad.bad-index in
    let place = c.loop-bad.place in
    let test = is_wanted plan c.args.of_reads in
    elim c.if-is_wanted.branch [
      | then-is_wanted+in_ok-push_bad w ↦
          rw (w.text-is, w.place-is) (
            written_more c.loop-bad.text.items w.push_bad.new.text.items _ _ _ _ c.loop-bad.invariant.0
                (kept_more (miscompare_json plan (map told c.args.found.now)) test miscompare_of bads i place none c.loop-bad-test.true
                (sym c.is_wanted.ensures ∙ w.if-is_wanted.true))
                w.in_ok-push_bad.ensures,
            omega (arith, c.loop-bad.invariant.1),
          )
      | else-is_wanted w ↦
          rw (w.text-is, w.place-is) (
            ap (λ (ds : List Data). c.loop-bad.text.items ++ rest_text place ds)
                (sym (kept_less (miscompare_json plan (map told c.args.found.now)) test miscompare_of bads i none c.loop-bad-test.true
                (sym c.is_wanted.ensures ∙ w.if-is_wanted.false)))
                ∙ c.loop-bad.invariant.0,
            omega (arith, c.loop-bad.invariant.1),
          )
    ]

pub returns : goal.returns
returns c =
    let plan = c.args.plan.now in
    let of_reads = c.args.of_reads in
    let past : length c.args.bads.now ≤ c.loop-bad.bad-index = omega arith in
    c.in_ok-push_text-2.ensures
    ∙ ap (λ (left : List Bad). c.loop-bad.text.items ++ rest_text c.loop-bad.place (bads_json plan (map told c.args.found.now) of_reads (map miscompare_of left)))
    (sym (none_past c.args.bads.now c.loop-bad.bad-index past))
    ∙ c.loop-bad.invariant.0
