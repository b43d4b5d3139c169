use Rattle.std.proofs.Common.{rules, ◌≡◌, ◌∙◌, ap, get_or}
use Rattle.jr_report_maps.proofs.Marking.{same_fate}
use Rattle.jr_report_maps.specs.Marked.{fate_by, saids_of}
use Rattle.jr_report_maps.proofs.maps.paint_file.Goals as goal

pub returns-in-Some-clause-fates : goal.returns-in-Some-clause-fates
returns-in-Some-clause-fates c = λ plan history are within cell d inside.
    let marks = c.in-Some.marks.now in
    let at : marks ≡ get_or c.args.marks.now.files.items c.args.file marks = search rules in
    c.paint_all.ensures.fates cell d inside
    ∙ ap (fate_by c.args.file c.args.size cell) (ap saids_of at ∙ are.each c.args.file marks within)
    ∙ same_fate plan history c.args.file c.args.size cell
