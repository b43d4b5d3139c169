use Rattle.std.proofs.Common.{◌≡◌, List, ℕ, ◌++◌, true, subst, ap, ◌∙◌}
use Rattle.std.specs.Io.KnownBytes.{Appends}
use Rattle.jr_model.specs.Report.{report_of}
use Rattle.jr_rounds.specs.Rounds.{is_told, round_header}
use Rattle.jr_rounds.proofs.TextLemmas.{appends_both, told_text}
use Rattle.jr_rounds.proofs.texts.tell_round.Goals as goal

pub returns : goal.returns
returns g c =
    let desk = c.args.desk.now in
    let blank = g.V.Write.contents c.args.out.now in
    let between = g.V.Write.contents c.write_out.new.out in
    let written = g.V.Write.contents c.write_out-2.new.out in
    let told : is_told desk.plan desk.history c.args.is_last ≡ true = cc (c.is_told.ensures, c.if-not-is_told.false) in
    let header : c.as_slice.result.now ≡ round_header c.args.round = c.as_slice.ensures.value ∙ c.in_ok-push_round_header.ensures
    ∙ ap (λ (text : List ℕ). text ++ round_header c.args.round) c.new-header.ensures.items in
    let report : c.as_slice-2.result.now ≡ report_of desk.plan desk.history = c.as_slice-2.ensures.value ∙ c.in_ok-text.ensures in
    let first = subst (λ (text : List ℕ). Appends blank between text) header c.in_ok-write_out.ensures.written in
    let second = subst (λ (text : List ℕ). Appends between written text) report c.in_ok-write_out-2.ensures.written in
    subst (λ (text : List ℕ). Appends blank written text) (told_text c.args.round desk.plan desk.history c.args.is_last told)
    (appends_both blank between written (round_header c.args.round) (report_of desk.plan desk.history) first second)
