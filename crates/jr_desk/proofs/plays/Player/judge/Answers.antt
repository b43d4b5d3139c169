use Rattle.std.proofs.Common.{List, sym, ◌∙◌, ap}
use Rattle.std.specs.Option.{option_copied}
use Rattle.jr_engines.specs.Answers.{AnswerParts}
use Rattle.jr_desk.specs.Plays.{last_read}
use Rattle.jr_desk.proofs.Playing.{judge_goes_on_if}
use Rattle.jr_desk.proofs.plays.Player.judge.Goals as goal

pub returns-in-Some : goal.returns-in-Some
returns-in-Some c =
    judge_goes_on_if c.args.self.now c.args.by c.args.io c.in-Some.served.now c.judged.result c.judged.new.desk c.requires
    (ap (λ (reads : List AnswerParts). last_read reads c.args.io) (sym c.as_slice.ensures.value) ∙ sym c.last_read.ensures ∙ ap option_copied c.in-Some.is)
    (sym c.to_judge.ensures ∙ c.if-to_judge.true) c.judged.ensures.reply c.judged.ensures.desk
