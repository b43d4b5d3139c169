use Rattle.jr_job_adapt.proofs.AnswerLemmas.{adapted_is}
use Rattle.jr_job_adapt.proofs.adapting.answer.Goals as goal

pub returns : goal.returns
returns c =
    adapted_is c.args.text.now (record { text = c.args.made; outs = c.args.outs; rest = c.args.rest }) c.args.before.now c.args.after.now
    c.requires.was c.requires.is c.requires.kept c.requires.followed c.requires.caused c.requires.taken c.requires.left c.first_is_named.ensures c.requires.same
