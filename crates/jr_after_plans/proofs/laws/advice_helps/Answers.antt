use Rattle.jr_after_plans.proofs.Advised.{advice_helps}
use Rattle.jr_after_plans.proofs.laws.advice_helps.Goals as goal

pub returns : goal.returns
returns c = advice_helps
