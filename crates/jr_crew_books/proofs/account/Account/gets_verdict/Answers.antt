use Rattle.std.proofs.Common.{◌∙◌}
use Rattle.jr_crew_books.proofs.Settling.{kind_of_ticket, has_its_ticket}
use Rattle.jr_crew_books.proofs.account.Account.gets_verdict.Goals as goal

pub returns-in-Some : goal.returns-in-Some
returns-in-Some c io at = c.is_judged_kind.ensures ∙ kind_of_ticket c.args.self.now.plan c.args.self.now.history c.args.id io at c.in-Some.kind c.in-Some.ensures

pub returns-in-None : goal.returns-in-None
returns-in-None c io at = has_its_ticket c.args.self.now.plan c.args.self.now.history c.args.id io at c.in-None.ensures
