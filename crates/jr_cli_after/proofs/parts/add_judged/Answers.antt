use Rattle.std.proofs.Common.{subst, ◌∷◌, [], ◌++◌, ◌≡◌, ℕ, List}
use Rattle.std.specs.Prelude.{OnOk}
use Rattle.jr_model.specs.Plan.{Plan}
use Rattle.jr_after_report.specs.declared.lines.Judged.{Judged}
use Rattle.jr_after_report.specs.Reports.{state_of}
use Rattle.jr_cli_after.proofs.Adding.{judged_when_ok}
use Rattle.jr_cli_after.proofs.parts.add_judged.Goals as goal

pub returns : goal.returns
returns c =
    judged_when_ok c.add_judged.result c.args.judge.now c.args.chunk.now c.args.bytes.now c.args.finding c.args.told.now c.add_judged.new.self c.requires.found
    (subst (λ (p : Plan). (file : ℕ) (chunks : List Judged) → c.args.told.now.found ≡ state_of p (record { file = file; chunks = chunks }) → OnOk c.add_judged.result (c.add_judged.new.self.found ≡ state_of p (record { file = file; chunks = chunks ++ (record { chunk = c.args.chunk.now; finding = c.args.finding }) ∷ [] }))) c.plan.ensures c.add_judged.ensures.value)
    c.add_judged.ensures.total c.add_judged.ensures.unread
