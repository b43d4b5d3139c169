use Rattle.std.proofs.Common.{◌≡◌, ap, sym, ◌∙◌}
use Rattle.std.specs.Prelude.{Some, None}
use Rattle.jr_after_plans.specs.Taken.{refusal_of}
use Rattle.jr_after_plans.proofs.Finding.{fault_here, fault_later}
use Rattle.jr_after_plans.proofs.taken.after_fault.Goals as goal

pub returns-in-Some : goal.returns-in-Some
returns-in-Some c =
    let clones = c.args.plan.now.clones in
    let job = c.clone_at-job.result.now in
    let is : refusal_of clones job ≡ Some c.in-Some.why = sym c.refusal_of.ensures ∙ c.in-Some.is in
    sym (sym c.loop-i.invariant ∙ fault_here clones clones c.loop-i.i job c.in-Some.why c.clone_at-job.ensures.value is
    ∙ ap (λ n. Some (record { clone = n; why = c.in-Some.why })) (sym c.clone_number.ensures))

pub loop-i-preserved : goal.loop-i-preserved
loop-i-preserved c =
    let clones = c.args.plan.now.clones in
    let job = c.clone_at-job.result.now in
    let none : refusal_of clones job ≡ None = sym c.refusal_of.ensures ∙ c.in_default.is in
    sym (fault_later clones clones c.loop-i.i job c.clone_at-job.ensures.value none) ∙ c.loop-i.invariant
