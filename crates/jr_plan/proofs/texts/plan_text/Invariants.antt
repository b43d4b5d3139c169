use Rattle.std.proofs.Common.{◌≡◌, ◌++◌, drop, flat_map, string_bytes}
use Rattle.jr_plan.specs.PlanText.{clone_line, plan_text}
use Rattle.jr_plan.proofs.texts.plan_text.Given as goal

-- the text so far, and the lines of the other clones
abbrev pub invariant-loop-i : goal.invariant-loop-i
invariant-loop-i l = string_bytes l.text ++ flat_map (clone_line l.plan.files) (drop l.i l.plan.clones) ≡ plan_text l.plan
