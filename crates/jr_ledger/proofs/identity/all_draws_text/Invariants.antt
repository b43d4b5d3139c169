use Rattle.std.proofs.Common.{◌≡◌, ◌++◌, drop, flat_map, string_bytes}
use Rattle.jr_ledger.specs.Identity.{draws_text}
use Rattle.jr_ledger.proofs.identity.all_draws_text.Given as goal

-- the text so far, and that of the other clones
abbrev pub invariant-loop-i : goal.invariant-loop-i
invariant-loop-i l = string_bytes l.text ++ flat_map draws_text (drop l.i l.plan.clones) ≡ flat_map draws_text l.plan.clones
