use Rattle.std.proofs.Common.{[], replicate}
use Rattle.jr_crew_channel.specs.declared.parcel.Parcel.TheVariants.{Stop}
use Rattle.jr_crew_channel.specs.Passes.{pass_state}
use Rattle.jr_crew_threads.specs.Parts.{IsMore}
use Rattle.jr_crew.proofs.crew.stop_all.Given as goal

-- so many were told so far
abbrev pub invariant-loop-told : goal.invariant-loop-told
invariant-loop-told g l = IsMore 0 (replicate l.told Stop) [] (pass_state l.initial.channel.pass) (pass_state l.channel.pass)
