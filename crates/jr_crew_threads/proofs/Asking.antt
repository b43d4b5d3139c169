-- Nobody can ask where there is no flag.
use Rattle.std.proofs.Common.{◌≡◌, Bool, true}
use Rattle.std.specs.Prelude.{Option, Some, None}
use Rattle.std.specs.Borrow.{Bor}
use Rattle.jr_crew_threads.specs.declared.watch.StopFlag.{StopFlag}
use Rattle.jr_crew_threads.specs.declared.watch.StopRequest.{StopRequest}
use Rattle.jr_crew_threads.specs.Stops.{IsCompleteOrAsked}

pub complete_unasked : (stop : Option (Bor StopFlag)) (complete : Bool) (asked : Option StopRequest) → IsCompleteOrAsked stop complete asked → stop ≡ None → complete ≡ true
complete_unasked stop complete None said unasked = said
complete_unasked None complete (Some request) said unasked = absurd said.1
complete_unasked (Some flag) complete (Some request) said unasked = cc
