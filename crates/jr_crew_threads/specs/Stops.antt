-- Believed: when a run that ended was asked to stop (of this project).
use Rattle.std.specs.Prelude.{◌≡◌, Bool, true, false, Option, Some, None}
use Rattle.std.specs.Borrow.{Bor}
use Rattle.jr_crew_threads.specs.declared.watch.StopFlag.{StopFlag}
use Rattle.jr_crew_threads.specs.declared.watch.StopRequest.{StopRequest}

-- there is a flag, and this is of it: it was set
abbrev pub WasAsked : Option (Bor StopFlag) → StopRequest → Type 0
WasAsked None request = ⊥
WasAsked (Some flag) request = request.token.of ≡ flag.now.lock.id

-- a run with no request is complete; one with a request isn't, and was asked to stop
abbrev pub IsCompleteOrAsked : Option (Bor StopFlag) → Bool → Option StopRequest → Type 0
IsCompleteOrAsked stop complete None = complete ≡ true
IsCompleteOrAsked stop complete (Some request) = (complete ≡ false) × WasAsked stop request
