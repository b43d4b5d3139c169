use Rattle.std.proofs.Common.{◌≡◌, All, vec_len}
use Rattle.jr_io_files.specs.Engines.{IsFresh}
use Rattle.jr_cli_grounds.proofs.grounds.crew_engines.Given as goal

abbrev pub invariant-loop-place : goal.invariant-loop-place
invariant-loop-place g l = (vec_len l.engines ≡ l.place) × All (λ engine. IsFresh engine l.files.files.files) l.engines.items
