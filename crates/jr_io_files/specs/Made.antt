-- Believed: which of the files that a run has made go again where it is refused (of this project).
use Rattle.std.specs.Prelude.{◌≡◌, IsTrue}
use Rattle.jr_io_devices.specs.declared.identities.Identity.{Identity}
use Rattle.jr_io_files.specs.declared.made.Found.{Found}

-- what is found is the file that was made, still at its path, with no bytes, and under this run's lock
pub record IsStillOurs (made : Identity) (found : Found) : Type 0 where
  pub locked : IsTrue found.is_locked
  pub empty : IsTrue found.is_empty
  pub own : found.opened ≡ made
  pub there : found.there ≡ made
