-- Lemmas on a search for a file that is one with another.
use Rattle.std.proofs.Common.{◌≡◌, ◌≢◌, ℕ, ◌+◌, ◌<◌, List, slice_get, Some, sym, ◌∙◌, below_more}
use Rattle.jr_io_devices.specs.declared.identities.Identity.{Identity}
use Rattle.jr_io_devices.specs.Identities.{IsFirstTwin, IsNewAmong}

same_some : (x y : Identity) → Some x ≡ Some y → x ≡ y
same_some x y e = cc

-- one more file that is another one
pub new_among_more : (files : List Identity) (n place : ℕ) (x y : Identity) → slice_get files n ≡ Some x → slice_get files place ≡ Some y → x ≢ y → IsNewAmong files n place → IsNewAmong files (n + 1) place
new_among_more files n place x y here there differ below =
    below_more (λ k. slice_get files k ≢ slice_get files place) n below (λ e. differ (same_some x y (sym here ∙ e ∙ there)))

-- the first file that is the same one
pub first_twin : (files : List Identity) (first place : ℕ) (x y : Identity) → first < place → slice_get files first ≡ Some x → slice_get files place ≡ Some y → x ≡ y → IsNewAmong files first place → IsFirstTwin files first place
first_twin files first place x y order here there same least =
    record { order = order; one = cc; least = least }
