-- Claimed: the other half of that rule. The parts that all passes hold add up to a whole, and a pass with no part has put and taken
-- nothing.
use Rattle.std.specs.Prelude.{◌≡◌, ℕ, ◌*◌, ◌<◌, List, [], ◌∷◌, sum}
use Rattle.jr_crew_channel.specs.declared.parcel.PassState.{PassState}

-- what one pass holds of the whole, as a number
pub record IsShare (whole share : ℕ) (v : PassState) : Type 0 where
  pub exact : share * v.of ≡ v.parts * whole
  pub cut : 0 < v.of
  pub idle : v.parts ≡ 0 → (v.put ≡ []) × (v.taken ≡ [])

-- the same of each pass
abbrev pub AreShares : ℕ → List ℕ → List PassState → Type 0
AreShares whole [] [] = Unit {0}
AreShares whole (share ∷ shares) (v ∷ views) = IsShare whole share v × AreShares whole shares views
AreShares whole [] (v ∷ views) = ⊥
AreShares whole (share ∷ shares) [] = ⊥

-- there is a number for each pass, and together they are the whole
pub record IsShared (views : List PassState) : Type 0 where
  pub whole : ℕ
  pub shares : List ℕ
  pub positive : 0 < whole
  pub all : sum shares ≡ whole
  pub each : AreShares whole shares views
