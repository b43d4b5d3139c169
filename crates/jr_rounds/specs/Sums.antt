-- Believed: what each clone did over several rounds (of this project).
use Rattle.std.specs.Prelude.{◌≡◌, ℕ, ◌-◌, ◌^◌, min, List, length, map, sum_by, filter_map, slice_get}
use Rattle.std.specs.List.{range_with_len}
use Rattle.jr_model.specs.declared.totals.Totals.{Totals}

-- a count of 64 bits, which stays at the last one
abbrev pub capped : ℕ → ℕ
capped n = min n (2 ^ 64 - 1)

-- the sums of several totals
abbrev pub sum_of : List Totals → Totals
sum_of all = record {
  reads = capped (sum_by (λ (t : Totals). t.reads) all);
  rbytes = capped (sum_by (λ (t : Totals). t.rbytes) all);
  writes = capped (sum_by (λ (t : Totals). t.writes) all);
  wbytes = capped (sum_by (λ (t : Totals). t.wbytes) all);
  checks = capped (sum_by (λ (t : Totals). t.checks) all);
  good = capped (sum_by (λ (t : Totals). t.good) all);
  bad = capped (sum_by (λ (t : Totals). t.bad) all);
  skipped = capped (sum_by (λ (t : Totals). t.skipped) all);
  void = capped (sum_by (λ (t : Totals). t.void) all);
  faults = capped (sum_by (λ (t : Totals). t.faults) all);
}

-- what clone c did in each of these rounds
abbrev pub of_clone : List (List Totals) → ℕ → List Totals
of_clone rounds c = filter_map (λ (totals : List Totals). slice_get totals c) rounds

-- the sums of each clone over these rounds, where this is the number of clones
abbrev pub sums_of : ℕ → List (List Totals) → List Totals
sums_of clones rounds = map (λ c. sum_of (of_clone rounds c)) (range_with_len 0 clones)

-- how many rounds there were, and the sums of each clone
pub record RoundSums : Type 0 where
  pub rounds : ℕ
  pub totals : List Totals

-- these are the sums over the rounds with these totals
pub record AreSums (rounds : List (List Totals)) (sums : RoundSums) : Type 0 where
  pub number : sums.rounds ≡ capped (length rounds)
  pub totals : sums.totals ≡ sums_of (length sums.totals) rounds
