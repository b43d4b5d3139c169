-- The seeds of a clone's passes over all rounds.
use Rattle.std.proofs.Common.{◌≡◌, ℕ, zero, suc, ◌+◌, ◌-◌, ◌*◌, ◌/◌, ◌%◌, ◌^◌, ◌<◌, List, [], ◌∷◌, map, slice_get, Some, All, arith, ap}
use Rattle.std.proofs.Common.{sym, ◌∙◌, refl}
use Rattle.std.proofs.Math.Nat.{mod-add-mod, mod-eq_of_lt, add-mul-mod_self_right}
use Rattle.std.proofs.lemmas.Nat.{div-add-mod', mod_below}
use Rattle.jr_model.specs.Plan.{SubJob}
use Rattle.jr_model.specs.Words.{pass_seed}
use Rattle.jr_plan.specs.Seeds.{moved_seed}
use Rattle.jr_rounds.specs.Seeds.{seed_offset}
use Rattle.jr_rounds.specs.SeedLaws.{DifferInSeeds, FirstRoundIsThePlan, NoSeedTwice, unseeded}

-- what is added to n modulo m can be had back
unwound : (n z m : ℕ) → z < m → ((n + z) % m + (m - n % m)) % m ≡ z
unwound n z m h =
    let k = m - n % m in
    let parts = div-add-mod' n m in
    let below = mod_below n m (omega arith) in
    let whole : n + z + k ≡ z + (n / m + 1) * m = omega (arith, parts, below) in
    mod-add-mod (n + z) m k ∙ ap (λ (a : ℕ). a % m) whole ∙ add-mul-mod_self_right z (n / m + 1) m ∙ mod-eq_of_lt h

-- two numbers below m that give one sum modulo m are one
same_below : (n x y m : ℕ) → x < m → y < m → (n + x) % m ≡ (n + y) % m → x ≡ y
same_below n x y m hx hy e =
    sym (unwound n x m hx) ∙ ap (λ (a : ℕ). (a + (m - n % m)) % m) e ∙ unwound n y m hy

-- the seed of a pass, with the clone's seed and number apart from the round and the pass
apart : (seed clone offset pass m : ℕ) → ((seed + offset) % m + 1000003 * clone + pass) % m ≡ (seed + 1000003 * clone + (offset + pass))
    % m
apart seed clone offset pass m =
    let inner : (seed + offset) % m + 1000003 * clone + pass ≡ (seed + offset) % m + (1000003 * clone + pass) = omega arith in
    let outer : seed + offset + (1000003 * clone + pass) ≡ seed + 1000003 * clone + (offset + pass) = omega arith in
    ap (λ (a : ℕ). a % m) inner ∙ mod-add-mod (seed + offset) m (1000003 * clone + pass) ∙ ap (λ (a : ℕ). a % m) outer

-- so one seed is of one round and one pass
one_pass : (seed clone round other pass later : ℕ) → round < 2 ^ 32 → other < 2 ^ 32 → pass < 1000 → later < 1000
    → ((seed + round * 67108864) % 2 ^ 64 + 1000003 * clone + pass) % 2 ^
    64 ≡ ((seed + other * 67108864) % 2 ^ 64 + 1000003 * clone + later) % 2 ^ 64 → (round ≡ other) × (pass ≡ later)
one_pass seed clone round other pass later hr ho hp hl e =
    let sums = sym (apart seed clone (round * 67108864) pass (2 ^ 64)) ∙ e ∙ apart seed clone (other * 67108864) later (2 ^ 64) in
    let same = same_below (seed + 1000003 * clone) (round * 67108864 + pass) (other * 67108864 + later) (2 ^ 64) (omega arith)
    (omega arith) sums in
    let rounds : round ≡ other = omega (arith, same) in
    (rounds, omega (arith, same, rounds))

-- a clone of a round is one of the plan with another seed
record IsMoved (by : ℕ) (clones : List SubJob) (i : ℕ) (job : SubJob) : Type 0 where
  old : SubJob
  at : slice_get clones i ≡ Some old
  is : moved_seed by old ≡ job

moved : (by : ℕ) (clones : List SubJob) (i : ℕ) (job : SubJob) → slice_get (map (moved_seed by) clones) i ≡ Some job
    → IsMoved by clones i job
moved by [] i job at = absurd (cc)
moved by (one ∷ clones) zero job at = record { old = one; at = cc; is = cc }
moved by (one ∷ clones) (suc i) job at =
    let m = moved by clones i job at in
    record { old = m.old; at = m.at; is = m.is }

same_clone : (a b : SubJob) → Some a ≡ Some b → a ≡ b
same_clone a b e = cc

pub no_seed_twice : NoSeedTwice
no_seed_twice plan c round other pass later job again hr ho hp hl at there e =
    let one = moved (seed_offset round) plan.clones c job at in
    let two = moved (seed_offset other) plan.clones c again there in
    let same = same_clone two.old one.old (sym two.at ∙ one.at) in
    let first : pass_seed (moved_seed (seed_offset round) one.old) pass ≡ pass_seed job pass = ap
    (λ (j : SubJob). pass_seed j pass) one.is in
    let second : pass_seed (moved_seed (seed_offset other) one.old) later ≡ pass_seed again later =
    ap (λ (j : SubJob). pass_seed (moved_seed (seed_offset other) j) later) (sym same) ∙ ap (λ (j : SubJob). pass_seed j later) two.is in
    one_pass one.old.seed one.old.clone round other pass later hr ho hp hl (first ∙ e ∙ sym second)

unseeded_same : (by : ℕ) (clones : List SubJob) → map unseeded (map (moved_seed by) clones) ≡ map unseeded clones
unseeded_same by [] = refl
unseeded_same by (job ∷ clones) = ap (λ (rest : List SubJob). unseeded job ∷ rest) (unseeded_same by clones)

pub differ_in_seeds : DifferInSeeds
differ_in_seeds plan round = ap (λ (clones : List SubJob). record plan { clones = clones }) (unseeded_same (seed_offset round) plan.clones)

unmoved : (job : SubJob) → job.seed < 2 ^ 64 → moved_seed 0 job ≡ job
unmoved job h =
    let small : job.seed + 0 < 2 ^ 64 = omega arith in
    let same : (job.seed + 0) % 2 ^ 64 ≡ job.seed = mod-eq_of_lt small ∙ omega arith in
    ap (λ (seed : ℕ). record job { seed = seed }) same

all_unmoved : (clones : List SubJob) → All (λ (job : SubJob). job.seed < 2 ^ 64) clones → map (moved_seed 0) clones ≡ clones
all_unmoved [] h = refl
all_unmoved (job ∷ clones) h =
    let first = unmoved job (h 0 job (omega arith)) in
    let rest = all_unmoved clones (λ k d l. h (suc k) d (omega arith)) in
    cc

pub first_is_the_plan : FirstRoundIsThePlan
first_is_the_plan plan h = ap (λ (clones : List SubJob). record plan { clones = clones }) (all_unmoved plan.clones h)
