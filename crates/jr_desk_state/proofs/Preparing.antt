-- The standings of a board's clones, made one after another.
use Rattle.std.proofs.Common.{◌≡◌, ℕ, ◌+◌, List, [], ◌∷◌, ◌++◌, length, get_or, sym, ◌∙◌, ap, subst, arith, inl, inr, length-append}
use Rattle.std.specs.Prelude.{Some, slice_get}
use Rattle.std.proofs.lemmas.List.Sums.{sum_by_push}
use Rattle.std.proofs.lemmas.Option.{get_or_from_slice_get, same_Some}
use Rattle.std.proofs.Math.ListN.{set}
use Rattle.std.proofs.Math.Seq.{set-append_seam}
use Rattle.jr_model.specs.declared.events.Event.{Event}
use Rattle.jr_model.specs.Plan.{Plan, SubJob, clone_of}
use Rattle.jr_model.proofs.PlaceLemmas.{got_last, nothing_at}
use Rattle.jr_laws_steps.proofs.StartedLemmas.{got_more}
use Rattle.jr_desk_state.specs.declared.standings.Standing.{Standing}
use Rattle.jr_desk_state.specs.Boards.{left_of}
use Rattle.jr_desk_state.specs.Standings.{ArePrepared, IsPrepared, IsStanding, left_in}

-- so many clones have their standings, and are prepared
pub record StandTo (plan : Plan) (history : List Event) (n : ℕ) (standings : List Standing) : Type 0 where
  pub count : length standings ≡ n
  pub each : (k : ℕ) (job : SubJob) (standing : Standing) → clone_of plan k ≡ Some job → slice_get standings k ≡ Some standing
      → IsStanding history job standing
  pub prepared : ArePrepared plan standings
  pub left : left_of standings ≡ 0

pub stand_none : (plan : Plan) (history : List Event) (standings : List Standing) → standings ≡ [] → StandTo plan history 0 standings
stand_none plan history standings none = record {
  count = ap length none;
  each = λ (k : ℕ) (job : SubJob) (standing : Standing) (there : clone_of plan k ≡ Some job) (got : slice_get standings k ≡ Some standing).
      absurd (nothing_at standings k standing none got);
  prepared = λ (k : ℕ) (job : SubJob) (standing : Standing) (there : clone_of plan k ≡ Some job)
      (got : slice_get standings k ≡ Some standing).
      absurd (nothing_at standings k standing none got);
  left = ap left_of none;
}

-- what is read at the place that was added is what was added
read_last : (n : ℕ) (before pushed : List Standing) (first read : Standing)
    → length before ≡ n
    → pushed ≡ before ++ first ∷ []
    → read ≡ get_or pushed n read
    → read ≡ first
read_last n before pushed first read count added at =
    let there : slice_get pushed n ≡ Some first =
    ap (λ (ss : List Standing). slice_get ss n) added ∙ ap (slice_get (before ++ first ∷ [])) (sym count) ∙ got_last before first in
    at ∙ get_or_from_slice_get pushed n first read there

-- it is changed there
set_last : (n : ℕ) (before pushed : List Standing) (first new : Standing)
    → length before ≡ n
    → pushed ≡ before ++ first ∷ []
    → set pushed n new ≡ before ++ new ∷ []
set_last n before pushed first new count added =
    ap (λ (ss : List Standing). set ss n new) added
    ∙ ap (λ (i : ℕ). set (before ++ first ∷ []) i new) (sym count)
    ∙ set-append_seam before first [] new

-- so the clone that was added stands, as it is read there
pub added_stands : (history : List Event) (n : ℕ) (job : SubJob) (before pushed : List Standing) (first read : Standing)
    → length before ≡ n
    → pushed ≡ before ++ first ∷ []
    → read ≡ get_or pushed n read
    → IsStanding history job first
    → IsStanding history job read
added_stands history n job before pushed first read count added at is =
    subst (λ (s : Standing). IsStanding history job s) (sym (read_last n before pushed first read count added at)) is

-- one more clone, whose standing was added and then changed where it is
pub stand_more : (plan : Plan) (history : List Event) (n : ℕ) (job : SubJob) (before pushed : List Standing) (first read new : Standing)
    → StandTo plan history n before
    → pushed ≡ before ++ first ∷ []
    → read ≡ get_or pushed n read
    → clone_of plan n ≡ Some job
    → IsStanding history job new
    → IsPrepared job new
    → left_in first ≡ 0
    → left_in new ≡ left_in read
    → StandTo plan history (n + 1) (set pushed n new)
stand_more plan history n job before pushed first read new was added got at is ready empty same =
    let after = set pushed n new in
    let made : after ≡ before ++ new ∷ [] = set_last n before pushed first new was.count added in
    let still : left_in new ≡ 0 = same ∙ ap left_in (read_last n before pushed first read was.count added got) ∙ empty in
    record {
      count = omega (arith, ap length made, length-append before (new ∷ []), was.count);
      each = each_more (IsStanding history) after made was.each is;
      prepared = each_more IsPrepared after made was.prepared ready;
      left = omega (arith, ap left_of made, sum_by_push left_in before new, was.left, still);
    }
  where
    each_more : (P : SubJob → Standing → Type 0) (after : List Standing)
        → after ≡ before ++ new ∷ []
        → ((k : ℕ) (other : SubJob) (standing : Standing) → clone_of plan k ≡ Some other → slice_get before k ≡ Some standing
        → P other standing)
        → P job new
        → (k : ℕ) (other : SubJob) (standing : Standing)
        → clone_of plan k ≡ Some other
        → slice_get after k ≡ Some standing
        → P other standing
    each_more P after made earlier here k other standing there got =
        elim (got_more before new k standing (ap (λ (ss : List Standing). slice_get ss k) (sym made) ∙ got)) [
          | inl old ↦ earlier k other standing there old
          | inr last ↦
              let same : job ≡ other = same_Some job other (sym at ∙ ap (clone_of plan) (sym was.count ∙ sym last.0) ∙ there) in
              subst (λ (s : Standing). P other s) (sym last.1) (subst (λ (j : SubJob). P j new) same here)
        ]
