-- The rounds so far, one more, and the last.
use Rattle.std.proofs.Common.{◌≡◌, ℕ, zero, suc, ◌+◌, ◌<◌, ◌≤◌, ◌==◌, Bool, true, false, not, ◌&&◌, ◌||◌, if◌then◌else◌, List, [], ◌∷◌}
use Rattle.std.proofs.Common.{◌++◌, length, map, Option, All, refl, ap, subst, sym, ◌∙◌, arith, append-nil, length-append}
use Rattle.std.specs.List.{list_any, range_with_len}
use Rattle.std.specs.Io.KnownBytes.{Appends}
use Rattle.std.proofs.lemmas.Bool.Decides.{nat_tests}
use Rattle.std.proofs.lemmas.Bool.{not-false}
use Rattle.std.proofs.lemmas.List.{length-map, map-append}
use Rattle.std.proofs.lemmas.List.Concat.{flat_map-append}
use Rattle.std.proofs.lemmas.List.Elements.{All-append}
use Rattle.std.proofs.lemmas.List.Folds.{list_any-append}
use Rattle.jr_model.specs.declared.events.Event.{Event}
use Rattle.jr_model.specs.declared.totals.Totals.{Totals}
use Rattle.jr_model.specs.Legal.{is_complete, is_legal}
use Rattle.jr_model.specs.Plan.{Plan}
use Rattle.jr_model.specs.Report.{all_totals}
use Rattle.jr_model.proofs.ListLemmas.{range_more}
use Rattle.jr_model.proofs.NumberLemmas.{some_by_test}
use Rattle.jr_cli_ends.specs.declared.ended.RunEnd.{RunEnd}
use Rattle.jr_cli_ends.specs.Status.{was_interrupted}
use Rattle.jr_rounds.specs.declared.faults.RoundsFault.{RoundsFault}
use Rattle.jr_rounds.specs.declared.faults.RoundsFault.TheVariants.{Round as NoRound, Untold, Cli}
use Rattle.jr_rounds.specs.Repeats.{AreEarlier, HasBroken, HasRounds, IsBreak, IsEndOf, IsLast, ends_run, found_in}
use Rattle.jr_rounds.specs.Rounds.{Round, earlier_text, is_bad, is_bad_round, is_whole_round, plan_in, round_text, run_text, sums_over}
use Rattle.jr_rounds.specs.Rounds.{sums_text, totals_in}
use Rattle.jr_rounds.specs.Seeds.{plan_of_round}
use Rattle.jr_rounds.specs.Sums.{AreSums, RoundSums, capped, sums_of}
use Rattle.jr_rounds.specs.Turns.{BreaksWith, ends_after, found_after}
use Rattle.jr_rounds.proofs.TextLemmas.{appends_both, appends_nothing}

-- what is known before the round of this number, where these are the rounds so far
pub record IsSoFar (plan : Plan) (keeps_going : Bool) (round : ℕ) (so_far : RoundSums) (bad : ℕ) (blank written : Option (List ℕ))
    (rounds : List Round) : Type 0 where
  pub count : length rounds ≡ round
  pub earlier : AreEarlier plan keeps_going rounds
  pub sums : AreSums (map (totals_in plan) rounds) so_far
  pub clones : length so_far.totals ≡ length plan.clones
  pub found : bad ≡ found_in plan rounds
  pub told : Appends blank written (earlier_text plan rounds)

-- what is known of a round that ran the plan `ran`, with these sums before and after it
pub record IsTurn (limit : ℕ) (keeps_going : Bool) (round : ℕ) (ran : Plan) (history : List Event) (is_cut is_over is_last : Bool)
    (before after : RoundSums) (blank written : Option (List ℕ)) : Type 0 where
  pub last : is_last ≡ (is_over || (round + 1 == limit || (is_bad ran history && not keeps_going) || is_cut))
  pub told : Appends blank written (run_text round ran history is_last)
  pub sums : (rounds : List (List Totals)) → AreSums rounds before → AreSums (rounds ++ all_totals ran history ∷ []) after
  pub clones : length after.totals ≡ length before.totals
  pub legal : is_legal ran history ≡ true
  pub cut : is_cut ≡ not (is_complete ran history)

or_false_first : (a b : Bool) → (a || b) ≡ false → a ≡ false
or_false_first false b h = refl
or_false_first true b h = absurd (cc)

or_false_second : (a b : Bool) → (a || b) ≡ false → b ≡ false
or_false_second false b h = h
or_false_second true b h = absurd (cc)

or_true_second : (a b : Bool) → (a || b) ≡ true → a ≡ false → b ≡ true
or_true_second false b h e = h
or_true_second true b h e = absurd (cc)

and_false : (a b : Bool) → (a && not b) ≡ false → b ≡ false → a ≡ false
and_false false b h e = refl
and_false true false h e = absurd (cc)
and_false true true h e = absurd (cc)

All_one : {X : Type 0} (P : X → Type 0) (x : X) → P x → All P (x ∷ [])
All_one P x h zero d l = h
All_one P x h (suc k) d l = absurd (omega arith)

All_more : {X : Type 0} (P : X → Type 0) (xs : List X) (x : X) → All P xs → P x → All P (xs ++ x ∷ [])
All_more P xs x h p = All-append P xs (x ∷ []) h (All_one P x p)

-- the numbers of the rounds, with the next one
numbers_more : (rounds : List Round) (next : Round) → map (λ (round : Round). round.number) rounds ≡ range_with_len 0 (length rounds)
    → next.number ≡ length rounds → map (λ (round : Round). round.number) (rounds ++ next ∷ []) ≡ range_with_len 0
    (length (rounds ++ next ∷ []))
numbers_more rounds next h number =
    let place : next.number ≡ 0 + length rounds = omega (arith, number) in
    let count : suc (length rounds) ≡ length (rounds ++ next ∷ []) = omega (arith, length-append rounds (next ∷ [])) in
    map-append (λ (round : Round). round.number) rounds (next ∷ [])
    ∙ ap (λ (front : List ℕ). front ++ next.number ∷ []) h
    ∙ ap (λ (k : ℕ). range_with_len 0 (length rounds) ++ k ∷ []) place
    ∙ sym (range_more 0 (length rounds))
    ∙ ap (λ (n : ℕ). range_with_len 0 n) count

-- what was found, with the next round
found_more : (plan : Plan) (rounds : List Round) (next : Round) (found : ℕ) → found ≡ found_in plan rounds
    → found_after (is_bad_round plan next) found ≡ found_in plan (rounds ++ next ∷ [])
found_more plan rounds next found h =
    ap (λ (n : ℕ). found_after (is_bad_round plan next) n) h
    ∙ either (list_any (is_bad_round plan) rounds) (is_bad_round plan next)
    ∙ ap (λ (b : Bool). found_after b 0) (sym (list_any-append (is_bad_round plan) rounds (next ∷ [])))
  where
    either : (a b : Bool) → found_after b (found_after a 0) ≡ found_after (a || (b || false)) 0
    either true true = refl
    either true false = refl
    either false true = refl
    either false false = refl

-- what was printed, with the next round
earlier_more : (plan : Plan) (rounds : List Round) (next : Round)
    → earlier_text plan rounds ++ round_text plan false next ≡ earlier_text plan (rounds ++ next ∷ [])
earlier_more plan rounds next =
    ap (λ (text : List ℕ). earlier_text plan rounds ++ text) (sym (append-nil (round_text plan false next)))
    ∙ sym (flat_map-append (round_text plan false) rounds (next ∷ []))

-- the sums, with the next round
totals_more : (plan : Plan) (rounds : List Round) (next : Round) (sums : RoundSums)
    → AreSums (map (totals_in plan) rounds ++ totals_in plan next ∷ []) sums → AreSums (map (totals_in plan) (rounds ++ next ∷ [])) sums
totals_more plan rounds next sums h =
    subst (λ (all : List (List Totals)). AreSums all sums) (sym (map-append (totals_in plan) rounds (next ∷ []))) h

-- sums of as many clones as the plan has are those over the rounds
pub summed_over : (plan : Plan) (rounds : List Round) (sums : RoundSums) → AreSums (map (totals_in plan) rounds) sums
    → length sums.totals ≡ length plan.clones → sums ≡ sums_over plan rounds
summed_over plan rounds sums h clones =
    let number : sums.rounds ≡ capped (length rounds) = h.number ∙ ap capped (length-map rounds (totals_in plan)) in
    let totals : sums.totals ≡ sums_of (length plan.clones) (map (totals_in plan) rounds) =
    h.totals ∙ ap (λ (n : ℕ). sums_of n (map (totals_in plan) rounds)) clones in
    ap (λ (n : ℕ). record { rounds = n; totals = sums.totals }) number
    ∙ ap (λ (all : List Totals). record { rounds = capped (length rounds); totals = all }) totals

-- before the first round
pub none_so_far : (plan : Plan) (keeps_going : Bool) (sums : RoundSums) (written : Option (List ℕ)) → AreSums [] sums
    → length sums.totals ≡ length plan.clones → IsSoFar plan keeps_going 0 sums 0 written written []
none_so_far plan keeps_going sums written h clones = record {
  count = refl;
  earlier = record {
    numbers = refl;
    legal = λ k d l. absurd (omega arith);
    whole = λ k d l. absurd (omega arith);
    clean = λ _ k d l. absurd (omega arith);
  };
  sums = h;
  clones = clones;
  found = refl;
  told = appends_nothing written;
}

-- after a round that isn't the last
pub one_more : (plan : Plan) (limit : ℕ) (keeps_going : Bool) (round : ℕ) (history : List Event) (is_cut is_over is_last : Bool)
    (before after : RoundSums) (found : ℕ) (blank between written : Option (List ℕ)) (rounds : List Round)
    → IsSoFar plan keeps_going round before found blank between rounds
    → IsTurn limit keeps_going round (plan_of_round plan round) history is_cut is_over is_last before after between written
    → is_last ≡ false → IsSoFar plan keeps_going (round + 1) after
    (found_after (is_bad (plan_of_round plan round) history) found) blank written
    (rounds ++ record { number = round; history = history } ∷ [])
one_more plan limit keeps_going round history is_cut is_over is_last before after found blank between written rounds s t h =
    let ran = plan_of_round plan round in
    let next : Round = record { number = round; history = history } in
    let ends = or_false_second is_over (round + 1 == limit || (is_bad ran history && not keeps_going) || is_cut) (sym t.last ∙ h) in
    let uncut = or_false_second (round + 1 == limit || (is_bad ran history && not keeps_going)) is_cut ends in
    let rest = or_false_first (round + 1 == limit || (is_bad ran history && not keeps_going)) is_cut ends in
    let bad = or_false_second (round + 1 == limit) (is_bad ran history && not keeps_going) rest in
    let whole : is_whole_round plan next ≡ true = not-false (is_complete ran history) (sym t.cut ∙ uncut) in
    record {
      count = omega (arith, s.count, length-append rounds (next ∷ []));
      earlier = record {
        numbers = numbers_more rounds next s.earlier.numbers (sym s.count);
        legal = All_more (λ (r : Round). is_legal (plan_in plan r) r.history ≡ true) rounds next s.earlier.legal t.legal;
        whole = All_more (λ (r : Round). is_whole_round plan r ≡ true) rounds next s.earlier.whole whole;
        clean = λ e. All_more (λ (r : Round). is_bad_round plan r ≡ false) rounds next (s.earlier.clean e)
            (and_false (is_bad ran history) keeps_going bad e);
      };
      sums = totals_more plan rounds next after (t.sums (map (totals_in plan) rounds) s.sums);
      clones = t.clones ∙ s.clones;
      found = found_more plan rounds next found s.found;
      told =
          subst (λ (text : List ℕ). Appends blank written text) (earlier_more plan rounds next)
          (appends_both blank between written (earlier_text plan rounds) (run_text round ran history false) s.told
          (subst (λ (last : Bool). Appends between written (run_text round ran history last)) h t.told));
    }

-- then there is room for another
pub another : (limit : ℕ) (keeps_going : Bool) (round : ℕ) (ran : Plan) (history : List Event) (is_cut is_over is_last : Bool)
    (before after : RoundSums) (between written : Option (List ℕ))
    → IsTurn limit keeps_going round ran history is_cut is_over is_last before after between written → is_last ≡ false → round < limit
    → round + 1 < limit
another limit keeps_going round ran history is_cut is_over is_last before after between written t h within =
    let ends = or_false_second is_over (round + 1 == limit || (is_bad ran history && not keeps_going) || is_cut) (sym t.last ∙ h) in
    let rest = or_false_first (round + 1 == limit || (is_bad ran history && not keeps_going)) is_cut ends in
    let apart = or_false_first (round + 1 == limit) (is_bad ran history && not keeps_going) rest in
    let room : round + 1 ≤ limit = omega arith in
    below (round + 1) limit apart room
  where
    below : (n m : ℕ) → (n == m) ≡ false → n ≤ m → n < m
    below n m apart within = grind (arith, nat_tests)

-- what is known of the last round, where it ended the run or the runner did
pub record IsEnding (plan : Plan) (limit : ℕ) (keeps_going : Bool) (round : ℕ) (history : List Event) (is_over : Bool)
    (after : RoundSums) (bad : ℕ) (blank written : Option (List ℕ)) (rounds : List Round) : Type 0 where
  pub last : IsLast plan rounds (record { number = round; history = history })
  pub found : bad ≡ found_in plan (rounds ++ record { number = round; history = history } ∷ [])
  pub sums : after ≡ sums_over plan (rounds ++ record { number = round; history = history } ∷ [])
  pub over : is_over ≡ false → ends_run plan limit keeps_going (record { number = round; history = history }) ≡ true
  pub told : Appends blank written (earlier_text plan rounds ++ round_text plan true (record { number = round; history = history }))

pub the_last : (plan : Plan) (limit : ℕ) (keeps_going : Bool) (round : ℕ) (history : List Event) (is_cut is_over is_last : Bool)
    (before after : RoundSums) (found : ℕ) (blank between written : Option (List ℕ)) (rounds : List Round)
    → IsSoFar plan keeps_going round before found blank between rounds
    → IsTurn limit keeps_going round (plan_of_round plan round) history is_cut is_over is_last before after between written
    → is_last ≡ true → IsEnding plan limit keeps_going round history is_over after
    (found_after (is_bad (plan_of_round plan round) history) found) blank written rounds
the_last plan limit keeps_going round history is_cut is_over is_last before after found blank between written rounds s t h =
    let ran = plan_of_round plan round in
    let next : Round = record { number = round; history = history } in
    record {
      last = record { number = sym s.count; legal = t.legal };
      found = found_more plan rounds next found s.found;
      sums = summed_over
          plan (rounds ++ next ∷ []) after (totals_more plan rounds next after (t.sums (map (totals_in plan) rounds) s.sums))
          (t.clones ∙ s.clones);
      over = λ e.
          or_true_second is_over (ends_run plan limit keeps_going next)
          (ap (λ (cut : Bool). is_over || (round + 1 == limit || (is_bad ran history && not keeps_going) || cut)) (sym t.cut)
          ∙ sym t.last ∙ h) e;
      told =
          appends_both blank between written (earlier_text plan rounds) (run_text round ran history true) s.told
          (subst (λ (last : Bool). Appends between written (run_text round ran history last)) h t.told);
    }

-- no round follows on these, and their sums are printed
pub broken_after : (plan : Plan) (keeps_going : Bool) (round : ℕ) (sums : RoundSums) (found : ℕ)
    (blank between written : Option (List ℕ)) (rounds : List Round) → IsSoFar plan keeps_going round sums found blank between rounds
    → BreaksWith plan sums between written → HasBroken plan keeps_going blank written
broken_after plan keeps_going round sums found blank between written [] s h =
    let none : sums.rounds ≡ 0 = s.sums.number in (
      [],
      s.earlier,
      appends_both blank between written [] [] s.told
          (subst (λ (n : ℕ). Appends between written (if n == 0 then [] else sums_text plan sums)) none h),
    )
broken_after plan keeps_going round sums found blank between written (first ∷ rounds) s h =
    let all = summed_over plan (first ∷ rounds) sums s.sums s.clones in
    let lines = subst (λ (one : RoundSums). BreaksWith plan one between written) all h in (
      first ∷ rounds,
      s.earlier,
      appends_both blank between written (earlier_text plan (first ∷ rounds))
          (sums_text plan (sums_over plan (first ∷ rounds))) s.told (some (length rounds) lines),
    )
  where
    some : (n : ℕ) → Appends between written (if capped (suc n) == 0 then [] else sums_text plan (sums_over plan (first ∷ rounds)))
        → Appends between written (sums_text plan (sums_over plan (first ∷ rounds)))
    some n h =
        let positive : 0 < capped (suc n) = omega arith in
        subst (λ (b : Bool). Appends between written (if b then [] else sums_text plan (sums_over plan (first ∷ rounds))))
        (some_by_test (capped (suc n)) positive) h

-- what a break says of less
pub break_by : {E : Type 0} (X Y : Type 0) → (X → Y) → (fault : RoundsFault E) → IsBreak X fault → IsBreak Y fault
break_by X Y f (NoRound fault) h = f h
break_by X Y f (Untold fault) h = tt
break_by X Y f (Cli fault) h = tt

-- what is known of a round by the calls that it took
pub turn_of : (limit : ℕ) (keeps_going : Bool) (round : ℕ) (plan made : Plan) (ended : RunEnd) (is_over is_last : Bool)
    (before after : RoundSums) (blank written : Option (List ℕ)) → made ≡ plan_of_round plan round → IsEndOf made ended
    → is_last ≡ (is_over || ends_after (record { limit = limit; is_keeping_going = keeps_going }) round ended)
    → Appends blank written (run_text round ended.desk.plan ended.desk.history is_last)
    → ((rounds : List (List Totals)) → AreSums rounds before → AreSums
    (rounds ++ all_totals ended.desk.plan ended.desk.history ∷ []) after) → length after.totals ≡ length before.totals
    → is_legal ended.desk.plan ended.desk.history ≡ true → IsTurn limit keeps_going round (plan_of_round plan round) ended.desk.history
    (was_interrupted ended) is_over is_last before after blank written
turn_of limit keeps_going round plan made ended is_over is_last before after blank written same end last told sums clones legal =
    let history = ended.desk.history in
    subst (λ (ran : Plan). IsTurn limit keeps_going round ran history (was_interrupted ended) is_over is_last before after blank written)
    (end.planned ∙ same)
    (record {
      last = last;
      told = told;
      sums = sums;
      clones = clones;
      legal = legal;
      cut = end.interrupted ∙ ap (λ (ran : Plan). not (is_complete ran history)) (sym end.planned);
    })

-- so do the rounds end
pub the_end : (plan : Plan) (limit : ℕ) (keeps_going : Bool) (round : ℕ) (made : Plan) (ended : RunEnd) (is_over is_last : Bool)
    (before after : RoundSums) (found bad : ℕ) (blank between written last : Option (List ℕ)) (rounds : List Round)
    → IsSoFar plan keeps_going round before found blank between rounds → made ≡ plan_of_round plan round → IsEndOf made ended
    → IsTurn limit keeps_going round (plan_of_round plan round) ended.desk.history
    (was_interrupted ended) is_over is_last before after between written → is_last ≡ true
    → bad ≡ found_after (is_bad ended.desk.plan ended.desk.history) found → round < limit → Appends written last (sums_text plan after)
    → HasRounds
    plan limit keeps_going blank last (record { rounds = round + 1; found = bad; is_over = is_over; last = ended; sums = after })
the_end plan limit keeps_going round made ended is_over is_last before after found bad blank between written last rounds s same end t h
    found_is within lines =
    let history = ended.desk.history in
    let next : Round = record { number = round; history = history } in
    let e = the_last plan limit keeps_going round history (was_interrupted ended) is_over is_last before after found blank between
    written rounds s t h in
    let ran = end.planned ∙ same in (
      rounds,
      next,
      s.earlier,
      e.last,
      record {
        rounds = omega (arith, s.count);
        within = omega arith;
        found = found_is ∙ ap (λ (plan_run : Plan). found_after (is_bad plan_run history) found) ran ∙ e.found;
        ended = subst (λ (of : Plan). IsEndOf of ended) same end;
        happened = refl;
        sums = e.sums;
        over = e.over;
      },
      appends_both blank written last (earlier_text plan rounds ++ round_text plan true next)
          (sums_text plan (sums_over plan (rounds ++ next ∷ []))) e.told
          (subst (λ (sums : RoundSums). Appends written last (sums_text plan sums)) e.sums lines),
    )
