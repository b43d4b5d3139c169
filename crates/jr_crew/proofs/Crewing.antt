-- Of each worker: its engine and its own book, beside what the history says that it completed.
use Rattle.std.proofs.Common.{◌≡◌, ℕ, ◌<◌, Bool, List, [], length, map, true, false, refl, sym, ◌∙◌, ap, subst, arith}
use Rattle.std.specs.Prelude.{All, Contains, Some, Result, Ok, IfOk, slice_get, slice_index_or}
use Rattle.std.specs.List.{list_all}
use Rattle.std.proofs.lemmas.Option.{get_or_from_slice_get, slice_get-map, slice_get_within, same_Some}
use Rattle.std.specs.Option.{option_map}
use Rattle.std.proofs.lemmas.List.{length-map}
use Rattle.std.proofs.lemmas.Result.{IfOk-weaker}
use Rattle.jr_model.specs.declared.events.Event.{Event}
use Rattle.jr_model.specs.declared.events.Event.TheVariants.{Verdict}
use Rattle.jr_model.specs.declared.events.Verdict.{Verdict as GivenVerdict}
use Rattle.jr_model.specs.Legal.{is_legal}
use Rattle.jr_model.specs.Plan.{Plan}
use Rattle.jr_model.specs.Replies.{EngineState}
use Rattle.jr_model.specs.PlanFacts.{IsPlanned}
use Rattle.jr_model.proofs.PlaceLemmas.{item_at, got_made}
use Rattle.jr_crew_channel.specs.declared.parcel.Parcel.{Parcel}
use Rattle.jr_crew_channel.specs.declared.parcel.PassState.{PassState}
use Rattle.jr_crew_books.specs.declared.books.Done.{Done}
use Rattle.jr_crew_books.specs.Books.{dones_of}
use Rattle.jr_crew_books.specs.Numbers.{judges_inline, is_own_verdict}
use Rattle.jr_crew.specs.Crews.{IsWorkers, AreCallsFor}
use Rattle.jr_crew_books.specs.Finished.{AllFinished}
use Rattle.jr_crew_threads.specs.Judging.{IsSourced}
use Rattle.jr_crew_threads.specs.Parts.{IsPutter, one_part}
use Rattle.jr_crew.specs.Runs.{IsCovering}
use Rattle.jr_crew.specs.Working.{AreDone, AreWorks, IsWork, all_handed_on}
use Rattle.jr_crew.proofs.Judged.{IsPutBy, calls_judged}
use Rattle.jr_crew.proofs.Matching.{AreSaidOn, walk}
use Rattle.jr_crew.proofs.Worked.{calls_count, calls_done, failures_count, work_puts}
use Rattle.jr_desk_tickets.specs.Kept.{tickets_of}

nothing_said : (plan : Plan) (inline : Bool) (history : List Event) (worker : ℕ) → AreSaidOn plan inline history worker [] []
nothing_said plan inline history worker so io s v at by ended given = cc

-- each verdict is that of the worker that the check was handed out to
abbrev pub AreOwn : Plan → List Event → Type 0
AreOwn plan history = list_all (is_own_verdict (tickets_of plan history)) history ≡ true

-- what an engine and a book tell, where the book is the history's
its_part : (plan : Plan) (history : List Event) (worker : ℕ) (before after : EngineState) (book : List Done) → IsPlanned plan → is_legal plan history ≡ true → AreCallsFor true before (dones_of plan true history worker) after → AreCallsFor (judges_inline plan) before book after → book ≡ dones_of plan (judges_inline plan) history worker → IsWorkers plan history worker before after book
its_part plan history worker before after book planned legal called calls same =
    let inline = judges_inline plan in record {
      book = same;
      called = called;
      calls = calls_count inline before book after calls;
      failures = failures_count inline before book after calls;
      tied = λ (covering : IsCovering plan before).
          walk plan true history worker planned legal history [] refl legal after before [] covering.known covering.covers (nothing_said plan true history worker) called;
    }

-- what a worker did is what its engine was called for
work_calls : (inline : Bool) (before : EngineState) (book : List Done) (after : EngineState) (pass : PassState) → IsWork inline before one_part book after pass → AreCallsFor inline before book after
work_calls inline before book after pass work =
    calls_done inline before [] before work.answers after book refl work.answered work.done

-- the work of one worker, whose book is the history's
pub record IsWorkAt (plan : Plan) (history : List Event) (worker : ℕ) (parcels : List Parcel) : Type 0 where
  pub before : EngineState
  pub after : EngineState
  pub dones : List Done
  pub pass : PassState
  pub put : pass.put ≡ parcels
  pub same : dones ≡ dones_of plan (judges_inline plan) history worker
  pub work : IsWork (judges_inline plan) before one_part dones after pass

-- where others judge, its book says nothing of the checks
done_by_others : (plan : Plan) (history : List Event) (worker : ℕ) (put : List Parcel) → judges_inline plan ≡ false → (at : IsWorkAt plan history worker put) → AreDone false at.work.answers [] (dones_of plan false history worker)
done_by_others plan history worker put others at =
    subst (λ (b : Bool). AreDone b at.work.answers [] (dones_of plan b history worker)) others
    (subst (AreDone (judges_inline plan) at.work.answers []) at.same at.work.done)

-- and this is what it handed over
handed_to_others : (plan : Plan) (history : List Event) (worker : ℕ) (put : List Parcel) → judges_inline plan ≡ false → (at : IsWorkAt plan history worker put) → put ≡ (all_handed_on false at.work.answers one_part).put
handed_to_others plan history worker put others at =
    sym at.put
    ∙ ap (λ (v : PassState). v.put) at.work.handed
    ∙ ap (λ (b : Bool). (all_handed_on b at.work.answers one_part).put) others

put_by : (plan : Plan) (history : List Event) (worker : ℕ) (put : List Parcel) → judges_inline plan ≡ false → IsWorkAt plan history worker put → IsPutBy plan history worker put
put_by plan history worker put others at = record {
  answers = at.work.answers;
  done = done_by_others plan history worker put others at;
  handed = handed_to_others plan history worker put others at;
}

-- whoever judges, what the engine was called for has the history's verdicts
called_part : (plan : Plan) (history : List Event) → is_legal plan history ≡ true → AllFinished history → (puts : List (List Parcel)) → ((i : ℕ) (put : List Parcel) → slice_get puts i ≡ Some put → IsWorkAt plan history i put) → (judges_inline plan ≡ false → (w io : ℕ) (v : GivenVerdict) → Contains history (Verdict w io v) → IsSourced puts io v) → (worker : ℕ) (put : List Parcel) → slice_get puts worker ≡ Some put → (at : IsWorkAt plan history worker put) → AreCallsFor true at.before (dones_of plan true history worker) at.after
called_part plan history legal settled puts works sourced worker put there at = by (judges_inline plan) refl
  where
    by : (b : Bool) → judges_inline plan ≡ b → AreCallsFor true at.before (dones_of plan true history worker) at.after
    by true own =
        subst (λ (b : Bool). AreCallsFor b at.before (dones_of plan b history worker) at.after) own
        (subst (λ (dones : List Done). AreCallsFor (judges_inline plan) at.before dones at.after) at.same
        (work_calls (judges_inline plan) at.before at.dones at.after at.pass at.work))
    by false others =
        calls_judged plan history legal settled puts (λ i p where_put. put_by plan history i p others (works i p where_put)) (sourced others)
        worker put there at.before at.after at.work.answers at.work.answered
        (done_by_others plan history worker put others at)
        (handed_to_others plan history worker put others at)

-- the same of each place of a run's lists
module _ {E J W F : Type 0} (state : E → EngineState) (engine_in : J → E) (engine_of : W → E) (book_of : W → Result (List Done) F) (pass_of : W → PassState) (jobs : List J) (worked : List W) (plan : Plan) where
  -- each worker's work
  abbrev pub AreTheirs : Type 0
  AreTheirs = AreWorks (judges_inline plan) jobs worked (λ j. state (engine_in j)) (λ w. state (engine_of w)) book_of pass_of

  work_of : AreTheirs → (i : ℕ) (j : J) (w : W) (book : List Done) → slice_get jobs i ≡ Some j → slice_get worked i ≡ Some w → book_of w ≡ Ok book → IsWork (judges_inline plan) (state (engine_in j)) one_part book (state (engine_of w)) (pass_of w)
  work_of works i j w book at_job at_worked is_book =
      let here : slice_index_or jobs i j ≡ j = get_or_from_slice_get jobs i j j at_job in
      let there : slice_index_or worked i w ≡ w = get_or_from_slice_get worked i w w at_worked in
      subst (λ (r : Result (List Done) F). IfOk r (λ b. IsWork (judges_inline plan) (state (engine_in j)) one_part b (state (engine_of w)) (pass_of w))) is_book
      (subst (λ (k : J). IfOk (book_of w) (λ b. IsWork (judges_inline plan) (state (engine_in k)) one_part b (state (engine_of w)) (pass_of w))) here
      (subst (λ (y : W). IfOk (book_of y) (λ b. IsWork (judges_inline plan) (state (engine_in (slice_index_or jobs i j))) one_part b (state (engine_of y)) (pass_of y))) there
      (works.each i j w (slice_get_within jobs i j at_job))))

  -- whoever met no fault took nothing
  pub all_putters : AreTheirs → length worked ≡ length jobs → All (λ w. IfOk (book_of w) (λ book. IsPutter (pass_of w))) worked
  all_putters works size i w below =
      let j = item_at jobs i (omega (arith, below, size)) in
      let ended = slice_index_or worked i w in
      IfOk-weaker (book_of ended)
      (λ book. IsWork (judges_inline plan) (state (engine_in (slice_index_or jobs i j.0))) one_part book (state (engine_of ended)) (pass_of ended))
      (λ book. IsPutter (pass_of ended))
      (λ book work. work_puts (judges_inline plan) (state (engine_in (slice_index_or jobs i j.0))) one_part book (state (engine_of ended)) (pass_of ended) refl work)
      (works.each i j.0 w (omega (arith, below, size)))

  -- the book of a worker that has ended
  its_book : (books : List (List Done)) → map Ok books ≡ map book_of worked → (i : ℕ) (w : W) → slice_get worked i ≡ Some w → (book : List Done) × (slice_get books i ≡ Some book) × (book_of w ≡ Ok book)
  its_book books books_are i w at_worked =
      let its : slice_get (map Ok books) i ≡ Some (book_of w) =
      ap (λ (rs : List (Result (List Done) F)). slice_get rs i) books_are ∙ slice_get-map book_of worked i ∙ ap (option_map book_of) at_worked in
      let book = got_made Ok books i (book_of w) its in (book.0, book.1, sym book.2)

  work_at : (books : List (List Done)) (history : List Event) → AreTheirs → length worked ≡ length jobs → map Ok books ≡ map book_of worked → ((i : ℕ) (book : List Done) → slice_get books i ≡ Some book → book ≡ dones_of plan (judges_inline plan) history i) → (i : ℕ) (put : List Parcel) → slice_get (map (λ w. (pass_of w).put) worked) i ≡ Some put → IsWorkAt plan history i put
  work_at books history works size books_are same i put at =
      let w = got_made (λ w. (pass_of w).put) worked i put at in
      let book = its_book books books_are i w.0 w.1 in
      let within : i < length worked = slice_get_within worked i w.0 w.1 in
      let j = item_at jobs i (omega (arith, within, size)) in record {
        before = state (engine_in j.0);
        after = state (engine_of w.0);
        dones = book.0;
        pass = pass_of w.0;
        put = w.2;
        same = same i book.0 book.1;
        work = work_of works i j.0 w.0 book.0 j.1 w.1 book.2;
      }

  pub each_part : (books : List (List Done)) (history : List Event) (engines afters : List E) → IsPlanned plan → is_legal plan history ≡ true → AllFinished history → (judges_inline plan ≡ false → (w io : ℕ) (v : GivenVerdict) → Contains history (Verdict w io v) → IsSourced (map (λ w. (pass_of w).put) worked) io v) → map engine_in jobs ≡ engines → length worked ≡ length jobs → AreTheirs → afters ≡ map engine_of worked → map Ok books ≡ map book_of worked → ((i : ℕ) (book : List Done) → slice_get books i ≡ Some book → book ≡ dones_of plan (judges_inline plan) history i) → (i : ℕ) (before after : E) (book : List Done) → slice_get engines i ≡ Some before → slice_get afters i ≡ Some after → slice_get books i ≡ Some book → IsWorkers plan history i (state before) (state after) book
  each_part books history engines afters planned legal settled sourced jobs_are size works afters_are books_are same i before after book at_before at_after at_book =
      let j = got_made engine_in jobs i before (ap (λ (es : List E). slice_get es i) jobs_are ∙ at_before) in
      let w = got_made engine_of worked i after (ap (λ (es : List E). slice_get es i) (sym afters_are) ∙ at_after) in
      let its = its_book books books_are i w.0 w.1 in
      let one : its.0 ≡ book = same_Some its.0 book (sym its.1 ∙ at_book) in
      let is_book : book_of w.0 ≡ Ok book = its.2 ∙ ap Ok one in
      let put = (pass_of w.0).put in
      let there : slice_get (map (λ w. (pass_of w).put) worked) i ≡ Some put =
      slice_get-map (λ w. (pass_of w).put) worked i ∙ ap (option_map (λ w. (pass_of w).put)) w.1 in
      let work = work_of works i j.0 w.0 book j.1 w.1 is_book in
      let at : IsWorkAt plan history i put = record {
        before = state (engine_in j.0);
        after = state (engine_of w.0);
        dones = book;
        pass = pass_of w.0;
        put = refl;
        same = same i book at_book;
        work = work;
      } in
      subst (λ (e : E). IsWorkers plan history i (state before) (state e) book) w.2
      (subst (λ (e : E). IsWorkers plan history i (state e) (state (engine_of w.0)) book) j.2
      (its_part plan history i (state (engine_in j.0)) (state (engine_of w.0)) book planned legal
      (called_part plan history legal settled (map (λ w. (pass_of w).put) worked) (work_at books history works size books_are same) sourced i put there at)
      (work_calls (judges_inline plan) (state (engine_in j.0)) book (state (engine_of w.0)) (pass_of w.0) work)
      (same i book at_book)))

-- each of a run's lists has a place for each engine
pub engines_size : {E J W : Type 0} (engine_in : J → E) (engine_of : W → E) (engines afters : List E) (jobs : List J) (worked : List W) → map engine_in jobs ≡ engines → length worked ≡ length jobs → afters ≡ map engine_of worked → length afters ≡ length engines
engines_size engine_in engine_of engines afters jobs worked jobs_are size afters_are =
    ap length afters_are ∙ length-map worked engine_of ∙ size ∙ sym (length-map jobs engine_in) ∙ ap length jobs_are

pub books_size : {E J W B F : Type 0} (engine_in : J → E) (book_of : W → Result B F) (engines : List E) (jobs : List J) (worked : List W) (books : List B) → map engine_in jobs ≡ engines → length worked ≡ length jobs → map Ok books ≡ map book_of worked → length books ≡ length engines
books_size {F = F} engine_in book_of engines jobs worked books jobs_are size books_are =
    sym (length-map books Ok) ∙ ap length books_are ∙ length-map worked book_of ∙ size ∙ sym (length-map jobs engine_in) ∙ ap length jobs_are
