-- What a worker's own book says of its engine, as it grows and as a whole.
use Rattle.std.proofs.Common.{◌≡◌, ℕ, ◌+◌, ◌<◌, List, [], ◌∷◌, ◌++◌, length, Bool, true, false, cond, refl, sym, ◌∙◌, ap, subst, arith}
use Rattle.std.specs.Prelude.{All, ◌&&◌, None, Option, Some, count_by, is_some, map, replicate, slice_index_or, take}
use Rattle.std.proofs.lemmas.List.{map-append, take_more}
use Rattle.std.proofs.lemmas.List.Elements.{All-push, All-same}
use Rattle.jr_model.specs.declared.events.Outcome.{Outcome}
use Rattle.jr_model.specs.declared.events.Verdict.{Verdict}
use Rattle.jr_model.specs.Legal.{is_void}
use Rattle.jr_model.specs.Replies.{EngineState}
use Rattle.jr_model.specs.declared.tickets.Ticket.{Ticket}
use Rattle.jr_engines.specs.Answers.{Answers, AnswerParts, is_failed}
use Rattle.jr_header.specs.Served.{answer_verdict, asked_with, is_to_judge}
use Rattle.jr_crew_books.specs.declared.books.Done.{Done}
use Rattle.jr_crew.specs.Crews.{is_failed_done, IsCalledFor, AreCallsFor, IsSaidOf}
use Rattle.jr_crew_channel.specs.declared.parcel.Parcel.TheVariants.{Check}
use Rattle.jr_crew_channel.specs.declared.parcel.PassState.{PassState}
use Rattle.jr_crew_channel.specs.PassStates.{with_put}
use Rattle.jr_crew_threads.specs.Parts.{IsPutter, one_part}
use Rattle.jr_crew.specs.Working.{IsAnswered, AreAnswered, IsDoneOf, AreDone, IsWork, CanBeServed, handed_on, all_handed_on}
use Rattle.jr_crew.proofs.Counting.{count-cons}

-- one more call
pub calls_on : (inline : Bool) (before : EngineState) (book : List Done) (middle : EngineState) (done : Done) (after : EngineState) → AreCallsFor inline before book middle → IsCalledFor inline middle done after → AreCallsFor inline before (book ++ done ∷ []) after
calls_on inline before [] middle done after calls call = (after, subst (λ (e : EngineState). IsCalledFor inline e done after) calls call, refl)
calls_on inline before (first ∷ book) middle done after calls call =
    (calls.0, calls.1, calls_on inline calls.0 book middle done after calls.2 call)

-- one more answer
pub answered_on : (before : EngineState) (answers : List AnswerParts) (middle : EngineState) (answer : AnswerParts) (after : EngineState) → AreAnswered before answers middle → IsAnswered middle answer after → AreAnswered before (answers ++ answer ∷ []) after
answered_on before [] middle answer after are is = (after, subst (λ (e : EngineState). IsAnswered e answer after) are is, refl)
answered_on before (first ∷ answers) middle answer after are is = (are.0, are.1, answered_on are.0 answers middle answer after are.2 is)

-- one more item of the book
pub done_on : (inline : Bool) (answers : List AnswerParts) (old middle : List Done) (answer : AnswerParts) (done : Done) → AreDone inline answers old middle → IsDoneOf inline answer done → AreDone inline (answers ++ answer ∷ []) old (middle ++ done ∷ [])
done_on inline [] old middle answer done are is = (done, is, ap (λ (book : List Done). book ++ done ∷ []) are)
done_on inline (first ∷ answers) old middle answer done are is =
    (are.0, are.1, done_on inline answers (old ++ are.0 ∷ []) middle answer done are.2 is)

-- the same of the next of a list that it is written of
pub done_next : {T : Type 0} (inline : Bool) (answer_of : T → AnswerParts) (told : List T) (i : ℕ) (one : T) (old book new : List Done) (done : Done) → i < length told → one ≡ slice_index_or told i one → AreDone inline (map answer_of (take i told)) old book → IsDoneOf inline (answer_of one) done → new ≡ book ++ done ∷ [] → AreDone inline (map answer_of (take (i + 1) told)) old new
done_next {T} inline answer_of told i one old book new done within here are is same =
    let more : take (i + 1) told ≡ take i told ++ one ∷ [] =
    take_more told i one within ∙ ap (λ (x : T). take i told ++ x ∷ []) (sym here) in
    let answers : map answer_of (take (i + 1) told) ≡ map answer_of (take i told) ++ answer_of one ∷ [] =
    ap (map answer_of) more ∙ map-append answer_of (take i told) (one ∷ []) in
    subst (λ (b : List Done). AreDone inline (map answer_of (take (i + 1) told)) old b) (sym same)
    (subst (λ (a : List AnswerParts). AreDone inline a old (book ++ done ∷ [])) (sym answers)
    (done_on inline (map answer_of (take i told)) old book (answer_of one) done are is))

-- what was answered and what was written of it is one call
called : (inline : Bool) (before : EngineState) (answer : AnswerParts) (done : Done) (after : EngineState) → IsAnswered before answer after → IsDoneOf inline answer done → IsCalledFor inline before done after
called inline before answer done after is of =
    record {
      answer = answer;
      asked = subst (λ (t : Ticket). Answers before t (asked_with t.kind t (replicate t.piece.len 0)) answer after) (sym of.ticket) is;
      outcome = of.outcome;
      verdict = of.verdict;
    }

-- what was answered and then written are the engine's next calls
pub calls_done : (inline : Bool) (before : EngineState) (old : List Done) (middle : EngineState) (answers : List AnswerParts) (after : EngineState) (new : List Done) → AreCallsFor inline before old middle → AreAnswered middle answers after → AreDone inline answers old new → AreCallsFor inline before new after
calls_done inline before old middle [] after new calls are done =
    subst (λ (book : List Done). AreCallsFor inline before book after) (sym done)
    (subst (λ (e : EngineState). AreCallsFor inline before old e) (sym are) calls)
calls_done inline before old middle (answer ∷ answers) after new calls are done =
    calls_done inline before (old ++ done.0 ∷ []) are.0 answers after new
    (calls_on inline before old middle done.0 are.0 calls (called inline middle answer done.0 are.0 are.1 done.1))
    are.2 done.2

-- each item was one call
pub calls_count : (inline : Bool) (before : EngineState) (book : List Done) (after : EngineState) → AreCallsFor inline before book after → after.calls ≡ before.calls + length book
calls_count inline before [] after calls = let same : after.calls ≡ before.calls = ap (λ (e : EngineState). e.calls) calls in omega (arith, same)
calls_count inline before (done ∷ book) after calls =
    let one = calls.1.asked.calls in
    let rest = calls_count inline calls.0 book after calls.2 in
    omega (arith, one, rest)

one_more : (b : Bool) (old middle new n : ℕ) → middle ≡ cond b (old + 1) old → new ≡ middle + n → new ≡ old + (cond b 1 0 + n)
one_more true old middle new n is rest = omega (arith, is, rest)
one_more false old middle new n is rest = omega (arith, is, rest)

-- and each that failed a failure
pub failures_count : (inline : Bool) (before : EngineState) (book : List Done) (after : EngineState) → AreCallsFor inline before book after → after.failures ≡ before.failures + count_by is_failed_done book
failures_count inline before [] after calls = let same : after.failures ≡ before.failures = ap (λ (e : EngineState). e.failures) calls in omega (arith, same)
failures_count inline before (done ∷ book) after calls =
    let call = calls.1 in
    one_more (is_failed done.outcome) before.failures calls.0.failures after.failures (count_by is_failed_done book)
    (call.asked.failures ∙ ap (λ (o : Outcome). cond (is_failed o) (before.failures + 1) before.failures) (sym call.outcome))
    (failures_count inline calls.0 book after calls.2)
    ∙ ap (λ (n : ℕ). before.failures + n) (sym (count-cons is_failed_done done book))

-- one more is handed on
pub handed_all : (inline : Bool) (answers : List AnswerParts) (answer : AnswerParts) (before : PassState) → all_handed_on inline (answers ++ answer ∷ []) before ≡ handed_on inline answer (all_handed_on inline answers before)
handed_all inline [] answer before = refl
handed_all inline (first ∷ answers) answer before = handed_all inline answers answer (handed_on inline first before)

-- one ticket more can be served
pub taken : (tickets more : List Ticket) (ticket : Ticket) → All CanBeServed tickets → CanBeServed ticket → more ≡ tickets ++ ticket ∷ [] → All CanBeServed more
taken tickets more ticket are is same = All-same CanBeServed more (tickets ++ ticket ∷ []) same (All-push CanBeServed tickets ticket are is)

-- what is said of an answer
pub said_by : (inline : Bool) (answer : AnswerParts) (said : Option Verdict) → is_some said ≡ (inline && is_to_judge answer) → ((verdict : Verdict) → said ≡ Some verdict → is_void verdict ≡ false → verdict ≡ answer_verdict answer) → IsSaidOf inline answer said
said_by inline answer None judged saying =
    record {
      said = answer_verdict answer;
      true_of = λ _. refl;
      is = ap (λ (b : Bool). cond b (Some (answer_verdict answer)) None) judged;
    }
said_by inline answer (Some verdict) judged saying =
    record {
      said = verdict;
      true_of = saying verdict refl;
      is = ap (λ (b : Bool). cond b (Some verdict) None) judged;
    }

-- answers behind others
answered_more : (before : EngineState) (answers : List AnswerParts) (middle : EngineState) (more : List AnswerParts) (after : EngineState) → AreAnswered before answers middle → AreAnswered middle more after → AreAnswered before (answers ++ more) after
answered_more before [] middle more after are rest = subst (λ (e : EngineState). AreAnswered e more after) are rest
answered_more before (first ∷ answers) middle more after are rest = (are.0, are.1, answered_more are.0 answers middle more after are.2 rest)

-- what a book has of them
done_more : (inline : Bool) (answers : List AnswerParts) (old book : List Done) (more : List AnswerParts) (new : List Done) → AreDone inline answers old book → AreDone inline more book new → AreDone inline (answers ++ more) old new
done_more inline [] old book more new are rest = subst (λ (b : List Done). AreDone inline more b new) are rest
done_more inline (first ∷ answers) old book more new are rest =
    (are.0, are.1, done_more inline answers (old ++ are.0 ∷ []) book more new are.2 rest)

-- what is handed on of them
handed_more : (inline : Bool) (answers more : List AnswerParts) (first : PassState) → all_handed_on inline (answers ++ more) first ≡ all_handed_on inline more (all_handed_on inline answers first)
handed_more inline [] more first = refl
handed_more inline (answer ∷ answers) more first = handed_more inline answers more (handed_on inline answer first)

-- nothing is done yet
pub no_work : (inline : Bool) (engine : EngineState) (pass : PassState) (book : List Done) → book ≡ [] → IsWork inline engine pass book engine pass
no_work inline engine pass book none = record { answers = []; answered = refl; done = none; handed = refl }

-- more was answered, written, and handed over
pub worked_on : (inline : Bool) (before : EngineState) (first : PassState) (old : List Done) (middle : EngineState) (pass : PassState) (more : List AnswerParts) (after : EngineState) (new : List Done) (last : PassState) → IsWork inline before first old middle pass → AreAnswered middle more after → AreDone inline more old new → last ≡ all_handed_on inline more pass → IsWork inline before first new after last
worked_on inline before first old middle pass more after new last work are done handed = record {
  answers = work.answers ++ more;
  answered = answered_more before work.answers middle more after work.answered are;
  done = done_more inline work.answers [] old more new work.done done;
  handed = handed ∙ ap (all_handed_on inline more) work.handed ∙ sym (handed_more inline work.answers more first);
}

-- what is handed on is put, and nothing is taken
one_putter : (inline : Bool) (answer : AnswerParts) (pass : PassState) → IsPutter pass → IsPutter (handed_on inline answer pass)
one_putter inline answer pass is = by (is_to_judge answer) inline
  where
    by : (judged here : Bool) → IsPutter (cond judged (cond here pass (with_put pass (Check answer))) pass)
    by true true = is
    by true false = record { parts = is.parts; of = is.of; taken = is.taken }
    by false here = is

putters : (inline : Bool) (answers : List AnswerParts) (pass : PassState) → IsPutter pass → IsPutter (all_handed_on inline answers pass)
putters inline [] pass is = is
putters inline (answer ∷ answers) pass is = putters inline answers (handed_on inline answer pass) (one_putter inline answer pass is)

-- a worker puts and takes nothing
pub work_puts : (inline : Bool) (before : EngineState) (first : PassState) (book : List Done) (after : EngineState) (last : PassState) → first ≡ one_part → IsWork inline before first book after last → IsPutter last
work_puts inline before first book after last begins work =
    subst IsPutter (sym (work.handed ∙ ap (all_handed_on inline work.answers) begins))
    (putters inline work.answers one_part (record { parts = refl; of = refl; taken = refl }))
