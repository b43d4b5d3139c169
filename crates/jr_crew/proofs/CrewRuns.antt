-- What a run of many workers gives, by the states of its engines and its books.
use Rattle.std.proofs.Common.{◌≡◌, ℕ, List, length, map, true, sym, ◌∙◌, subst}
use Rattle.std.specs.Prelude.{Option, Some, None, slice_get}
use Rattle.std.specs.List.{list_all}
use Rattle.std.proofs.lemmas.List.{length-map}
use Rattle.jr_model.specs.declared.events.Event.{Event}
use Rattle.jr_model.specs.Legal.{is_legal, is_complete}
use Rattle.jr_model.specs.Plan.{Plan}
use Rattle.jr_model.specs.Replies.{EngineState}
use Rattle.jr_model.proofs.PlaceLemmas.{got_made}
use Rattle.jr_crew_books.specs.declared.books.Done.{Done}
use Rattle.jr_crew_books.specs.Numbers.{is_numbered, judges_inline}
use Rattle.jr_crew_books.specs.Finished.{AllFinished}
use Rattle.jr_desk.specs.DeskState.{DeskState}
use Rattle.jr_crew.specs.Crews.{IsWorkers}
use Rattle.jr_crew.specs.Whole.{IsBooked, IsCrewRun, IsEndedCrewRun}
use Rattle.jr_crew.proofs.Crewing.{AreOwn}

pub crew_run : {E : Type 0} (state : E → EngineState) (engines afters : List E) (books : List (List Done)) (plan : Plan) (history : List Event)
    → is_legal plan history ≡ true
    → AllFinished history
    → list_all (is_numbered (length engines) plan.verifiers) history ≡ true
    → (judges_inline plan ≡ true → AreOwn plan history)
    → length afters ≡ length engines
    → length books ≡ length engines
    → ((i : ℕ) (before after : E) (book : List Done) → slice_get engines i ≡ Some before → slice_get afters i ≡ Some after → slice_get books i ≡ Some book → IsWorkers plan history i (state before) (state after) book)
    → IsEndedCrewRun plan history (map state engines) (map state afters) books
crew_run state engines afters books plan history legal settled numbered own afters_count books_count each = record {
  legal = legal;
  settled = settled;
  numbered = subst (λ (n : ℕ). list_all (is_numbered n plan.verifiers) history ≡ true) (sym (length-map engines state)) numbered;
  own = own;
  engines_count = length-map afters state ∙ afters_count ∙ sym (length-map engines state);
  books_count = books_count ∙ sym (length-map engines state);
  each = λ (i : ℕ) (before after : EngineState) (book : List Done) (at_before : slice_get (map state engines) i ≡ Some before) (at_after : slice_get (map state afters) i ≡ Some after) (at_book : slice_get books i ≡ Some book).
      let b = got_made state engines i before at_before in
      let a = got_made state afters i after at_after in
      subst (λ (e : EngineState). IsWorkers plan history i e after book) b.2
      (subst (λ (e : EngineState). IsWorkers plan history i (state b.0) e book) a.2
      (each i b.0 a.0 book b.1 a.1 at_book));
}

-- where it is complete it is a whole one
pub whole_crew_run : (plan : Plan) (history : List Event) (befores afters : List EngineState) (books : List (List Done)) → IsEndedCrewRun plan history befores afters books → is_complete plan history ≡ true → IsCrewRun plan history befores afters books
whole_crew_run plan history befores afters books ended complete = record {
  legal = ended.legal;
  complete = complete;
  numbered = ended.numbered;
  own = ended.own;
  engines_count = ended.engines_count;
  books_count = ended.books_count;
  each = ended.each;
}

-- what the run answers, where the desk is of its plan
pub booked : {S : Type 0} (plan : Plan) (stop : Option S) (desk : DeskState) (befores afters : List EngineState) (books : List (List Done)) → desk.plan ≡ plan → IsEndedCrewRun plan desk.history befores afters books → (stop ≡ None → is_complete desk.plan desk.history ≡ true) → IsBooked plan stop desk befores afters books
booked plan stop desk befores afters books same ended complete = record {
  planned = same;
  ended = ended;
  run = whole_crew_run plan desk.history befores afters books ended;
  unasked = λ unasked. subst (λ (p : Plan). is_complete p desk.history ≡ true) same (complete unasked);
}
