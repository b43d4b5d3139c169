use Rattle.std.proofs.Common.{◌≡◌, ℕ, false, length, true, subst}
use Rattle.std.specs.Prelude.{Contains, map}
use Rattle.std.specs.List.{list_all}
use Rattle.jr_model.specs.declared.events.Event.TheVariants.{Verdict}
use Rattle.jr_model.specs.declared.events.Verdict.{Verdict as GivenVerdict}
use Rattle.jr_model.specs.Plan.{Plan}
use Rattle.jr_model.specs.Legal.{is_legal, is_complete}
use Rattle.jr_crew_books.specs.Numbers.{is_numbered, is_own_verdict, judges_inline}
use Rattle.jr_crew_books.specs.Books.{dones_of}
use Rattle.jr_crew_channel.specs.Passes.{pass_state}
use Rattle.jr_crew_threads.specs.Judging.{IsSourced}
use Rattle.jr_crew_threads.specs.Stops.{IsCompleteOrAsked}
use Rattle.jr_crew_threads.proofs.Asking.{complete_unasked}
use Rattle.jr_crew.proofs.CrewRuns.{booked, crew_run}
use Rattle.jr_crew.proofs.Crewing.{AreOwn, all_putters, each_part, engines_size, books_size}
use Rattle.jr_crew.proofs.crew.run_as.Goals as goal
use Rattle.jr_desk_tickets.specs.Kept.{tickets_of}

pub gathered-requires-clause-ended : goal.gathered-requires-clause-ended
gathered-requires-clause-ended g c =
    all_putters (λ e. (g.dyn-1.0.entry e.vtable).1.state e.value) (λ worker. worker.0) (λ one. one.0) (λ one. one.1.book) (λ one. pass_state one.1.part.pass) c.in_ok-workers.workers.items
    c.in_ok-desk.ended.items c.args.plan c.in_ok-desk.ensures.each c.in_ok-desk.ensures.len

pub returns-clause-booked : goal.returns-clause-booked
returns-clause-booked g c =
    let desk = c.in_ok-desk.desk in
    let engines = c.args.engines.items in
    let afters = c.in_ok-engines.engines.items in
    let books = c.in_ok-engines.books.items in
    let workers = c.in_ok-workers.workers.items in
    let ended = c.in_ok-desk.ended.items in
    let done = c.in_ok-engines.ensures in
    let same : desk.plan ≡ c.args.plan = c.in_ok-desk.ensures.plan in
    let legal : is_legal c.args.plan desk.history ≡ true = subst (λ (p : Plan). is_legal p desk.history ≡ true) same done.legal in
    let own : judges_inline c.args.plan ≡ true → AreOwn c.args.plan desk.history =
    subst (λ (p : Plan). judges_inline p ≡ true → list_all (is_own_verdict (tickets_of p desk.history)) desk.history ≡ true) same done.own in
    let books_count : length books ≡ length engines =
    books_size (λ worker. worker.0) (λ one. one.1.book) engines workers ended books c.in_ok-workers.ensures.engines c.in_ok-desk.ensures.len done.books in
    booked c.args.plan c.args.watch.stop desk _ _ books same
    (crew_run (λ e. (g.dyn-1.0.entry e.vtable).1.state e.value) engines afters books c.args.plan desk.history legal
    done.settled
    (subst (λ (p : Plan). list_all (is_numbered (length engines) p.verifiers) desk.history ≡ true) same
    (subst (λ (n : ℕ). list_all (is_numbered n desk.plan.verifiers) desk.history ≡ true) books_count done.numbered))
    own
    (engines_size (λ worker. worker.0) (λ one. one.0) engines afters workers ended c.in_ok-workers.ensures.engines c.in_ok-desk.ensures.len done.engines)
    books_count
    (each_part (λ e. (g.dyn-1.0.entry e.vtable).1.state e.value) (λ worker. worker.0) (λ one. one.0) (λ one. one.1.book) (λ one. pass_state one.1.part.pass)
    workers ended c.args.plan books desk.history engines afters c.facts.ensures legal done.settled
    (subst (λ (p : Plan). judges_inline p ≡ false → (w io : ℕ) (v : GivenVerdict) → Contains desk.history (Verdict w io v)
    → IsSourced (map (λ one. (pass_state one.1.part.pass).put) ended) io v) same done.sourced)
    c.in_ok-workers.ensures.engines c.in_ok-desk.ensures.len c.in_ok-desk.ensures.each done.engines done.books
    (λ i book at.
    subst (λ (p : Plan). book ≡ dones_of p (judges_inline p) desk.history i) same (done.each i book at))))
    (complete_unasked c.args.watch.stop (is_complete desk.plan desk.history) c.in_ok-engines.asked done.asked)

pub returns-clause-asked : goal.returns-clause-asked
returns-clause-asked g c =
    let desk = c.in_ok-desk.desk in
    subst (λ (p : Plan). IsCompleteOrAsked c.args.watch.stop (is_complete p desk.history) c.in_ok-engines.asked) c.in_ok-desk.ensures.plan
    c.in_ok-engines.ensures.asked
