-- No draw is issued twice and no write checked twice, so with a random map no block is.
use Rattle.std.proofs.Common.{◌≡◌, ℕ, suc, ◌+◌, ◌*◌, ◌<◌, ◌≤◌, List, ◌∷◌, ◌++◌, length, get_or, Bool, true, false, cond, ◌&&◌, ◌||◌, not, refl, sym, ◌∙◌, ap, subst, arith, inl, inr}
use Rattle.std.specs.Prelude.{Some, slice_get, ◌==◌}
use Rattle.std.specs.List.{list_any, AllPairs}
use Rattle.std.proofs.lemmas.Bool.{and_from, or_left, or_right, eq-eqb, cases_order, false_from_ne_true, false≢true, not-true, both_ways}
use Rattle.std.proofs.lemmas.List.Sums.{sum_by-append, sum_by-cons}
use Rattle.std.proofs.lemmas.Option.{slice_get_within, get_or_from_slice_get, same_Some}
use Rattle.jr_model.specs.declared.blocks.Piece.{Piece}
use Rattle.jr_model.specs.declared.events.Event.{Event}
use Rattle.jr_model.specs.declared.events.Event.TheVariants.{Issue, Probe, Skip, End, Verdict}
use Rattle.jr_model.specs.declared.events.IssueKind.{IssueKind}
use Rattle.jr_model.specs.declared.events.IssueKind.TheVariants as issue
use Rattle.jr_model.specs.declared.events.Started.{Started}
use Rattle.jr_model.specs.declared.events.WriteId.{WriteId}
use Rattle.jr_model.specs.declared.tickets.TicketKind.TheVariants as ticket
use Rattle.jr_model.specs.declared.workloads.Draw.{Draw}
use Rattle.jr_model.specs.Draws.{draws_over, draws_of_job}
use Rattle.jr_model.specs.History.{started, started_by, kind_for, is_probe, same_write}
use Rattle.jr_model.specs.Legal.{may_happen, takes_up, is_legal}
use Rattle.jr_model.specs.Pieces.{pieces_overlap}
use Rattle.jr_model.specs.Plan.{Plan, SubJob, clone_of}
use Rattle.jr_model.specs.Rounds.{Pass, pass_of, issues_of, issued_count}
use Rattle.jr_model.specs.Words.{seeded, pass_seed, pass_words}
use Rattle.jr_model.proofs.LegalLaws.{same_write_refl}
use Rattle.jr_model.proofs.SerialLaws.{any-append}
use Rattle.jr_model.proofs.Equality.{eq_write}
use Rattle.jr_words.proofs.WordLemmas.{length-words_from}
use Rattle.jr_model.specs.PlanFacts.{IsPlanned}
use Rattle.jr_model.proofs.PieceLemmas.{overlap_turned}
use Rattle.jr_model.proofs.HistoryLemmas.{issue_is_no_probe}
use Rattle.jr_laws_draws.specs.PassLaw.{is_mapped}
use Rattle.jr_laws_draws.proofs.TheLaw.{pass_law, drawable_of}
use Rattle.jr_laws_steps.specs.Drawn.{IsDrawn}
use Rattle.jr_laws_steps.proofs.StartedLemmas.{got_within, started-append, is_started_by, is_started_legally}
use Rattle.jr_laws_steps.proofs.StepLaws.{MayIssue, may_issue_of, may_probe_of}
use Rattle.jr_laws_steps.proofs.DrawnLaws.{issuable, takeable, started_are_drawn-law}

-- an issue, and what comes after it, are counted on
issued_count-from : (before after : List Event) (e : Event) (pass : Pass) → issues_of pass e ≡ true → suc (issued_count before pass) ≤ issued_count (before ++ e ∷ after) pass
issued_count-from before after e pass issues =
    let count : Event → ℕ = λ x. cond (issues_of pass x) 1 0 in
    let all : issued_count (before ++ e ∷ after) pass ≡ issued_count before pass + issued_count (e ∷ after) pass = sum_by-append count before (e ∷ after) in
    let rest : issued_count (e ∷ after) pass ≡ count e + issued_count after pass = sum_by-cons count e after in
    let one : count e ≡ 1 = ap {B = ℕ} (λ (b : Bool). cond b 1 0) issues in
    omega (arith, all, rest, one)

-- a draw that is issued is below those issued so far
issue_is_counted : (plan : Plan) (before after : List Event) (worker : ℕ) (dir : IssueKind) (write : WriteId) (piece : Piece) (job : SubJob)
    → MayIssue plan before dir write piece
    → clone_of plan write.clone ≡ Some job
    → write.number < issued_count (before ++ Issue worker dir write piece ∷ after) (pass_of job write.pass)
issue_is_counted plan before after worker dir write piece job step planned =
    let e = Issue worker dir write piece in
    let pass = pass_of step.job write.pass in
    let jobs : step.job ≡ job = same_Some step.job job (sym step.named.planned ∙ planned) in
    let counted : step.draw.number ≡ issued_count before pass = (issuable plan before pass step.draw step.may).number in
    let number : step.draw.number ≡ write.number = ap (λ (w : WriteId). w.number) step.named.name in
    let clone : step.job.clone ≡ write.clone = ap (λ (w : WriteId). w.clone) step.named.name in
    let issues : issues_of pass e ≡ true = and_from (write.clone == step.job.clone) (write.pass == write.pass) (eq-eqb write.clone step.job.clone (sym clone)) (eq-eqb write.pass write.pass refl) in
    let more : suc (issued_count before pass) ≤ issued_count (before ++ e ∷ after) pass = issued_count-from before after e pass issues in
    let below : write.number < issued_count (before ++ e ∷ after) pass = omega (arith, counted, number, more) in
    subst (λ (j : SubJob). write.number < issued_count (before ++ e ∷ after) (pass_of j write.pass)) jobs below

-- the same of an event that starts it
counted_by : (plan : Plan) (before after : List Event) (e : Event) (a : Started) (job : SubJob)
    → may_happen plan before e ≡ true
    → started_by e ≡ Some a
    → is_probe a.kind ≡ false
    → clone_of plan a.write.clone ≡ Some job
    → a.write.number < issued_count (before ++ e ∷ after) (pass_of job a.write.pass)
counted_by plan before after (Issue worker dir write piece) a job may starts issued planned =
    let e = Issue worker dir write piece in
    let s : Started = record { worker = worker; kind = kind_for dir; write = write; piece = piece } in
    let same : s.write ≡ a.write = ap (λ (x : Started). x.write) (same_Some s a starts) in
    let here : clone_of plan write.clone ≡ Some job = ap (λ (w : WriteId). clone_of plan w.clone) same ∙ planned in
    subst (λ (w : WriteId). w.number < issued_count (before ++ e ∷ after) (pass_of job w.pass)) same
    (issue_is_counted plan before after worker dir write piece job (may_issue_of plan before worker dir write piece may) here)
counted_by plan before after (Probe worker write piece) a job may starts issued planned =
    let s : Started = record { worker = worker; kind = ticket.Probe; write = write; piece = piece } in
    let probe : true ≡ is_probe a.kind = ap (λ (x : Started). is_probe x.kind) (same_Some s a starts) in
    absurd (false≢true (sym issued ∙ sym probe))
counted_by plan before after (Skip worker write) a job may starts issued planned = cc
counted_by plan before after (End worker id outcome) a job may starts issued planned = cc
counted_by plan before after (Verdict worker id verdict) a job may starts issued planned = cc

-- each draw that was issued is below the count of those issued
pub is_counted : (plan : Plan) (history : List Event) (i : ℕ) (a : Started) (job : SubJob)
    → is_legal plan history ≡ true
    → slice_get (started history) i ≡ Some a
    → is_probe a.kind ≡ false
    → clone_of plan a.write.clone ≡ Some job
    → a.write.number < issued_count history (pass_of job a.write.pass)
is_counted plan history i a job legal at issued planned =
    let was = is_started_legally plan history i a legal at in
    subst (λ (h : List Event). a.write.number < issued_count h (pass_of job a.write.pass)) (sym was.moment.split)
    (counted_by plan was.moment.before was.moment.after was.moment.event a job was.may was.moment.starts issued planned)

-- an event that starts a check of a write takes it up
taken_by : (e : Event) (a : Started) → started_by e ≡ Some a → is_probe a.kind ≡ true → takes_up a.write e ≡ true
taken_by (Issue worker dir write piece) a starts probe =
    let s : Started = record { worker = worker; kind = kind_for dir; write = write; piece = piece } in
    let kind : is_probe (kind_for dir) ≡ is_probe a.kind = ap (λ (x : Started). is_probe x.kind) (same_Some s a starts) in
    absurd (false≢true (sym (issue_is_no_probe dir) ∙ kind ∙ probe))
taken_by (Probe worker write piece) a starts probe =
    let s : Started = record { worker = worker; kind = ticket.Probe; write = write; piece = piece } in
    let same : write ≡ a.write = ap (λ (x : Started). x.write) (same_Some s a starts) in
    subst (λ (w : WriteId). same_write write w ≡ true) same (same_write_refl write)
taken_by (Skip worker write) a starts probe = cc
taken_by (End worker id outcome) a starts probe = cc
taken_by (Verdict worker id verdict) a starts probe = cc

-- a write that was checked was taken up
pub is_taken_up : (history : List Event) (i : ℕ) (a : Started) → slice_get (started history) i ≡ Some a → is_probe a.kind ≡ true → list_any (takes_up a.write) history ≡ true
is_taken_up history i a at probe =
    let was = is_started_by history i a at in
    let test : Event → Bool = takes_up a.write in
    let here : test was.event ≡ true = taken_by was.event a was.starts probe in
    subst (λ (h : List Event). list_any test h ≡ true) (sym was.split)
    (any-append test was.before (was.event ∷ was.after)
    ∙ or_right (list_any test was.before) (test was.event || list_any test was.after) (or_left (test was.event) (list_any test was.after) here))

-- what is started was not started before
not_again : (plan : Plan) (history : List Event) (e : Event) (i : ℕ) (a b : Started)
    → is_legal plan history ≡ true
    → may_happen plan history e ≡ true
    → started_by e ≡ Some b
    → slice_get (started history) i ≡ Some a
    → a.write ≡ b.write
    → is_probe a.kind ≡ is_probe b.kind
    → ⊥
not_again plan history (Issue worker dir write piece) i a b legal may starts at same kinds =
    let step = may_issue_of plan history worker dir write piece may in
    let pass = pass_of step.job write.pass in
    let s : Started = record { worker = worker; kind = kind_for dir; write = write; piece = piece } in
    let is_b : s ≡ b = same_Some s b starts in
    let writes : a.write ≡ write = same ∙ ap (λ (x : Started). x.write) (sym is_b) in
    let issued : is_probe a.kind ≡ false = kinds ∙ ap (λ (x : Started). is_probe x.kind) (sym is_b) ∙ issue_is_no_probe dir in
    let planned : clone_of plan a.write.clone ≡ Some step.job = ap (λ (w : WriteId). clone_of plan w.clone) writes ∙ step.named.planned in
    let below : write.number < issued_count history pass =
    subst (λ (w : WriteId). w.number < issued_count history (pass_of step.job w.pass)) writes (is_counted plan history i a step.job legal at issued planned) in
    let counted : step.draw.number ≡ issued_count history pass = (issuable plan history pass step.draw step.may).number in
    let number : step.draw.number ≡ write.number = ap (λ (w : WriteId). w.number) step.named.name in
    omega (arith, below, counted, number)
not_again plan history (Probe worker write piece) i a b legal may starts at same kinds =
    let found = may_probe_of plan history worker write piece may in
    let step = found.0 in
    let s : Started = record { worker = worker; kind = ticket.Probe; write = write; piece = piece } in
    let is_b : s ≡ b = same_Some s b starts in
    let writes : a.write ≡ write = same ∙ ap (λ (x : Started). x.write) (sym is_b) in
    let probe : is_probe a.kind ≡ true = kinds ∙ ap (λ (x : Started). is_probe x.kind) (sym is_b) in
    let untaken = (takeable plan history (pass_of step.job write.pass) step.draw step.may).untaken in
    let taken : list_any (takes_up write) history ≡ true =
    subst (λ (w : WriteId). list_any (takes_up w) history ≡ true) writes (is_taken_up history i a at probe) in
    let free : not (list_any (takes_up write) history) ≡ true =
    subst (λ (w : WriteId). not (list_any (takes_up w) history) ≡ true) step.named.name untaken in
    both_ways (list_any (takes_up write) history) (not-true (list_any (takes_up write) history) free) taken
not_again plan history (Skip worker write) i a b legal may starts at same kinds = cc
not_again plan history (End worker id outcome) i a b legal may starts at same kinds = cc
not_again plan history (Verdict worker id verdict) i a b legal may starts at same kinds = cc

-- two starts of one draw are not one before the other
not_before : (plan : Plan) (history : List Event) (i j : ℕ) (a b : Started)
    → is_legal plan history ≡ true
    → slice_get (started history) i ≡ Some a
    → slice_get (started history) j ≡ Some b
    → a.write ≡ b.write
    → is_probe a.kind ≡ is_probe b.kind
    → i < j
    → ⊥
not_before plan history i j a b legal at_i at_j same kinds before =
    let was = is_started_legally plan history j b legal at_j in
    let front = was.moment.before in
    let rest = was.moment.event ∷ was.moment.after in
    let place : length (started front) ≡ j = was.moment.place in
    let whole : started history ≡ started front ++ started rest = ap started was.moment.split ∙ started-append front rest in
    let within : i < length (started front) = omega (arith, place, before) in
    let there : slice_get (started front) i ≡ Some a =
    got_within (started front) (started rest) i a within (subst (λ (ios : List Started). slice_get ios i ≡ Some a) whole at_i) in
    not_again plan front was.moment.event i a b was.legal was.may was.moment.starts there same kinds

pub started_once-law : (plan : Plan) (history : List Event) (i j : ℕ) (a b : Started)
    → IsPlanned plan
    → is_legal plan history ≡ true
    → slice_get (started history) i ≡ Some a
    → slice_get (started history) j ≡ Some b
    → same_write a.write b.write ≡ true
    → is_probe a.kind ≡ is_probe b.kind
    → i ≡ j
started_once-law plan history i j a b planned legal at_i at_j same kinds =
    let one = eq_write a.write b.write same in
    elim (cases_order i j) [
      | inl equal ↦ equal
      | inr other ↦
          elim other [
            | inl before ↦ absurd (not_before plan history i j a b legal at_i at_j one kinds before)
            | inr after ↦ absurd (not_before plan history j i b a legal at_j at_i (sym one) (sym kinds) after)
          ]
    ]

-- what holds of all pairs holds of those at two places
pairs_at : {X : Type 0} (R : X → X → Type 0) (xs : List X) (i j : ℕ) (x y : X) → AllPairs R xs → i < j → slice_get xs i ≡ Some x → slice_get xs j ≡ Some y → R x y
pairs_at R xs i j x y all before at_i at_j =
    subst (λ v. R v y) (get_or_from_slice_get xs i x y at_i)
    (subst (λ v. R (get_or xs i y) v) (get_or_from_slice_get xs j y y at_j)
    (all i j y before (slice_get_within xs j y at_j)))

apart_turned : (a b : Piece) → pieces_overlap a b ≡ false → pieces_overlap b a ≡ false
apart_turned a b apart =
    false_from_ne_true (pieces_overlap b a) (λ shared. both_ways (pieces_overlap a b) apart (overlap_turned b a shared))

-- two draws of a pass with a map share no byte
draws_apart : (plan : Plan) (job : SubJob) (c p i j : ℕ) (x y : Draw)
    → IsPlanned plan
    → clone_of plan c ≡ Some job
    → is_mapped job ≡ true
    → slice_get (draws_of_job job p) i ≡ Some x
    → slice_get (draws_of_job job p) j ≡ Some y
    → i < j
    → pieces_overlap x.piece y.piece ≡ false
draws_apart plan job c p i j x y planned at mapped at_i at_j before =
    let law = pass_law job (drawable_of job (planned.drafted.limited c job at)) in
    let words = pass_words job p (4 * job.cells) in
    let enough : length words ≡ 4 * job.cells = length-words_from (seeded (pass_seed job p)) (4 * job.cells) in
    let covers = law.once mapped words (omega (arith, enough)) in
    pairs_at (λ (a : Draw) (b : Draw). pieces_overlap a.piece b.piece ≡ false) (draws_over job words) i j x y covers.disjoint before at_i at_j

-- what was started for draws at different places shares no byte
started_apart : (plan : Plan) (job : SubJob) (a b : Started) (x y : Draw)
    → IsPlanned plan
    → is_mapped job ≡ true
    → IsDrawn plan a job x
    → IsDrawn plan b job y
    → a.write.pass ≡ b.write.pass
    → a.write.number < b.write.number
    → pieces_overlap a.piece b.piece ≡ false
started_apart plan job a b x y planned mapped drawn_a drawn_b passes before =
    let there : slice_get (draws_of_job job a.write.pass) b.write.number ≡ Some y =
    subst (λ (p : ℕ). slice_get (draws_of_job job p) b.write.number ≡ Some y) (sym passes) drawn_b.drawn in
    let apart = draws_apart plan job a.write.clone a.write.pass a.write.number b.write.number x y planned drawn_a.planned mapped drawn_a.drawn there before in
    subst (λ (p : Piece). pieces_overlap p b.piece ≡ false) (sym drawn_a.piece)
    (subst (λ (p : Piece). pieces_overlap x.piece p ≡ false) (sym drawn_b.piece) apart)

-- what was started for a clone was drawn of it
drawn_of : (plan : Plan) (history : List Event) (id : ℕ) (io : Started) (job : SubJob)
    → IsPlanned plan
    → is_legal plan history ≡ true
    → slice_get (started history) id ≡ Some io
    → clone_of plan io.write.clone ≡ Some job
    → (draw : Draw) × IsDrawn plan io job draw
drawn_of plan history id io job planned legal at of_job =
    let drawn = started_are_drawn-law plan history id io planned legal at in
    (drawn.1, subst (λ (j : SubJob). IsDrawn plan io j drawn.1) (same_Some drawn.0 job (sym drawn.2.planned ∙ of_job)) drawn.2)

pub no_block_twice-law : (plan : Plan) (history : List Event) (i j : ℕ) (a b : Started) (job : SubJob)
    → IsPlanned plan
    → is_legal plan history ≡ true
    → slice_get (started history) i ≡ Some a
    → slice_get (started history) j ≡ Some b
    → is_probe a.kind ≡ false
    → is_probe b.kind ≡ false
    → a.write.clone ≡ b.write.clone
    → a.write.pass ≡ b.write.pass
    → clone_of plan a.write.clone ≡ Some job
    → is_mapped job ≡ true
    → ¬ (i ≡ j)
    → pieces_overlap a.piece b.piece ≡ false
no_block_twice-law plan history i j a b job planned legal at_i at_j issued_a issued_b clones passes of_job mapped apart =
    let drawn_a = drawn_of plan history i a job planned legal at_i of_job in
    let drawn_b = drawn_of plan history j b job planned legal at_j (ap (clone_of plan) (sym clones) ∙ of_job) in
    elim (cases_order a.write.number b.write.number) [
      | inl numbers ↦
          let same : same_write a.write b.write ≡ true =
          and_from ((a.write.clone == b.write.clone) && (a.write.pass == b.write.pass)) (a.write.number == b.write.number)
          (and_from (a.write.clone == b.write.clone) (a.write.pass == b.write.pass) (eq-eqb a.write.clone b.write.clone clones) (eq-eqb a.write.pass b.write.pass passes))
          (eq-eqb a.write.number b.write.number numbers) in
          absurd (apart (started_once-law plan history i j a b planned legal at_i at_j same (issued_a ∙ sym issued_b)))
      | inr other ↦
          elim other [
            | inl before ↦ started_apart plan job a b drawn_a.0 drawn_b.0 planned mapped drawn_a.1 drawn_b.1 passes before
            | inr after ↦ apart_turned b.piece a.piece (started_apart plan job b a drawn_b.0 drawn_a.0 planned mapped drawn_b.1 drawn_a.1 (sym passes) after)
          ]
    ]
