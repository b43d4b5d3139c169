-- The write of a clone that was issued last is the furthest of those that were issued.
use Rattle.std.proofs.Common.{◌≡◌, ℕ, suc, ◌<◌, ◌≤◌, List, [], ◌∷◌, ◌++◌, Bool, true, false, cond, refl, sym, ◌∙◌, ap, subst, arith, inl, inr}
use Rattle.std.specs.Prelude.{◌⊎◌, Option, Some, None, slice_get, ◌==◌}
use Rattle.std.specs.Option.{option_or}
use Rattle.std.proofs.lemmas.Bool.{and_from, and_right, and_left, eq-eqb, ne_eqb, cases_eq, cases_lt, cases_order, both_ways}
use Rattle.std.proofs.lemmas.Option.{slice_get_within, same_Some}
use Rattle.jr_model.specs.declared.blocks.Piece.{Piece}
use Rattle.jr_model.specs.declared.events.Event.{Event}
use Rattle.jr_model.specs.declared.events.Event.TheVariants.{Issue, Probe, Skip, End, Verdict}
use Rattle.jr_model.specs.declared.events.IssueKind.{IssueKind}
use Rattle.jr_model.specs.declared.events.IssueKind.TheVariants as issue
use Rattle.jr_model.specs.declared.events.WriteId.{WriteId}
use Rattle.jr_model.specs.declared.workloads.Draw.{Draw}
use Rattle.jr_model.specs.Draws.{draws_of_job}
use Rattle.jr_model.specs.History.{is_write, kind_for}
use Rattle.jr_model.specs.Legal.{is_legal, may_happen}
use Rattle.jr_model.specs.Plan.{Plan, SubJob, IsNumbered, clone_of, issued_as}
use Rattle.jr_model.specs.Rounds.{pass_of, is_write_draw, issues_of, issued_count}
use Rattle.jr_model.proofs.HistoryLemmas.{issued_push, by_events}
use Rattle.jr_laws_quiet.proofs.Issues.{issued_same}
use Rattle.jr_laws_quiet.proofs.Steps.{write_kind}
use Rattle.jr_backlog.specs.CurrentRound.{write_issued, last_issued}
use Rattle.jr_laws_rounds.proofs.CurrentPhases.{IsIssued, BegunInTurn, IsLast, LastIs, last_issued-more, count_longer, its_draw, begun_in_turn}

-- a draw that is issued so writes, or doesn't
pub way_writes : (job : SubJob) (draw : Draw) (kind : IssueKind) → issued_as job draw.dir ≡ kind → is_write_draw draw ≡ is_write (kind_for kind)
way_writes job draw kind way = sym (write_kind job draw) ∙ ap (λ (k : IssueKind). is_write (kind_for k)) way

-- an issue counts in its own pass alone
pub issued_here : (job : SubJob) (h : List Event) (worker : ℕ) (kind : IssueKind) (write : WriteId) (piece : Piece) → write.clone ≡ job.clone → issued_count (h ++ Issue worker kind write piece ∷ []) (pass_of job write.pass) ≡ suc (issued_count h (pass_of job write.pass))
issued_here job h worker kind write piece clone =
    let e = Issue worker kind write piece in
    let here : issues_of (pass_of job write.pass) e ≡ true = and_from (write.clone == job.clone) (write.pass == write.pass) (eq-eqb write.clone job.clone clone) (eq-eqb write.pass write.pass refl) in
    let one : ◌≡◌ {A = ℕ} (cond (issues_of (pass_of job write.pass) e) 1 0) 1 = ap {B = ℕ} (λ (b : Bool). cond b 1 0) here in
    omega (arith, issued_push h e (pass_of job write.pass), one)

pub issued_elsewhere : (job : SubJob) (h : List Event) (worker : ℕ) (kind : IssueKind) (write : WriteId) (piece : Piece) (q : ℕ) → (q ≡ write.pass → ⊥) → issued_count (h ++ Issue worker kind write piece ∷ []) (pass_of job q) ≡ issued_count h (pass_of job q)
issued_elsewhere job h worker kind write piece q apart =
    issued_same h (Issue worker kind write piece) (pass_of job q)
    (and_right (write.clone == job.clone) (write.pass == q) (ne_eqb write.pass q (λ same. apart (sym same))))

pub issued_by_other : (job : SubJob) (h : List Event) (worker : ℕ) (kind : IssueKind) (write : WriteId) (piece : Piece) (q : ℕ) → (write.clone ≡ job.clone → ⊥) → issued_count (h ++ Issue worker kind write piece ∷ []) (pass_of job q) ≡ issued_count h (pass_of job q)
issued_by_other job h worker kind write piece q apart =
    issued_same h (Issue worker kind write piece) (pass_of job q)
    (and_left (write.clone == job.clone) (write.pass == q) (ne_eqb write.clone job.clone apart))

-- where no more writes count
last_keeps : (job : SubJob) (h : List Event) (e : Event) (o : Option WriteId)
    → ((p k : ℕ) (d : Draw) → slice_get (draws_of_job job p) k ≡ Some d → is_write_draw d ≡ true → k < issued_count (h ++ e ∷ []) (pass_of job p) → k < issued_count h (pass_of job p))
    → LastIs job h o
    → LastIs job (h ++ e ∷ []) o
last_keeps job h e None fewer none = λ p k d drawn writes issued. none p k d drawn writes (fewer p k d drawn writes issued)
last_keeps job h e (Some w) fewer last =
    let longer = count_longer h e (pass_of job w.pass) in
    record {
      clone = last.clone;
      draw = last.draw;
      drawn = last.drawn;
      writes = last.writes;
      issued = omega (arith, last.issued, longer);
      furthest = λ p k d drawn writes issued. last.furthest p k d drawn writes (fewer p k d drawn writes issued);
    }

last_same : (job : SubJob) (h : List Event) (e : Event) (o : Option WriteId) → ((q : ℕ) → issued_count (h ++ e ∷ []) (pass_of job q) ≡ issued_count h (pass_of job q)) → LastIs job h o → LastIs job (h ++ e ∷ []) o
last_same job h e o same last =
    last_keeps job h e o (λ p k d drawn writes issued. let counts = same p in omega (arith, issued, counts)) last

module _ (plan : Plan) (numbered : IsNumbered plan) (job : SubJob) (planned : clone_of plan job.clone ≡ Some job) where
  -- the issue of a read, checked or not, counts no write more
  pub read_fewer : (h : List Event) (worker : ℕ) (kind : IssueKind) (write : WriteId) (piece : Piece) → is_write (kind_for kind) ≡ false → IsIssued plan job h kind write → write.clone ≡ job.clone → (p k : ℕ) (d : Draw) → slice_get (draws_of_job job p) k ≡ Some d → is_write_draw d ≡ true → k < issued_count (h ++ Issue worker kind write piece ∷ []) (pass_of job p) → k < issued_count h (pass_of job p)
  read_fewer h worker kind write piece no_write its clone p k d drawn writes issued = by_pass (cases_eq p write.pass) (cases_lt k (issued_count h (pass_of job p)))
    where
      reads : is_write_draw its.draw ≡ false
      reads = way_writes job its.draw kind its.way ∙ no_write

      by_pass : (p ≡ write.pass) ⊎ (p ≡ write.pass → ⊥) → (k < issued_count h (pass_of job p)) ⊎ (issued_count h (pass_of job p) ≤ k) → k < issued_count h (pass_of job p)
      by_pass same (inl below) = below
      by_pass (inr apart) (inr above) =
          let counts = issued_elsewhere job h worker kind write piece p apart in
          omega (arith, issued, counts)
      by_pass (inl same) (inr above) =
          let grown : issued_count (h ++ Issue worker kind write piece ∷ []) (pass_of job p) ≡ suc (issued_count h (pass_of job write.pass)) =
          ap (λ (q : ℕ). issued_count (h ++ Issue worker kind write piece ∷ []) (pass_of job q)) same ∙ issued_here job h worker kind write piece clone in
          let counts : issued_count h (pass_of job p) ≡ issued_count h (pass_of job write.pass) = ap (λ (q : ℕ). issued_count h (pass_of job q)) same in
          let place : k ≡ write.number = omega (arith, issued, above, grown, counts, its.count) in
          let there : Some d ≡ Some its.draw = sym drawn ∙ ap (slice_get (draws_of_job job p)) place ∙ ap (λ (q : ℕ). slice_get (draws_of_job job q) write.number) same ∙ its.drawn in
          let one : d ≡ its.draw = same_Some d its.draw there in
          absurd (both_ways (is_write_draw its.draw) reads (ap is_write_draw (sym one) ∙ writes))

  -- so it leaves the last one
  read_keeps : (h : List Event) (worker : ℕ) (kind : IssueKind) (write : WriteId) (piece : Piece) (o : Option WriteId) → is_write (kind_for kind) ≡ false → IsIssued plan job h kind write → write.clone ≡ job.clone → LastIs job h o → LastIs job (h ++ Issue worker kind write piece ∷ []) o
  read_keeps h worker kind write piece o no_write its clone last =
      last_keeps job h (Issue worker kind write piece) o
      (λ p k d drawn writes issued. read_fewer h worker kind write piece no_write its clone p k d drawn writes issued) last

  -- a write that is issued is the furthest
  becomes_last : (h : List Event) (worker : ℕ) (write : WriteId) (piece : Piece) → BegunInTurn job h → IsIssued plan job h issue.Write write → write.clone ≡ job.clone → IsLast job (h ++ Issue worker issue.Write write piece ∷ []) write
  becomes_last h worker write piece turns its clone =
      let here = issued_here job h worker issue.Write write piece clone in
      let count = its.count in
      record {
        clone = clone;
        draw = its.draw;
        drawn = its.drawn;
        writes = way_writes job its.draw issue.Write its.way;
        issued = omega (arith, here, count);
        furthest = λ p k d drawn writes issued. by_order p k issued (cases_order p write.pass);
      }
    where
      by_order : (p k : ℕ) → k < issued_count (h ++ Issue worker issue.Write write piece ∷ []) (pass_of job p) → (p ≡ write.pass) ⊎ ((p < write.pass) ⊎ (write.pass < p)) → (p < write.pass) ⊎ ((p ≡ write.pass) × (k ≤ write.number))
      by_order p k issued (inl same) =
          let grown : issued_count (h ++ Issue worker issue.Write write piece ∷ []) (pass_of job p) ≡ suc (issued_count h (pass_of job write.pass)) =
          ap (λ (q : ℕ). issued_count (h ++ Issue worker issue.Write write piece ∷ []) (pass_of job q)) same ∙ issued_here job h worker issue.Write write piece clone in
          inr (same, omega (arith, issued, grown, its.count))
      by_order p k issued (inr (inl before)) = inl before
      by_order p k issued (inr (inr after)) =
          let counts = issued_elsewhere job h worker issue.Write write piece p (λ same. absurd (omega (arith, same, after))) in
          let all = turns write.pass p after (omega (arith, issued, counts)) in
          absurd (omega (arith, all, its.count, slice_get_within (draws_of_job job write.pass) write.number its.draw its.drawn))

  read_last : (h : List Event) (worker : ℕ) (kind : IssueKind) (write : WriteId) (piece : Piece) → is_write (kind_for kind) ≡ false → LastIs job h (last_issued job.clone h) → may_happen plan h (Issue worker kind write piece) ≡ true → LastIs job (h ++ Issue worker kind write piece ∷ []) (last_issued job.clone h)
  read_last h worker kind write piece no_write last happens =
      elim (cases_eq write.clone job.clone) [
        | inl same ↦
            read_keeps h worker kind write piece (last_issued job.clone h) no_write (its_draw plan numbered job planned h worker kind write piece happens same) same last
        | inr apart ↦
            last_same job h (Issue worker kind write piece) (last_issued job.clone h) (λ q. issued_by_other job h worker kind write piece q apart) last
      ]

  last_by_event : (h : List Event) (e : Event) → is_legal plan h ≡ true → LastIs job h (last_issued job.clone h) → may_happen plan h e ≡ true → LastIs job (h ++ e ∷ []) (option_or (write_issued job.clone e) (last_issued job.clone h))
  last_by_event h (Probe worker write piece) legal last happens =
      last_same job h (Probe worker write piece) (last_issued job.clone h) (λ q. issued_same h (Probe worker write piece) (pass_of job q) refl) last
  last_by_event h (Skip worker write) legal last happens =
      last_same job h (Skip worker write) (last_issued job.clone h) (λ q. issued_same h (Skip worker write) (pass_of job q) refl) last
  last_by_event h (End worker io outcome) legal last happens =
      last_same job h (End worker io outcome) (last_issued job.clone h) (λ q. issued_same h (End worker io outcome) (pass_of job q) refl) last
  last_by_event h (Verdict worker io verdict) legal last happens =
      last_same job h (Verdict worker io verdict) (last_issued job.clone h) (λ q. issued_same h (Verdict worker io verdict) (pass_of job q) refl) last
  last_by_event h (Issue worker issue.Read write piece) legal last happens = read_last h worker issue.Read write piece refl last happens
  last_by_event h (Issue worker issue.ReadCheck write piece) legal last happens = read_last h worker issue.ReadCheck write piece refl last happens
  last_by_event h (Issue worker issue.Write write piece) legal last happens =
      elim (cases_eq write.clone job.clone) [
        | inl same ↦
            subst (λ (b : Bool). LastIs job (h ++ Issue worker issue.Write write piece ∷ []) (option_or (cond b (Some write) None) (last_issued job.clone h)))
            (sym (eq-eqb write.clone job.clone same))
            (becomes_last h worker write piece (begun_in_turn plan numbered job planned h legal) (its_draw plan numbered job planned h worker issue.Write write piece happens same) same)
        | inr apart ↦
            subst (λ (b : Bool). LastIs job (h ++ Issue worker issue.Write write piece ∷ []) (option_or (cond b (Some write) None) (last_issued job.clone h)))
            (sym (ne_eqb write.clone job.clone apart))
            (last_same job h (Issue worker issue.Write write piece) (last_issued job.clone h) (λ q. issued_by_other job h worker issue.Write write piece q apart) last)
      ]

  -- the last write of a legal history is the furthest
  pub last_is : (history : List Event) → is_legal plan history ≡ true → LastIs job history (last_issued job.clone history)
  last_is history legal =
      by_events plan (λ (h : List Event). LastIs job h (last_issued job.clone h)) (λ p k d drawn writes issued. absurd (omega (arith, issued)))
      (λ h e so_far last happens.
      subst (LastIs job (h ++ e ∷ [])) (sym (last_issued-more job.clone h e)) (last_by_event h e so_far last happens))
      history legal
