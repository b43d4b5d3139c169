-- While a group is open, a write of it is intact just where no later write of its group overlaps it.
use Rattle.std.proofs.Common.{◌≡◌, ℕ, zero, suc, ◌+◌, ◌-◌, ◌*◌, ◌/◌, ◌%◌, ◌<◌, ◌≤◌, min, max, List, [], ◌∷◌, ◌++◌, Bool, true, false, cond, ◌&&◌, not, refl, sym, ◌∙◌, ap, subst, arith, inl, inr, append-nil}
use Rattle.std.specs.Prelude.{◌⊎◌, Option, Some, None, slice_get, filter, nat_lt, nat_le, ◌==◌}
use Rattle.std.specs.List.{list_any, list_all, cons_option}
use Rattle.std.proofs.lemmas.Bool.{and_parts, and_from, and_left, and_right, eqb-true, eq-eqb, ne_eqb, lt-ltb, le-leb, ltb-true, cases_Bool, cases_lt, cases_order, not-true, not-false, both_ways}
use Rattle.std.proofs.lemmas.Option.{slice_get_within}
use Rattle.jr_model.specs.declared.limits.TheConstants.{SECTOR, LARGEST_BLOCK, LARGEST_END}
use Rattle.jr_model.specs.declared.blocks.Piece.{Piece}
use Rattle.jr_model.specs.declared.events.Event.{Event}
use Rattle.jr_model.specs.declared.events.Event.TheVariants.{Issue, Probe, Skip, End, Verdict}
use Rattle.jr_model.specs.declared.events.IssueKind.{IssueKind}
use Rattle.jr_model.specs.declared.events.Started.{Started}
use Rattle.jr_model.specs.declared.events.WriteId.{WriteId}
use Rattle.jr_model.specs.declared.tickets.TicketKind.{TicketKind}
use Rattle.jr_model.specs.declared.tickets.TicketKind.TheVariants as ticket
use Rattle.jr_model.specs.declared.workloads.Draw.{Draw}
use Rattle.jr_model.specs.Draws.{draws_of_job}
use Rattle.jr_model.specs.History.{started, started_by, kind_for, in_flight, is_of_clone, is_probe, is_write}
use Rattle.jr_model.specs.LastWrite.{covers_block, last_write, is_this_write, blocks_of, is_intact}
use Rattle.jr_model.specs.Legal.{is_legal, may_happen}
use Rattle.jr_model.specs.Pieces.{pieces_overlap, piece_end}
use Rattle.jr_model.specs.Plan.{Plan, SubJob, IsNumbered, clone_of, issued_as}
use Rattle.jr_model.specs.Rounds.{pass_of, write_id, is_write_draw, issued_count, is_closed, no_issue_flies, group_of, group_count, group_index}
use Rattle.jr_model.specs.Tickets.{piece_fits}
use Rattle.jr_model.specs.Words.{pass_words}
use Rattle.jr_plan.specs.Files.{are_apart}
use Rattle.jr_model.specs.PlanFacts.{IsPlanned}
use Rattle.jr_model.proofs.PlaceLemmas.{any_found, any_at, all_from, got_ranged, ranged_at}
use Rattle.jr_model.proofs.ListLemmas.{all_got}
use Rattle.jr_model.proofs.PlanLemmas.{numbered_of}
use Rattle.jr_model.proofs.HistoryLemmas.{started-more}
use Rattle.jr_model.proofs.PieceLemmas.{shared_block, covers_parts}
use Rattle.jr_model.proofs.LegalLaws.{number_of_draw}
use Rattle.jr_laws_draws.specs.PassLaw.{PassLaw, IsInRegion}
use Rattle.jr_laws_draws.proofs.TheLaw.{pass_law, drawable_of}
use Rattle.jr_laws_quiet.specs.Quiet.{NothingRaced, last_issued, later_over, stays_last}
use Rattle.jr_laws_quiet.proofs.Steps.{are_fine}
use Rattle.jr_laws_quiet.proofs.Steps.{IsStep, along, each_legal, issue_of, probed_of, write_kind, got_push}
use Rattle.jr_laws_quiet.proofs.Issues.{MayIssue, MayTakeUp, its_issue, its_marks, issued_same, all_at}
use Rattle.jr_laws_quiet.proofs.LastWrites.{last_issued_push, found_flying, FliesOver, last_law}
use Rattle.jr_laws_quiet.proofs.Groups.{got_filter}
use Rattle.jr_laws_quiet.proofs.Members.{InGroup, in_own_group, member_is, full_issued, index_mono}
use Rattle.jr_laws_quiet.proofs.Phases.{NextIssue, none_at, issue_cases, count_grows, passes_in_turn, groups_in_turn, no_later_pass, IsOpen, open_parts}

-- two clones of one file are one
pub one_file : (jobs : List SubJob) (i j : ℕ) (a b : SubJob) → are_apart jobs ≡ true → slice_get jobs i ≡ Some a → slice_get jobs j ≡ Some b → a.file ≡ b.file → i ≡ j
one_file [] i j a b apart at there same = cc
one_file (x ∷ xs) zero zero a b apart at there same = refl
one_file (x ∷ xs) zero (suc j) a b apart at there same =
    let parts = and_parts (not (list_any (λ (other : SubJob). other.file == x.file) xs)) (are_apart xs) apart in
    let one : x ≡ a = cc in
    let files : b.file ≡ x.file = sym (ap (λ (s : SubJob). s.file) one ∙ same) in
    absurd (both_ways (b.file == x.file) (none_at (λ (other : SubJob). other.file == x.file) xs j b (not-true (list_any (λ (other : SubJob). other.file == x.file) xs) parts.0) there) (eq-eqb b.file x.file files))
one_file (x ∷ xs) (suc i) zero a b apart at there same =
    let parts = and_parts (not (list_any (λ (other : SubJob). other.file == x.file) xs)) (are_apart xs) apart in
    let one : x ≡ b = cc in
    let files : a.file ≡ x.file = same ∙ sym (ap (λ (s : SubJob). s.file) one) in
    absurd (both_ways (a.file == x.file) (none_at (λ (other : SubJob). other.file == x.file) xs i a (not-true (list_any (λ (other : SubJob). other.file == x.file) xs) parts.0) at) (eq-eqb a.file x.file files))
one_file (x ∷ xs) (suc i) (suc j) a b apart at there same =
    ap suc (one_file xs i j a b (and_parts (not (list_any (λ (other : SubJob). other.file == x.file) xs)) (are_apart xs) apart).1 at there same)

pub law_of : (plan : Plan) → IsPlanned plan → (i : ℕ) (job : SubJob) → clone_of plan i ≡ Some job → PassLaw job
law_of plan planned i job at = pass_law job (drawable_of job (planned.drafted.limited i job at))

-- a draw lies in its clone's file
pub file_of : (plan : Plan) → IsPlanned plan → (i : ℕ) (job : SubJob) → clone_of plan i ≡ Some job → (p k : ℕ) (d : Draw) → slice_get (draws_of_job job p) k ≡ Some d → d.piece.file ≡ job.file
file_of plan planned i job at p k d drawn =
    let Placed : Draw → Type 0 = λ x. IsInRegion job x.piece in
    (all_got Placed (draws_of_job job p) k d ((law_of plan planned i job at).placed (pass_words job p (4 * job.cells))) drawn).file

-- and is whole blocks
pub record InSectors (p : Piece) : Type 0 where
  pub offset : p.offset % SECTOR ≡ 0
  pub len : p.len % SECTOR ≡ 0

pub sectors_of : (plan : Plan) → IsPlanned plan → (i : ℕ) (job : SubJob) → clone_of plan i ≡ Some job → (p k : ℕ) (d : Draw) → slice_get (draws_of_job job p) k ≡ Some d → InSectors d.piece
sectors_of plan planned i job at p k d drawn =
    let Fits : Draw → Type 0 = λ x. piece_fits x.piece ≡ true in
    parts_of d.piece (all_got Fits (draws_of_job job p) k d ((law_of plan planned i job at).fits (pass_words job p (4 * job.cells))) drawn)
  where
    parts_of : (q : Piece) → piece_fits q ≡ true → InSectors q
    parts_of q fits =
        let a = nat_lt 0 q.len in
        let b = nat_le q.len LARGEST_BLOCK in
        let e = q.len % SECTOR == 0 in
        let f = q.offset % SECTOR == 0 in
        let p4 = and_parts (a && b && e && f) (nat_le (q.offset + q.len) LARGEST_END) fits in
        let p3 = and_parts (a && b && e) f p4.0 in
        let p2 = and_parts (a && b) e p3.0 in
        record { offset = eqb-true (q.offset % SECTOR) 0 p3.1; len = eqb-true (q.len % SECTOR) 0 p2.1 }

pub covers_from : (p : Piece) (f b : ℕ) → p.file ≡ f → p.offset ≤ b * SECTOR → b * SECTOR < p.offset + p.len → covers_block p f b ≡ true
covers_from p f b file low high =
    and_from ((p.file == f) && nat_le p.offset (b * SECTOR)) (nat_lt (b * SECTOR) (p.offset + p.len))
    (and_from (p.file == f) (nat_le p.offset (b * SECTOR)) (eq-eqb p.file f file) (le-leb p.offset (b * SECTOR) low))
    (lt-ltb (b * SECTOR) (p.offset + p.len) high)

block_low : (a j : ℕ) → a % 512 ≡ 0 → a ≤ (a / 512 + j) * 512
block_low a j whole = omega arith

block_high : (a l j : ℕ) → a % 512 ≡ 0 → l % 512 ≡ 0 → j < l / 512 → (a / 512 + j) * 512 < a + l
block_high a l j whole even below = omega arith

-- a piece covers its blocks
pub covers_own : (p : Piece) → InSectors p → (j : ℕ) → j < p.len / SECTOR → covers_block p p.file (p.offset / SECTOR + j) ≡ true
covers_own p whole j below =
    covers_from p p.file (p.offset / SECTOR + j) refl (block_low p.offset j whole.offset) (block_high p.offset p.len j whole.offset whole.len below)

-- a block that both pieces cover, by its place in the first
pub record CommonBlock (p q : Piece) : Type 0 where
  pub place : ℕ
  pub within : place < p.len / SECTOR
  pub covers : covers_block q p.file (p.offset / SECTOR + place) ≡ true

common_place : (a la b lb : ℕ) → a % 512 ≡ 0 → la % 512 ≡ 0 → b % 512 ≡ 0 → lb % 512 ≡ 0 → max a b < min (a + la) (b + lb) → (j : ℕ) × (j < la / 512) × (b ≤ (a / 512 + j) * 512) × ((a / 512 + j) * 512 < b + lb)
common_place a la b lb wa wla wb wlb meets =
    elim (cases_lt a b) [
      | inl before ↦ (b / 512 - a / 512, omega arith, omega arith, omega arith)
      | inr after ↦ (0, omega arith, omega arith, omega arith)
    ]

pub common_block : (p q : Piece) → InSectors p → InSectors q → pieces_overlap p q ≡ true → CommonBlock p q
common_block p q one two overlap =
    let parts = and_parts (p.file == q.file) (nat_lt (max p.offset q.offset) (min (piece_end p) (piece_end q))) overlap in
    let meets : max p.offset q.offset < min (p.offset + p.len) (q.offset + q.len) = ltb-true (max p.offset q.offset) (min (piece_end p) (piece_end q)) parts.1 in
    let common = common_place p.offset p.len q.offset q.len one.offset one.len two.offset two.len meets in
    record {
      place = common.0;
      within = common.1;
      covers = covers_from q p.file (p.offset / SECTOR + common.0) (sym (eqb-true p.file q.file parts.0)) common.2 common.3;
    }

pub not_all : {X : Type 0} (p : X → Bool) (xs : List X) (k : ℕ) (x : X) → slice_get xs k ≡ Some x → p x ≡ false → list_all p xs ≡ false
not_all p [] k x at fails = cc
not_all {X = X} p (y ∷ xs) zero x at fails =
    let same : y ≡ x = cc in
    and_left (p y) (list_all p xs) (ap p same ∙ fails)
not_all p (y ∷ xs) (suc k) x at fails = and_right (p y) (list_all p xs) (not_all p xs k x at fails)

-- what was started is of a draw of the plan
pub record IsOfDraw (plan : Plan) (s : Started) : Type 0 where
  pub job : SubJob
  pub draw : Draw
  pub planned : clone_of plan s.write.clone ≡ Some job
  pub drawn : slice_get (draws_of_job job s.write.pass) s.write.number ≡ Some draw
  pub piece : draw.piece ≡ s.piece

module _ (plan : Plan) (numbered : IsNumbered plan) where
  some_same : (u v : Started) → Some u ≡ Some v → u ≡ v
  some_same u v g = cc

  starts_of_draw : (h : List Event) (e : Event) (s : Started) → may_happen plan h e ≡ true → started_by e ≡ Some s → IsOfDraw plan s
  starts_of_draw h (Issue worker kind write piece) s may is =
      let issue = issue_of plan h worker kind write piece numbered may in
      subst (IsOfDraw plan) (some_same (record { worker = worker; kind = kind_for kind; write = write; piece = piece }) s is)
      (record { job = issue.job; draw = issue.draw; planned = issue.names.planned; drawn = issue.names.drawn; piece = issue.piece_is })
  starts_of_draw h (Probe worker write piece) s may is =
      let probe = probed_of plan h worker write piece numbered may in
      subst (IsOfDraw plan) (some_same (record { worker = worker; kind = ticket.Probe; write = write; piece = piece }) s is)
      (record { job = probe.take.job; draw = probe.take.draw; planned = probe.take.names.planned; drawn = probe.take.names.drawn; piece = probe.piece_is })
  starts_of_draw h (Skip worker write) s may is = cc
  starts_of_draw h (End worker io outcome) s may is = cc
  starts_of_draw h (Verdict worker io verdict) s may is = cc

  pub started_of_draw : (history : List Event) → is_legal plan history ≡ true → (id : ℕ) (s : Started) → slice_get (started history) id ≡ Some s → IsOfDraw plan s
  started_of_draw history legal =
      each_legal plan (λ (h : List Event). (id : ℕ) (s : Started) → slice_get (started h) id ≡ Some s → IsOfDraw plan s) (λ id s at. cc) step history legal
    where
      step : (h : List Event) (e : Event) → is_legal plan h ≡ true → may_happen plan h e ≡ true → ((id : ℕ) (s : Started) → slice_get (started h) id ≡ Some s → IsOfDraw plan s) → (id : ℕ) (s : Started) → slice_get (started (h ++ e ∷ [])) id ≡ Some s → IsOfDraw plan s
      step h e so_far may before id s at = by_start (started_by e) refl (subst (λ (ios : List Started). slice_get ios id ≡ Some s) (started-more h e) at)
        where
          by_start : (o : Option Started) → started_by e ≡ o → slice_get (started h ++ cons_option o []) id ≡ Some s → IsOfDraw plan s
          by_start None is there = before id s (subst (λ (ios : List Started). slice_get ios id ≡ Some s) (append-nil (started h)) there)
          by_start (Some new) is there =
              elim (got_push (started h) new s id there) [
                | inl old ↦ before id s old
                | inr last ↦ starts_of_draw h e s may (is ∙ ap Some last.1)
              ]

-- what writes is no check
no_probe : (kind : TicketKind) → is_write kind ≡ true → is_probe kind ≡ true → ⊥
no_probe ticket.Read writes probes = cc
no_probe ticket.Write writes probes = cc
no_probe ticket.Probe writes probes = cc
no_probe ticket.ReadCheck writes probes = cc

-- while no issue of the clone flies, no write of its file does
pub none_over : (plan : Plan) → IsPlanned plan → are_apart plan.clones ≡ true → (c : ℕ) (job : SubJob) → clone_of plan c ≡ Some job → (h : List Event) → is_legal plan h ≡ true → no_issue_flies h job.clone ≡ true → (b id : ℕ) (s : Started) → FliesOver h job.file b id s → ⊥
none_over plan planned_all apart c job planned h legal still b id s over =
    let its = started_of_draw plan (numbered_of plan planned_all) h legal id s over.at in
    let file : its.job.file ≡ job.file =
    sym (file_of plan planned_all s.write.clone its.job its.planned s.write.pass s.write.number its.draw its.drawn)
    ∙ ap (λ (p : Piece). p.file) its.piece
    ∙ (covers_parts s.piece job.file b over.covers).file in
    let own : s.write.clone ≡ job.clone =
    one_file plan.clones s.write.clone c its.job job apart its.planned planned file ∙ sym (numbered_of plan planned_all c job planned) in
    let writes : Started → Bool = λ (io : Started). is_of_clone job.clone io && is_write io.kind in
    let found = any_found writes (in_flight h)
    (found_flying h writes id s over.at over.flying (and_from (s.write.clone == job.clone) (is_write s.kind) (eq-eqb s.write.clone job.clone own) over.writes)) in
    let parts = and_parts (is_of_clone job.clone found.1) (is_write found.1.kind) found.3 in
    let place = got_filter (is_of_clone job.clone) (in_flight h) found.0 found.1 found.2 parts.0 in
    no_probe found.1.kind parts.1 (all_at (λ (io : Started). is_probe io.kind) (filter (is_of_clone job.clone) (in_flight h)) place.0 found.1 still place.1)

-- the write of the block that was issued last: it is draw k of pass p, or a later one
pub record LatestIs (job : SubJob) (h : List Event) (f b p k : ℕ) : Type 0 where
  pub write : WriteId
  pub draw : Draw
  pub last : last_issued h f b ≡ Some write
  pub clone : write.clone ≡ job.clone
  pub after : (p < write.pass) ⊎ ((p ≡ write.pass) × (k ≤ write.number))
  pub issued : write.number < issued_count h (pass_of job write.pass)
  pub drawn : slice_get (draws_of_job job write.pass) write.number ≡ Some draw
  pub writes : is_write_draw draw ≡ true
  pub covers : covers_block draw.piece f b ≡ true

-- a draw of a write that covers the block and was issued isn't later than the write that was issued last
abbrev pub LatestLaw : SubJob → List Event → Type 0
LatestLaw job h =
    (f b p k : ℕ) (d : Draw) → slice_get (draws_of_job job p) k ≡ Some d → k < issued_count h (pass_of job p) → is_write_draw d ≡ true → covers_block d.piece f b ≡ true → LatestIs job h f b p k

-- the block's last write is draw k of the pass, or a later one of it
pub record OwnLatest (job : SubJob) (h : List Event) (f b p k : ℕ) : Type 0 where
  pub write : WriteId
  pub draw : Draw
  pub last : last_write h f b ≡ Some write
  pub clone : write.clone ≡ job.clone
  pub pass : write.pass ≡ p
  pub after : k ≤ write.number
  pub issued : write.number < issued_count h (pass_of job p)
  pub drawn : slice_get (draws_of_job job p) write.number ≡ Some draw
  pub writes : is_write_draw draw ≡ true
  pub covers : covers_block draw.piece f b ≡ true

module _ (plan : Plan) (planned_all : IsPlanned plan) (apart : are_apart plan.clones ≡ true) (c : ℕ) (job : SubJob) (planned : clone_of plan c ≡ Some job) where
  -- an event that issues no write of the block
  latest_keeps : (h : List Event) (e : Event) → IsStep plan h e → (f b p k : ℕ) → last_issued (h ++ e ∷ []) f b ≡ last_issued h f b → LatestIs job h f b p k → LatestIs job (h ++ e ∷ []) f b p k
  latest_keeps h e step f b p k same was = record {
    write = was.write;
    draw = was.draw;
    last = same ∙ was.last;
    clone = was.clone;
    after = was.after;
    issued = omega (arith, was.issued, count_grows plan (numbered_of plan planned_all) c job planned h e step was.write.pass);
    drawn = was.drawn;
    writes = was.writes;
    covers = was.covers;
  }

  -- a draw that is issued by now was so before, or this event issues it
  issued_before : (h : List Event) (e : Event) → IsStep plan h e → (p k : ℕ) (d : Draw) → slice_get (draws_of_job job p) k ≡ Some d → k < issued_count (h ++ e ∷ []) (pass_of job p) → (k < issued_count h (pass_of job p)) ⊎ ((worker : ℕ) × (write : WriteId) × (e ≡ Issue worker (issued_as job d.dir) write d.piece))
  issued_before h e step p k d at now =
      elim (issue_cases plan (numbered_of plan planned_all) c job planned h e step p) [
        | inl same ↦ inl (omega (arith, same, now))
        | inr next ↦ by_number next (cases_lt k next.write.number)
      ]
    where
      some_same : (u v : Draw) → Some u ≡ Some v → u ≡ v
      some_same u v g = cc

      by_number : (next : NextIssue plan job h e p) → (k < next.write.number) ⊎ (next.write.number ≤ k) → (k < issued_count h (pass_of job p)) ⊎ ((worker : ℕ) × (write : WriteId) × (e ≡ Issue worker (issued_as job d.dir) write d.piece))
      by_number next (inl earlier) = inl (omega (arith, earlier, next.before))
      by_number next (inr last) =
          let place : next.write.number ≡ k = omega (arith, now, next.after, last) in
          let one : next.draw ≡ d = some_same next.draw d (sym next.drawn ∙ ap (slice_get (draws_of_job job p)) place ∙ at) in
          inr (next.worker, next.write, next.is ∙ ap (λ (x : Draw). Issue next.worker (issued_as job x.dir) next.write x.piece) one)

  -- an event that is no issue of a write of the block keeps the law
  latest_other : (h : List Event) (e : Event) → IsStep plan h e → LatestLaw job h → (f b p k : ℕ) (d : Draw) → slice_get (draws_of_job job p) k ≡ Some d → k < issued_count (h ++ e ∷ []) (pass_of job p) → is_write_draw d ≡ true → covers_block d.piece f b ≡ true → last_issued (h ++ e ∷ []) f b ≡ last_issued h f b → ((worker : ℕ) (write : WriteId) → e ≡ Issue worker (issued_as job d.dir) write d.piece → ⊥) → LatestIs job (h ++ e ∷ []) f b p k
  latest_other h e step law f b p k d at now writes covers same no_such =
      elim (issued_before h e step p k d at now) [
        | inl before ↦ latest_keeps h e step f b p k same (law f b p k d at before writes covers)
        | inr this ↦ absurd (no_such this.0 this.1 this.2)
      ]

  latest_issue : (h : List Event) (worker : ℕ) (kind : IssueKind) (write : WriteId) (piece : Piece) → IsStep plan h (Issue worker kind write piece) → LatestLaw job h → (f b p k : ℕ) (d : Draw) → slice_get (draws_of_job job p) k ≡ Some d → k < issued_count (h ++ Issue worker kind write piece ∷ []) (pass_of job p) → is_write_draw d ≡ true → covers_block d.piece f b ≡ true → (cov : Bool) → (is_write (kind_for kind) && covers_block piece f b) ≡ cov → LatestIs job (h ++ Issue worker kind write piece ∷ []) f b p k
  latest_issue h worker kind write piece step law f b p k d at now writes covers false miss =
      latest_other h (Issue worker kind write piece) step law f b p k d at now writes covers
      (last_issued_push h (Issue worker kind write piece) f b ∙ ap (λ (x : Bool). cond x (Some write) (last_issued h f b)) miss)
      (λ (w : ℕ) (other : WriteId) (same : Issue worker kind write piece ≡ Issue w (issued_as job d.dir) other d.piece).
      let kinds : kind ≡ issued_as job d.dir = cc in
      let pieces : piece ≡ d.piece = cc in
      both_ways (is_write (kind_for kind) && covers_block piece f b) miss
      (and_from (is_write (kind_for kind)) (covers_block piece f b) (ap (λ (x : IssueKind). is_write (kind_for x)) kinds ∙ write_kind job d ∙ writes) (ap (λ (x : Piece). covers_block x f b) pieces ∙ covers)))
  latest_issue h worker kind write piece step law f b p k d at now writes covers true hit =
      let numbered = numbered_of plan planned_all in
      let e = Issue worker kind write piece in
      let hits = and_parts (is_write (kind_for kind)) (covers_block piece f b) hit in
      let any = issue_of plan h worker kind write piece numbered step.may in
      let its_file : any.draw.piece.file ≡ any.job.file = file_of plan planned_all write.clone any.job any.names.planned write.pass write.number any.draw any.names.drawn in
      let own_file : d.piece.file ≡ job.file = file_of plan planned_all c job planned p k d at in
      let files : any.job.file ≡ job.file =
      sym its_file ∙ ap (λ (x : Piece). x.file) any.piece_is ∙ (covers_parts piece f b hits.1).file ∙ sym (covers_parts d.piece f b covers).file ∙ own_file in
      let same : write.clone ≡ c = one_file plan.clones write.clone c any.job job apart any.names.planned planned files in
      let issue = its_issue plan numbered c job planned h worker kind write piece step same in
      let marks = its_marks plan numbered c job planned h worker kind write piece step same in
      record {
        write = write;
        draw = issue.0;
        last = last_issued_push h e f b ∙ ap (λ (x : Bool). cond x (Some write) (last_issued h f b)) hit;
        clone = sym issue.1.clone;
        after = in_order issue.4 issue.1.drawn issue.1.number marks.more (cases_order p write.pass);
        issued = omega (arith, marks.more);
        drawn = issue.1.drawn;
        writes = sym (write_kind job issue.0) ∙ ap (λ (x : IssueKind). is_write (kind_for x)) issue.2 ∙ hits.0;
        covers = ap (λ (x : Piece). covers_block x f b) issue.3 ∙ hits.1;
      }
    where
      in_order : {draw : Draw} → MayIssue plan h (pass_of job write.pass) draw → slice_get (draws_of_job job write.pass) write.number ≡ Some draw → draw.number ≡ write.number → issued_count (h ++ Issue worker kind write piece ∷ []) (pass_of job write.pass) ≡ suc write.number → (p ≡ write.pass) ⊎ ((p < write.pass) ⊎ (write.pass < p)) → (p < write.pass) ⊎ ((p ≡ write.pass) × (k ≤ write.number))
      in_order may drawn number more (inl same) =
          let here : k < issued_count (h ++ Issue worker kind write piece ∷ []) (pass_of job write.pass) =
          subst (λ (q : ℕ). k < issued_count (h ++ Issue worker kind write piece ∷ []) (pass_of job q)) same now in
          inr (same, omega (arith, here, more))
      in_order may drawn number more (inr (inl before)) = inl before
      in_order {draw = draw} may drawn number more (inr (inr beyond)) =
          let kept : issued_count (h ++ Issue worker kind write piece ∷ []) (pass_of job p) ≡ issued_count h (pass_of job p) =
          issued_same h (Issue worker kind write piece) (pass_of job p) (and_right (write.clone == job.clone) (write.pass == p) (ne_eqb write.pass p (λ equal. absurd (omega (arith, equal, beyond))))) in
          let past = passes_in_turn plan (numbered_of plan planned_all) c job planned h step.legal step.quiet write.pass p beyond (omega (arith, kept, now)) in
          absurd (omega (arith, past.issued, may.next, number, slice_get_within (draws_of_job job write.pass) write.number draw drawn))

  latest_step : (h : List Event) (e : Event) → IsStep plan h e → LatestLaw job h → LatestLaw job (h ++ e ∷ [])
  latest_step h (Issue worker kind write piece) step law f b p k d at now writes covers =
      latest_issue h worker kind write piece step law f b p k d at now writes covers (is_write (kind_for kind) && covers_block piece f b) refl
  latest_step h (Probe worker write piece) step law f b p k d at now writes covers =
      latest_other h (Probe worker write piece) step law f b p k d at now writes covers (last_issued_push h (Probe worker write piece) f b) (λ (w : ℕ) (other : WriteId) (same : Probe worker write piece ≡ Issue w (issued_as job d.dir) other d.piece). cc)
  latest_step h (Skip worker write) step law f b p k d at now writes covers =
      latest_other h (Skip worker write) step law f b p k d at now writes covers (last_issued_push h (Skip worker write) f b) (λ (w : ℕ) (other : WriteId) (same : Skip worker write ≡ Issue w (issued_as job d.dir) other d.piece). cc)
  latest_step h (End worker io outcome) step law f b p k d at now writes covers =
      latest_other h (End worker io outcome) step law f b p k d at now writes covers (last_issued_push h (End worker io outcome) f b) (λ (w : ℕ) (other : WriteId) (same : End worker io outcome ≡ Issue w (issued_as job d.dir) other d.piece). cc)
  latest_step h (Verdict worker io verdict) step law f b p k d at now writes covers =
      latest_other h (Verdict worker io verdict) step law f b p k d at now writes covers (last_issued_push h (Verdict worker io verdict) f b) (λ (w : ℕ) (other : WriteId) (same : Verdict worker io verdict ≡ Issue w (issued_as job d.dir) other d.piece). cc)

  pub latest_law : (history : List Event) → is_legal plan history ≡ true → are_fine history ≡ true → LatestLaw job history
  latest_law history legal quiet =
      along plan (λ (h : List Event). LatestLaw job h) (λ f b p k d at now writes covers. absurd (omega (arith, now))) latest_step history legal quiet

  -- while its group is open: the latest write of a block of the draw's is of its group
  module _ (h : List Event) (raceless : NothingRaced h) (legal : is_legal plan h ≡ true) (quiet : are_fine h ≡ true) (p k : ℕ) (draw : Draw) (drawn : slice_get (draws_of_job job p) k ≡ Some draw) (may : MayTakeUp plan h (pass_of job p) draw) where
    number : draw.number ≡ k
    number = number_of_draw job p k draw drawn

    abbrev own : ℕ
    own = group_index (pass_of job p) draw.number

    member : InGroup job p (group_index (pass_of job p) draw.number) draw × (group_index (pass_of job p) draw.number < group_count (pass_of job p))
    member = in_own_group job p draw.number draw (ap (slice_get (draws_of_job job p)) number ∙ drawn) may.writes

    group_is_open : IsOpen h (pass_of job p) own
    group_is_open = open_parts h (pass_of job p) own may.opened

    -- the block's last write is the one that was issued last
    landed : (b : ℕ) → covers_block draw.piece draw.piece.file b ≡ true → last_write h draw.piece.file b ≡ last_issued h draw.piece.file b
    landed b covers =
        (last_law plan draw.piece.file b h raceless legal quiet).landed
        (λ (id : ℕ) (s : Started) (over : FliesOver h draw.piece.file b id s).
        none_over plan planned_all apart c job planned h legal group_is_open.still b id s
        (subst (λ (f : ℕ). FliesOver h f b id s) (file_of plan planned_all c job planned p k draw drawn) over))

    -- of an issued write of the block: its last write is this draw's or a later one's of the pass
    own_latest : (b i : ℕ) (d : Draw) → covers_block draw.piece draw.piece.file b ≡ true → slice_get (draws_of_job job p) i ≡ Some d → i < issued_count h (pass_of job p) → is_write_draw d ≡ true → covers_block d.piece draw.piece.file b ≡ true → OwnLatest job h draw.piece.file b p i
    own_latest b i d over at issued writes covers = by_pass (latest_law h legal quiet draw.piece.file b p i d at issued writes covers)
      where
        by_pass : LatestIs job h draw.piece.file b p i → OwnLatest job h draw.piece.file b p i
        by_pass latest =
            elim latest.after [
              | inl later ↦
                  absurd (no_later_pass plan (numbered_of plan planned_all) c job planned h legal quiet p latest.write.pass own may.rounds member.1 group_is_open.not_closed later (omega (arith, latest.issued)))
              | inr here ↦
                  let Issued : ℕ → Type 0 = λ (q : ℕ). latest.write.number < issued_count h (pass_of job q) in
                  let Drawn : ℕ → Type 0 = λ (q : ℕ). slice_get (draws_of_job job q) latest.write.number ≡ Some latest.draw in
                  record {
                    write = latest.write;
                    draw = latest.draw;
                    last = landed b over ∙ latest.last;
                    clone = latest.clone;
                    pass = sym here.0;
                    after = here.1;
                    issued = subst Issued (sym here.0) latest.issued;
                    drawn = subst Drawn (sym here.0) latest.drawn;
                    writes = latest.writes;
                    covers = latest.covers;
                  }
            ]

    issued_now : draw.number < issued_count h (pass_of job p)
    issued_now = full_issued h job p own draw group_is_open.full member.0 member.1

    sectors : InSectors draw.piece
    sectors = sectors_of plan planned_all c job planned p k draw drawn

    -- a later write of the group that covers the block
    none_later : (b : ℕ) → stays_last (pass_of job p) draw ≡ true → covers_block draw.piece draw.piece.file b ≡ true → (latest : OwnLatest job h draw.piece.file b p k) → k < latest.write.number → ⊥
    none_later b stays over latest later =
        let n = latest.write.number in
        let after : own ≤ group_index (pass_of job p) n = index_mono job p draw.number n (omega (arith, number, later)) in
        elim (cases_lt own (group_index (pass_of job p) n)) [
          | inl beyond ↦
              both_ways (is_closed h (pass_of job p) own) group_is_open.not_closed
              (groups_in_turn plan (numbered_of plan planned_all) c job planned h legal quiet p n own may.rounds latest.issued beyond)
          | inr within ↦
              let same : group_index (pass_of job p) n ≡ own = omega (arith, after, within) in
              let its = (in_own_group job p n latest.draw latest.drawn latest.writes).0 in
              let there : slice_get (group_of (pass_of job p) own) its.place ≡ Some latest.draw =
              subst (λ (g : ℕ). slice_get (group_of (pass_of job p) g) its.place ≡ Some latest.draw) same its.at in
              let hit : later_over draw latest.draw ≡ true =
              and_from (nat_lt draw.number latest.draw.number) (pieces_overlap draw.piece latest.draw.piece)
              (lt-ltb draw.number latest.draw.number (omega (arith, number, later, number_of_draw job p n latest.draw latest.drawn)))
              (shared_block draw.piece latest.draw.piece draw.piece.file b over latest.covers) in
              both_ways (list_any (later_over draw) (group_of (pass_of job p) own)) (not-true (list_any (later_over draw) (group_of (pass_of job p) own)) stays)
              (any_at (later_over draw) (group_of (pass_of job p) own) its.place latest.draw there hit)
        ]

    stays_from : stays_last (pass_of job p) draw ≡ true → is_intact h (write_id (pass_of job p) draw) draw.piece ≡ true
    stays_from stays =
        all_from (λ (b : ℕ). is_this_write (write_id (pass_of job p) draw) (last_write h draw.piece.file b)) (blocks_of draw.piece)
        (λ (j b : ℕ) (at : slice_get (blocks_of draw.piece) j ≡ Some b).
        let place = got_ranged (draw.piece.offset / SECTOR) (draw.piece.len / SECTOR) j b at in
        let over : covers_block draw.piece draw.piece.file b ≡ true =
        subst (λ (x : ℕ). covers_block draw.piece draw.piece.file x ≡ true) (sym place.0) (covers_own draw.piece sectors j place.1) in
        let latest = own_latest b k draw over drawn (omega (arith, number, issued_now)) may.writes over in
        ap (is_this_write (write_id (pass_of job p) draw)) latest.last
        ∙ and_from ((latest.write.clone == job.clone) && (latest.write.pass == p)) (latest.write.number == draw.number)
        (and_from (latest.write.clone == job.clone) (latest.write.pass == p) (eq-eqb latest.write.clone job.clone latest.clone) (eq-eqb latest.write.pass p latest.pass))
        (eq-eqb latest.write.number draw.number (same_number b latest over (cases_lt k latest.write.number))))
      where
        same_number : (b : ℕ) (latest : OwnLatest job h draw.piece.file b p k) → covers_block draw.piece draw.piece.file b ≡ true → (k < latest.write.number) ⊎ (latest.write.number ≤ k) → latest.write.number ≡ draw.number
        same_number b latest over (inl later) = absurd (none_later b stays over latest later)
        same_number b latest over (inr not_later) = omega (arith, not_later, latest.after, number)

    -- a later write of the block is the last one
    overwritten_at : (b i : ℕ) → draw.number < i → OwnLatest job h draw.piece.file b p i → is_this_write (write_id (pass_of job p) draw) (last_write h draw.piece.file b) ≡ false
    overwritten_at b i later latest =
        ap (is_this_write (write_id (pass_of job p) draw)) latest.last
        ∙ and_right ((latest.write.clone == job.clone) && (latest.write.pass == p)) (latest.write.number == draw.number)
        (ne_eqb latest.write.number draw.number (λ same. absurd (omega (arith, same, later, latest.after))))

    fails_from : stays_last (pass_of job p) draw ≡ false → is_intact h (write_id (pass_of job p) draw) draw.piece ≡ false
    fails_from fails =
        let some = any_found (later_over draw) (group_of (pass_of job p) own) (not-false (list_any (later_over draw) (group_of (pass_of job p) own)) fails) in
        let d = some.1 in
        let parts = and_parts (nat_lt draw.number d.number) (pieces_overlap draw.piece d.piece) some.3 in
        let inside : InGroup job p own d = record { place = some.0; at = some.2 } in
        let its = member_is job p own d inside member.1 in
        let issued : d.number < issued_count h (pass_of job p) = full_issued h job p own d group_is_open.full inside member.1 in
        let common = common_block draw.piece d.piece sectors (sectors_of plan planned_all c job planned p d.number d its.drawn) parts.1 in
        let b = draw.piece.offset / SECTOR + common.place in
        let over : covers_block draw.piece draw.piece.file b ≡ true = covers_own draw.piece sectors common.place common.within in
        not_all (λ (x : ℕ). is_this_write (write_id (pass_of job p) draw) (last_write h draw.piece.file x)) (blocks_of draw.piece) common.place b
        (ranged_at (draw.piece.offset / SECTOR) (draw.piece.len / SECTOR) common.place common.within)
        (overwritten_at b d.number (ltb-true draw.number d.number parts.0) (own_latest b d.number d over its.drawn issued its.writes common.covers))

    pub intact_is_last : is_intact h (write_id (pass_of job p) draw) draw.piece ≡ stays_last (pass_of job p) draw
    intact_is_last =
        elim (cases_Bool (stays_last (pass_of job p) draw)) [
          | inl stays ↦ stays_from stays ∙ sym stays
          | inr fails ↦ fails_from fails ∙ sym fails
        ]
