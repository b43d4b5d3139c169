-- The bad verdicts of a legal history: each is on the write of a draw of the plan, and no two are on one write.
use Rattle.std.proofs.Common.{◌≡◌, ℕ, List, [], ◌∷◌, ◌++◌, true, false, refl, sym, ◌∙◌, ap, subst, append-nil}
use Rattle.std.specs.Prelude.{Option, Some, None, slice_get}
use Rattle.std.specs.List.{AllByRecursion, cons_option}
use Rattle.std.proofs.lemmas.Bool.{or_left, false_from_ne_true, both_ways}
use Rattle.std.proofs.lemmas.Option.{same_Some}
use Rattle.jr_model.specs.declared.blocks.Dir.{Dir}
use Rattle.jr_model.specs.declared.blocks.Dir.TheVariants as direction
use Rattle.jr_model.specs.declared.events.Event.{Event}
use Rattle.jr_model.specs.declared.events.Event.TheVariants.{Issue, Probe, Skip, End, Verdict}
use Rattle.jr_model.specs.declared.events.Started.{Started}
use Rattle.jr_model.specs.declared.events.Verdict.{Verdict as GivenVerdict}
use Rattle.jr_model.specs.declared.events.Verdict.TheVariants.{Good, Bad, Void}
use Rattle.jr_model.specs.declared.events.WriteId.{WriteId}
use Rattle.jr_model.specs.declared.tickets.TicketKind.{TicketKind}
use Rattle.jr_model.specs.declared.tickets.TicketKind.TheVariants as ticket
use Rattle.jr_model.specs.declared.workloads.Draw.{Draw}
use Rattle.jr_model.specs.Draws.{draws_of_job}
use Rattle.jr_model.specs.History.{started, is_probe, is_judged_kind, is_judged, is_verdict_on, same_write}
use Rattle.jr_model.specs.Legal.{is_legal, may_happen}
use Rattle.jr_model.specs.Plan.{Plan, SubJob, clone_of}
use Rattle.jr_model.specs.Report.{Miscompare, miscompare_on, miscompare_by, miscompares}
use Rattle.jr_model.specs.Rounds.{is_write_draw}
use Rattle.jr_model.specs.PlanFacts.{IsPlanned}
use Rattle.jr_model.proofs.Equality.{eq_write}
use Rattle.jr_model.proofs.HistoryLemmas.{is_judged-more, by_events}
use Rattle.jr_laws_steps.specs.Drawn.{is_kind_of}
use Rattle.jr_laws_steps.proofs.StartedLemmas.{started_stays}
use Rattle.jr_laws_steps.proofs.DrawnLaws.{started_are_drawn-law}
use Rattle.jr_laws_steps.proofs.OnceLaws.{started_once-law}
use Rattle.jr_desk_totals.specs.Tallies.{named_in, miscompare_in}
use Rattle.jr_desk_totals.proofs.Bads.{miscompares-more}
use Rattle.jr_laws_steps.proofs.Grown.{verdict_names, is_judged-verdict}
use Rattle.jr_report_lines.proofs.FlatMaps.{all_weaker, all_append, all_filter_map}
use Rattle.jr_report_lines.proofs.Named.{IsNamed}
use Rattle.jr_report_lines.proofs.Writes.{AreDistinct}

-- a bad verdict on a check or checked read is on its write
on_check : (s : Started) (verdict : GivenVerdict) (m : Miscompare) → miscompare_on (Some s) verdict ≡ Some m → s.write ≡ m.write
on_check s Good m is = cc
on_check s Void m is = cc
on_check s (Bad what) m is = ap (λ (x : Miscompare). x.write) (same_Some (record { write = s.write; piece = s.piece; what = what }) m is)

-- each is on the write of a draw

module _ (plan : Plan) (history : List Event) (planned : IsPlanned plan) (legal : is_legal plan history ≡ true) where
  named_on : (o : Option Started) (id : ℕ) (verdict : GivenVerdict) (m : Miscompare) → slice_get (started history) id ≡ o
      → miscompare_on o verdict ≡ Some m → IsNamed plan m.write
  named_on None id verdict m at is = cc
  named_on (Some s) id verdict m at is =
      let found = started_are_drawn-law plan history id s planned legal at in
      let drawn = found.2 in
      let here : IsNamed plan s.write =
      record { job = found.0; draw = found.1; planned = drawn.planned; pass = drawn.pass; drawn = drawn.drawn } in
      subst (IsNamed plan) (on_check s verdict m is) here

  named_by_event : (e : Event) (m : Miscompare) → miscompare_by (started history) e ≡ Some m → IsNamed plan m.write
  named_by_event (Verdict worker id verdict) m is = named_on (slice_get (started history) id) id verdict m refl is
  named_by_event (Issue worker kind write piece) m is = cc
  named_by_event (Probe worker write piece) m is = cc
  named_by_event (Skip worker write) m is = cc
  named_by_event (End worker id outcome) m is = cc

  pub all_named : AllByRecursion (λ (m : Miscompare). IsNamed plan m.write) (miscompares history)
  all_named = all_filter_map (λ (m : Miscompare). IsNamed plan m.write) (miscompare_by (started history)) named_by_event history

-- of what gets a verdict, the draws of checks are writes, and those of checked reads aren't
judged_draw : (kind : TicketKind) (d : Draw) (job : SubJob) → is_judged_kind kind ≡ true → is_kind_of kind d.dir job ≡ true → is_probe kind ≡ is_write_draw d
judged_draw kind d job judged suits = by kind d.dir judged suits
  where
    by : (k : TicketKind) (dir : Dir) → is_judged_kind k ≡ true → is_kind_of k dir job ≡ true → is_probe k ≡ is_write_draw (record { number = d.number; dir = dir; piece = d.piece; seed = d.seed })
    by ticket.Probe direction.Write gets fits = refl
    by ticket.Probe direction.Read gets fits = cc
    by ticket.ReadCheck direction.Read gets fits = refl
    by ticket.ReadCheck direction.Write gets fits = cc
    by ticket.Read dir gets fits = cc
    by ticket.Write dir gets fits = cc

-- so two of one name are two checks, or two checked reads
one_kind : (plan : Plan) (history : List Event) (i j : ℕ) (a b : Started) → IsPlanned plan → is_legal plan history ≡ true
    → slice_get (started history) i ≡ Some a → slice_get (started history) j ≡ Some b
    → is_judged_kind a.kind ≡ true → is_judged_kind b.kind ≡ true → same_write a.write b.write ≡ true
    → is_probe a.kind ≡ is_probe b.kind
one_kind plan history i j a b planned legal at_i at_j judged_a judged_b same =
    let drawn_a = started_are_drawn-law plan history i a planned legal at_i in
    let drawn_b = started_are_drawn-law plan history j b planned legal at_j in
    let one : a.write ≡ b.write = eq_write a.write b.write same in
    let job : drawn_a.0 ≡ drawn_b.0 =
    same_Some drawn_a.0 drawn_b.0 (sym drawn_a.2.planned ∙ ap (λ (w : WriteId). clone_of plan w.clone) one ∙ drawn_b.2.planned) in
    let draw : drawn_a.1 ≡ drawn_b.1 =
    same_Some drawn_a.1 drawn_b.1
    (sym drawn_a.2.drawn ∙ ap (λ (w : WriteId). slice_get (draws_of_job drawn_a.0 w.pass) w.number) one
    ∙ ap (λ (x : SubJob). slice_get (draws_of_job x b.write.pass) b.write.number) job ∙ drawn_b.2.drawn) in
    judged_draw a.kind drawn_a.1 drawn_a.0 judged_a drawn_a.2.kind
    ∙ ap is_write_draw draw
    ∙ sym (judged_draw b.kind drawn_b.1 drawn_b.0 judged_b drawn_b.2.kind)

-- each is of a check or checked read that has its verdict
pub record IsOfCheck (history : List Event) (m : Miscompare) : Type 0 where
  pub number : ℕ
  pub check : Started
  pub there : slice_get (started history) number ≡ Some check
  pub kind : is_judged_kind check.kind ≡ true
  pub judged : is_judged history number ≡ true
  pub write : check.write ≡ m.write

stays_judged : (history : List Event) (e : Event) (m : Miscompare) → IsOfCheck history m → IsOfCheck (history ++ e ∷ []) m
stays_judged history e m of_check = record {
  number = of_check.number;
  check = of_check.check;
  there = started_stays history (e ∷ []) of_check.number of_check.check of_check.there;
  kind = of_check.kind;
  judged =
      is_judged-more history e of_check.number
      ∙ or_left (is_judged history of_check.number) (is_verdict_on of_check.number e) of_check.judged;
  write = of_check.write;
}

-- what is said of a check or checked read is said of a write of which nothing bad was said
record IsNew (history : List Event) (e : Event) (m : Miscompare) : Type 0 where
  of_check : IsOfCheck (history ++ e ∷ []) m
  apart : AllByRecursion (λ (x : Miscompare). same_write m.write x.write ≡ false) (miscompares history)

-- all are of checks and checked reads, and no two are on one write
record AreJudged (history : List Event) : Type 0 where
  all : AllByRecursion (IsOfCheck history) (miscompares history)
  distinct : AreDistinct (miscompares history)

distinct_more : (found : List Miscompare) (m : Miscompare) → AreDistinct found
    → AllByRecursion (λ (x : Miscompare). same_write m.write x.write ≡ false) found → AreDistinct (found ++ m ∷ [])
distinct_more [] m distinct apart = (tt, tt)
distinct_more (x ∷ found) m distinct apart =
    let first = all_append (λ (y : Miscompare). same_write y.write x.write ≡ false) found (m ∷ []) distinct.0 (apart.0, tt) in
    (first, distinct_more found m distinct.1 apart.1)

module _ (plan : Plan) (planned : IsPlanned plan) (history : List Event)
    (legal : is_legal plan history ≡ true) (so_far : AreJudged history) where
  -- what has no verdict yet is on no write of a bad verdict
  unlike : (id : ℕ) (s : Started) (w : WriteId) (x : Miscompare) → slice_get (started history) id ≡ Some s
      → is_judged_kind s.kind ≡ true → is_judged history id ≡ false → s.write ≡ w → IsOfCheck history x → same_write w x.write ≡ true
      → ⊥
  unlike id s w x at kind unjudged is of_check same =
      let other : same_write s.write of_check.check.write ≡ true =
      subst (λ (v : WriteId). same_write v of_check.check.write ≡ true) (sym is)
      (subst (λ (v : WriteId). same_write w v ≡ true) (sym of_check.write) same) in
      let kinds = one_kind plan history id of_check.number s of_check.check planned legal at of_check.there kind of_check.kind other in
      let one : id ≡ of_check.number =
      started_once-law plan history id of_check.number s of_check.check planned legal at of_check.there other kinds in
      let judged : is_judged history id ≡ true = ap (is_judged history) one ∙ of_check.judged in
      both_ways (is_judged history id) unjudged judged

  new_verdict : (worker id : ℕ) (verdict : GivenVerdict) (m : Miscompare)
      → may_happen plan history (Verdict worker id verdict) ≡ true
      → miscompare_on (slice_get (started history) id) verdict ≡ Some m → IsNew history (Verdict worker id verdict) m
  new_verdict worker id verdict m may is =
      let e = Verdict worker id verdict in
      let names = verdict_names plan history worker id verdict may in
      let said : miscompare_on (Some names.judged) verdict ≡ Some m =
      ap (λ (o : Option Started). miscompare_on o verdict) (sym names.there) ∙ is in
      let write : names.judged.write ≡ m.write = on_check names.judged verdict m said in
      record {
        of_check = record {
          number = id;
          check = names.judged;
          there = started_stays history (e ∷ []) id names.judged names.there;
          kind = names.check;
          judged = is_judged-verdict history worker id verdict;
          write = write;
        };
        apart = all_weaker (IsOfCheck history) (λ (x : Miscompare). same_write m.write x.write ≡ false)
            (λ x of_check. false_from_ne_true (same_write m.write x.write)
            (unlike id names.judged m.write x names.there names.check names.unjudged write of_check))
            (miscompares history) so_far.all;
      }

  new_by_event : (e : Event) (m : Miscompare) → may_happen plan history e ≡ true
      → miscompare_in (named_in (started history) e) e ≡ Some m → IsNew history e m
  new_by_event (Verdict worker id verdict) m may is = new_verdict worker id verdict m may is
  new_by_event (Issue worker kind write piece) m may is = cc
  new_by_event (Probe worker write piece) m may is = cc
  new_by_event (Skip worker write) m may is = cc
  new_by_event (End worker id outcome) m may is = cc

  judged_more : (e : Event) → may_happen plan history e ≡ true → AreJudged (history ++ e ∷ [])
  judged_more e may = by (miscompare_in (named_in (started history) e) e) refl
    where
      stay : AllByRecursion (IsOfCheck (history ++ e ∷ [])) (miscompares history)
      stay = all_weaker (IsOfCheck history) (IsOfCheck (history ++ e ∷ [])) (stays_judged history e) (miscompares history) so_far.all

      more : (o : Option Miscompare) → miscompare_in (named_in (started history) e) e ≡ o
          → miscompares (history ++ e ∷ []) ≡ miscompares history ++ cons_option o []
      more o is = miscompares-more plan history e legal may ∙ ap (λ (x : Option Miscompare). miscompares history ++ cons_option x []) is

      by : (o : Option Miscompare) → miscompare_in (named_in (started history) e) e ≡ o → AreJudged (history ++ e ∷ [])
      by None is =
          let same : miscompares history ≡ miscompares (history ++ e ∷ []) = sym (append-nil (miscompares history)) ∙ sym (more None is) in
          record {
            all = subst (AllByRecursion (IsOfCheck (history ++ e ∷ []))) same stay;
            distinct = subst AreDistinct same so_far.distinct;
          }
      by (Some m) is =
          let new = new_by_event e m may is in
          let same : miscompares history ++ m ∷ [] ≡ miscompares (history ++ e ∷ []) = sym (more (Some m) is) in
          record {
            all = subst (AllByRecursion (IsOfCheck (history ++ e ∷ []))) same
                (all_append (IsOfCheck (history ++ e ∷ [])) (miscompares history) (m ∷ []) stay (new.of_check, tt));
            distinct = subst AreDistinct same (distinct_more (miscompares history) m so_far.distinct new.apart);
          }

are_judged : (plan : Plan) (history : List Event) → IsPlanned plan → is_legal plan history ≡ true → AreJudged history
are_judged plan history planned legal =
    by_events plan AreJudged (record { all = tt; distinct = tt })
    (λ h e legal_h so_far may. judged_more plan planned h legal_h so_far e may)
    history legal

pub all_distinct : (plan : Plan) (history : List Event) → IsPlanned plan → is_legal plan history ≡ true → AreDistinct (miscompares history)
all_distinct plan history planned legal = (are_judged plan history planned legal).distinct
