-- Where all clones stand after an end or a verdict.
use Rattle.std.proofs.Common.{◌≡◌, ℕ, List, sym, ◌∙◌}
use Rattle.std.proofs.Math.ListN.{set}
use Rattle.std.specs.Prelude.{Some, slice_get}
use Rattle.jr_model.specs.declared.events.Event.{Event}
use Rattle.jr_model.specs.declared.events.Event.TheVariants.{End, Verdict as Judged}
use Rattle.jr_model.specs.declared.events.Outcome.{Outcome}
use Rattle.jr_model.specs.declared.events.Verdict.{Verdict}
use Rattle.jr_model.specs.declared.tickets.Ticket.{Ticket}
use Rattle.jr_model.specs.Plan.{Plan, SubJob, clone_of}
use Rattle.jr_model.proofs.PlanLemmas.{own_place, own_number}
use Rattle.jr_laws_steps.specs.Nexts.{IsNext, grown}
use Rattle.jr_desk_state.specs.declared.standings.Standing.{Standing}
use Rattle.jr_desk_state.specs.Standings.{IsStanding, AreStanding}
use Rattle.jr_desk_state.proofs.EndingParts.{OwnParts}
use Rattle.jr_desk_state.proofs.StandingMoves.{stays_end_other, stays_verdict}
use Rattle.jr_desk_state.proofs.StartingStandings.{standing_moves}

-- at a verdict all clones stand where they stood
pub standings_judged : (plan : Plan) (history : List Event) (worker id : ℕ) (verdict : Verdict) (standings : List Standing)
    → IsNext plan history (Judged worker id verdict)
    → AreStanding plan history standings
    → AreStanding plan (grown history (Judged worker id verdict)) standings
standings_judged plan history worker id verdict standings next are = record {
  count = are.count;
  each = λ (k : ℕ) (job : SubJob) (standing : Standing) (there : clone_of plan k ≡ Some job) (got : slice_get standings k ≡ Some standing).
      stays_verdict plan history job standing (are.each k job standing there got) worker id verdict next
      (own_place plan k job next.planned there);
}

-- at an end the others do
pub standings_ended : (plan : Plan) (history : List Event) (worker : ℕ) (outcome : Outcome) (ticket : Ticket) (standings : List Standing)
    (standing : Standing) (parts : OwnParts plan history ticket)
    → IsNext plan history (End worker ticket.id outcome)
    → AreStanding plan history standings
    → IsStanding (grown history (End worker ticket.id outcome)) parts.job standing
    → AreStanding plan (grown history (End worker ticket.id outcome)) (set standings ticket.write.clone standing)
standings_ended plan history worker outcome ticket standings standing parts next are is =
    standing_moves plan history (grown history (End worker ticket.id outcome)) standings ticket.write.clone parts.job standing are
    parts.planned is
    (λ (k : ℕ) (other : SubJob) (its : Standing) (there : clone_of plan k ≡ Some other) (apart : ticket.write.clone ≡ k → ⊥)
    (was : IsStanding history other its).
    stays_end_other plan history other its was worker ticket.id outcome parts.io next (own_place plan k other next.planned there) parts.at
    (λ (e : parts.io.write.clone ≡ other.clone). apart (sym parts.clone ∙ e ∙ sym (own_number plan k other next.planned there))))
