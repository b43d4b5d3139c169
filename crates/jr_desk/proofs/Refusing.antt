-- When a desk refuses an end or a verdict, and when it takes one in.
use Rattle.std.proofs.Common.{◌≡◌, Bool, true, false, refl, subst}
use Rattle.std.specs.Prelude.{Ok, Err, Option, Some, None, is_none, is_some, IfSome}
use Rattle.jr_model.specs.declared.events.Outcome.{Outcome}
use Rattle.jr_model.specs.declared.steps.DeskFault.{DeskFault}
use Rattle.jr_model.specs.declared.tickets.Ticket.{Ticket}
use Rattle.jr_model.specs.declared.tickets.TicketKind.{TicketKind}
use Rattle.jr_model.specs.declared.tickets.TicketKind.TheVariants as ticket
use Rattle.jr_model.specs.History.{is_judged_kind}
use Rattle.jr_header.specs.Served.{is_whole_check}
use Rattle.jr_desk.specs.DeskState.{DeskState}
use Rattle.jr_desk.specs.Refusals.{Owns, end_fault, judge_fault}

pub none_from : (o : Option Outcome) → is_some o ≡ false → is_none o ≡ true
none_from None h = refl
none_from (Some x) h = cc

pub judged_probe : (kind : TicketKind) (how : Outcome) → is_whole_check kind how ≡ true → is_judged_kind kind ≡ true
judged_probe ticket.Probe how h = refl
judged_probe ticket.ReadCheck how h = refl
judged_probe ticket.Read how h = cc
judged_probe ticket.Write how h = cc

not_refused : {A : Type 0} (a : A) (fault : Option DeskFault) (P : DeskFault → Type 0) → IfSome fault (λ f. Ok a ≡ Err f) → IfSome fault P
not_refused a None P h = tt
not_refused a (Some fault) P h = cc

-- an end that is taken in is not refused, whatever a refusal would have to be
pub end_accepts : {A : Type 0} (a : A) (desk : DeskState) (t same : Ticket) (P : DeskFault → Type 0) → t ≡ same → ((own : Bool) → Owns desk t own → IfSome (end_fault desk t.id own) (λ fault. Ok a ≡ Err fault)) → (own : Bool) → Owns desk same own → IfSome (end_fault desk same.id own) P
end_accepts a desk t same P is accepts own owns =
    not_refused a (end_fault desk same.id own) P
    (subst (λ (x : Ticket). (own : Bool) → Owns desk x own → IfSome (end_fault desk x.id own) (λ fault. Ok a ≡ Err fault)) is accepts own owns)

-- nor is a verdict
pub judge_accepts : {A : Type 0} (a : A) (desk : DeskState) (t same : Ticket) (P : DeskFault → Type 0) → t ≡ same → ((own : Bool) → Owns desk t own → IfSome (judge_fault desk t.id own) (λ fault. Ok a ≡ Err fault)) → (own : Bool) → Owns desk same own → IfSome (judge_fault desk same.id own) P
judge_accepts a desk t same P is accepts own owns =
    not_refused a (judge_fault desk same.id own) P
    (subst (λ (x : Ticket). (own : Bool) → Owns desk x own → IfSome (judge_fault desk x.id own) (λ fault. Ok a ≡ Err fault)) is accepts own owns)
