use Rattle.std.proofs.Common.{length, sym, ap, ◌∙◌}
use Rattle.std.specs.Prelude.{Option, Bool, nat_eq, ◌&&◌, ◌||◌}
use Rattle.std.specs.HashSet.{contains}
use Rattle.std.specs.List.{list_any}
use Rattle.jr_model.specs.declared.events.Started.{Started}
use Rattle.jr_model.specs.Races.{races_by, writes_over}
use Rattle.jr_replay_history.proofs.RaceLemmas.{races_marked}
use Rattle.jr_replay_history.proofs.races.mark_raced.Goals as goal

pub returns-in_ok-mark_new : goal.returns-in_ok-mark_new
returns-in_ok-mark_new c = λ io.
    let history = c.args.ledger.now in
    let new = c.in-Some.new in
    let own : Bool = nat_eq (length c.started.result.now) io && list_any (writes_over new.piece) c.args.flying.now in
    let old = contains nat_eq c.args.raced.now io in
    c.in_ok-mark_new.ensures io
    ∙ ap (λ (b : Bool). b || own) (c.in_ok-mark_overlaid.ensures io)
    ∙ races_marked history new c.args.pending.now c.args.flying.now (length c.started.result.now) io old c.requires.pending c.requires.flying (ap length c.started.ensures)
    ∙ ap (λ (o : Option Started). old || races_by history io o) (sym c.in-Some.is)
