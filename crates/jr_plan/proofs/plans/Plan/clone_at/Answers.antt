use Rattle.std.proofs.Common.{◌≡◌, ◌<◌, length, slice_get, Some, sym, subst}
use Rattle.std.proofs.lemmas.Option.{slice_get_read}
use Rattle.jr_model.specs.Plan.{Plan}
use Rattle.jr_plan.proofs.plans.Plan.clone_at.Goals as goal

pub returns-clause-limited : goal.returns-clause-limited
returns-clause-limited c =
    let clones = c.self.inside.clones.items in
    let within : c.args.i < length clones = subst (λ (plan : Plan). c.args.i < length plan.clones) (sym c.self.view_is) c.requires in
    let at : slice_get clones c.args.i ≡ Some c.index.result.now = slice_get_read clones (length clones) c.args.i c.index.result.now (let e : length clones ≡ length clones = cc in e) within c.index.ensures in
    c.self.invariant.drafted.limited c.args.i c.index.result.now at
