use Rattle.std.proofs.Common.{ℕ, List, ◌∙◌, ap, subst, arith}
use Rattle.std.specs.Prelude.{Some}
use Rattle.jr_model.specs.declared.replies.Reply.{Reply}
use Rattle.jr_engines.specs.Answers.{Answers}
use Rattle.jr_engines.specs.States.{scripted_state}
use Rattle.jr_header.specs.Served.{asked_with}
use Rattle.jr_desk.proofs.Ending.{end_goes_on}
use Rattle.jr_desk.proofs.Playing.{known_fits, refused_end_goes_on, when_ok}
use Rattle.jr_desk.proofs.plays.Player.end.Goals as goal

pub carried_out-served-requires-clause-fits : goal.carried_out-served-requires-clause-fits
carried_out-served-requires-clause-fits c =
    known_fits c.args.self.now c.args.io c.in-Ok.ticket c.requires.ready c.in-Ok.ensures.own

pub returns : goal.returns
returns c =
    let player = c.args.self.now in
    let t = c.in-Ok.ticket in
    let set = c.set_next.ensures ∙ ap (λ (reply : Reply). record player.engine { set = Some (player.engine.calls, reply) }) c.in_ok-copy_of.ensures in
    let called = subst (λ (buffer : List ℕ). Answers (scripted_state c.set_next.new.self) t (asked_with t.kind t buffer) c.carried_out-served.result (scripted_state c.carried_out-served.new.engine))
    c.in_ok-buffer.ensures c.carried_out-served.ensures in
    end_goes_on player _ c.args.io c.args.reply.now t c.set_next.new.self c.carried_out-served.result c.requires.ready c.in-Ok.ensures.open c.in-Ok.ensures.own
    set called (when_ok c.end.result _ c.end.ensures.ok c.if-is_err.ensures.negation) c.in_ok-keep.ensures

pub returns-in-Err : goal.returns-in-Err
returns-in-Err c = refused_end_goes_on c.args.self.now c.args.io c.args.reply.now c.in-Err.fault c.requires.ready c.in-Err.ensures.refused

pub carried_out-served-requires-clause-calls : goal.carried_out-served-requires-clause-calls
carried_out-served-requires-clause-calls c = omega (arith, ap (λ engine. engine.calls) c.set_next.ensures, c.requires.calls)
