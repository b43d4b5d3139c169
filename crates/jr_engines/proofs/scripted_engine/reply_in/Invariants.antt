use Rattle.std.proofs.Common.{◌≡◌, drop}
use Rattle.jr_model.specs.Replies.{scripted_reply}
use Rattle.jr_engines.proofs.scripted_engine.reply_in.Given as goal

abbrev pub invariant-loop-entry : goal.invariant-loop-entry
invariant-loop-entry l = scripted_reply (drop l.entry-index l.script) l.call ≡ scripted_reply l.script l.call
