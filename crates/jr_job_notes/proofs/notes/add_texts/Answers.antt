use Rattle.std.proofs.Common.{refl}
use Rattle.jr_job_notes.proofs.NoteLemmas.{first_more}
use Rattle.jr_job_notes.proofs.notes.add_texts.Goals as goal

pub loop-text-preserved : goal.loop-text-preserved
loop-text-preserved c = λ lines first.
    first_more c.loop-text.notes.items c.push.new.self.items _ c.in_ok-push.ensures.items refl lines (c.loop-text.invariant lines first)
