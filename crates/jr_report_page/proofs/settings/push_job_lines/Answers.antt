use Rattle.std.proofs.Common.{ℕ, List, ◌++◌, string_bytes, sym, ap, ◌∙◌}
use Rattle.std.specs.Prelude.{flat_map}
use Rattle.std.proofs.lemmas.Iterator.{YieldsList-from_chars}
use Rattle.std.proofs.lemmas.Iterator.Consumers.{YieldsList-end}
use Rattle.std.proofs.lemmas.List.{flat_map_more, map-id}
use Rattle.jr_report_page.specs.Settings.{job_char}
use Rattle.jr_report_page.proofs.settings.push_job_lines.Goals as goal

pub loop-c-preserved : goal.loop-c-preserved
loop-c-preserved c =
    c.in_ok-push_job_char.ensures
    ∙ ap (λ (t : List ℕ). t ++ job_char c.in-Some.c) c.loop-c.invariant
    ∙ flat_map_more job_char (string_bytes c.args.page.now) c.loop-c.yielded c.in-Some.c

pub returns : goal.returns
returns c =
    let t =
    YieldsList-end (YieldsList-from_chars c.args.job.now c.utf8.job cc) c.loop-c.yielded _ c.loop-c.yielded_by _ _ c.in-None.is
    c.next.ensures.steps in
    c.loop-c.invariant
    ∙ ap (λ (cs : List ℕ). string_bytes c.args.page.now ++ flat_map job_char cs) (sym (map-id c.loop-c.yielded) ∙ t.0)
