use Rattle.std.proofs.Common.{rules, [], sym, ap, ◌∙◌}
use Rattle.std.specs.Prelude.{flat_map}
use Rattle.std.proofs.lemmas.Iterator.{YieldsList-from_chars}
use Rattle.std.proofs.lemmas.Iterator.Consumers.{YieldsList-end}
use Rattle.std.proofs.lemmas.List.{flat_map_more, map-id}
use Rattle.std.proofs.Output.{has_written_append, has_written_of_eq}
use Rattle.jr_escape.specs.Writers.{shown_char}
use Rattle.jr_escape.proofs.texts.EscapingWrite.write_str.Goals as goal

pub loop-c-preserved : goal.loop-c-preserved
loop-c-preserved g c = (
  c.loop-c.invariant.0,
  c.loop-c.invariant.1,
  λ plain.
      let so_far = c.loop-c.invariant.2 plain in
      let one = shown_char c.args.self.now.keeps_breaks in
      has_written_of_eq _ _ _ _ _ (flat_map_more one [] c.loop-c.yielded c.in-Some.c)
      (has_written_append _ _ _ _ _ _ so_far (search rules)),
)

pub returns : goal.returns
returns g c = record {
  ok = λ _.
      let t = YieldsList-end (YieldsList-from_chars c.args.text.now c.utf8.text cc) c.loop-c.yielded _ c.loop-c.yielded_by _ _ c.in-None.is c.next.ensures.steps in
      let all = sym (map-id c.loop-c.yielded) ∙ t.0 in record {
        same_reference = c.loop-c.invariant.0;
        same_breaks = c.loop-c.invariant.1;
        is_text = c.utf8.text;
        wrote = λ plain. has_written_of_eq _ _ _ _ _ (ap (flat_map (shown_char c.args.self.now.keeps_breaks)) all) (c.loop-c.invariant.2 plain);
      };
}
