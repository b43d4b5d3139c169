use Rattle.std.proofs.Common.{◌≡◌, ◌∙◌, ◌+◌, ◌≤◌, max, ℕ, Bool, List, ap, sym, subst, arith}
use Rattle.std.specs.Prelude.{◌==◌, ◌||◌}
use Rattle.jr_report_maps.specs.BadBlocks.{is_listed}
use Rattle.jr_report_maps.specs.Sweeps.{IsRising}
use Rattle.jr_report_maps.proofs.Lists.{counted_to, listed_end, listed_none, listed_push, listed_step, rising_push}
use Rattle.jr_report_maps.proofs.blocks.list_range.Goals as goal

pub loop-block-init : goal.loop-block-init
loop-block-init c = record {
  rising = c.requires;
  until = omega arith;
  listed = λ block. listed_none (is_listed c.args.blocks.now.items block) c.args.from block;
}

pub loop-block-preserved : goal.loop-block-preserved
loop-block-preserved c =
    let was = c.loop-block.blocks.items in
    let block = c.loop-block.block in
    let low : c.args.from ≤ block = omega arith in
    let until : block + 1 ≤ max c.args.from c.args.end = omega arith in
    let more = c.in_ok-list_one.ensures in
    record {
      rising = subst (λ (xs : List ℕ). IsRising xs (block + 1)) (sym more) (rising_push was block c.loop-block.invariant.rising);
      until = until;
      listed = λ n.
          ap (λ (xs : List ℕ). is_listed xs n) more
          ∙ listed_push was block n
          ∙ ap (λ (a : Bool). a || (block == n)) (c.loop-block.invariant.listed n)
          ∙ listed_step (is_listed c.args.blocks.now.items n) c.args.from block n low;
    }

pub returns-clause-rising : goal.returns-clause-rising
returns-clause-rising c =
    let at : c.loop-block.block ≡ max c.args.from c.args.end =
    counted_to c.args.from c.args.end c.loop-block.block (omega arith) c.loop-block.invariant.until (omega arith) in
    subst (λ (n : ℕ). IsRising c.loop-block.blocks.items n) at c.loop-block.invariant.rising

pub returns-clause-listed : goal.returns-clause-listed
returns-clause-listed c = λ block.
    let at : c.loop-block.block ≡ max c.args.from c.args.end =
    counted_to c.args.from c.args.end c.loop-block.block (omega arith) c.loop-block.invariant.until (omega arith) in
    c.loop-block.invariant.listed block
    ∙ listed_end (is_listed c.args.blocks.now.items block) c.args.from c.args.end c.loop-block.block block at
