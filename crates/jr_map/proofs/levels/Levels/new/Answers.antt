use Rattle.std.proofs.Common.{◌≡◌, length, arith, subst, ℕ}
use Rattle.jr_map.specs.Words.{IsSetFrom}
use Rattle.jr_map.proofs.MarkFacts.{Summarizes-clear}
use Rattle.jr_map.proofs.levels.Levels.new.Goals as goal

pub returns-clause-summed : goal.returns-clause-summed
returns-clause-summed c =
    let lowest = c.in_ok-lowest.ensures in
    let second = c.in_ok-second.ensures in
    let third = c.in_ok-third.ensures in
    let top = c.in_ok-top.ensures in
    let lowest_len : c.len.result ≡ length c.in_ok-lowest.lowest.items = omega arith in
    let second_len : c.len-2.result ≡ length c.in_ok-second.second.items = omega arith in
    let third_len : c.len-3.result ≡ length c.in_ok-third.third.items = omega arith in
    record {
      second = Summarizes-clear c.args.cells c.in_ok-lowest.lowest.items c.in_ok-second.second.items lowest.len lowest.bits (subst (λ (n : ℕ). IsSetFrom n c.in_ok-second.second.items) lowest_len second.bits);
      third = Summarizes-clear c.len.result c.in_ok-second.second.items c.in_ok-third.third.items second.len second.bits (subst (λ (n : ℕ). IsSetFrom n c.in_ok-third.third.items) second_len third.bits);
      top = Summarizes-clear c.len-2.result c.in_ok-third.third.items c.in_ok-top.top.items third.len third.bits (subst (λ (n : ℕ). IsSetFrom n c.in_ok-top.top.items) third_len top.bits);
    }
