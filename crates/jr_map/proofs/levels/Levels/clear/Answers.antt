use Rattle.std.proofs.Common.{◌≡◌, length, arith, subst, ℕ}
use Rattle.jr_map.specs.Words.{IsSetFrom}
use Rattle.jr_map.proofs.MarkFacts.{Summarizes-written}
use Rattle.jr_map.proofs.levels.Levels.clear.Goals as goal

pub returns-clause-summed : goal.returns-clause-summed
returns-clause-summed c =
    let l = c.args.self.now in
    let lowest : c.len-words.result ≡ length c.clear_all.new.words = omega arith in
    let second : c.len-words-2.result ≡ length c.clear_all-2.new.words = omega arith in
    let third : c.len-words-3.result ≡ length c.clear_all-3.new.words = omega arith in
    record {
      second = Summarizes-written c.args.cells l.lowest l.second c.clear_all.new.words c.clear_all-2.new.words (omega arith) (omega arith) (omega arith) c.clear_all.ensures.bits (subst (λ (n : ℕ). IsSetFrom n c.clear_all-2.new.words) lowest c.clear_all-2.ensures.bits);
      third = Summarizes-written c.len-words.result l.second l.third c.clear_all-2.new.words c.clear_all-3.new.words (omega arith) (omega arith) (omega arith) c.clear_all-2.ensures.bits (subst (λ (n : ℕ). IsSetFrom n c.clear_all-3.new.words) second c.clear_all-3.ensures.bits);
      top = Summarizes-written c.len-words-2.result l.third l.top c.clear_all-3.new.words c.clear_all-4.new.words (omega arith) (omega arith) (omega arith) c.clear_all-3.ensures.bits (subst (λ (n : ℕ). IsSetFrom n c.clear_all-4.new.words) third c.clear_all-4.ensures.bits);
    }
