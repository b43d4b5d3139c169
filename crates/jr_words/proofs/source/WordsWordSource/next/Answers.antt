use Rattle.jr_words.proofs.WordLemmas.{words_from-suc}
use Rattle.jr_words.proofs.source.WordsWordSource.next.Goals as goal

pub returns : goal.returns
returns c n = rw (words_from-suc, c.next.ensures.word, c.next.ensures.after)
