use Rattle.std.proofs.Common.{◌≡◌, drop}
use Rattle.jr_job_options.specs.OptionWords.{meaning_of, shown_words}
use Rattle.jr_job_options.proofs.words.meaning.Given as goal

-- no entry so far is for the word, so the others decide
abbrev pub invariant-loop-entry : goal.invariant-loop-entry
invariant-loop-entry g l = meaning_of (shown_words (drop l.entry-index l.words)) l.word ≡ meaning_of (shown_words l.words) l.word
