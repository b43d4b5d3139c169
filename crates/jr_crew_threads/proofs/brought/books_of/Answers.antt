use Rattle.std.proofs.Common.{flat_map, length}
use Rattle.jr_crew_channel.specs.Passes.{pass_state}
use Rattle.jr_crew_threads.proofs.PartLemmas.{all_back, taken_was_put}
use Rattle.jr_crew_threads.proofs.brought.books_of.Goals as goal

pub returns-clause-said : goal.returns-clause-said
returns-clause-said g c =
    let judgements = c.args.judgements in
    let n = length judgements.all.items in
    let put = flat_map (λ one. (pass_state one.1.part.pass).put) c.args.ended.items in
    let taken = flat_map (λ one. (pass_state one.part.pass).taken) judgements.all.items in
    let back = all_back n (length c.args.ended.items) n put taken (pass_state judgements.channel.pass) (pass_state c.worked_books.new.channel.pass)
    (pass_state c.judged_books.new.channel.pass) (pass_state c.facts.new.self.pass) judgements.put judgements.taken
    c.in_ok-engines.ensures.more c.in_ok-said.ensures.more c.facts.ensures.same in
    taken_was_put (λ book. book.items) c.in_ok-said.said.items n taken c.facts.ensures.left.0 put (pass_state c.facts.new.self.pass)
    c.in_ok-said.ensures.books c.facts.ensures.left.1 back.0 back.1
