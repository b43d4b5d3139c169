use Rattle.std.proofs.Common.{◌≡◌, true, false, drop}
use Rattle.jr_fields.specs.Fields.{field_is}
use Rattle.jr_ledger.specs.Reading.{is_head}
use Rattle.jr_ledger.proofs.ReadingLemmas.{other_job, this_job}
use Rattle.jr_ledger.proofs.reader.lines_by.Goals as goal

pub returns-then-not-names_job-clause-err : goal.returns-then-not-names_job-clause-err
returns-then-not-names_job-clause-err c =
    let head = c.in-Some.head.now in
    let first : is_head head ≡ true = cc in
    let other : field_is (drop 16 head) c.args.digest.now ≡ false = cc in
    other_job c.args.digest.now c.args.text.now head c.in-Some.rest.now c.in-Some.ensures.0 first other

pub returns-clause-ok : goal.returns-clause-ok
returns-clause-ok c =
    let head = c.in-Some.head.now in
    let first : is_head head ≡ true = cc in
    let this : field_is (drop 16 head) c.args.digest.now ≡ true = cc in
    let is = this_job c.args.digest.now c.args.text.now head c.in-Some.rest.now c.in-Some.ensures.0 first this in
    rw is c.lines_below.ensures.ok
