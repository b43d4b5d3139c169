use Rattle.std.proofs.Common.{◌≡◌, ◌≤◌, length, take, ap, ◌∙◌, sym, arith, length-take}
use Rattle.std.specs.List.{count_by}
use Rattle.std.proofs.lemmas.List.Splits.{length-slice_split}
use Rattle.jr_sizes.specs.Splits.{is_colon, shared_of}
use Rattle.jr_sizes.proofs.EntryLemmas.{split_many, split_few}
use Rattle.jr_sizes.proofs.splits.split_in.Goals as goal

pub returns-then-colon_count-ge-MOST_ENTRIES : goal.returns-then-colon_count-ge-MOST_ENTRIES
returns-then-colon_count-ge-MOST_ENTRIES c =
    let colons : c.colon_count.result ≡ count_by is_colon c.args.text.now = cc in
    let parts = length-slice_split is_colon c.args.text.now in
    sym (split_many c.args.text.now (omega (arith, parts, colons)))

pub entries_of-requires : goal.entries_of-requires
entries_of-requires c =
    let colons : c.colon_count.result ≡ count_by is_colon c.args.text.now = cc in
    let parts = length-slice_split is_colon c.args.text.now in
    omega (arith, parts, colons)

pub shared_ref_as_front-shared_split : goal.shared_ref_as_front-shared_split
shared_ref_as_front-shared_split c =
    let colons : c.colon_count.result ≡ count_by is_colon c.args.text.now = cc in
    let parts = length-slice_split is_colon c.args.text.now in
    let small : c.in-Ok.found.count ≤ 64 = omega (arith, parts, colons, c.in-Ok.ensures.count) in
    small

pub shared_split-requires-clause-least : goal.shared_split-requires-clause-least
shared_split-requires-clause-least c =
    let colons : c.colon_count.result ≡ count_by is_colon c.args.text.now = cc in
    let parts = length-slice_split is_colon c.args.text.now in
    let size = c.in-Ok.ensures.size in
    let some : 1 ≤ length (take c.in-Ok.found.count c.in-Ok.found.entries) = omega (arith, parts, colons, c.in-Ok.ensures.count, size, length-take c.in-Ok.found.count c.in-Ok.found.entries) in
    some

pub returns-in-Err : goal.returns-in-Err
returns-in-Err c =
    let colons : c.colon_count.result ≡ count_by is_colon c.args.text.now = cc in
    let parts = length-slice_split is_colon c.args.text.now in
    let few = split_few c.args.text.now (omega (arith, parts, colons)) in
    sym (few ∙ ap shared_of c.in-Err.ensures.err)
