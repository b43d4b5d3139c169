use Rattle.std.proofs.Common.{◌≡◌, ◌≤◌, ◌+◌, ℕ, List, Bool, false, cond, Some, None, sym, ◌∙◌, ap, arith}
use Rattle.std.specs.Prelude.{Option, unwrap_or}
use Rattle.std.proofs.lemmas.Bool.{le-ltb}
use Rattle.jr_model.specs.declared.blocks.Piece.{Piece}
use Rattle.jr_model.specs.declared.contents.Method.{Method}
use Rattle.jr_model.specs.declared.events.WriteId.{WriteId}
use Rattle.jr_diagnosis.specs.declared.diagnoses.Diagnosis.{Diagnosis}
use Rattle.jr_diagnosis.specs.declared.diagnoses.Diagnosis.TheVariants.{Flipped}
use Rattle.jr_diagnosis.specs.declared.headers.BlockHeader.{BlockHeader}
use Rattle.jr_diagnosis.specs.Bits.{raised_between, cleared_between}
use Rattle.jr_diagnosis.specs.Diagnoses.{are_few, flips_of, here_diagnosis, place_diagnosis, said_by, uneven_diagnosis}
use Rattle.jr_diagnosis.specs.Headers.{header_in}
use Rattle.jr_diagnosis.specs.Sectors.{right_sectors}
use Rattle.jr_diagnosis.proofs.diagnoses.uneven_diagnosis.Goals as goal

-- where more bits are wrong, the header tells what stands there
by_header : (method : Method) (write : WriteId) (place : Piece) (written read : List ℕ) (said : Option Diagnosis)
    → 17 ≤ raised_between written read + cleared_between written read
    → said ≡ said_by (place_diagnosis method.kind place) (header_in read)
    → unwrap_or said (here_diagnosis method write (right_sectors written read) (header_in read))
    ≡ uneven_diagnosis method write place written read
by_header method write place written read said many told =
    let here = here_diagnosis method write (right_sectors written read) (header_in read) in
    let few : are_few (raised_between written read) (cleared_between written read) ≡ false = le-ltb _ _ many in
    ap (λ (o : Option Diagnosis). unwrap_or o here) told
    ∙ sym (ap (λ (b : Bool). cond b (Flipped (flips_of written read)) (unwrap_or (said_by (place_diagnosis method.kind place) (header_in read)) here)) few)

-- so many bits are wrong as were counted
counted : (raised cleared most least : ℕ) → raised ≡ most → cleared ≡ least → 17 ≤ raised + cleared → 17 ≤ most + least
counted raised cleared most least up down many = omega arith

pub returns-in-Some : goal.returns-in-Some
returns-in-Some c =
    let flips = c.flips_between-flips in
    let header = c.header_in-header in
    let says = λ (o : Option BlockHeader). said_by (place_diagnosis c.args.method.now.kind c.args.place.now) o in
    by_header c.args.method.now c.args.write.now c.args.place.now c.args.written.now c.args.read.now (Some c.in-Some.said)
    (counted _ _ _ _ flips.ensures.raised flips.ensures.cleared c.if-flips-lt17.false)
    (c.in-Some.ensures ∙ ap says header.ensures)

pub returns-in-None : goal.returns-in-None
returns-in-None c =
    let flips = c.flips_between-flips in
    let header = c.header_in-header in
    let method = c.args.method.now in
    let write = c.args.write.now in
    let says = λ (o : Option BlockHeader). said_by (place_diagnosis method.kind c.args.place.now) o in
    c.here_diagnosis.ensures
    ∙ ap (λ (right : ℕ). here_diagnosis method write right header.result) c.right_sectors.ensures
    ∙ ap (λ (o : Option BlockHeader). here_diagnosis method write (right_sectors c.args.written.now c.args.read.now) o) header.ensures
    ∙ by_header method write c.args.place.now c.args.written.now c.args.read.now None
    (counted _ _ _ _ flips.ensures.raised flips.ensures.cleared c.if-flips-lt17.false)
    (c.in-None.ensures ∙ ap says header.ensures)
