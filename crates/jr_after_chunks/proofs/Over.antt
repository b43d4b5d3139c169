-- The writes over a chunk: each can be carried out, and the chunk lies within its piece.
use Rattle.std.proofs.Common.{◌≡◌, ℕ, ◌+◌, ◌-◌, ◌%◌, ◌≤◌, List, [], ◌∷◌, map, Bool, true, false, refl, arith}
use Rattle.std.specs.Prelude.{None, All, cond, nat_lt, nat_le, ◌==◌, ◌&&◌}
use Rattle.std.proofs.lemmas.Bool.{and_parts, eqb-true, leb-true}
use Rattle.std.proofs.lemmas.List.Elements.{All-nil, All-cons, All-head, All-tail, All-filter, filter_passes}
use Rattle.jr_model.specs.declared.blocks.Piece.{Piece}
use Rattle.jr_model.specs.declared.limits.TheConstants.{LARGEST_BLOCK, MOST_PASSES}
use Rattle.jr_model.specs.Pieces.{piece_end}
use Rattle.jr_model.specs.Tickets.{piece_fits, has_pattern, interval_fits}
use Rattle.jr_model.proofs.PieceLemmas.{fitting_is_short}
use Rattle.jr_ledger.specs.declared.lines.LedgerLine.{LedgerLine}
use Rattle.jr_after.specs.declared.writes.Named.{Named}
use Rattle.jr_after.specs.declared.writes.PlannedWrite.{PlannedWrite}
use Rattle.jr_after.specs.Findings.{named_by}
use Rattle.jr_after.specs.Parts.{CanHold}
use Rattle.jr_after.specs.Writes.{has_chunk, is_chunk, writes_over}
use Rattle.jr_after_chunks.specs.Judging.{CanBeNamed, is_over, longest_of, named_over}

-- what holds of each element by two facts of it
pub all_both : {X : Type 0} (A B P : X → Type 0) → ((x : X) → A x → B x → P x) → (xs : List X) → All A xs → All B xs → All P xs
all_both A B P each [] a b = All-nil P
all_both A B P each (x ∷ xs) a b = All-cons P x xs (each x (All-head A x xs a) (All-head B x xs b)) (all_both A B P each xs (All-tail A x xs a) (All-tail B x xs b))

pub record Lies (piece chunk : Piece) : Type 0 where
  pub from_there : piece.offset ≤ chunk.offset
  pub till : chunk.offset + chunk.len ≤ piece.offset + piece.len

-- a chunk lies within its piece
pub lies : (interval : ℕ) (piece chunk : Piece) → is_chunk interval piece chunk ≡ true → Lies piece chunk
lies interval piece chunk is = by (interval == 0) is
  where
    by : (b : Bool) → cond b ((chunk.offset == piece.offset) && (chunk.len == piece.len)) ((chunk.len == interval) && nat_le piece.offset chunk.offset && ((chunk.offset - piece.offset) % interval == 0) && nat_le (piece_end chunk) (piece_end piece)) ≡ true → Lies piece chunk
    by true h =
        let parts = and_parts (chunk.offset == piece.offset) (chunk.len == piece.len) h in
        let place : chunk.offset ≡ piece.offset = eqb-true chunk.offset piece.offset parts.0 in
        let size : chunk.len ≡ piece.len = eqb-true chunk.len piece.len parts.1 in
        record { from_there = omega (arith, place); till = omega (arith, place, size) }
    by false h =
        let parts = and_parts ((chunk.len == interval) && nat_le piece.offset chunk.offset && ((chunk.offset - piece.offset) % interval == 0)) (nat_le (piece_end chunk) (piece_end piece)) h in
        let front = and_parts ((chunk.len == interval) && nat_le piece.offset chunk.offset) ((chunk.offset - piece.offset) % interval == 0) parts.0 in
        let low = and_parts (chunk.len == interval) (nat_le piece.offset chunk.offset) front.0 in
        record { from_there = leb-true piece.offset chunk.offset low.1; till = leb-true (piece_end chunk) (piece_end piece) parts.1 }

piece_of : (planned : PlannedWrite) → CanBeNamed (record { planned = planned; line = None }) → piece_fits planned.piece ≡ true
piece_of planned fits =
    let method = planned.method in
    let a = piece_fits planned.piece in
    let b = nat_lt planned.write.pass MOST_PASSES in
    let c = has_pattern method.kind method.pattern in
    let d = interval_fits method.kind method.interval planned.piece.len in
    let p4 = and_parts (a && b && c && d) true fits in
    let p3 = and_parts (a && b && c) d p4.0 in
    let p2 = and_parts (a && b) c p3.0 in
    (and_parts a b p2.0).0

-- a block is no longer than a room
abbrev pub IsNoLonger : ℕ → Named → Type 0
IsNoLonger room named = named.planned.piece.len ≤ room

block_is_short : (named : Named) → CanBeNamed named → named.planned.piece.len ≤ LARGEST_BLOCK
block_is_short named fits = fitting_is_short named.planned.piece (piece_of named.planned fits)

pub blocks_are_short : (named : List Named) (room : ℕ) → LARGEST_BLOCK ≤ room → All CanBeNamed named → longest_of named ≤ room
blocks_are_short [] room wide fit = omega arith
blocks_are_short (one ∷ named) room wide fit =
    let size : one.planned.piece.len ≤ LARGEST_BLOCK = block_is_short one (All-head CanBeNamed one named fit) in
    let rest : longest_of named ≤ room = blocks_are_short named room wide (All-tail CanBeNamed one named fit) in
    omega (arith, size, rest, wide)

none_longer : (named : List Named) (room : ℕ) → longest_of named ≤ room → All (IsNoLonger room) named
none_longer [] room most = All-nil (IsNoLonger room)
none_longer (one ∷ named) room most =
    All-cons (IsNoLonger room) one named (omega (arith, most)) (none_longer named room (omega (arith, most)))

can_hold : (chunk : Piece) (room : ℕ) (named : Named) → IsNoLonger room named → CanBeNamed named → is_over chunk named ≡ true → CanHold chunk room named
can_hold chunk room named short fits over =
    let planned = named.planned in
    let within = lies planned.method.interval planned.piece chunk (and_parts (planned.piece.file == chunk.file) (is_chunk planned.method.interval planned.piece chunk) over).1 in
    record { fits = fits; from = within.from_there; till = within.till; holds = short }

pub all_can_hold : (chunk : Piece) (room : ℕ) (named : List Named) → longest_of named ≤ room → All CanBeNamed named → All (CanHold chunk room) (named_over chunk named)
all_can_hold chunk room named most fit =
    let Over : Named → Type 0 = λ one. is_over chunk one ≡ true in
    let Short : Named → Type 0 = IsNoLonger room in
    let Fitting : Named → Type 0 = λ one. CanBeNamed one × Short one in
    all_both Fitting Over (CanHold chunk room) (λ one fits over. can_hold chunk room one fits.1 fits.0 over) (named_over chunk named)
    (All-filter (is_over chunk) Fitting named (all_both CanBeNamed Short Fitting (λ one fits short. (fits, short)) named fit (none_longer named room most)))
    (filter_passes (is_over chunk) named)

named_step : (b : Bool) (one : Named) (planned : PlannedWrite) (lines : List LedgerLine) (over : List Named) (writes : List PlannedWrite) → one ≡ named_by lines planned → over ≡ map (named_by lines) writes → cond b (one ∷ over) over ≡ map (named_by lines) (cond b (planned ∷ writes) writes)
named_step true one planned lines over writes same ih = cc
named_step false one planned lines over writes same ih = ih

-- the writes over a chunk, named before or after
pub over_named : (chunk : Piece) (lines : List LedgerLine) (writes : List PlannedWrite) → named_over chunk (map (named_by lines) writes) ≡ map (named_by lines) (writes_over chunk writes)
over_named chunk lines [] = refl
over_named chunk lines (planned ∷ writes) =
    named_step (has_chunk chunk planned) (named_by lines planned) planned lines (named_over chunk (map (named_by lines) writes)) (writes_over chunk writes) refl (over_named chunk lines writes)
