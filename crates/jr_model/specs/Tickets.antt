-- Believed: when a ticket can be carried out (of this project).
use Rattle.std.specs.Prelude.{ℕ, ◌+◌, ◌%◌, nat_lt, nat_le, nat_eq, ◌==◌, Bool, true, false, ◌&&◌, Option, Some, None, is_some, List, if◌then◌else◌}
use Rattle.std.specs.Cmp.Lexicographic.{pointwise}
use Rattle.jr_model.specs.declared.limits.TheConstants.{SECTOR, LARGEST_BLOCK, LARGEST_END, MOST_PASSES}
use Rattle.jr_model.specs.declared.blocks.Piece.{Piece}
use Rattle.jr_model.specs.declared.contents.VerifyKind.{VerifyKind}
use Rattle.jr_model.specs.declared.contents.VerifyKind.TheVariants as verify
use Rattle.jr_model.specs.declared.contents.Expected.{Expected}
use Rattle.jr_model.specs.declared.contents.Expected.TheVariants as expected
use Rattle.jr_model.specs.declared.contents.Method.{Method}
use Rattle.jr_model.specs.declared.tickets.TicketKind.{TicketKind}
use Rattle.jr_model.specs.declared.tickets.TicketKind.TheVariants as ticket
use Rattle.jr_model.specs.declared.tickets.Ticket.{Ticket}
use Rattle.jr_model.specs.Plan.{is_verified}

-- one or more whole 512-byte blocks, at most the largest block, that end within the largest region
abbrev pub piece_fits : Piece → Bool
piece_fits p =
    nat_lt 0 p.len && nat_le p.len LARGEST_BLOCK && (p.len % SECTOR == 0) && (p.offset % SECTOR == 0)
    && nat_le (p.offset + p.len) LARGEST_END

-- a pattern where the kind is the pattern's
abbrev pub has_pattern : VerifyKind → Option (List ℕ) → Bool
has_pattern verify.Pattern pattern = is_some pattern
has_pattern verify.Plain pattern = true
has_pattern verify.Md5 pattern = true
has_pattern verify.Sha1 pattern = true
has_pattern verify.Sha256 pattern = true

-- nothing is expected
abbrev pub is_nothing : Expected → Bool
is_nothing expected.Nothing = true
is_nothing (expected.Pattern p) = false
is_nothing (expected.Header h) = false
is_nothing (expected.Seed seed) = false

-- a header is expected
abbrev pub is_header : Expected → Bool
is_header (expected.Header h) = true
is_header expected.Nothing = false
is_header (expected.Pattern p) = false
is_header (expected.Seed seed) = false

-- the seed is expected of which the headers of the chunks are made
abbrev pub is_seed : Expected → Bool
is_seed (expected.Seed seed) = true
is_seed expected.Nothing = false
is_seed (expected.Pattern p) = false
is_seed (expected.Header h) = false

-- what checks of a digest are judged by: one header, or those of the chunks
abbrev pub is_of_interval : ℕ → Expected → Bool
is_of_interval interval e = if interval == 0 then is_header e else is_seed e

-- the method's pattern is there, and has these bytes
abbrev pub same_pattern : Option (List ℕ) → List ℕ → Bool
same_pattern None bytes = false
same_pattern (Some pattern) bytes = pointwise nat_eq pattern bytes

-- this very pattern is expected
abbrev pub is_pattern : Option (List ℕ) → Expected → Bool
is_pattern pattern (expected.Pattern p) = same_pattern pattern p
is_pattern pattern expected.Nothing = false
is_pattern pattern (expected.Header h) = false
is_pattern pattern (expected.Seed seed) = false

-- what checks of this method are judged by
abbrev pub suits_method : VerifyKind → Method → Expected → Bool
suits_method verify.Plain method e = false
suits_method verify.Pattern method e = is_pattern method.pattern e
suits_method verify.Md5 method e = is_of_interval method.interval e
suits_method verify.Sha1 method e = is_of_interval method.interval e
suits_method verify.Sha256 method e = is_of_interval method.interval e

-- a probe has what its method is judged by, and a read or write has nothing; the method of a checked read verifies
abbrev pub suits_kind : TicketKind → Method → Expected → Bool
suits_kind ticket.Read method e = is_nothing e
suits_kind ticket.Write method e = is_nothing e
suits_kind ticket.Probe method e = suits_method method.kind method e
suits_kind ticket.ReadCheck method e = is_nothing e && is_verified method.kind

abbrev pub expected_fits : Ticket → Bool
expected_fits t = suits_kind t.kind t.method t.expected

-- the block is cut into whole chunks of whole 512-byte blocks, where there is a header at each interval
abbrev pub has_whole_chunks : ℕ → ℕ → Bool
has_whole_chunks interval len = if interval == 0 then true else ((interval % SECTOR == 0) && (len % interval == 0))

abbrev pub interval_fits : VerifyKind → ℕ → ℕ → Bool
interval_fits verify.Plain interval len = true
interval_fits verify.Pattern interval len = true
interval_fits verify.Md5 interval len = has_whole_chunks interval len
interval_fits verify.Sha1 interval len = has_whole_chunks interval len
interval_fits verify.Sha256 interval len = has_whole_chunks interval len

-- a write or a probe is cut into whole chunks
abbrev pub chunks_fit : TicketKind → Method → ℕ → Bool
chunks_fit ticket.Read method len = true
chunks_fit ticket.ReadCheck method len = true
chunks_fit ticket.Write method len = interval_fits method.kind method.interval len
chunks_fit ticket.Probe method len = interval_fits method.kind method.interval len

abbrev pub ticket_fits : Ticket → Bool
ticket_fits t =
    piece_fits t.piece && nat_lt t.write.pass MOST_PASSES && has_pattern t.method.kind t.method.pattern
    && chunks_fit t.kind t.method t.piece.len && expected_fits t
