-- Worked rows: two writes over one chunk of 1024 bytes, ledgers of them, and what is found of the chunk; a course that a run may take.
use Rattle.std.proofs.Common.{◌≡◌, ℕ, List, [], ◌∷◌, ◌++◌, true, false, refl}
use Rattle.std.specs.Prelude.{Some, replicate}
use Rattle.jr_model.specs.declared.blocks.Piece.{Piece}
use Rattle.jr_model.specs.declared.contents.Method.{Method}
use Rattle.jr_model.specs.declared.contents.VerifyKind.TheVariants as verify
use Rattle.jr_model.specs.declared.events.WriteId.{WriteId}
use Rattle.jr_ledger.specs.declared.lines.LedgerLine.{LedgerLine}
use Rattle.jr_ledger.specs.declared.lines.LedgerLine.TheVariants.{Written, Begun, Returned}
use Rattle.jr_ledger.specs.declared.lines.SyncId.{SyncId}
use Rattle.jr_after.specs.declared.findings.Finding.TheVariants.{Open, Kept, Lost, Torn, Broken}
use Rattle.jr_after.specs.declared.writes.PlannedWrite.{PlannedWrite}
use Rattle.jr_after.specs.Findings.{finding_on}
use Rattle.jr_after.specs.Laws.{do_meet}
use Rattle.jr_after.specs.Storage.{asked, ended, sync_asked, sync_returned, noted, is_course}

-- the writes: each is 1024 bytes of its own number
name_at : ℕ → WriteId
name_at n = record { clone = 0; pass = n; number = 0 }

filled_with : ℕ → Method
filled_with n = record { kind = verify.Pattern; pattern = Some (n ∷ []); interval = 0 }

the_chunk : Piece
the_chunk = record { file = 0; offset = 4096; len = 1024 }

write_at : ℕ → PlannedWrite
write_at n = record { write = name_at n; piece = the_chunk; seed = 0; method = filled_with n }

first_write : WriteId
first_write = name_at 1

second_write : WriteId
second_write = name_at 2

both_writes : List PlannedWrite
both_writes = write_at 1 ∷ write_at 2 ∷ []

a_sync : SyncId
a_sync = record { file = 0; number = 0 }

-- both ended before the sync
both_kept : List LedgerLine
both_kept = Written first_write ∷ Written second_write ∷ Begun a_sync ∷ Returned a_sync ∷ []

-- the second ended while the sync was under way
one_kept : List LedgerLine
one_kept = Written first_write ∷ Begun a_sync ∷ Written second_write ∷ Returned a_sync ∷ []

-- the sync failed, or its return didn't arrive
none_kept : List LedgerLine
none_kept = Written first_write ∷ Written second_write ∷ Begun a_sync ∷ []

last_is_there : finding_on both_writes both_kept the_chunk (replicate 1024 2) ≡ Kept
unfolding both_writes both_kept write_at the_chunk name_at filled_with first_write second_write a_sync
last_is_there = refl

replaced_is_there : finding_on both_writes both_kept the_chunk (replicate 1024 1) ≡ Lost second_write first_write
unfolding both_writes both_kept write_at the_chunk name_at filled_with first_write second_write a_sync
replaced_is_there = refl

zeros_are_there : finding_on both_writes both_kept the_chunk (replicate 1024 0) ≡ Broken second_write
unfolding both_writes both_kept write_at the_chunk name_at filled_with first_write second_write a_sync
zeros_are_there = refl

-- a write that ended behind the sync's begin isn't kept, and either may stand there
first_is_there : finding_on both_writes one_kept the_chunk (replicate 1024 1) ≡ Kept
unfolding both_writes one_kept write_at the_chunk name_at filled_with first_write second_write a_sync
first_is_there = refl

later_is_there : finding_on both_writes one_kept the_chunk (replicate 1024 2) ≡ Kept
unfolding both_writes one_kept write_at the_chunk name_at filled_with first_write second_write a_sync
later_is_there = refl

nothing_is_kept : finding_on both_writes none_kept the_chunk (replicate 1024 0) ≡ Open
unfolding both_writes none_kept write_at the_chunk name_at filled_with first_write second_write a_sync
nothing_is_kept = refl

-- a write that the ledger doesn't name may stand there
unnamed_is_there : finding_on both_writes (Written first_write ∷ Begun a_sync ∷ Returned a_sync ∷ []) the_chunk (replicate 1024 2) ≡ Kept
unfolding both_writes write_at the_chunk name_at filled_with first_write second_write a_sync
unnamed_is_there = refl

-- a chunk of another file isn't theirs
other_file : finding_on both_writes both_kept (record { file = 1; offset = 4096; len = 1024 }) (replicate 1024 1) ≡ Open
unfolding both_writes both_kept write_at the_chunk name_at filled_with first_write second_write a_sync
other_file = refl

-- the first 512 bytes are of the first write, the others of the second: torn where either may stand there
half_and_half : finding_on both_writes one_kept the_chunk (replicate 512 1 ++ replicate 512 2) ≡ Torn first_write
unfolding both_writes one_kept write_at the_chunk name_at filled_with first_write second_write a_sync
half_and_half = refl

half_is_replaced : finding_on both_writes both_kept the_chunk (replicate 512 1 ++ replicate 512 2) ≡ Broken second_write
unfolding both_writes both_kept write_at the_chunk name_at filled_with first_write second_write a_sync
half_is_replaced = refl

-- a run may go so, and its ledger is that of `both_kept`
a_course : is_course (do_meet both_writes) []
    (asked first_write ∷ ended first_write ∷ noted (Written first_write) ∷ asked second_write ∷ ended second_write ∷ noted (Written second_write)
    ∷ noted (Begun a_sync) ∷ sync_asked a_sync ∷ sync_returned a_sync ∷ noted (Returned a_sync) ∷ []) ≡ true
unfolding both_writes write_at the_chunk name_at filled_with first_write second_write a_sync
a_course = refl

-- but no line is noted once a write over the same bytes was asked for
late_line : is_course (do_meet both_writes) [] (asked first_write ∷ ended first_write ∷ asked second_write ∷ noted (Written first_write) ∷ []) ≡ false
unfolding both_writes write_at the_chunk name_at filled_with first_write second_write a_sync
late_line = refl
