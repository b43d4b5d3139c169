-- Lemmas on memories of files.
use Rattle.std.proofs.Common.{◌≡◌, ℕ, zero, suc, ◌+◌, ◌-◌, ◌<◌, ◌≤◌, ◌==◌, nat_le, ◌&&◌, List, [], ◌∷◌, length, slice_index_or, slice_set, refl, ap, arith, IsTrue}
use Rattle.std.proofs.lemmas.Bool.{false≢true}
use Rattle.std.proofs.lemmas.Bool.Decides.{nat_tests}
use Rattle.std.proofs.lemmas.List.{length-append, length-take, length-drop, length-set}
use Rattle.jr_model.specs.declared.blocks.Piece.{Piece}
use Rattle.jr_model.specs.declared.replies.Reply.{Reply}
use Rattle.jr_model.specs.declared.replies.Reply.TheVariants.{Pass, Fail, Short, Torn, Flip, Drop, Bytes}
use Rattle.jr_model.specs.declared.tickets.TicketKind.{TicketKind}
use Rattle.jr_model.specs.declared.tickets.TicketKind.TheVariants as ticket
use Rattle.jr_model.specs.Replies.{FileBytes, asked, covers, covers_range, file_with, memory_with, placed, reply_to_write}

-- a write to the memory is a write to its file
pub memory_after_set : (memory : List FileBytes) (file offset : ℕ) («data» : List ℕ) (bytes : FileBytes) → file < length memory → bytes ≡ slice_index_or memory file bytes → slice_set memory file (file_with bytes offset «data») ≡ memory_with memory file offset «data»
memory_after_set [] file offset «data» bytes inside is = absurd (omega arith)
memory_after_set (first ∷ files) zero offset «data» bytes inside is =
    ap (λ f. file_with f offset «data» ∷ files) is
memory_after_set (first ∷ files) (suc file) offset «data» bytes inside is =
    ap (λ rest. first ∷ rest) (memory_after_set files file offset «data» bytes (omega arith) is)

-- a memory that covers bytes of a file has the file
pub file_of_covered : (memory : List FileBytes) (file offset n : ℕ) → IsTrue (covers memory file offset n) → file < length memory
file_of_covered [] file offset n h = absurd (false≢true h)
file_of_covered (first ∷ files) zero offset n h = omega arith
file_of_covered (first ∷ files) (suc file) offset n h = let i = file_of_covered files file offset n h in omega arith

-- as many bytes stand there as before
length_placed : (bytes : List ℕ) (place : ℕ) (new : List ℕ) → place + length new ≤ length bytes → length (placed bytes place new) ≡ length bytes
length_placed bytes place new h = simp (length-append, length-take, length-drop) (omega arith)

-- a file covers what it covered before a write
covers_range_after : (bytes : FileBytes) (offset : ℕ) («data» : List ℕ) (m : ℕ) → length «data» ≤ m → IsTrue (covers_range bytes offset m) → (o n : ℕ) → covers_range (file_with bytes offset «data») o n ≡ covers_range bytes o n
covers_range_after bytes offset «data» m most h o n =
    let place : (offset - bytes.low) + length «data» ≤ length bytes.bytes = grind (arith, nat_tests) in
    ap (λ len. nat_le bytes.low o && nat_le (o + n) bytes.high && (len == bytes.high - bytes.low)) (length_placed bytes.bytes (offset - bytes.low) «data» place)

-- a memory covers what it covered before a write inside it
pub covers_after_write : (memory : List FileBytes) (file offset : ℕ) («data» : List ℕ) (m : ℕ) → length «data» ≤ m → IsTrue (covers memory file offset m) → (f o n : ℕ) → covers (memory_with memory file offset «data») f o n ≡ covers memory f o n
covers_after_write [] file offset «data» m most h f o n = refl
covers_after_write (first ∷ files) zero offset «data» m most h zero o n = covers_range_after first offset «data» m most h o n
covers_after_write (first ∷ files) zero offset «data» m most h (suc f) o n = refl
covers_after_write (first ∷ files) (suc file) offset «data» m most h zero o n = refl
covers_after_write (first ∷ files) (suc file) offset «data» m most h (suc f) o n =
    covers_after_write files file offset «data» m most h f o n

-- what a write stores is no longer than what was written
length_stored : (reply : Reply) («data» : List ℕ) → length (reply_to_write reply «data»).stored ≤ length «data»
length_stored Pass «data» = omega arith
length_stored Fail «data» = omega arith
length_stored (Short n) «data» = omega (arith, length-take {A = ℕ})
length_stored (Torn n) «data» = omega (arith, length-take {A = ℕ})
length_stored (Flip i) «data» = omega (arith, length-set {A = ℕ})
length_stored Drop «data» = omega arith
length_stored (Bytes new) «data» = omega arith

-- a memory covers what it covered before a call for a ticket
pub covers_after_asked : (reply : Reply) (memory : List FileBytes) (kind : TicketKind) (piece : Piece) (buffer : List ℕ) → length buffer ≡ piece.len → IsTrue (covers memory piece.file piece.offset piece.len) → (f o n : ℕ) → covers (asked reply memory kind piece buffer).memory f o n ≡ covers memory f o n
covers_after_asked reply memory ticket.Read piece buffer room h f o n = refl
covers_after_asked reply memory ticket.Probe piece buffer room h f o n = refl
covers_after_asked reply memory ticket.ReadCheck piece buffer room h f o n = refl
covers_after_asked reply memory ticket.Write piece buffer room h f o n =
    covers_after_write memory piece.file piece.offset (reply_to_write reply buffer).stored piece.len (omega (arith, length_stored reply buffer)) h f o n
