-- Worked rows: lines of a ledger, and texts of one.
use Rattle.std.proofs.Common.{◌≡◌, ℕ, List, [], ◌∷◌, ◌++◌, Ok, Err, refl}
use Rattle.std.specs.Prelude.{Some, None, codes, replicate}
use Rattle.jr_ledger.specs.declared.faults.LedgerFault.TheVariants.{Line, OtherJob}
use Rattle.jr_ledger.specs.declared.lines.LedgerLine.TheVariants as line
use Rattle.jr_ledger.specs.Fields.{read_line}
use Rattle.jr_ledger.specs.Reading.{lines_by, head_word}

a_write : read_line (codes "w 3 0 17") ≡ Some (line.Written (record { clone = 3; pass = 0; number = 17 }))
a_write = refl

a_begin : read_line (codes "b 1 0") ≡ Some (line.Begun (record { file = 1; number = 0 }))
a_begin = refl

a_return : read_line (codes "s 1 4294967296") ≡ Some (line.Returned (record { file = 1; number = 4294967296 }))
a_return = refl

leading_zero : read_line (codes "w 3 00 17") ≡ None
leading_zero = refl

large_clone : read_line (codes "w 4294967296 0 0") ≡ None
large_clone = refl

two_spaces : read_line (codes "b 1  0") ≡ None
two_spaces = refl

one_field_more : read_line (codes "s 1 0 0") ≡ None
one_field_more = refl

-- a digest of 64 letters, in place of one
a_digest : List ℕ
a_digest = replicate 64 97

-- the last line is cut
cut_line : lines_by a_digest (head_word ++ a_digest ++ codes "\nw 0 0 0\nb 0 0\ns 0")
    ≡ Ok (line.Written (record { clone = 0; pass = 0; number = 0 }) ∷ line.Begun (record { file = 0; number = 0 }) ∷ [])
unfolding a_digest
cut_line = refl

no_line : lines_by a_digest (head_word ++ a_digest ++ codes "\n") ≡ Ok []
unfolding a_digest
no_line = refl

faulty_line : lines_by a_digest (head_word ++ a_digest ++ codes "\nw 0 0 0\nv 0 0\ns 0 0\n") ≡ Err (Line 3)
unfolding a_digest
faulty_line = refl

cut_head : lines_by a_digest (head_word ++ a_digest) ≡ Err (Line 1)
unfolding a_digest
cut_head = refl

other_digest : lines_by a_digest (head_word ++ replicate 64 98 ++ codes "\n") ≡ Err OtherJob
unfolding a_digest
other_digest = refl
