-- Equal by test is equal, and the order of writes is a total one that tells them apart.
use Rattle.std.proofs.Common.{◌≡◌, ℕ, ◌==◌, true, false, ◌&&◌, refl, ap, ◌∙◌, arith}
use Rattle.std.specs.Prelude.{Option, Some, None}
use Rattle.std.proofs.lemmas.Bool.{and_parts, and_left, eqb-true, ne_eqb}
use Rattle.std.proofs.lemmas.Bool.Decides.{nat_tests}
use Rattle.std.proofs.lemmas.Cmp.{nat_cmp_total, on_total, then_total}
use Rattle.std.specs.BTreeMap.{is_at}
use Rattle.std.specs.Cmp.{IsTotalOrder}
use Rattle.jr_model.specs.declared.blocks.Piece.{Piece}
use Rattle.jr_model.specs.declared.events.IssueKind.{IssueKind}
use Rattle.jr_model.specs.declared.events.IssueKind.TheVariants as issue
use Rattle.jr_model.specs.declared.events.WriteId.{WriteId}
use Rattle.jr_model.specs.History.{same_piece, same_write, write_order}
use Rattle.jr_model.specs.LastWrite.{is_this_write}
use Rattle.jr_model.specs.Legal.{same_issue}
use Rattle.jr_model.proofs.LegalLaws.{same_write_refl}

pub eq_write : (a b : WriteId) → same_write a b ≡ true → a ≡ b
eq_write a b h =
    let parts = and_parts ((a.clone == b.clone) && (a.pass == b.pass)) (a.number == b.number) h in
    let front = and_parts (a.clone == b.clone) (a.pass == b.pass) parts.0 in
    let made : ℕ → ℕ → ℕ → WriteId = λ c p n. record { clone = c; pass = p; number = n } in
    ap (λ (c : ℕ). made c a.pass a.number) (eqb-true a.clone b.clone front.0)
    ∙ ap (λ (p : ℕ). made b.clone p a.number) (eqb-true a.pass b.pass front.1)
    ∙ ap (made b.clone b.pass) (eqb-true a.number b.number parts.1)

pub eq_piece : (a b : Piece) → same_piece a b ≡ true → a ≡ b
eq_piece a b h =
    let parts = and_parts ((a.file == b.file) && (a.offset == b.offset)) (a.len == b.len) h in
    let front = and_parts (a.file == b.file) (a.offset == b.offset) parts.0 in
    let made : ℕ → ℕ → ℕ → Piece = λ f o n. record { file = f; offset = o; len = n } in
    ap (λ (f : ℕ). made f a.offset a.len) (eqb-true a.file b.file front.0)
    ∙ ap (λ (o : ℕ). made b.file o a.len) (eqb-true a.offset b.offset front.1)
    ∙ ap (made b.file b.offset) (eqb-true a.len b.len parts.1)

pub eq_issue : (a b : IssueKind) → same_issue a b ≡ true → a ≡ b
eq_issue issue.Read issue.Read h = refl
eq_issue issue.Write issue.Write h = refl
eq_issue issue.ReadCheck issue.ReadCheck h = refl
eq_issue issue.Read issue.Write h = cc
eq_issue issue.Read issue.ReadCheck h = cc
eq_issue issue.Write issue.Read h = cc
eq_issue issue.Write issue.ReadCheck h = cc
eq_issue issue.ReadCheck issue.Read h = cc
eq_issue issue.ReadCheck issue.Write h = cc

pub write_order_total : IsTotalOrder write_order
write_order_total =
    then_total (on_total (λ (w : WriteId). w.clone) nat_cmp_total)
    (then_total (on_total (λ (w : WriteId). w.pass) nat_cmp_total) (on_total (λ (w : WriteId). w.number) nat_cmp_total))

pub is_at-write_order : (a b : WriteId) → is_at (write_order a) b ≡ same_write a b
is_at-write_order a b = grind (arith, nat_tests)

-- two names of writes are the same both ways
pub same_write_back : (a b : WriteId) → same_write a b ≡ same_write b a
same_write_back a b = grind (arith, nat_tests)

-- a write of another clone has another name
pub other_name : (a b : WriteId) (c : ℕ) → (a.clone ≡ c → ⊥) → b.clone ≡ c → same_write a b ≡ false
other_name a b c apart own =
    and_left ((a.clone == b.clone) && (a.pass == b.pass)) (a.number == b.number)
    (and_left (a.clone == b.clone) (a.pass == b.pass) (ne_eqb a.clone b.clone (λ same. apart (same ∙ own))))

-- that a block's last write is this one, by test and by name
pub this_write : (write : WriteId) (last : Option WriteId) → is_this_write write last ≡ true → last ≡ Some write
this_write write None h = cc
this_write write (Some other) h = ap Some (eq_write other write h)

pub is_this : (write : WriteId) (last : Option WriteId) → last ≡ Some write → is_this_write write last ≡ true
is_this write last h = ap (is_this_write write) h ∙ same_write_refl write
