-- What replies store and give that change and drop no bytes.
use Rattle.std.proofs.Common.{◌≡◌, ℕ, ◌≤◌, List, ◌++◌, length, drop, Bool, true, cond, refl, sym, ◌∙◌, ap, arith, inl, inr, append-nil, length-take}
use Rattle.std.specs.Prelude.{Some, min, nat_lt}
use Rattle.std.proofs.lemmas.Bool.{false≢true, ltb-false, cases_Bool}
use Rattle.std.proofs.lemmas.List.{take_all, drop_all}
use Rattle.jr_model.specs.declared.events.Outcome.TheVariants.{Whole, Short}
use Rattle.jr_model.specs.declared.replies.Reply.{Reply}
use Rattle.jr_model.specs.declared.replies.Reply.TheVariants as reply
use Rattle.jr_model.specs.History.{ended_whole}
use Rattle.jr_model.specs.Replies.{outcome_for, reply_to_read, reply_to_write}
use Rattle.jr_laws_bytes.specs.Checks.{keeps_bytes}

-- a call that ended whole moved all its bytes
pub all_moved : (n len : ℕ) → ended_whole (Some (outcome_for (Some n) len)) ≡ true → len ≤ n
all_moved n len whole = elim (cases_Bool (nat_lt n len)) [
  | inl below ↦
      absurd (false≢true (sym (ap (λ (b : Bool). ended_whole (Some (cond b (Short n) Whole))) below) ∙ whole))
  | inr all ↦ ltb-false n len all
]

-- a write stores no more bytes than it was given, and these very ones where it ends whole
pub stored_by_write : (given : Reply) (content : List ℕ) (len : ℕ) → keeps_bytes given ≡ true → length content ≡ len → (length (reply_to_write given content).stored ≤ len) × (ended_whole (Some (outcome_for (reply_to_write given content).count len)) ≡ true → (reply_to_write given content).stored ≡ content)
stored_by_write reply.Pass content len keeps size = (omega (arith, size), λ whole. refl)
stored_by_write reply.Fail content len keeps size = (omega arith, λ whole. absurd (false≢true whole))
stored_by_write (reply.Short n) content len keeps size = (
  omega (arith, size, length-take n content),
  λ whole. let all = all_moved (min n (length content)) len whole in take_all n content (omega (arith, all, size)),
)
stored_by_write (reply.Torn n) content len keeps size =
    (omega (arith, size, length-take n content), λ whole. absurd (false≢true whole))
stored_by_write (reply.Flip i) content len keeps size = absurd (false≢true keeps)
stored_by_write reply.Drop content len keeps size = absurd (false≢true keeps)
stored_by_write (reply.Bytes new) content len keeps size = absurd (false≢true keeps)

-- a read that ends whole gives what is stored
pub given_by_read : (given : Reply) (bytes buffer : List ℕ) (len : ℕ) → keeps_bytes given ≡ true → length bytes ≡ len → length buffer ≡ len → ended_whole (Some (outcome_for (reply_to_read given bytes buffer).count len)) ≡ true → (reply_to_read given bytes buffer).buffer ≡ bytes
given_by_read reply.Pass bytes buffer len keeps size room whole = refl
given_by_read reply.Fail bytes buffer len keeps size room whole = absurd (false≢true whole)
given_by_read (reply.Short n) bytes buffer len keeps size room whole =
    let all = all_moved (min n (length bytes)) len whole in
    ap (λ (front : List ℕ). front ++ drop n buffer) (take_all n bytes (omega (arith, all, size)))
    ∙ ap (λ (back : List ℕ). bytes ++ back) (drop_all n buffer (omega (arith, all, size, room)))
    ∙ append-nil bytes
given_by_read (reply.Torn n) bytes buffer len keeps size room whole = absurd (false≢true whole)
given_by_read (reply.Flip i) bytes buffer len keeps size room whole = absurd (false≢true keeps)
given_by_read reply.Drop bytes buffer len keeps size room whole = absurd (false≢true keeps)
given_by_read (reply.Bytes new) bytes buffer len keeps size room whole = absurd (false≢true keeps)
