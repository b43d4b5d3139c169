-- The last write of a block, by the ends of writes.
use Rattle.std.proofs.Common.{◌≡◌, ℕ, List, [], ◌∷◌, ◌++◌, Bool, true, false, cond, refl, sym, ap, ◌∙◌}
use Rattle.std.specs.Prelude.{Option, Some, None, not, ◌&&◌, fold, is_some, slice_get, filter_map}
use Rattle.std.specs.Option.{option_or}
use Rattle.std.proofs.lemmas.Bool.{eq-eqb}
use Rattle.std.specs.List.{cons_option}
use Rattle.std.proofs.lemmas.List.Sums.{fold_push}
use Rattle.jr_model.specs.declared.events.Event.{Event}
use Rattle.jr_model.specs.declared.events.Event.TheVariants.{Issue, Probe, Skip, End, Verdict}
use Rattle.jr_model.specs.declared.events.Outcome.{Outcome}
use Rattle.jr_model.specs.declared.events.Started.{Started}
use Rattle.jr_model.specs.declared.events.WriteId.{WriteId}
use Rattle.jr_model.specs.History.{started, is_write, ended_whole, end_of, outcome_of}
use Rattle.jr_model.specs.LastWrite.{covers_block, last_after, last_after_end, last_write}
use Rattle.jr_model.specs.Races.{has_raced}
use Rattle.jr_replay_history.specs.declared.marks.WriteEnd.{WriteEnd}
use Rattle.jr_replay_history.specs.WriteEnds.{if_write, write_end, is_over_block, if_whole, last_by}

-- what ends of writes make of it
abbrev last_of : (ℕ → Bool) → ℕ → ℕ → Option WriteId → List WriteEnd → Option WriteId
last_of raced file block last ends = fold (last_by raced file block) last ends

one_write : (raced : ℕ → Bool) (file block : ℕ) (last : Option WriteId) (n : ℕ) (io : Started) (whole writes : Bool) (rest : List WriteEnd) → fold (last_by raced file block) last (cons_option (cond writes (Some (record { io = n; write = io.write; piece = io.piece; whole = whole })) None) rest) ≡ last_of raced file block (cond (writes && covers_block io.piece file block) (cond (whole && not (raced n)) (Some io.write) None) last) rest
one_write raced file block last n io whole true rest = refl
one_write raced file block last n io whole false rest = refl

one_end : (raced : ℕ → Bool) (file block : ℕ) (last : Option WriteId) (n : ℕ) (io : Option Started) (outcome : Outcome) (rest : List WriteEnd) → last_of raced file block last (cons_option (if_write n io (ended_whole (Some outcome))) rest) ≡ last_of raced file block (last_after_end (raced n) io outcome file block last) rest
one_end raced file block last n None outcome rest = refl
one_end raced file block last n (Some io) outcome rest = one_write raced file block last n io (ended_whole (Some outcome)) (is_write io.kind) rest

by_ends : (raced : ℕ → Bool) (ios : List Started) (file block : ℕ) (last : Option WriteId) (events : List Event) → fold (last_after raced ios file block) last events ≡ last_of raced file block last (filter_map (write_end ios) events)
by_ends raced ios file block last [] = refl
by_ends raced ios file block last (Issue worker kind write piece ∷ events) = by_ends raced ios file block last events
by_ends raced ios file block last (Probe worker write piece ∷ events) = by_ends raced ios file block last events
by_ends raced ios file block last (Skip worker write ∷ events) = by_ends raced ios file block last events
by_ends raced ios file block last (Verdict worker io verdict ∷ events) = by_ends raced ios file block last events
by_ends raced ios file block last (End worker io outcome ∷ events) =
    by_ends raced ios file block (last_after_end (raced io) (slice_get ios io) outcome file block last) events
    ∙ sym (one_end raced file block last io (slice_get ios io) outcome (filter_map (write_end ios) events))

some_behind : {X : Type 0} (o p : Option X) → is_some p ≡ true → is_some (option_or o p) ≡ true
some_behind (Some x) p some = refl
some_behind None p some = some

-- which of the others raced makes no difference
of_ended : (one other : ℕ → Bool) (ios : List Started) (file block : ℕ) (last : Option WriteId) (events : List Event) → ((io : ℕ) → is_some (outcome_of events io) ≡ true → one io ≡ other io) → fold (last_after one ios file block) last events ≡ fold (last_after other ios file block) last events
of_ended one other ios file block last [] same = refl
of_ended one other ios file block last (Issue worker kind write piece ∷ events) same = of_ended one other ios file block last events same
of_ended one other ios file block last (Probe worker write piece ∷ events) same = of_ended one other ios file block last events same
of_ended one other ios file block last (Skip worker write ∷ events) same = of_ended one other ios file block last events same
of_ended one other ios file block last (Verdict worker io verdict ∷ events) same = of_ended one other ios file block last events same
of_ended one other ios file block last (End worker io outcome ∷ events) same =
    let after : Bool → Option WriteId = λ raced. last_after_end raced (slice_get ios io) outcome file block last in
    ap (λ (raced : Bool). fold (last_after one ios file block) (after raced) events)
    (same io (ap (λ (own : Bool). is_some (option_or (cond own (Some outcome) None) (outcome_of events io))) (eq-eqb io io refl)))
    ∙ of_ended one other ios file block (after (other io)) events
    (λ n ended. same n (some_behind (end_of n (End worker io outcome)) (outcome_of events n) ended))

-- the last write by the ends of writes, where these raced of those that ended
pub last_write_is : (history : List Event) (raced : ℕ → Bool) (file block : ℕ) → ((io : ℕ) → is_some (outcome_of history io) ≡ true → raced io ≡ has_raced history io) → fold (last_by raced file block) None (filter_map (write_end (started history)) history) ≡ last_write history file block
last_write_is history raced file block are =
    sym (by_ends raced (started history) file block None history)
    ∙ of_ended raced (has_raced history) (started history) file block None history are

-- by all but the latest, where that isn't over the block
pub last_before : (raced : ℕ → Bool) (file block : ℕ) (ends before : List WriteEnd) (end : WriteEnd) → ends ≡ before ++ end ∷ [] → is_over_block file block end ≡ false → fold (last_by raced file block) None ends ≡ fold (last_by raced file block) None before
last_before raced file block ends before end are other =
    ap (λ (xs : List WriteEnd). fold (last_by raced file block) None xs) are
    ∙ fold_push (last_by raced file block) None before end
    ∙ ap (λ (b : Bool). cond b (if_whole raced end) (fold (last_by raced file block) None before)) other
