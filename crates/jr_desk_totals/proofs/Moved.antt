-- What one event more makes of a clone's totals, of whether it is halted, and of the draws issued.
use native.Mathlib.Numerals.{unary_clauses}
use Rattle.std.proofs.Common.{◌≡◌, ℕ, ◌+◌, List, [], ◌∷◌, ◌++◌, length, set, Bool, true, false, cond, ◌&&◌, ◌||◌, not, refl, sym, ◌∙◌, ap, arith, length-append, add-zero}
use Rattle.std.specs.Prelude.{Option, Some, None, slice_get, nat_lt, ◌==◌, count_by, sum_by}
use Rattle.std.specs.List.{cons_option}
use Rattle.std.proofs.lemmas.Bool.{ltb-true, eqb-true, ne_eqb}
use Rattle.std.proofs.lemmas.List.Sums.{sum_by-cons, sum_by-append, sum_by_push, sum-map}
use Rattle.jr_model.specs.declared.events.Event.{Event}
use Rattle.jr_model.specs.declared.events.Event.TheVariants.{Issue, Probe, Skip, End, Verdict}
use Rattle.jr_model.specs.declared.events.Outcome.{Outcome}
use Rattle.jr_model.specs.declared.events.Outcome.TheVariants.{Whole, Failed, Short}
use Rattle.jr_model.specs.declared.events.Started.{Started}
use Rattle.jr_model.specs.declared.events.Verdict.{Verdict as GivenVerdict}
use Rattle.jr_model.specs.declared.events.Verdict.TheVariants.{Good, Bad, Void}
use Rattle.jr_model.specs.declared.tickets.TicketKind.{TicketKind}
use Rattle.jr_model.specs.declared.tickets.TicketKind.TheVariants as ticket
use Rattle.jr_model.specs.declared.totals.Totals.{Totals}
use Rattle.jr_model.specs.History.{started, is_of_clone, is_write, ended_whole}
use Rattle.jr_model.specs.Legal.{is_legal, may_happen, is_io_of, is_fault, is_bad, is_void, halts, is_halted}
use Rattle.jr_model.specs.Plan.{Plan, SubJob, IsNumbered, clone_of}
use Rattle.jr_model.specs.Report.{all_totals}
use Rattle.jr_model.specs.Totals.{is_read, if_wanted, moved_by, moved, bytes_of, is_verdict_of, is_skip_of, is_fault_of, totals_of}
use Rattle.jr_model.proofs.PlaceLemmas.{got_longer}
use Rattle.jr_desk_totals.specs.Tallies.{named_in, concerns, totals_ended, totals_judged, totals_after_end, totals_after, halted_by}
use Rattle.jr_laws_steps.proofs.Grown.{Agrees, kept-more, found-more, counted-more}
use Rattle.jr_laws_steps.proofs.Lists.{map_set}

-- what an event says by the I/O that it names stays where more I/Os are started

got_more : (ios more : List Started) (io : ℕ) → nat_lt io (length ios) ≡ true → slice_get (ios ++ more) io ≡ slice_get ios io
got_more ios more io known = got_longer ios more io (ltb-true io (length ios) known)

moved_agrees : (test : TicketKind → Bool) (c : ℕ) → Agrees (λ (ios : List Started). moved_by ios test c)
moved_agrees test c ios more (End worker io outcome) known = ap (if_wanted test c (ended_whole (Some outcome))) (got_more ios more io known)
moved_agrees test c ios more (Issue worker dir write piece) known = refl
moved_agrees test c ios more (Probe worker write piece) known = refl
moved_agrees test c ios more (Skip worker write) known = refl
moved_agrees test c ios more (Verdict worker io verdict) known = refl

verdict_agrees : (test : GivenVerdict → Bool) (c : ℕ) → Agrees (λ (ios : List Started). is_verdict_of ios test c)
verdict_agrees test c ios more (Verdict worker io verdict) known = ap {B = Bool} (λ (o : Option Started). is_io_of c o && test verdict) (got_more ios more io known)
verdict_agrees test c ios more (Issue worker dir write piece) known = refl
verdict_agrees test c ios more (Probe worker write piece) known = refl
verdict_agrees test c ios more (Skip worker write) known = refl
verdict_agrees test c ios more (End worker io outcome) known = refl

fault_agrees : (c : ℕ) → Agrees (λ (ios : List Started). is_fault_of ios c)
fault_agrees c ios more (End worker io outcome) known = ap {B = Bool} (λ (o : Option Started). is_io_of c o && is_fault outcome) (got_more ios more io known)
fault_agrees c ios more (Issue worker dir write piece) known = refl
fault_agrees c ios more (Probe worker write piece) known = refl
fault_agrees c ios more (Skip worker write) known = refl
fault_agrees c ios more (Verdict worker io verdict) known = refl

halts_agrees : (job : SubJob) → Agrees (λ (ios : List Started). halts ios job)
halts_agrees job ios more (End worker io outcome) known = ap {B = Bool} (λ (o : Option Started). is_io_of job.clone o && is_fault outcome) (got_more ios more io known)
halts_agrees job ios more (Verdict worker io verdict) known = ap {B = Bool} (λ (o : Option Started). is_io_of job.clone o && job.is_fatal && is_bad verdict) (got_more ios more io known)
halts_agrees job ios more (Issue worker dir write piece) known = refl
halts_agrees job ios more (Probe worker write piece) known = refl
halts_agrees job ios more (Skip worker write) known = refl

-- whether the clone is halted

halts_by : (ios : List Started) (job : SubJob) (e : Event) → halts ios job e ≡ halted_by job (named_in ios e) e
halts_by ios job (End worker io outcome) = refl
halts_by ios job (Verdict worker io verdict) = refl
halts_by ios job (Issue worker dir write piece) = refl
halts_by ios job (Probe worker write piece) = refl
halts_by ios job (Skip worker write) = refl

pub is_halted-more : (plan : Plan) (history : List Event) (e : Event) (job : SubJob) → is_legal plan history ≡ true → may_happen plan history e ≡ true → is_halted (history ++ e ∷ []) job ≡ (is_halted history job || halted_by job (named_in (started history) e) e)
is_halted-more plan history e job legal may =
    found-more plan history e legal may (λ (ios : List Started). halts ios job) (halts_agrees job)
    ∙ ap {B = Bool} (λ (b : Bool). is_halted history job || b) (halts_by (started history) job e)

-- the totals: what the event adds to each

abbrev pub ones : Option Started → ℕ
ones None = 0
ones (Some io) = 1

abbrev pub bytes : Option Started → ℕ
bytes None = 0
bytes (Some io) = io.piece.len

one_long : (o : Option Started) → length (cons_option o []) ≡ ones o
one_long None = refl
one_long (Some io) = refl

one_wide : (o : Option Started) → bytes_of (cons_option o []) ≡ bytes o
one_wide None = refl
one_wide (Some io) =
    let len : Started → ℕ = λ (x : Started). x.piece.len in
    let first : sum_by len (io ∷ []) ≡ len io + sum_by len [] = sum_by-cons len io [] in
    sum-map len (io ∷ []) ∙ first ∙ add-zero (len io)

wide_append : (xs ys : List Started) → bytes_of (xs ++ ys) ≡ bytes_of xs + bytes_of ys
wide_append xs ys =
    let len : Started → ℕ = λ (x : Started). x.piece.len in
    omega (arith, sum-map len (xs ++ ys), sum-map len xs, sum-map len ys, sum_by-append len xs ys)

abbrev pub gain : List Started → ℕ → Event → Totals
gain ios c e = record {
  reads = ones (moved_by ios is_read c e);
  rbytes = bytes (moved_by ios is_read c e);
  writes = ones (moved_by ios is_write c e);
  wbytes = bytes (moved_by ios is_write c e);
  checks = cond (is_verdict_of ios (λ verdict. not (is_void verdict)) c e) 1 0;
  good = cond (is_verdict_of ios (λ verdict. not (is_bad verdict || is_void verdict)) c e) 1 0;
  bad = cond (is_verdict_of ios is_bad c e) 1 0;
  skipped = cond (is_skip_of c e) 1 0;
  void = cond (is_verdict_of ios is_void c e) 1 0;
  faults = cond (is_fault_of ios c e) 1 0;
}

-- these totals and a gain make those
pub record AreAdded (t g u : Totals) : Type 0 where
  pub reads : u.reads ≡ t.reads + g.reads
  pub rbytes : u.rbytes ≡ t.rbytes + g.rbytes
  pub writes : u.writes ≡ t.writes + g.writes
  pub wbytes : u.wbytes ≡ t.wbytes + g.wbytes
  pub checks : u.checks ≡ t.checks + g.checks
  pub good : u.good ≡ t.good + g.good
  pub bad : u.bad ≡ t.bad + g.bad
  pub skipped : u.skipped ≡ t.skipped + g.skipped
  pub void : u.void ≡ t.void + g.void
  pub faults : u.faults ≡ t.faults + g.faults

module _ (plan : Plan) (history : List Event) (e : Event) (c : ℕ) (legal : is_legal plan history ≡ true) (may : may_happen plan history e ≡ true) where
  moved-more : (test : TicketKind → Bool) → moved (history ++ e ∷ []) test c ≡ moved history test c ++ cons_option (moved_by (started history) test c e) []
  moved-more test = kept-more plan history e legal may (λ (ios : List Started). moved_by ios test c) (moved_agrees test c)

  count-more : (test : TicketKind → Bool) → length (moved (history ++ e ∷ []) test c) ≡ length (moved history test c) + ones (moved_by (started history) test c e)
  count-more test =
      let o = moved_by (started history) test c e in
      let more : length (moved (history ++ e ∷ []) test c) ≡ length (moved history test c ++ cons_option o []) = ap {B = ℕ} length (moved-more test) in
      omega (arith, more, length-append (moved history test c) (cons_option o []), one_long o)

  bytes-more : (test : TicketKind → Bool) → bytes_of (moved (history ++ e ∷ []) test c) ≡ bytes_of (moved history test c) + bytes (moved_by (started history) test c e)
  bytes-more test =
      let o = moved_by (started history) test c e in
      ap {B = ℕ} bytes_of (moved-more test)
      ∙ wide_append (moved history test c) (cons_option o [])
      ∙ ap {B = ℕ} (λ (n : ℕ). bytes_of (moved history test c) + n) (one_wide o)

  verdicts-more : (test : GivenVerdict → Bool) → count_by (is_verdict_of (started (history ++ e ∷ [])) test c) (history ++ e ∷ []) ≡ count_by (is_verdict_of (started history) test c) history + cond (is_verdict_of (started history) test c e) 1 0
  verdicts-more test = counted-more plan history e legal may (λ (ios : List Started). is_verdict_of ios test c) (verdict_agrees test c)

  pub totals_added : AreAdded (totals_of history c) (gain (started history) c e) (totals_of (history ++ e ∷ []) c)
  totals_added = record {
    reads = count-more is_read;
    rbytes = bytes-more is_read;
    writes = count-more is_write;
    wbytes = bytes-more is_write;
    checks = verdicts-more (λ verdict. not (is_void verdict));
    good = verdicts-more (λ verdict. not (is_bad verdict || is_void verdict));
    bad = verdicts-more is_bad;
    skipped = sum_by_push (λ (x : Event). cond (is_skip_of c x) 1 0) history e;
    void = verdicts-more is_void;
    faults = counted-more plan history e legal may (λ (ios : List Started). is_fault_of ios c) (fault_agrees c);
  }

-- what is so much more in each part
abbrev added : Totals → Totals → Totals
added t g = record {
  reads = t.reads + g.reads;
  rbytes = t.rbytes + g.rbytes;
  writes = t.writes + g.writes;
  wbytes = t.wbytes + g.wbytes;
  checks = t.checks + g.checks;
  good = t.good + g.good;
  bad = t.bad + g.bad;
  skipped = t.skipped + g.skipped;
  void = t.void + g.void;
  faults = t.faults + g.faults;
}

all_added : (t g u : Totals) → AreAdded t g u → u ≡ added t g
all_added t g u h = λ i. record {
  reads = h.reads i;
  rbytes = h.rbytes i;
  writes = h.writes i;
  wbytes = h.wbytes i;
  checks = h.checks i;
  good = h.good i;
  bad = h.bad i;
  skipped = h.skipped i;
  void = h.void i;
  faults = h.faults i;
}

-- a gain of nothing, of what was read or written, of a fault, of a verdict and of a skip
abbrev pub none : Totals
none = record { reads = 0; rbytes = 0; writes = 0; wbytes = 0; checks = 0; good = 0; bad = 0; skipped = 0; void = 0; faults = 0 }

add_none : (t u : Totals) → AreAdded t none u → u ≡ t
add_none t u h = simp unary_clauses at (all_added t none u h)

add_read : (len : ℕ) (t u : Totals) → AreAdded t (record none { reads = 1; rbytes = len }) u → u ≡ record t { reads = t.reads + 1; rbytes = t.rbytes + len }
add_read len t u h = simp unary_clauses (simp unary_clauses at (all_added t (record none { reads = 1; rbytes = len }) u h))

add_write : (len : ℕ) (t u : Totals) → AreAdded t (record none { writes = 1; wbytes = len }) u → u ≡ record t { writes = t.writes + 1; wbytes = t.wbytes + len }
add_write len t u h = simp unary_clauses (simp unary_clauses at (all_added t (record none { writes = 1; wbytes = len }) u h))

add_fault : (t u : Totals) → AreAdded t (record none { faults = 1 }) u → u ≡ record t { faults = t.faults + 1 }
add_fault t u h = simp unary_clauses (simp unary_clauses at (all_added t (record none { faults = 1 }) u h))

add_good : (t u : Totals) → AreAdded t (record none { checks = 1; good = 1 }) u → u ≡ record t { checks = t.checks + 1; good = t.good + 1 }
add_good t u h = simp unary_clauses (simp unary_clauses at (all_added t (record none { checks = 1; good = 1 }) u h))

add_bad : (t u : Totals) → AreAdded t (record none { checks = 1; bad = 1 }) u → u ≡ record t { checks = t.checks + 1; bad = t.bad + 1 }
add_bad t u h = simp unary_clauses (simp unary_clauses at (all_added t (record none { checks = 1; bad = 1 }) u h))

add_void : (t u : Totals) → AreAdded t (record none { void = 1 }) u → u ≡ record t { void = t.void + 1 }
add_void t u h = simp unary_clauses (simp unary_clauses at (all_added t (record none { void = 1 }) u h))

add_skip : (t u : Totals) → AreAdded t (record none { skipped = 1 }) u → u ≡ record t { skipped = t.skipped + 1 }
add_skip t u h = simp unary_clauses (simp unary_clauses at (all_added t (record none { skipped = 1 }) u h))

-- what an End adds, by the I/O's kind and whether it is the clone's
abbrev pub end_gain : Bool → TicketKind → Outcome → Started → Totals
end_gain own kind outcome io = record none {
  reads = ones (cond (ended_whole (Some outcome) && is_read kind && own) (Some io) None);
  rbytes = bytes (cond (ended_whole (Some outcome) && is_read kind && own) (Some io) None);
  writes = ones (cond (ended_whole (Some outcome) && is_write kind && own) (Some io) None);
  wbytes = bytes (cond (ended_whole (Some outcome) && is_write kind && own) (Some io) None);
  faults = cond (own && is_fault outcome) 1 0;
}

end_adds : (own : Bool) (kind : TicketKind) (outcome : Outcome) (io : Started) (t u : Totals) → AreAdded t (end_gain own kind outcome io) u → u ≡ cond own (totals_ended kind io.piece.len outcome t) t
end_adds true ticket.Read Whole io t u h = add_read io.piece.len t u h
end_adds true ticket.Write Whole io t u h = add_write io.piece.len t u h
end_adds true ticket.ReadCheck Whole io t u h = add_read io.piece.len t u h
end_adds true ticket.Probe Whole io t u h = add_none t u h
end_adds true kind Failed io t u h = add_fault t u h
end_adds true kind (Short n) io t u h = add_fault t u h
end_adds false ticket.Read Whole io t u h = add_none t u h
end_adds false ticket.Write Whole io t u h = add_none t u h
end_adds false ticket.ReadCheck Whole io t u h = add_none t u h
end_adds false ticket.Probe Whole io t u h = add_none t u h
end_adds false kind Failed io t u h = add_none t u h
end_adds false kind (Short n) io t u h = add_none t u h

-- the same by the I/O that it names
abbrev pub named_gain : ℕ → Outcome → Option Started → Totals
named_gain c outcome io = record none {
  reads = ones (if_wanted is_read c (ended_whole (Some outcome)) io);
  rbytes = bytes (if_wanted is_read c (ended_whole (Some outcome)) io);
  writes = ones (if_wanted is_write c (ended_whole (Some outcome)) io);
  wbytes = bytes (if_wanted is_write c (ended_whole (Some outcome)) io);
  faults = cond (is_io_of c io && is_fault outcome) 1 0;
}

end_totals : (c : ℕ) (outcome : Outcome) (io : Option Started) (t u : Totals) → AreAdded t (named_gain c outcome io) u → u ≡ totals_after_end c io outcome t
end_totals c outcome None t u h = add_none t u h
end_totals c outcome (Some io) t u h = end_adds (is_of_clone c io) io.kind outcome io t u h

-- what a Verdict adds
abbrev verdict_gain : Bool → GivenVerdict → Totals
verdict_gain own verdict = record none {
  checks = cond (own && not (is_void verdict)) 1 0;
  good = cond (own && not (is_bad verdict || is_void verdict)) 1 0;
  bad = cond (own && is_bad verdict) 1 0;
  void = cond (own && is_void verdict) 1 0;
}

verdict_adds : (own : Bool) (verdict : GivenVerdict) (t u : Totals) → AreAdded t (verdict_gain own verdict) u → u ≡ cond own (totals_judged verdict t) t
verdict_adds true Good t u h = add_good t u h
verdict_adds true (Bad what) t u h = add_bad t u h
verdict_adds true Void t u h = add_void t u h
verdict_adds false verdict t u h = add_none t u h

-- and a Skip
skip_adds : (own : Bool) (t u : Totals) → AreAdded t (record none { skipped = cond own 1 0 }) u → u ≡ cond own (record t { skipped = t.skipped + 1 }) t
skip_adds true t u h = add_skip t u h
skip_adds false t u h = add_none t u h

totals_by : (ios : List Started) (c : ℕ) (e : Event) (t u : Totals) → AreAdded t (gain ios c e) u → u ≡ totals_after c (named_in ios e) e t
totals_by ios c (Issue worker dir write piece) t u h = add_none t u h
totals_by ios c (Probe worker write piece) t u h = add_none t u h
totals_by ios c (Skip worker write) t u h = skip_adds (write.clone == c) t u h
totals_by ios c (End worker id outcome) t u h = end_totals c outcome (slice_get ios id) t u h
totals_by ios c (Verdict worker id verdict) t u h = verdict_adds (is_io_of c (slice_get ios id)) verdict t u h

-- the totals of a clone after any event that may happen
pub totals-more : (plan : Plan) (history : List Event) (e : Event) (c : ℕ) → is_legal plan history ≡ true → may_happen plan history e ≡ true → totals_of (history ++ e ∷ []) c ≡ totals_after c (named_in (started history) e) e (totals_of history c)
totals-more plan history e c legal may =
    totals_by (started history) c e (totals_of history c) (totals_of (history ++ e ∷ []) c) (totals_added plan history e c legal may)

-- an event about another clone leaves them
pub totals_after-other : (c : ℕ) (io : Option Started) (e : Event) (t : Totals) → concerns c io e ≡ false → totals_after c io e t ≡ t
totals_after-other c io (Issue worker dir write piece) t h = refl
totals_after-other c io (Probe worker write piece) t h = refl
totals_after-other c io (Skip worker write) t h = ap (λ (b : Bool). cond b (record t { skipped = t.skipped + 1 }) t) h
totals_after-other c None (End worker id outcome) t h = refl
totals_after-other c (Some io) (End worker id outcome) t h = ap (λ (b : Bool). cond b (totals_ended io.kind io.piece.len outcome t) t) h
totals_after-other c None (Verdict worker id verdict) t h = refl
totals_after-other c (Some io) (Verdict worker id verdict) t h = ap (λ (b : Bool). cond b (totals_judged verdict t) t) h

pub totals-other : (plan : Plan) (history : List Event) (e : Event) (c : ℕ) → is_legal plan history ≡ true → may_happen plan history e ≡ true → concerns c (named_in (started history) e) e ≡ false → totals_of (history ++ e ∷ []) c ≡ totals_of history c
totals-other plan history e c legal may other =
    totals-more plan history e c legal may ∙ totals_after-other c (named_in (started history) e) e (totals_of history c) other

-- an event is about one clone
one_number : (n c d : ℕ) → (n == c) ≡ true → (d ≡ c → ⊥) → (n == d) ≡ false
one_number n c d this apart = ne_eqb n d (λ same. apart (sym same ∙ eqb-true n c this))

pub concerns_one : (c d : ℕ) (io : Option Started) (e : Event) → concerns c io e ≡ true → (d ≡ c → ⊥) → concerns d io e ≡ false
concerns_one c d io (Issue worker dir write piece) this apart = one_number write.clone c d this apart
concerns_one c d io (Probe worker write piece) this apart = one_number write.clone c d this apart
concerns_one c d io (Skip worker write) this apart = one_number write.clone c d this apart
concerns_one c d None (End worker id outcome) this apart = cc
concerns_one c d (Some s) (End worker id outcome) this apart = one_number s.write.clone c d this apart
concerns_one c d None (Verdict worker id verdict) this apart = cc
concerns_one c d (Some s) (Verdict worker id verdict) this apart = one_number s.write.clone c d this apart

-- the totals of all clones: those of the clone that the event is about change

pub all_totals-more : (plan : Plan) (history : List Event) (e : Event) (c : ℕ) (job : SubJob) → IsNumbered plan → is_legal plan history ≡ true → may_happen plan history e ≡ true → clone_of plan c ≡ Some job → concerns c (named_in (started history) e) e ≡ true → all_totals plan (history ++ e ∷ []) ≡ set (all_totals plan history) c (totals_after c (named_in (started history) e) e (totals_of history c))
all_totals-more plan history e c job numbered legal may planned about =
    let io = named_in (started history) e in
    let number : job.clone ≡ c = numbered c job planned in
    map_set (λ (j : SubJob). totals_of history j.clone) (λ (j : SubJob). totals_of (history ++ e ∷ []) j.clone) plan.clones c job planned
    (λ (k : ℕ) (other : SubJob) (at : slice_get plan.clones k ≡ Some other) (apart : k ≡ c → ⊥).
    totals-other plan history e other.clone legal may (concerns_one c other.clone io e about (λ same. apart (sym (numbered k other at) ∙ same))))
    ∙ ap (λ (n : ℕ). set (all_totals plan history) c (totals_of (history ++ e ∷ []) n)) number
    ∙ ap (set (all_totals plan history) c) (totals-more plan history e c legal may)
