-- What holds of a course of moments: a write whose line is kept is durable, and lines stand in the order in which overlapping writes were asked
-- for.
use Rattle.std.proofs.Common.{◌≡◌, ℕ, suc, ◌+◌, ◌<◌, List, [], ◌∷◌, ◌++◌, Bool, true, false, not, cond, ◌&&◌, ◌||◌, refl, sym, ap, ◌∙◌, subst, inl, inr, arith}
use Rattle.std.specs.Prelude.{Option, Some, None, ◌==◌, ◌⊎◌}
use Rattle.std.specs.Option.{option_map}
use Rattle.std.specs.List.{list_any}
use Rattle.std.proofs.lemmas.Bool.{and_parts, and_from, or_cases, or_left, or_right, or_from, cases_Bool, not-true, both_ways, eqb-true, false_from_ne_true}
use Rattle.jr_model.specs.declared.events.WriteId.{WriteId}
use Rattle.jr_model.specs.History.{same_write}
use Rattle.jr_model.proofs.Equality.{eq_write}
use Rattle.jr_model.proofs.LegalLaws.{same_write_refl}
use Rattle.jr_ledger.specs.declared.lines.LedgerLine.{LedgerLine}
use Rattle.jr_ledger.specs.declared.lines.LedgerLine.TheVariants as line
use Rattle.jr_ledger.specs.declared.lines.SyncId.{SyncId}
use Rattle.jr_after.specs.Ledgers.{same_sync, is_end_of, is_return_of, line_of, has_sync, kept_lines}
use Rattle.jr_after.specs.Storage.{Moment, asked, ended, sync_asked, sync_returned, noted, is_asked, is_ended, is_sync_asked, is_sync_returned, is_begin, meets_asked, is_latest, may_come, may_note, is_course, lines_noted, is_synced, is_durable, asks_after}

-- one name is one sync
pub eq_sync : (a b : SyncId) → same_sync a b ≡ true → a ≡ b
eq_sync a b h =
    let parts = and_parts (a.file == b.file) (a.number == b.number) h in
    let file = eqb-true a.file b.file parts.0 in
    let number = eqb-true a.number b.number parts.1 in
    ap (λ (f : ℕ). record { file = f; number = a.number }) file ∙ ap (λ (n : ℕ). record { file = b.file; number = n }) number

neither : (b c : Bool) → b ≡ false → (b || c) ≡ true → c ≡ true
neither b c none h = elim (or_cases b c h) [ inl so ↦ absurd (both_ways b none so) | inr so ↦ so ]

-- the line of this write
abbrev pub is_noted : WriteId → Moment → Bool
is_noted write (noted l) = is_end_of write l
is_noted write (asked other) = false
is_noted write (ended other) = false
is_noted write (sync_asked sync) = false
is_noted write (sync_returned sync) = false

module _ (meets : WriteId → WriteId → Bool) where
  -- in a past, what must have come before is there
  pub record IsClosed (past : List Moment) : Type 0 where
    pub begun : (s : SyncId) → list_any (is_sync_asked s) past ≡ true → list_any (is_begin s) past ≡ true
    pub was_asked : (s : SyncId) → list_any (is_sync_returned s) past ≡ true → list_any (is_sync_asked s) past ≡ true
    pub began : (w : WriteId) → list_any (is_ended w) past ≡ true → list_any (is_asked w) past ≡ true
    pub has_ended : (w : WriteId) → list_any (is_noted w) past ≡ true → list_any (is_ended w) past ≡ true

  -- one more: what it needs is there
  begun_now : (past : List Moment) (m : Moment) → may_come meets past m ≡ true → (s : SyncId) → is_sync_asked s m ≡ true → list_any (is_begin s) past ≡ true
  begun_now past (sync_asked t) may s h = subst (λ (x : SyncId). list_any (is_begin x) past ≡ true) (sym (eq_sync s t h)) may
  begun_now past (asked w) may s h = cc
  begun_now past (ended w) may s h = cc
  begun_now past (sync_returned t) may s h = cc
  begun_now past (noted l) may s h = cc

  asked_now : (past : List Moment) (m : Moment) → may_come meets past m ≡ true → (s : SyncId) → is_sync_returned s m ≡ true → list_any (is_sync_asked s) past ≡ true
  asked_now past (sync_returned t) may s h = subst (λ (x : SyncId). list_any (is_sync_asked x) past ≡ true) (sym (eq_sync s t h)) may
  asked_now past (asked w) may s h = cc
  asked_now past (ended w) may s h = cc
  asked_now past (sync_asked t) may s h = cc
  asked_now past (noted l) may s h = cc

  began_now : (past : List Moment) (m : Moment) → may_come meets past m ≡ true → (w : WriteId) → is_ended w m ≡ true → list_any (is_asked w) past ≡ true
  began_now past (ended v) may w h = subst (λ (x : WriteId). list_any (is_asked x) past ≡ true) (sym (eq_write w v h)) may
  began_now past (asked v) may w h = cc
  began_now past (sync_asked t) may w h = cc
  began_now past (sync_returned t) may w h = cc
  began_now past (noted l) may w h = cc

  -- the line of a write is noted once it ended, while none that meets it was asked for since
  line_now : (past : List Moment) (l : LedgerLine) → may_note meets past l ≡ true → (w : WriteId) → is_end_of w l ≡ true → (list_any (is_ended w) past ≡ true) × (is_latest meets w past ≡ true)
  line_now past (line.Written v) may w h =
      let P : WriteId → Type 0 = λ x. (list_any (is_ended x) past ≡ true) × (is_latest meets x past ≡ true) in
      subst P (sym (eq_write w v h)) (and_parts (list_any (is_ended v) past) (is_latest meets v past) may)
  line_now past (line.Begun t) may w h = cc
  line_now past (line.Returned t) may w h = cc

  ended_now : (past : List Moment) (m : Moment) → may_come meets past m ≡ true → (w : WriteId) → is_noted w m ≡ true → list_any (is_ended w) past ≡ true
  ended_now past (noted l) may w h = (line_now past l may w h).0
  ended_now past (asked v) may w h = cc
  ended_now past (ended v) may w h = cc
  ended_now past (sync_asked t) may w h = cc
  ended_now past (sync_returned t) may w h = cc

  pub closed_none : IsClosed []
  closed_none = record {
    begun = λ s h. cc;
    was_asked = λ s h. cc;
    began = λ w h. cc;
    has_ended = λ w h. cc;
  }

  pub closed_more : (past : List Moment) (m : Moment) → IsClosed past → may_come meets past m ≡ true → IsClosed (m ∷ past)
  closed_more past m closed may = record {
    begun = λ s h. or_right (is_begin s m) (list_any (is_begin s) past) (elim (or_cases (is_sync_asked s m) (list_any (is_sync_asked s) past) h) [ inl now ↦ begun_now past m may s now | inr before ↦ closed.begun s before ]);
    was_asked = λ s h. or_right (is_sync_asked s m) (list_any (is_sync_asked s) past) (elim (or_cases (is_sync_returned s m) (list_any (is_sync_returned s) past) h) [ inl now ↦ asked_now past m may s now | inr before ↦ closed.was_asked s before ]);
    began = λ w h. or_right (is_asked w m) (list_any (is_asked w) past) (elim (or_cases (is_ended w m) (list_any (is_ended w) past) h) [ inl now ↦ began_now past m may w now | inr before ↦ closed.began w before ]);
    has_ended = λ w h. or_right (is_ended w m) (list_any (is_ended w) past) (elim (or_cases (is_noted w m) (list_any (is_noted w) past) h) [ inl now ↦ ended_now past m may w now | inr before ↦ closed.has_ended w before ]);
  }

  -- a sync whose return is noted returned before
  return_now : (past : List Moment) (l : LedgerLine) → may_note meets past l ≡ true → (s : SyncId) → is_return_of s l ≡ true → list_any (is_sync_returned s) past ≡ true
  return_now past (line.Returned t) may s h = subst (λ (x : SyncId). list_any (is_sync_returned x) past ≡ true) (sym (eq_sync s t h)) may
  return_now past (line.Written v) may s h = cc
  return_now past (line.Begun t) may s h = cc

  -- its return is noted, and it hadn't returned yet: it returns here
  returns_here : (s : SyncId) (past here later : List Moment) → is_course meets past (here ++ later) ≡ true → list_any (is_sync_returned s) past ≡ false → list_any (is_return_of s) (lines_noted here) ≡ true → list_any (is_sync_returned s) (here ++ later) ≡ true
  returns_here s past [] later course none h = cc
  returns_here s past (asked w ∷ here) later course none h = returns_here s (asked w ∷ past) here later course none h
  returns_here s past (ended w ∷ here) later course none h =
      returns_here s (ended w ∷ past) here later (and_parts (list_any (is_asked w) past) (is_course meets (ended w ∷ past) (here ++ later)) course).1 none h
  returns_here s past (sync_asked t ∷ here) later course none h =
      returns_here s (sync_asked t ∷ past) here later (and_parts (list_any (is_begin t) past) (is_course meets (sync_asked t ∷ past) (here ++ later)) course).1 none h
  returns_here s past (sync_returned t ∷ here) later course none h =
      elim (cases_Bool (same_sync s t)) [
        | inl now ↦ or_left (same_sync s t) (list_any (is_sync_returned s) (here ++ later)) now
        | inr other ↦
            or_right (same_sync s t) (list_any (is_sync_returned s) (here ++ later))
            (returns_here s (sync_returned t ∷ past) here later
            (and_parts (list_any (is_sync_asked t) past) (is_course meets (sync_returned t ∷ past) (here ++ later)) course).1
            (or_from (same_sync s t) (list_any (is_sync_returned s) past) other none) h)
      ]
  returns_here s past (noted l ∷ here) later course none h =
      let parts = and_parts (may_note meets past l) (is_course meets (noted l ∷ past) (here ++ later)) course in
      elim (or_cases (is_return_of s l) (list_any (is_return_of s) (lines_noted here)) h) [
        | inl now ↦ absurd (both_ways (list_any (is_sync_returned s) past) none (return_now past l parts.0 s now))
        | inr more ↦ returns_here s (noted l ∷ past) here later parts.1 none more
      ]

  -- the same of one that wasn't asked for yet: it is asked for here, and returns after that
  syncs_here : (s : SyncId) (file : ℕ) (past here later : List Moment) → (s.file == file) ≡ true → is_course meets past (here ++ later) ≡ true → list_any (is_sync_asked s) past ≡ false → list_any (is_sync_returned s) past ≡ false → list_any (is_return_of s) (lines_noted here) ≡ true → is_synced file (here ++ later) ≡ true
  syncs_here s file past [] later own course unasked none h = cc
  syncs_here s file past (asked w ∷ here) later own course unasked none h = syncs_here s file (asked w ∷ past) here later own course unasked none h
  syncs_here s file past (ended w ∷ here) later own course unasked none h =
      syncs_here s file (ended w ∷ past) here later own (and_parts (list_any (is_asked w) past) (is_course meets (ended w ∷ past) (here ++ later)) course).1 unasked none h
  syncs_here s file past (sync_asked t ∷ here) later own course unasked none h =
      let rest = (and_parts (list_any (is_begin t) past) (is_course meets (sync_asked t ∷ past) (here ++ later)) course).1 in
      elim (cases_Bool (same_sync s t)) [
        | inl now ↦
            let P : SyncId → Type 0 = λ x. (((x.file == file) && list_any (is_sync_returned x) (here ++ later)) || is_synced file (here ++ later)) ≡ true in
            subst P (eq_sync s t now)
            (or_left ((s.file == file) && list_any (is_sync_returned s) (here ++ later)) (is_synced file (here ++ later))
            (and_from (s.file == file) (list_any (is_sync_returned s) (here ++ later)) own (returns_here s (sync_asked t ∷ past) here later rest none h)))
        | inr other ↦
            or_right ((t.file == file) && list_any (is_sync_returned t) (here ++ later)) (is_synced file (here ++ later))
            (syncs_here s file (sync_asked t ∷ past) here later own rest (or_from (same_sync s t) (list_any (is_sync_asked s) past) other unasked) none h)
      ]
  syncs_here s file past (sync_returned t ∷ here) later own course unasked none h =
      let parts = and_parts (list_any (is_sync_asked t) past) (is_course meets (sync_returned t ∷ past) (here ++ later)) course in
      elim (cases_Bool (same_sync s t)) [
        | inl now ↦ absurd (both_ways (list_any (is_sync_asked s) past) unasked (asked_now past (sync_returned t) parts.0 s now))
        | inr other ↦ syncs_here s file (sync_returned t ∷ past) here later own parts.1 unasked (or_from (same_sync s t) (list_any (is_sync_returned s) past) other none) h
      ]
  syncs_here s file past (noted l ∷ here) later own course unasked none h =
      let parts = and_parts (may_note meets past l) (is_course meets (noted l ∷ past) (here ++ later)) course in
      elim (or_cases (is_return_of s l) (list_any (is_return_of s) (lines_noted here)) h) [
        | inl now ↦ absurd (both_ways (list_any (is_sync_returned s) past) none (return_now past l parts.0 s now))
        | inr more ↦ syncs_here s file (noted l ∷ past) here later own parts.1 unasked none more
      ]

  -- a sync that the lines show is one of the storage
  synced_here : (file : ℕ) (past here later : List Moment) → IsClosed past → is_course meets past (here ++ later) ≡ true → has_sync file (lines_noted here) ≡ true → is_synced file (here ++ later) ≡ true
  synced_here file past [] later closed course h = cc
  synced_here file past (asked w ∷ here) later closed course h =
      synced_here file (asked w ∷ past) here later (closed_more past (asked w) closed refl) course h
  synced_here file past (ended w ∷ here) later closed course h =
      let parts = and_parts (list_any (is_asked w) past) (is_course meets (ended w ∷ past) (here ++ later)) course in
      synced_here file (ended w ∷ past) here later (closed_more past (ended w) closed parts.0) parts.1 h
  synced_here file past (sync_asked t ∷ here) later closed course h =
      let parts = and_parts (list_any (is_begin t) past) (is_course meets (sync_asked t ∷ past) (here ++ later)) course in
      or_right ((t.file == file) && list_any (is_sync_returned t) (here ++ later)) (is_synced file (here ++ later))
      (synced_here file (sync_asked t ∷ past) here later (closed_more past (sync_asked t) closed parts.0) parts.1 h)
  synced_here file past (sync_returned t ∷ here) later closed course h =
      let parts = and_parts (list_any (is_sync_asked t) past) (is_course meets (sync_returned t ∷ past) (here ++ later)) course in
      synced_here file (sync_returned t ∷ past) here later (closed_more past (sync_returned t) closed parts.0) parts.1 h
  synced_here file past (noted (line.Written w) ∷ here) later closed course h =
      let parts = and_parts (may_note meets past (line.Written w)) (is_course meets (noted (line.Written w) ∷ past) (here ++ later)) course in
      synced_here file (noted (line.Written w) ∷ past) here later (closed_more past (noted (line.Written w)) closed parts.0) parts.1 h
  synced_here file past (noted (line.Returned t) ∷ here) later closed course h =
      let parts = and_parts (may_note meets past (line.Returned t)) (is_course meets (noted (line.Returned t) ∷ past) (here ++ later)) course in
      synced_here file (noted (line.Returned t) ∷ past) here later (closed_more past (noted (line.Returned t)) closed parts.0) parts.1 h
  synced_here file past (noted (line.Begun t) ∷ here) later closed course h =
      let parts = and_parts (may_note meets past (line.Begun t)) (is_course meets (noted (line.Begun t) ∷ past) (here ++ later)) course in
      let own = (t.file == file) in
      elim (or_cases (own && list_any (is_return_of t) (lines_noted here)) (has_sync file (lines_noted here)) h) [
        | inl this ↦
            let both = and_parts (t.file == file) (list_any (is_return_of t) (lines_noted here)) this in
            let unbegun = not-true (list_any (is_begin t) past) parts.0 in
            let unasked =
            false_from_ne_true (list_any (is_sync_asked t) past) (λ is. both_ways (list_any (is_begin t) past) unbegun (closed.begun t is)) in
            let none =
            false_from_ne_true (list_any (is_sync_returned t) past)
            (λ is. both_ways (list_any (is_sync_asked t) past) unasked (closed.was_asked t is)) in
            syncs_here t file (noted (line.Begun t) ∷ past) here later both.0 parts.1 unasked none both.1
        | inr more ↦ synced_here file (noted (line.Begun t) ∷ past) here later (closed_more past (noted (line.Begun t)) closed parts.0) parts.1 more
      ]

-- all moments: a past, of which the newest comes first, and what follows it
abbrev pub onto : List Moment → List Moment → List Moment
onto [] moments = moments
onto (m ∷ past) moments = onto past (m ∷ moments)

synced_more : (file : ℕ) (m : Moment) (moments : List Moment) → is_synced file moments ≡ true → is_synced file (m ∷ moments) ≡ true
synced_more file (asked w) moments h = h
synced_more file (ended w) moments h = h
synced_more file (sync_asked t) moments h = or_right ((t.file == file) && list_any (is_sync_returned t) moments) (is_synced file moments) h
synced_more file (sync_returned t) moments h = h
synced_more file (noted l) moments h = h

durable_more : (file : ℕ) (w : WriteId) (m : Moment) (moments : List Moment) → is_durable file w moments ≡ true → is_durable file w (m ∷ moments) ≡ true
durable_more file w (asked v) moments h = h
durable_more file w (ended v) moments h = or_right (same_write w v && is_synced file moments) (is_durable file w moments) h
durable_more file w (sync_asked t) moments h = h
durable_more file w (sync_returned t) moments h = h
durable_more file w (noted l) moments h = h

durable_onto : (file : ℕ) (w : WriteId) (past moments : List Moment) → is_durable file w moments ≡ true → is_durable file w (onto past moments) ≡ true
durable_onto file w [] moments h = h
durable_onto file w (m ∷ past) moments h = durable_onto file w past (m ∷ moments) (durable_more file w m moments h)

durable_now : (file : ℕ) (w : WriteId) (m : Moment) (moments : List Moment) → is_ended w m ≡ true → is_synced file moments ≡ true → is_durable file w (m ∷ moments) ≡ true
durable_now file w (ended v) moments h synced = or_left (same_write w v && is_synced file moments) (is_durable file w moments) (and_from (same_write w v) (is_synced file moments) h synced)
durable_now file w (asked v) moments h synced = cc
durable_now file w (sync_asked t) moments h synced = cc
durable_now file w (sync_returned t) moments h synced = cc
durable_now file w (noted l) moments h synced = cc

-- what ended before a sync is durable
ended_is_durable : (file : ℕ) (w : WriteId) (past moments : List Moment) → list_any (is_ended w) past ≡ true → is_synced file moments ≡ true → is_durable file w (onto past moments) ≡ true
ended_is_durable file w [] moments h synced = cc
ended_is_durable file w (m ∷ past) moments h synced =
    elim (or_cases (is_ended w m) (list_any (is_ended w) past) h) [
      | inl now ↦ durable_onto file w past (m ∷ moments) (durable_now file w m moments now synced)
      | inr before ↦ ended_is_durable file w past (m ∷ moments) before (synced_more file m moments synced)
    ]

after_onto : (first later : WriteId) (past moments : List Moment) → asks_after first later moments ≡ true → asks_after first later (onto past moments) ≡ true
after_onto first later [] moments h = h
after_onto first later (m ∷ past) moments h =
    after_onto first later past (m ∷ moments) (or_right (is_asked first m && list_any (is_asked later) moments) (asks_after first later moments) h)

-- what was asked for in the past was asked for before what follows
asked_before : (first later : WriteId) (past moments : List Moment) → list_any (is_asked first) past ≡ true → list_any (is_asked later) moments ≡ true → asks_after first later (onto past moments) ≡ true
asked_before first later [] moments h follows = cc
asked_before first later (m ∷ past) moments h follows =
    elim (or_cases (is_asked first m) (list_any (is_asked first) past) h) [
      | inl now ↦
          after_onto first later past (m ∷ moments)
          (or_left (is_asked first m && list_any (is_asked later) moments) (asks_after first later moments)
          (and_from (is_asked first m) (list_any (is_asked later) moments) now follows))
      | inr before ↦ asked_before first later past (m ∷ moments) before (or_right (is_asked later m) (list_any (is_asked later) moments) follows)
    ]

-- one moment asks for one write
asked_one : (a b : WriteId) (m : Moment) → is_asked a m ≡ true → is_asked b m ≡ true → same_write a b ≡ true
asked_one a b (asked v) h i =
    let e : a ≡ b = eq_write a v h ∙ sym (eq_write b v i) in
    subst (λ (x : WriteId). same_write a x ≡ true) e (same_write_refl a)
asked_one a b (ended v) h i = cc
asked_one a b (sync_asked t) h i = cc
asked_one a b (sync_returned t) h i = cc
asked_one a b (noted l) h i = cc

meets_now : (meets : WriteId → WriteId → Bool) (a b : WriteId) (m : Moment) → is_asked b m ≡ true → meets a b ≡ true → meets_asked meets a m ≡ true
meets_now meets a b (asked v) h i = subst (λ (x : WriteId). meets a x ≡ true) (eq_write b v h) i
meets_now meets a b (ended v) h i = cc
meets_now meets a b (sync_asked t) h i = cc
meets_now meets a b (sync_returned t) h i = cc
meets_now meets a b (noted l) h i = cc

latest_parts : (b c d : Bool) → b ≡ false → cond b true (not c && d) ≡ true → (c ≡ false) × (d ≡ true)
latest_parts true c d none h = cc
latest_parts false c d none h = let parts = and_parts (not c) d h in (not-true c parts.0, parts.1)

module _ (meets : WriteId → WriteId → Bool) (w kept : WriteId) (meet : meets kept w ≡ true) (other : same_write kept w ≡ false) where
  -- where no write that meets this one was asked for since, one that was asked for was asked for before
  earlier : (past moments : List Moment) → is_latest meets kept past ≡ true → list_any (is_asked kept) past ≡ true → list_any (is_asked w) past ≡ true → asks_after w kept (onto past moments) ≡ true
  earlier [] moments latest h i = cc
  earlier (m ∷ past) moments latest h i =
      elim (cases_Bool (is_asked kept m)) [
        | inl now ↦
            let unlike = false_from_ne_true (is_asked w m) (λ also. both_ways (same_write kept w) other (asked_one kept w m now also)) in
            asked_before w kept past (m ∷ moments) (neither (is_asked w m) (list_any (is_asked w) past) unlike i)
            (or_left (is_asked kept m) (list_any (is_asked kept) moments) now)
        | inr before ↦
            let parts = latest_parts (is_asked kept m) (meets_asked meets kept m) (is_latest meets kept past) before latest in
            let unlike =
            false_from_ne_true (is_asked w m) (λ also. both_ways (meets_asked meets kept m) parts.0 (meets_now meets kept w m also meet)) in
            earlier past (m ∷ moments) parts.1 (neither (is_asked kept m) (list_any (is_asked kept) past) before h)
            (neither (is_asked w m) (list_any (is_asked w) past) unlike i)
      ]

-- the place of a line below the first
some_below : (o : Option ℕ) (i : ℕ) → option_map suc o ≡ Some i → (j : ℕ) × (o ≡ Some j) × (i ≡ suc j)
some_below None i h = cc
some_below (Some j) i h = (j, refl, cc)

-- the first line, or one below it
place_cases : (b : Bool) (o : Option ℕ) (i : ℕ) → cond b (Some 0) (option_map suc o) ≡ Some i → ((b ≡ true) × (i ≡ 0)) ⊎ ((b ≡ false) × ((j : ℕ) × (o ≡ Some j) × (i ≡ suc j)))
place_cases true o i h = let e : 0 ≡ i = cc in inl (refl, sym e)
place_cases false o i h = inr (refl, some_below o i h)

count_below : (b : Bool) (n i : ℕ) → i < cond b (1 + n) 0 → (b ≡ true) × (i < 1 + n)
count_below true n i h = (refl, h)
count_below false n i h = absurd (omega (arith, h))

written_sync : (file : ℕ) (w : WriteId) (l : LedgerLine) (lines : List LedgerLine) → is_end_of w l ≡ true → has_sync file (l ∷ lines) ≡ true → has_sync file lines ≡ true
written_sync file w (line.Written v) lines h synced = synced
written_sync file w (line.Begun t) lines h synced = cc
written_sync file w (line.Returned t) lines h synced = cc

module _ (meets : WriteId → WriteId → Bool) where
  -- a write in a kept line is durable
  pub kept_is_durable : (file : ℕ) (w : WriteId) (i : ℕ) (past here later : List Moment) → IsClosed meets past → is_course meets past (here ++ later) ≡ true → line_of (lines_noted here) w ≡ Some i → i < kept_lines file (lines_noted here) → is_durable file w (onto past (here ++ later)) ≡ true
  kept_is_durable file w i past [] later closed course at below = cc
  kept_is_durable file w i past (asked v ∷ here) later closed course at below =
      kept_is_durable file w i (asked v ∷ past) here later (closed_more meets past (asked v) closed refl) course at below
  kept_is_durable file w i past (ended v ∷ here) later closed course at below =
      let parts = and_parts (list_any (is_asked v) past) (is_course meets (ended v ∷ past) (here ++ later)) course in
      kept_is_durable file w i (ended v ∷ past) here later (closed_more meets past (ended v) closed parts.0) parts.1 at below
  kept_is_durable file w i past (sync_asked t ∷ here) later closed course at below =
      let parts = and_parts (list_any (is_begin t) past) (is_course meets (sync_asked t ∷ past) (here ++ later)) course in
      kept_is_durable file w i (sync_asked t ∷ past) here later (closed_more meets past (sync_asked t) closed parts.0) parts.1 at below
  kept_is_durable file w i past (sync_returned t ∷ here) later closed course at below =
      let parts = and_parts (list_any (is_sync_asked t) past) (is_course meets (sync_returned t ∷ past) (here ++ later)) course in
      kept_is_durable file w i (sync_returned t ∷ past) here later (closed_more meets past (sync_returned t) closed parts.0) parts.1 at below
  kept_is_durable file w i past (noted l ∷ here) later closed course at below =
      let parts = and_parts (may_note meets past l) (is_course meets (noted l ∷ past) (here ++ later)) course in
      let more = closed_more meets past (noted l) closed parts.0 in
      let lines = lines_noted here in
      let count = count_below (has_sync file (l ∷ lines)) (kept_lines file lines) i below in
      elim (place_cases (is_end_of w l) (line_of lines w) i at) [
        | inl this ↦
            let synced = synced_here meets file (noted l ∷ past) here later more parts.1 (written_sync file w l lines this.0 count.0) in
            ended_is_durable file w (noted l ∷ past) (here ++ later) (line_now meets past l parts.0 w this.0).0 synced
        | inr below_it ↦
            kept_is_durable file w below_it.1.0 (noted l ∷ past) here later more parts.1 below_it.1.1 (omega (arith, count.1, below_it.1.2))
      ]

  module _ (w kept : WriteId) (meet : meets kept w ≡ true) (other : same_write kept w ≡ false) where
    -- a write whose line was noted above that of another which it meets was asked for before it
    noted_before : (i : ℕ) (past here later : List Moment) → IsClosed meets past → is_course meets past (here ++ later) ≡ true → list_any (is_noted w) past ≡ true → line_of (lines_noted here) kept ≡ Some i → asks_after w kept (onto past (here ++ later)) ≡ true
    noted_before i past [] later closed course named at = cc
    noted_before i past (asked v ∷ here) later closed course named at =
        noted_before i (asked v ∷ past) here later (closed_more meets past (asked v) closed refl) course named at
    noted_before i past (ended v ∷ here) later closed course named at =
        let parts = and_parts (list_any (is_asked v) past) (is_course meets (ended v ∷ past) (here ++ later)) course in
        noted_before i (ended v ∷ past) here later (closed_more meets past (ended v) closed parts.0) parts.1 named at
    noted_before i past (sync_asked t ∷ here) later closed course named at =
        let parts = and_parts (list_any (is_begin t) past) (is_course meets (sync_asked t ∷ past) (here ++ later)) course in
        noted_before i (sync_asked t ∷ past) here later (closed_more meets past (sync_asked t) closed parts.0) parts.1 named at
    noted_before i past (sync_returned t ∷ here) later closed course named at =
        let parts = and_parts (list_any (is_sync_asked t) past) (is_course meets (sync_returned t ∷ past) (here ++ later)) course in
        noted_before i (sync_returned t ∷ past) here later (closed_more meets past (sync_returned t) closed parts.0) parts.1 named at
    noted_before i past (noted l ∷ here) later closed course named at =
        let parts = and_parts (may_note meets past l) (is_course meets (noted l ∷ past) (here ++ later)) course in
        elim (place_cases (is_end_of kept l) (line_of (lines_noted here) kept) i at) [
          | inl this ↦
              let now = line_now meets past l parts.0 kept this.0 in
              earlier meets w kept meet other past (noted l ∷ here ++ later) now.1 (closed.began kept now.0) (closed.began w (closed.has_ended w named))
          | inr below_it ↦
              noted_before below_it.1.0 (noted l ∷ past) here later (closed_more meets past (noted l) closed parts.0) parts.1
              (or_right (is_end_of w l) (list_any (is_noted w) past) named) below_it.1.1
        ]

    pub asked_before_kept : (i j : ℕ) (past here later : List Moment) → IsClosed meets past → is_course meets past (here ++ later) ≡ true → line_of (lines_noted here) kept ≡ Some i → line_of (lines_noted here) w ≡ Some j → j < i → asks_after w kept (onto past (here ++ later)) ≡ true
    asked_before_kept i j past [] later closed course at own below = cc
    asked_before_kept i j past (asked v ∷ here) later closed course at own below =
        asked_before_kept i j (asked v ∷ past) here later (closed_more meets past (asked v) closed refl) course at own below
    asked_before_kept i j past (ended v ∷ here) later closed course at own below =
        let parts = and_parts (list_any (is_asked v) past) (is_course meets (ended v ∷ past) (here ++ later)) course in
        asked_before_kept i j (ended v ∷ past) here later (closed_more meets past (ended v) closed parts.0) parts.1 at own below
    asked_before_kept i j past (sync_asked t ∷ here) later closed course at own below =
        let parts = and_parts (list_any (is_begin t) past) (is_course meets (sync_asked t ∷ past) (here ++ later)) course in
        asked_before_kept i j (sync_asked t ∷ past) here later (closed_more meets past (sync_asked t) closed parts.0) parts.1 at own below
    asked_before_kept i j past (sync_returned t ∷ here) later closed course at own below =
        let parts = and_parts (list_any (is_sync_asked t) past) (is_course meets (sync_returned t ∷ past) (here ++ later)) course in
        asked_before_kept i j (sync_returned t ∷ past) here later (closed_more meets past (sync_returned t) closed parts.0) parts.1 at own below
    asked_before_kept i j past (noted l ∷ here) later closed course at own below =
        let parts = and_parts (may_note meets past l) (is_course meets (noted l ∷ past) (here ++ later)) course in
        let more = closed_more meets past (noted l) closed parts.0 in
        elim (place_cases (is_end_of kept l) (line_of (lines_noted here) kept) i at) [
          | inl this ↦ absurd (omega (arith, below, this.1))
          | inr below_it ↦
              elim (place_cases (is_end_of w l) (line_of (lines_noted here) w) j own) [
                | inl its ↦
                    noted_before below_it.1.0 (noted l ∷ past) here later more parts.1
                    (or_left (is_end_of w l) (list_any (is_noted w) past) its.0) below_it.1.1
                | inr its ↦
                    asked_before_kept below_it.1.0 its.1.0 (noted l ∷ past) here later more parts.1 below_it.1.1 its.1.1
                    (omega (arith, below, below_it.1.2, its.1.2))
              ]
        ]
