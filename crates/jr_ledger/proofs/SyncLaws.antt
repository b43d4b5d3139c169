-- No sync is recorded that may have lost anything.
use Rattle.std.proofs.Common.{◌≡◌, ℕ, List, [], ◌∷◌, ◌++◌, map, Bool, true, false, not, cond, ◌&&◌, ◌||◌, refl, sym, ap, ◌∙◌, subst, inl, inr}
use Rattle.std.specs.Prelude.{◌==◌, ◌⊎◌, filter}
use Rattle.std.specs.List.{list_any, list_all}
use Rattle.std.proofs.lemmas.Bool.{and_parts, and_from, or_cases, or_left, or_right, or_from, cases_Bool, not-true, not_from_false, both_ways, eqb-true, eq-eqb}
use Rattle.std.proofs.lemmas.List.Folds.{list_any-append}
use Rattle.std.proofs.lemmas.Map.Views.{any-filter_same}
use Rattle.jr_ledger.specs.declared.lines.SyncId.{SyncId}
use Rattle.jr_ledger.specs.declared.syncs.Hold.{Hold}
use Rattle.jr_ledger.specs.Syncs.{SyncEvent, asked, returned, same_sync, is_good_return_of, is_failure_in, has_returned, is_asked_among, is_backed, may_be_recorded}
use Rattle.jr_ledger.specs.SyncSteps.{SyncsState, no_syncs, has_failed, is_of, begun, is_other, is_other_hold, without, is_elsewhere, spoilt, hold_of, awaiting, ended, is_hold_of, is_held, is_free, recorded, settled}
use Rattle.jr_ledger.specs.Laws.{syncs_after, OnlySoundRecorded}

-- one name is one sync
eq_sync : (a b : SyncId) → same_sync a b ≡ true → a ≡ b
eq_sync a b h =
    let parts = and_parts (a.file == b.file) (a.number == b.number) h in
    let file = eqb-true a.file b.file parts.0 in
    let number = eqb-true a.number b.number parts.1 in
    ap (λ (f : ℕ). record { file = f; number = a.number }) file ∙ ap (λ (n : ℕ). record { file = b.file; number = n }) number

same_sync_refl : (a : SyncId) → same_sync a a ≡ true
same_sync_refl a = and_from (a.file == a.file) (a.number == a.number) (eq-eqb a.file a.file refl) (eq-eqb a.number a.number refl)

same_sync_sym : (a b : SyncId) → same_sync a b ≡ true → same_sync b a ≡ true
same_sync_sym a b h = subst (λ (x : SyncId). same_sync x a ≡ true) (eq_sync a b h) (same_sync_refl a)

-- lists and tests
absent : (b c : Bool) → (b ≡ true → c ≡ true) → c ≡ false → b ≡ false
absent true c h none = absurd (both_ways c none (h refl))
absent false c h none = refl

any_more : {X : Type 0} (p q : X → Bool) → ((x : X) → p x ≡ true → q x ≡ true) → (xs : List X) → list_any p xs ≡ true → list_any q xs ≡ true
any_more p q f [] h = cc
any_more p q f (x ∷ xs) h =
    elim (or_cases (p x) (list_any p xs) h) [
      | inl now ↦ or_left (q x) (list_any q xs) (f x now)
      | inr later ↦ or_right (q x) (list_any q xs) (any_more p q f xs later)
    ]

all_more : {X : Type 0} (p q : X → Bool) → ((x : X) → p x ≡ true → q x ≡ true) → (xs : List X) → list_all p xs ≡ true → list_all q xs ≡ true
all_more p q f [] h = refl
all_more p q f (x ∷ xs) h =
    let parts = and_parts (p x) (list_all p xs) h in
    and_from (q x) (list_all q xs) (f x parts.0) (all_more p q f xs parts.1)

any_in_front : {X : Type 0} (p : X → Bool) (xs ys : List X) → list_any p xs ≡ true → list_any p (xs ++ ys) ≡ true
any_in_front p xs ys h = list_any-append p xs ys ∙ or_left (list_any p xs) (list_any p ys) h

any_behind : {X : Type 0} (p : X → Bool) (xs ys : List X) → list_any p ys ≡ true → list_any p (xs ++ ys) ≡ true
any_behind p xs ys h = list_any-append p xs ys ∙ or_right (list_any p xs) (list_any p ys) h

any_at_end : {X : Type 0} (p : X → Bool) (xs : List X) (x : X) → p x ≡ true → list_any p (xs ++ x ∷ []) ≡ true
any_at_end p xs x h = any_behind p xs (x ∷ []) (or_left (p x) false h)

any_stays : {X : Type 0} (test keep : X → Bool) → ((x : X) → test x ≡ true → keep x ≡ true) → (xs : List X) → list_any test xs ≡ true → list_any test (filter keep xs) ≡ true
any_stays test keep f xs h = any-filter_same test keep true f xs ∙ h

any_mapped : {X Y : Type 0} (f : X → Y) (test : X → Bool) (other : Y → Bool) → ((x : X) → test x ≡ true → other (f x) ≡ true) → (xs : List X) → list_any test xs ≡ true → list_any other (map f xs) ≡ true
any_mapped f test other g [] h = cc
any_mapped f test other g (x ∷ xs) h =
    elim (or_cases (test x) (list_any test xs) h) [
      | inl now ↦ or_left (other (f x)) (list_any other (map f xs)) (g x now)
      | inr later ↦ or_right (other (f x)) (list_any other (map f xs)) (any_mapped f test other g xs later)
    ]

-- a sync that a list keeps
kept_both : (keep : SyncId → Bool) (s : SyncId) (xs : List SyncId) → list_any (same_sync s) (filter keep xs) ≡ true → (keep s ≡ true) × (list_any (same_sync s) xs ≡ true)
kept_both keep s [] h = cc
kept_both keep s (x ∷ xs) h = by_test (keep x) refl (kept_both keep s xs) h
  where
    by_test : (b : Bool) → keep x ≡ b → (list_any (same_sync s) (filter keep xs) ≡ true → (keep s ≡ true) × (list_any (same_sync s) xs ≡ true)) → list_any (same_sync s) (cond b (x ∷ filter keep xs) (filter keep xs)) ≡ true → (keep s ≡ true) × ((same_sync s x || list_any (same_sync s) xs) ≡ true)
    by_test true kept more i =
        elim (or_cases (same_sync s x) (list_any (same_sync s) (filter keep xs)) i) [
          | inl now ↦ (subst (λ (y : SyncId). keep y ≡ true) (sym (eq_sync s x now)) kept, or_left (same_sync s x) (list_any (same_sync s) xs) now)
          | inr later ↦ let rest = more later in (rest.0, or_right (same_sync s x) (list_any (same_sync s) xs) rest.1)
        ]
    by_test false kept more i = let rest = more i in (rest.0, or_right (same_sync s x) (list_any (same_sync s) xs) rest.1)

-- more syncs may be among those
asked_among_more : (those more : SyncId → Bool) (file : ℕ) → ((m : SyncId) → those m ≡ true → more m ≡ true) → (e : SyncEvent) → is_asked_among those file e ≡ true → is_asked_among more file e ≡ true
asked_among_more those more file f (asked m) h =
    elim (or_cases (not (m.file == file)) (those m) h) [
      | inl other ↦ or_left (not (m.file == file)) (more m) other
      | inr own ↦ or_right (not (m.file == file)) (more m) (f m own)
    ]
asked_among_more those more file f (returned m well) h = refl

backed_more : (those more : SyncId → Bool) → ((m : SyncId) → those m ≡ true → more m ≡ true) → (past : List SyncEvent) (s : SyncId) → is_backed those past s ≡ true → is_backed more past s ≡ true
backed_more those more f [] s h = cc
backed_more those more f (e ∷ past) s h =
    let here = is_good_return_of s e in
    elim (or_cases (here && list_all (is_asked_among those s.file) past) (is_backed those past s) h) [
      | inl now ↦
          let parts = and_parts here (list_all (is_asked_among those s.file) past) now in
          or_left (here && list_all (is_asked_among more s.file) past) (is_backed more past s)
          (and_from here (list_all (is_asked_among more s.file) past) parts.0
          (all_more (is_asked_among those s.file) (is_asked_among more s.file) (asked_among_more those more s.file f) past parts.1))
      | inr before ↦ or_right (here && list_all (is_asked_among more s.file) past) (is_backed more past s) (backed_more those more f past s before)
    ]

-- this sync was asked for
abbrev is_asked_of : SyncId → SyncEvent → Bool
is_asked_of sync (asked other) = same_sync sync other
is_asked_of sync (returned other well) = false

all_asked : (those : SyncId → Bool) (file : ℕ) (past : List SyncEvent) → ((m : SyncId) → list_any (is_asked_of m) past ≡ true → (m.file == file) ≡ true → those m ≡ true) → list_all (is_asked_among those file) past ≡ true
all_asked those file [] f = refl
all_asked those file (asked m ∷ past) f =
    and_from (not (m.file == file) || those m) (list_all (is_asked_among those file) past)
    (elim (cases_Bool (m.file == file)) [
      | inl own ↦ or_right (not (m.file == file)) (those m) (f m (or_left (same_sync m m) (list_any (is_asked_of m) past) (same_sync_refl m)) own)
      | inr other ↦ or_left (not (m.file == file)) (those m) (not_from_false (m.file == file) other)
    ])
    (all_asked those file past (λ k h own. f k (or_right (same_sync k m) (list_any (is_asked_of k) past) h) own))
all_asked those file (returned m well ∷ past) f = all_asked those file past f

-- it has returned, or is waited for
abbrev is_hold : SyncId → SyncId → Hold → Bool
is_hold sync other hold = same_sync sync hold.waiting && same_sync other hold.other

abbrev is_covered : List SyncEvent → List Hold → SyncId → SyncId → Bool
is_covered past holds sync other = has_returned past other || list_any (is_hold sync other) holds

-- what is kept fits what happened
record IsSound (past : List SyncEvent) (syncs : SyncsState) : Type 0 where
  reached : (m : SyncId) → list_any (is_asked_of m) past ≡ true → (has_returned past m || list_any (same_sync m) syncs.under_way) ≡ true
  noted : (file : ℕ) → list_any (is_failure_in file) past ≡ true → has_failed syncs file ≡ true
  clean : (w : SyncId) → list_any (same_sync w) syncs.waiting ≡ true → list_any (is_failure_in w.file) past ≡ false
  backed : (w : SyncId) → list_any (same_sync w) syncs.waiting ≡ true → is_backed (is_covered past syncs.holds w) past w ≡ true

sound_none : IsSound [] no_syncs
sound_none = record {
  reached = λ m h. cc;
  noted = λ file h. cc;
  clean = λ w h. cc;
  backed = λ w h. cc;
}

sound_begun : (past : List SyncEvent) (syncs : SyncsState) (s : SyncId) → IsSound past syncs → IsSound (asked s ∷ past) (begun syncs s)
sound_begun past syncs s sound = record {
  reached = λ m h.
      elim (or_cases (same_sync m s) (list_any (is_asked_of m) past) h) [
        | inl now ↦
            or_right (has_returned past m) (list_any (same_sync m) (syncs.under_way ++ s ∷ []))
            (any_at_end (same_sync m) syncs.under_way s now)
        | inr before ↦
            elim (or_cases (has_returned past m) (list_any (same_sync m) syncs.under_way) (sound.reached m before)) [
              | inl over ↦ or_left (has_returned past m) (list_any (same_sync m) (syncs.under_way ++ s ∷ [])) over
              | inr there ↦
                  or_right (has_returned past m) (list_any (same_sync m) (syncs.under_way ++ s ∷ []))
                  (any_in_front (same_sync m) syncs.under_way (s ∷ []) there)
            ]
      ];
  noted = sound.noted;
  clean = sound.clean;
  backed = λ w h. backed_more (is_covered past syncs.holds w) (is_covered (asked s ∷ past) syncs.holds w) (λ m i. i) past w (sound.backed w h);
}

module _ (past : List SyncEvent) (syncs : SyncsState) (sound : IsSound past syncs) (s : SyncId) (well : Bool) where
  abbrev now : List SyncEvent
  now = returned s well ∷ past

  has_now : (m : SyncId) → same_sync s m ≡ true → has_returned now m ≡ true
  has_now m h = or_left (same_sync m s) (has_returned past m) (same_sync_sym s m h)

  still : (m : SyncId) → has_returned past m ≡ true → has_returned now m ≡ true
  still m h = or_right (same_sync m s) (has_returned past m) h

  left_reached : (m : SyncId) → list_any (is_asked_of m) past ≡ true → (has_returned now m || list_any (same_sync m) (without syncs s).under_way) ≡ true
  left_reached m h =
      let left = list_any (same_sync m) (without syncs s).under_way in
      elim (or_cases (has_returned past m) (list_any (same_sync m) syncs.under_way) (sound.reached m h)) [
        | inl over ↦ or_left (has_returned now m) left (still m over)
        | inr there ↦
            elim (cases_Bool (same_sync s m)) [
              | inl this ↦ or_left (has_returned now m) left (has_now m this)
              | inr other ↦
                  or_right (has_returned now m) left
                  (any_stays (same_sync m) (is_other s) (λ k e. subst (λ (x : SyncId). is_other s x ≡ true) (eq_sync m k e) (not_from_false (same_sync s m) other)) syncs.under_way there)
            ]
      ]

  left_covered : (w m : SyncId) → is_covered past syncs.holds w m ≡ true → is_covered now (without syncs s).holds w m ≡ true
  left_covered w m h =
      let left = list_any (is_hold w m) (without syncs s).holds in
      elim (or_cases (has_returned past m) (list_any (is_hold w m) syncs.holds) h) [
        | inl over ↦ or_left (has_returned now m) left (still m over)
        | inr there ↦
            elim (cases_Bool (same_sync s m)) [
              | inl this ↦ or_left (has_returned now m) left (has_now m this)
              | inr other ↦
                  or_right (has_returned now m) left
                  (any_stays (is_hold w m) (is_other_hold s)
                  (λ k e. subst (λ (x : SyncId). is_other s x ≡ true) (eq_sync m k.other (and_parts (same_sync w k.waiting) (same_sync m k.other) e).1) (not_from_false (same_sync s m) other))
                  syncs.holds there)
            ]
      ]

  left_backed : (w : SyncId) → list_any (same_sync w) syncs.waiting ≡ true → is_backed (is_covered now (without syncs s).holds w) now w ≡ true
  left_backed w h =
      let those = is_covered now (without syncs s).holds w in
      or_right (is_good_return_of w (returned s well) && list_all (is_asked_among those w.file) past) (is_backed those past w)
      (backed_more (is_covered past syncs.holds w) those (left_covered w) past w (sound.backed w h))

-- it has failed
sound_spoilt : (past : List SyncEvent) (syncs : SyncsState) (s : SyncId) → IsSound past syncs → IsSound (returned s false ∷ past) (spoilt (without syncs s) s.file)
sound_spoilt past syncs s sound = record {
  reached = left_reached past syncs sound s false;
  noted = λ file h.
      elim (or_cases (s.file == file) (list_any (is_failure_in file) past) h) [
        | inl this ↦ any_at_end (λ (other : ℕ). file == other) syncs.failed s.file (eq-eqb file s.file (sym (eqb-true s.file file this)))
        | inr before ↦ any_in_front (λ (other : ℕ). file == other) syncs.failed (s.file ∷ []) (sound.noted file before)
      ];
  clean = λ w h.
      let both = kept_both (is_elsewhere s.file) w syncs.waiting h in
      or_from (s.file == w.file) (list_any (is_failure_in w.file) past) (not-true (s.file == w.file) both.0) (sound.clean w both.1);
  backed = λ w h. left_backed past syncs sound s false w (kept_both (is_elsewhere s.file) w syncs.waiting h).1;
}

-- it has returned well, and one of its file has failed
sound_left : (past : List SyncEvent) (syncs : SyncsState) (s : SyncId) → IsSound past syncs → IsSound (returned s true ∷ past) (without syncs s)
sound_left past syncs s sound = record {
  reached = left_reached past syncs sound s true;
  noted = sound.noted;
  clean = sound.clean;
  backed = left_backed past syncs sound s true;
}

-- it has returned well, and none of its file has failed
module _ (past : List SyncEvent) (syncs : SyncsState) (s : SyncId) (sound : IsSound past syncs) (unspoilt : has_failed syncs s.file ≡ false) where
  abbrev left : SyncsState
  left = without syncs s

  abbrev more : List Hold
  more = map (hold_of s) (filter (is_of s.file) left.under_way)

  covered_more : (w m : SyncId) → is_covered (returned s true ∷ past) left.holds w m ≡ true → is_covered (returned s true ∷ past) (left.holds ++ more) w m ≡ true
  covered_more w m h =
      let over = has_returned (returned s true ∷ past) m in
      elim (or_cases over (list_any (is_hold w m) left.holds) h) [
        | inl so ↦ or_left over (list_any (is_hold w m) (left.holds ++ more)) so
        | inr there ↦ or_right over (list_any (is_hold w m) (left.holds ++ more)) (any_in_front (is_hold w m) left.holds more there)
      ]

  -- each of its file that was asked for has returned, or is waited for
  covers : (m : SyncId) → list_any (is_asked_of m) past ≡ true → (m.file == s.file) ≡ true → is_covered (returned s true ∷ past) (left.holds ++ more) s m ≡ true
  covers m h own =
      let over = has_returned (returned s true ∷ past) m in
      elim (or_cases over (list_any (same_sync m) left.under_way) (left_reached past syncs sound s true m h)) [
        | inl so ↦ or_left over (list_any (is_hold s m) (left.holds ++ more)) so
        | inr there ↦
            let of_file = any_stays (same_sync m) (is_of s.file) (λ k e. subst (λ (x : SyncId). is_of s.file x ≡ true) (eq_sync m k e) own) left.under_way there in
            or_right over (list_any (is_hold s m) (left.holds ++ more))
            (any_behind (is_hold s m) left.holds more
            (any_mapped (hold_of s) (same_sync m) (is_hold s m) (λ k e. and_from (same_sync s s) (same_sync m k) (same_sync_refl s) e) (filter (is_of s.file) left.under_way) of_file))
      ]

  backed_now : is_backed (is_covered (returned s true ∷ past) (left.holds ++ more) s) (returned s true ∷ past) s ≡ true
  backed_now =
      let those = is_covered (returned s true ∷ past) (left.holds ++ more) s in
      or_left (same_sync s s && list_all (is_asked_among those s.file) past) (is_backed those past s)
      (and_from (same_sync s s) (list_all (is_asked_among those s.file) past) (same_sync_refl s) (all_asked those s.file past covers))

  clean_now : list_any (is_failure_in s.file) past ≡ false
  clean_now = absent (list_any (is_failure_in s.file) past) (has_failed syncs s.file) (sound.noted s.file) unspoilt

  waits_cases : (w : SyncId) → list_any (same_sync w) (syncs.waiting ++ s ∷ []) ≡ true → (list_any (same_sync w) syncs.waiting ≡ true) ⊎ (w ≡ s)
  waits_cases w h =
      elim (or_cases (list_any (same_sync w) syncs.waiting) (same_sync w s || false) (sym (list_any-append (same_sync w) syncs.waiting (s ∷ [])) ∙ h)) [
        | inl before ↦ inl before
        | inr last ↦ elim (or_cases (same_sync w s) false last) [ inl this ↦ inr (eq_sync w s this) | inr never ↦ cc ]
      ]

  sound_awaiting : IsSound (returned s true ∷ past) (awaiting left s)
  sound_awaiting = record {
    reached = left_reached past syncs sound s true;
    noted = sound.noted;
    clean = λ w h.
        elim (waits_cases w h) [
          | inl before ↦ sound.clean w before
          | inr this ↦ subst (λ (x : SyncId). list_any (is_failure_in x.file) past ≡ false) (sym this) clean_now
        ];
    backed = λ w h.
        elim (waits_cases w h) [
          | inl before ↦
              backed_more (is_covered (returned s true ∷ past) left.holds w) (is_covered (returned s true ∷ past) (left.holds ++ more) w) (covered_more w)
              (returned s true ∷ past) w (left_backed past syncs sound s true w before)
          | inr this ↦ subst (λ (x : SyncId). is_backed (is_covered (returned s true ∷ past) (left.holds ++ more) x) (returned s true ∷ past) x ≡ true) (sym this) backed_now
        ];
  }

-- it has returned
sound_ended : (past : List SyncEvent) (syncs : SyncsState) (s : SyncId) (well : Bool) → IsSound past syncs → IsSound (returned s well ∷ past) (ended syncs s well)
sound_ended past syncs s false sound = sound_spoilt past syncs s sound
sound_ended past syncs s true sound = by_test (has_failed syncs s.file) refl
  where
    by_test : (b : Bool) → has_failed syncs s.file ≡ b → IsSound (returned s true ∷ past) (cond b (without syncs s) (awaiting (without syncs s) s))
    by_test true h = sound_left past syncs s sound
    by_test false h = sound_awaiting past syncs s sound h

sound_settled : (past : List SyncEvent) (syncs : SyncsState) → IsSound past syncs → IsSound past (settled syncs)
sound_settled past syncs sound = record {
  reached = sound.reached;
  noted = sound.noted;
  clean = λ w h. sound.clean w (kept_both (is_held syncs.holds) w syncs.waiting h).1;
  backed = λ w h. sound.backed w (kept_both (is_held syncs.holds) w syncs.waiting h).1;
}

-- those that wait for nothing may be recorded
sound_recorded : (past : List SyncEvent) (syncs : SyncsState) (w : SyncId) → IsSound past syncs → list_any (same_sync w) (recorded syncs) ≡ true → may_be_recorded past w ≡ true
sound_recorded past syncs w sound h =
    let both = kept_both (is_free syncs.holds) w syncs.waiting h in
    let free = not-true (is_held syncs.holds w) both.0 in
    and_from (not (list_any (is_failure_in w.file) past)) (is_backed (has_returned past) past w)
    (not_from_false (list_any (is_failure_in w.file) past) (sound.clean w both.1))
    (backed_more (is_covered past syncs.holds w) (has_returned past)
    (λ m i.
    elim (or_cases (has_returned past m) (list_any (is_hold w m) syncs.holds) i) [
      | inl over ↦ over
      | inr there ↦
          absurd (both_ways (is_held syncs.holds w) free
          (any_more (is_hold w m) (is_hold_of w) (λ k e. (and_parts (same_sync w k.waiting) (same_sync m k.other) e).0) syncs.holds there))
    ])
    past w (sound.backed w both.1))

-- what is kept fits all calls
sound_after : (past : List SyncEvent) → IsSound past (syncs_after past)
sound_after [] = sound_none
sound_after (asked s ∷ past) = sound_begun past (syncs_after past) s (sound_after past)
sound_after (returned s well ∷ past) =
    sound_settled (returned s well ∷ past) (ended (syncs_after past) s well) (sound_ended past (syncs_after past) s well (sound_after past))

pub only_sound_recorded : OnlySoundRecorded
only_sound_recorded [] w h = cc
only_sound_recorded (asked s ∷ past) w h = cc
only_sound_recorded (returned s well ∷ past) w h =
    sound_recorded (returned s well ∷ past) (ended (syncs_after past) s well) w (sound_ended past (syncs_after past) s well (sound_after past)) h
