-- The last write of a block after one more event; when a piece is intact, block by block.
use Rattle.std.proofs.Common.{◌≡◌, ℕ, suc, ◌+◌, ◌/◌, ◌%◌, ◌<◌, List, [], ◌∷◌, ◌++◌, length, Bool, true, false, cond, ◌&&◌, not, refl, sym, ◌∙◌, ap, subst, arith, inl, inr}
use Rattle.std.specs.Prelude.{◌⊎◌, Option, Some, None, slice_get, nat_lt, nat_le, ◌==◌, is_none}
use Rattle.std.specs.Option.{option_or}
use Rattle.std.specs.List.{list_all}
use Rattle.std.proofs.lemmas.Bool.{and_parts, eqb-true, ltb-true, both_ways, false_from_ne_true, true_from_ne_false}
use Rattle.std.proofs.lemmas.Option.{same_Some}
use Rattle.jr_model.specs.declared.limits.TheConstants.{SECTOR, LARGEST_BLOCK, LARGEST_END}
use Rattle.jr_model.specs.declared.blocks.Piece.{Piece}
use Rattle.jr_model.specs.declared.events.Event.{Event}
use Rattle.jr_model.specs.declared.events.Event.TheVariants.{Issue, Probe, Skip, End, Verdict}
use Rattle.jr_model.specs.declared.events.Outcome.{Outcome}
use Rattle.jr_model.specs.declared.events.Outcome.TheVariants.{Whole, Failed, Short}
use Rattle.jr_model.specs.declared.events.Started.{Started}
use Rattle.jr_model.specs.declared.events.WriteId.{WriteId}
use Rattle.jr_model.specs.declared.tickets.TicketKind.{TicketKind}
use Rattle.jr_model.specs.declared.tickets.TicketKind.TheVariants as ticket
use Rattle.jr_model.specs.History.{started, end_of, first_given, outcome_of, flies, ended_whole, is_write, is_probe, same_write}
use Rattle.jr_model.specs.LastWrite.{covers_block, last_after, last_after_end, last_write, is_this_write, blocks_of, is_intact}
use Rattle.jr_model.specs.Legal.{is_legal, may_happen, end_fits}
use Rattle.jr_model.specs.Plan.{Plan}
use Rattle.jr_model.specs.Races.{has_raced}
use Rattle.jr_model.proofs.RaceLaws.{raced_other, raced_for_good}
use Rattle.jr_model.specs.Tickets.{piece_fits}
use Rattle.jr_model.proofs.LegalLaws.{same_write_refl}
use Rattle.jr_model.proofs.SerialLaws.{first_given-append}
use Rattle.jr_model.proofs.Equality.{eq_write, this_write, is_this}
use Rattle.jr_model.specs.PlanFacts.{IsPlanned}
use Rattle.jr_laws_quiet.proofs.Races.{last_write_push}
use Rattle.jr_laws_quiet.proofs.Latest.{InSectors, covers_own, not_all}
use Rattle.jr_laws_steps.proofs.OnceLaws.{started_once-law}
use Rattle.jr_laws_steps.proofs.DrawnLaws.{started_fit-law}
use Rattle.jr_model.proofs.PlaceLemmas.{item_at, all_from, got_ranged, ranged_at}
use Rattle.jr_model.proofs.HistoryLemmas.{by_events, outcome_of-end}
use Rattle.jr_laws_steps.proofs.StartedLemmas.{started_stays, started_below}

-- an I/O that may end was started, and has not ended
pub record IsFlying (h : List Event) (id : ℕ) : Type 0 where
  pub io : Started
  pub at : slice_get (started h) id ≡ Some io
  pub unended : outcome_of h id ≡ None

pub flying_of : (plan : Plan) (h : List Event) (worker id : ℕ) (outcome : Outcome)
    → may_happen plan h (End worker id outcome) ≡ true
    → IsFlying h id
flying_of plan h worker id outcome may =
    let flying = and_parts (flies h id) (end_fits worker outcome (slice_get (started h) id)) may in
    let parts = and_parts (nat_lt id (length (started h))) (is_none (outcome_of h id)) flying.0 in
    let found = item_at (started h) id (ltb-true id (length (started h)) parts.0) in
    record { io = found.0; at = found.1; unended = none_of (outcome_of h id) parts.1 }
  where
    none_of : (o : Option Outcome) → is_none o ≡ true → o ≡ None
    none_of None g = refl
    none_of (Some o) g = cc

-- how an I/O ended stays
pub outcome_stays : (h : List Event) (e : Event) (id : ℕ) (o : Outcome) → outcome_of h id ≡ Some o → outcome_of (h ++ e ∷ []) id ≡ Some o
outcome_stays h e id o was =
    first_given-append (end_of id) h (e ∷ []) ∙ ap (λ (x : Option Outcome). option_or x (first_given (end_of id) (e ∷ []))) was

-- a started write of this name that ended whole, didn't race, and covers the block
pub record LastIs (h : List Event) (f b : ℕ) (write : WriteId) : Type 0 where
  pub id : ℕ
  pub io : Started
  pub at : slice_get (started h) id ≡ Some io
  pub kind : is_write io.kind ≡ true
  pub named : io.write ≡ write
  pub covers : covers_block io.piece f b ≡ true
  pub ended : outcome_of h id ≡ Some Whole
  pub unraced : has_raced h id ≡ false

-- each last write is one
abbrev LastLaw : List Event → Type 0
LastLaw h = (f b : ℕ) (write : WriteId) → last_write h f b ≡ Some write → LastIs h f b write

none_flies : (h : List Event) (id : ℕ) (o : Outcome) → outcome_of h id ≡ Some o → flies h id ≡ false
none_flies h id o ended = ap (λ (x : Option Outcome). nat_lt id (length (started h)) && is_none x) ended ∙ and_none (nat_lt id (length (started h)))
  where
    and_none : (b : Bool) → (b && false) ≡ false
    and_none true = refl
    and_none false = refl

module _ (plan : Plan) (h : List Event) (legal : is_legal plan h ≡ true) where
  last_kept : (e : Event) (f b : ℕ) (write : WriteId) → LastIs h f b write → LastIs (h ++ e ∷ []) f b write
  last_kept e f b write was = record {
    id = was.id;
    io = was.io;
    at = started_stays h (e ∷ []) was.id was.io was.at;
    kind = was.kind;
    named = was.named;
    covers = was.covers;
    ended = outcome_stays h e was.id Whole was.ended;
    unraced = raced_for_good h e was.id (started_below h was.id was.io was.at) (none_flies h was.id Whole was.ended) ∙ was.unraced;
  }

  last_other : (e : Event)
      → may_happen plan h e ≡ true
      → ((f b : ℕ) (o : Option WriteId) → last_after (has_raced h) (started h) f b o e ≡ o)
      → LastLaw h
      → LastLaw (h ++ e ∷ [])
  last_other e may keeps law f b write last =
      last_kept e f b write (law f b write (sym (last_write_push plan h legal e f b ∙ keeps f b (last_write h f b)) ∙ last))

  -- what a whole write leaves is that write, and another end leaves none
  end_gives : (outcome : Outcome) (raced : Bool) (io : Started) (hit : Bool) (last : Option WriteId) (write : WriteId)
      → cond hit (cond (ended_whole (Some outcome) && not raced) (Some io.write) None) last ≡ Some write
      → ((hit ≡ true) × (outcome ≡ Whole) × (io.write ≡ write) × (raced ≡ false)) ⊎ (last ≡ Some write)
  end_gives Whole false io true last write is = inl (refl, refl, same_Some io.write write is, refl)
  end_gives Whole true io true last write is = cc
  end_gives Failed raced io true last write is = cc
  end_gives (Short n) raced io true last write is = cc
  end_gives outcome raced io false last write is = inr is

  last_ended : (worker id : ℕ) (outcome : Outcome)
      → may_happen plan h (End worker id outcome) ≡ true
      → LastLaw h
      → LastLaw (h ++ End worker id outcome ∷ [])
  last_ended worker id outcome may law f b write last =
      let e = End worker id outcome in
      let flying = flying_of plan h worker id outcome may in
      let io = flying.io in
      let now : last_write (h ++ e ∷ []) f b ≡ last_after_end (has_raced h id) (Some io) outcome f b (last_write h f b) =
      last_write_push plan h legal e f b
      ∙ ap (λ (o : Option Started). last_after_end (has_raced h id) o outcome f b (last_write h f b)) flying.at in
      elim (end_gives outcome (has_raced h id) io (is_write io.kind && covers_block io.piece f b) (last_write h f b) write (sym now ∙ last)) [
        | inl this ↦
            let parts = and_parts (is_write io.kind) (covers_block io.piece f b) this.0 in
            record {
              id = id;
              io = io;
              at = started_stays h (e ∷ []) id io flying.at;
              kind = parts.0;
              named = this.2;
              covers = parts.1;
              ended = outcome_of-end h worker id outcome flying.unended ∙ ap Some this.1;
              unraced = raced_other h e id refl ∙ this.3;
            }
        | inr before ↦ last_kept e f b write (law f b write before)
      ]

pub last_law : (plan : Plan) (history : List Event) → is_legal plan history ≡ true → LastLaw history
last_law plan history legal =
    by_events plan LastLaw (λ f b write last. none_last f b write last) step history legal
  where
    none_last : (f b : ℕ) (write : WriteId) → None ≡ Some write → LastIs [] f b write
    none_last f b write last = cc

    step : (h : List Event) (e : Event) → is_legal plan h ≡ true → LastLaw h → may_happen plan h e ≡ true → LastLaw (h ++ e ∷ [])
    step h (Issue worker dir write piece) legal_h law may = last_other plan h legal_h (Issue worker dir write piece) may (λ f b o. refl) law
    step h (Probe worker write piece) legal_h law may = last_other plan h legal_h (Probe worker write piece) may (λ f b o. refl) law
    step h (Skip worker write) legal_h law may = last_other plan h legal_h (Skip worker write) may (λ f b o. refl) law
    step h (Verdict worker io verdict) legal_h law may = last_other plan h legal_h (Verdict worker io verdict) may (λ f b o. refl) law
    step h (End worker io outcome) legal_h law may = last_ended plan h legal_h worker io outcome may law

-- a write that has this name as the last is it
not_this : (write : WriteId) (o : Option WriteId) → (o ≡ Some write → ⊥) → is_this_write write o ≡ false
not_this write None apart = refl
not_this write (Some other) apart =
    false_from_ne_true (same_write other write) (λ same. apart (ap Some (eq_write other write same)))

-- a piece of whole blocks, and at least one
pub record HasBlocks (p : Piece) : Type 0 where
  pub sectors : InSectors p
  pub some : 0 < p.len / SECTOR

some_blocks : (len : ℕ) → 0 < len → len % 512 ≡ 0 → 0 < len / 512
some_blocks len positive whole = omega arith

pub blocks_from_fits : (p : Piece) → piece_fits p ≡ true → HasBlocks p
blocks_from_fits p fits =
    let a = nat_lt 0 p.len in
    let b = nat_le p.len LARGEST_BLOCK in
    let c = p.len % SECTOR == 0 in
    let d = p.offset % SECTOR == 0 in
    let p4 = and_parts (a && b && c && d) (nat_le (p.offset + p.len) LARGEST_END) fits in
    let p3 = and_parts (a && b && c) d p4.0 in
    let p2 = and_parts (a && b) c p3.0 in
    let p1 = and_parts a b p2.0 in
    let whole : p.len % SECTOR ≡ 0 = eqb-true (p.len % SECTOR) 0 p2.1 in
    record {
      sectors = record { offset = eqb-true (p.offset % SECTOR) 0 p3.1; len = whole };
      some = some_blocks p.len (ltb-true 0 p.len p1.0) whole;
    }

pub all_same : {X : Type 0} (f g : X → Bool) (xs : List X)
    → ((k : ℕ) (x : X) → slice_get xs k ≡ Some x → f x ≡ g x)
    → list_all f xs ≡ list_all g xs
all_same f g [] each = refl
all_same f g (x ∷ xs) each =
    ap (λ (b : Bool). b && list_all f xs) (each 0 x refl)
    ∙ ap (λ (b : Bool). g x && b) (all_same f g xs (λ k y at. each (suc k) y at))

module _ (write : WriteId) (p : Piece) (blocks : HasBlocks p) where
  -- block b of the file is one of the piece
  own_block : (k b : ℕ) → slice_get (blocks_of p) k ≡ Some b → covers_block p p.file b ≡ true
  own_block k b at =
      let place = got_ranged (p.offset / SECTOR) (p.len / SECTOR) k b at in
      subst (λ (x : ℕ). covers_block p p.file x ≡ true) (sym place.0) (covers_own p blocks.sectors k place.1)

  -- where the last writes of its blocks are the same, it is intact or not as before
  pub intact_same : (h j : List Event)
      → ((b : ℕ) → covers_block p p.file b ≡ true → last_write j p.file b ≡ last_write h p.file b)
      → is_intact j write p ≡ is_intact h write p
  intact_same h j same =
      all_same (λ (b : ℕ). is_this_write write (last_write j p.file b)) (λ (b : ℕ). is_this_write write (last_write h p.file b))
      (blocks_of p)
      (λ k b at. ap (is_this_write write) (same b (own_block k b at)))

  pub intact_all : (h : List Event)
      → ((b : ℕ) → covers_block p p.file b ≡ true → last_write h p.file b ≡ Some write)
      → is_intact h write p ≡ true
  intact_all h each =
      all_from (λ (b : ℕ). is_this_write write (last_write h p.file b)) (blocks_of p)
      (λ k b at. is_this write (last_write h p.file b) (each b (own_block k b at)))

  -- a block whose last write is another
  pub intact_not : (h : List Event) (k : ℕ)
      → k < p.len / SECTOR
      → (last_write h p.file (p.offset / SECTOR + k) ≡ Some write → ⊥)
      → is_intact h write p ≡ false
  intact_not h k within apart =
      not_all (λ (b : ℕ). is_this_write write (last_write h p.file b)) (blocks_of p) k (p.offset / SECTOR + k)
      (ranged_at (p.offset / SECTOR) (p.len / SECTOR) k within)
      (not_this write (last_write h p.file (p.offset / SECTOR + k)) apart)

  -- an intact write is the last of each of its blocks
  pub intact_at : (h : List Event) (k : ℕ)
      → k < p.len / SECTOR
      → is_intact h write p ≡ true
      → last_write h p.file (p.offset / SECTOR + k) ≡ Some write
  intact_at h k within whole =
      this_write write (last_write h p.file (p.offset / SECTOR + k))
      (true_from_ne_false (is_this_write write (last_write h p.file (p.offset / SECTOR + k)))
      (λ fails.
      both_ways (is_intact h write p)
      (not_all (λ (b : ℕ). is_this_write write (last_write h p.file b)) (blocks_of p) k (p.offset / SECTOR + k)
      (ranged_at (p.offset / SECTOR) (p.len / SECTOR) k within) fails)
      whole))

write_is_no_probe : (kind : TicketKind) → is_write kind ≡ true → is_probe kind ≡ false
write_is_no_probe ticket.Write h = refl
write_is_no_probe ticket.Read h = cc
write_is_no_probe ticket.Probe h = cc
write_is_no_probe ticket.ReadCheck h = cc

module _ (plan : Plan) (h : List Event) (planned : IsPlanned plan) (legal : is_legal plan h ≡ true) where
  -- a write is started once
  pub one_place : (i j : ℕ) (a b : Started)
      → slice_get (started h) i ≡ Some a
      → slice_get (started h) j ≡ Some b
      → is_write a.kind ≡ true
      → is_write b.kind ≡ true
      → a.write ≡ b.write
      → i ≡ j
  one_place i j a b at_i at_j kind_a kind_b same =
      started_once-law plan h i j a b planned legal at_i at_j
      (subst (λ (w : WriteId). same_write a.write w ≡ true) same (same_write_refl a.write))
      (write_is_no_probe a.kind kind_a ∙ sym (write_is_no_probe b.kind kind_b))

  pub blocks_at : (id : ℕ) (io : Started) → slice_get (started h) id ≡ Some io → HasBlocks io.piece
  blocks_at id io at = blocks_from_fits io.piece (started_fit-law plan h id io planned legal at).1.fits

  -- a write that has not ended whole, or raced, isn't intact
  pub unlanded : (id : ℕ) (io : Started)
      → slice_get (started h) id ≡ Some io
      → is_write io.kind ≡ true
      → (outcome_of h id ≡ Some Whole → has_raced h id ≡ false → ⊥)
      → is_intact h io.write io.piece ≡ false
  unlanded id io at kind unended =
      let blocks = blocks_at id io at in
      intact_not io.write io.piece blocks h 0 blocks.some
      (λ last.
      let was = last_law plan h legal io.piece.file (io.piece.offset / SECTOR + 0) io.write last in
      let same : was.id ≡ id = one_place was.id id was.io io was.at at was.kind kind was.named in
      unended (subst (λ (n : ℕ). outcome_of h n ≡ Some Whole) same was.ended) (subst (λ (n : ℕ). has_raced h n ≡ false) same was.unraced))
