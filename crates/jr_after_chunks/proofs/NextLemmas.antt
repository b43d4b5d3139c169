-- The first chunk of a file from an offset on.
use Rattle.std.proofs.Common.{◌≡◌, ◌⊎◌, ℕ, zero, suc, ◌+◌, ◌-◌, ◌*◌, ◌/◌, ◌%◌, ◌<◌, ◌≤◌, List, [], ◌∷◌, slice_get, Bool, true, false, refl, ap, sym, ◌∙◌, subst, inl, inr, arith}
use Rattle.std.specs.Prelude.{Option, Some, None, IfSome, MatchOption, ◌==◌, cond, nat_lt, nat_le, ◌&&◌}
use Rattle.std.proofs.Math.Nat.{mul-le-mul_right, mul-mod_left, suc-mul}
use Rattle.std.proofs.lemmas.Bool.{and_parts, and_from, cond-true, cond-false, cases_lt, false≢true, leb-true, leb-false, le-leb, lt-ltb, ltb-true, eqb-true}
use Rattle.std.proofs.lemmas.Nat.{div-add-mod', mod_below}
use Rattle.jr_model.specs.declared.blocks.Piece.{Piece}
use Rattle.jr_model.specs.Directions.{has_writes}
use Rattle.jr_model.specs.Plan.{SubJob, Plan}
use Rattle.jr_model.specs.PlanFacts.{IsPlanned}
use Rattle.jr_after_plans.specs.Taken.{chunk_len, writes_to}
use Rattle.jr_after_chunks.specs.Next.{IsChunkOf, IsChunkIn, IsNext, IsReadable, chunk_at, chunk_from, earlier, next_chunk, own_chunk, place_from, region_end, rounded_up}

assoc_some : (a b c : Piece) (ab bc ac : Bool) → nat_le a.offset b.offset ≡ ab → nat_le b.offset c.offset ≡ bc → nat_le a.offset c.offset ≡ ac → earlier (cond ab (Some a) (Some b)) (Some c) ≡ earlier (Some a) (cond bc (Some b) (Some c))
assoc_some a b c true true true x y z =
    cond-true (nat_le a.offset c.offset) (Some a) (Some c) z ∙ sym (cond-true (nat_le a.offset b.offset) (Some a) (Some b) x)
assoc_some a b c true true false x y z = absurd (omega (arith, leb-true a.offset b.offset x, leb-true b.offset c.offset y, leb-false a.offset c.offset z))
assoc_some a b c true false ac x y z = refl
assoc_some a b c false true ac x y z =
    cond-true (nat_le b.offset c.offset) (Some b) (Some c) y ∙ sym (cond-false (nat_le a.offset b.offset) (Some a) (Some b) x)
assoc_some a b c false false true x y z = absurd (omega (arith, leb-false a.offset b.offset x, leb-false b.offset c.offset y, leb-true a.offset c.offset z))
assoc_some a b c false false false x y z =
    cond-false (nat_le b.offset c.offset) (Some b) (Some c) y ∙ sym (cond-false (nat_le a.offset c.offset) (Some a) (Some c) z)

none_behind : (a : Piece) (t : Bool) (b : Piece) → earlier (cond t (Some a) (Some b)) None ≡ cond t (Some a) (Some b)
none_behind a true b = refl
none_behind a false b = refl

pub earlier_assoc : (a b c : Option Piece) → earlier (earlier a b) c ≡ earlier a (earlier b c)
earlier_assoc None b c = refl
earlier_assoc (Some a) None None = refl
earlier_assoc (Some a) None (Some c) = refl
earlier_assoc (Some a) (Some b) None = none_behind a (nat_le a.offset b.offset) b
earlier_assoc (Some a) (Some b) (Some c) = assoc_some a b c (nat_le a.offset b.offset) (nat_le b.offset c.offset) (nat_le a.offset c.offset) refl refl refl

-- no number is above its multiple
up_from : (n len : ℕ) → 0 < len → n ≤ rounded_up n len
up_from n len some =
    let m = n + (len - 1) in
    let parts : m / len * len + m % len ≡ m = div-add-mod' m len in
    let rest : m % len < len = mod_below m len some in
    omega (arith, parts, rest, some)

-- it is the first multiple
up_least : (n d len : ℕ) → 0 < len → d % len ≡ 0 → n ≤ d → rounded_up n len ≤ d
up_least n d len some whole below =
    let m = n + (len - 1) in
    let q = m / len in
    let k = d / len in
    let parts : q * len + m % len ≡ m = div-add-mod' m len in
    let all : k * len + d % len ≡ d = div-add-mod' d len in
    elim (cases_lt k q) [
      | inl more ↦
          let step : suc k * len ≤ q * len = mul-le-mul_right len more in
          let one : suc k * len ≡ k * len + len = suc-mul k len in
          absurd (omega (arith, parts, all, step, one, whole, below, some))
      | inr few ↦
          let step : q * len ≤ k * len = mul-le-mul_right len few in
          omega (arith, step, all)
    ]

-- of a clone: what is found, or that there is none
abbrev OwnFirst : SubJob → ℕ → ℕ → Option Piece → Type 0
OwnFirst job file from found =
    MatchOption found ((other : Piece) → writes_to file job ≡ true → IsChunkOf job other → other.offset < from)
    (λ chunk. (writes_to file job ≡ true) × IsChunkOf job chunk × (from ≤ chunk.offset) × ((other : Piece) → IsChunkOf job other → from ≤ other.offset → chunk.offset ≤ other.offset))

-- the clone's chunk isn't behind another one of it
place_least : (job : SubJob) (from : ℕ) (other : Piece) → IsChunkOf job other → from ≤ other.offset → place_from job from ≤ other.offset
place_least job from other chunk below =
    let up : rounded_up (from - job.start) (chunk_len job) ≤ other.offset - job.start =
    up_least (from - job.start) (other.offset - job.start) (chunk_len job) chunk.some chunk.fits (omega (arith, below)) in
    omega (arith, up, chunk.low)

abbrev has_room : SubJob → ℕ → Bool
has_room job from = nat_lt 0 (chunk_len job) && nat_le (place_from job from + chunk_len job) (region_end job)

found_own : (job : SubJob) (file from : ℕ) → writes_to file job ≡ true → (t : Bool) → has_room job from ≡ t → OwnFirst job file from (cond t (Some (chunk_at job (place_from job from))) None)
found_own job file from writes true room =
    let parts = and_parts (nat_lt 0 (chunk_len job)) (nat_le (place_from job from + chunk_len job) (region_end job)) room in
    let some : 0 < chunk_len job = ltb-true 0 (chunk_len job) parts.0 in
    let up : from - job.start ≤ rounded_up (from - job.start) (chunk_len job) = up_from (from - job.start) (chunk_len job) some in
    let q : ℕ = (from - job.start + (chunk_len job - 1)) / chunk_len job in
    let back : place_from job from - job.start ≡ q * chunk_len job = omega arith in
    let chunk : IsChunkOf job (chunk_at job (place_from job from)) = record {
      some = some;
      file = refl;
      len = refl;
      low = omega arith;
      fits = ap (λ (n : ℕ). n % chunk_len job) back ∙ mul-mod_left q (chunk_len job);
      high = leb-true (place_from job from + chunk_len job) (region_end job) parts.1;
    } in
    (writes, chunk, omega (arith, up), λ other is below. place_least job from other is below)
found_own job file from writes false room = λ other w chunk. elim (cases_lt other.offset from) [
  | inl before ↦ before
  | inr below ↦
      let least = place_least job from other chunk below in
      let fits = and_from (nat_lt 0 (chunk_len job)) (nat_le (place_from job from + chunk_len job) (region_end job)) (lt-ltb 0 (chunk_len job) chunk.some) (le-leb (place_from job from + chunk_len job) (region_end job) (omega (arith, least, chunk.high))) in
      absurd (false≢true (sym room ∙ fits))
]

own_first : (job : SubJob) (file from : ℕ) → OwnFirst job file from (own_chunk job file from)
own_first job file from = by (writes_to file job) refl
  where
    by : (w : Bool) → writes_to file job ≡ w → OwnFirst job file from (cond w (chunk_from job from) None)
    by true writes = found_own job file from writes (has_room job from) refl
    by false none = λ other w chunk. absurd (false≢true (sym none ∙ w))

-- a chunk of one of these clones is the first one's, or another's
split : (job : SubJob) (jobs : List SubJob) (file : ℕ) (other : Piece) → IsChunkIn (job ∷ jobs) file other → ((writes_to file job ≡ true) × IsChunkOf job other) ⊎ IsChunkIn jobs file other
split job jobs file other found = by found.place found.at
  where
    by : (k : ℕ) → slice_get (job ∷ jobs) k ≡ Some found.job → ((writes_to file job ≡ true) × IsChunkOf job other) ⊎ IsChunkIn jobs file other
    by zero at =
        let same : found.job ≡ job = cc in
        inl (subst (λ (j : SubJob). writes_to file j ≡ true) same found.writes, subst (λ (j : SubJob). IsChunkOf j other) same found.chunk_of)
    by (suc k) at = inr (record { place = k; job = found.job; at = at; writes = found.writes; chunk_of = found.chunk_of })

shifted : (job : SubJob) (jobs : List SubJob) (file : ℕ) (chunk : Piece) → IsChunkIn jobs file chunk → IsChunkIn (job ∷ jobs) file chunk
shifted job jobs file chunk found = record { place = suc found.place; job = found.job; at = found.at; writes = found.writes; chunk_of = found.chunk_of }

front : (job : SubJob) (jobs : List SubJob) (file : ℕ) (chunk : Piece) → writes_to file job ≡ true → IsChunkOf job chunk → IsChunkIn (job ∷ jobs) file chunk
front job jobs file chunk writes chunk_of = record { place = zero; job = job; at = refl; writes = writes; chunk_of = chunk_of }

combine : (job : SubJob) (jobs : List SubJob) (file from : ℕ) (own rest : Option Piece) → OwnFirst job file from own → IsNext jobs file from rest → IsNext (job ∷ jobs) file from (earlier own rest)
combine job jobs file from None None own rest = λ other found. elim (split job jobs file other found) [ inl mine ↦ own other mine.0 mine.1 | inr others ↦ rest other others ]
combine job jobs file from None (Some b) own rest = record {
  is = shifted job jobs file b rest.is;
  from_there = rest.from_there;
  least = λ other found below. elim (split job jobs file other found) [
    | inl mine ↦ absurd (omega (arith, own other mine.0 mine.1, below))
    | inr others ↦ rest.least other others below
  ];
}
combine job jobs file from (Some a) None own rest = record {
  is = front job jobs file a own.0 own.1;
  from_there = own.2;
  least = λ other found below. elim (split job jobs file other found) [
    | inl mine ↦ own.3 other mine.1 below
    | inr others ↦ absurd (omega (arith, rest other others, below))
  ];
}
combine job jobs file from (Some a) (Some b) own rest = by (nat_le a.offset b.offset) refl
  where
    by : (t : Bool) → nat_le a.offset b.offset ≡ t → IsNext (job ∷ jobs) file from (cond t (Some a) (Some b))
    by true h = record {
      is = front job jobs file a own.0 own.1;
      from_there = own.2;
      least = λ other found below. elim (split job jobs file other found) [
        | inl mine ↦ own.3 other mine.1 below
        | inr others ↦ omega (arith, leb-true a.offset b.offset h, rest.least other others below)
      ];
    }
    by false h = record {
      is = shifted job jobs file b rest.is;
      from_there = rest.from_there;
      least = λ other found below. elim (split job jobs file other found) [
        | inl mine ↦ omega (arith, leb-false a.offset b.offset h, own.3 other mine.1 below)
        | inr others ↦ rest.least other others below
      ];
    }

pub next_is_next : (clones : List SubJob) (file from : ℕ) → IsNext clones file from (next_chunk clones file from)
next_is_next [] file from = λ other found. let at = found.at in absurd (cc)
next_is_next (job ∷ jobs) file from = combine job jobs file from (own_chunk job file from) (next_chunk jobs file from) (own_first job file from) (next_is_next jobs file from)

readable : (plan : Plan) (file from : ℕ) (found : Option Piece) → IsPlanned plan → IsNext plan.clones file from found → IfSome found (IsReadable file)
readable plan file from None facts next = tt
readable plan file from (Some chunk) facts next =
    let job = next.is.job in
    let of = next.is.chunk_of in
    let limits = facts.drafted.limited next.is.place job next.is.at in
    let own = and_parts (job.file == file) (has_writes job.io_type) next.is.writes in
    record {
      file_is = of.file ∙ eqb-true job.file file own.0;
      some = omega (arith, of.some, of.len);
      high = omega (arith, of.high, of.len, limits.region);
    }

pub next_is_readable : (plan : Plan) (file from : ℕ) → IsPlanned plan → IfSome (next_chunk plan.clones file from) (IsReadable file)
next_is_readable plan file from facts = readable plan file from (next_chunk plan.clones file from) facts (next_is_next plan.clones file from)
