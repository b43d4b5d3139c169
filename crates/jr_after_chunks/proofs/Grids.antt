-- Places on a grid of chunks.
use Rattle.std.proofs.Common.{◌≡◌, ℕ, suc, ◌+◌, ◌-◌, ◌*◌, ◌/◌, ◌%◌, ◌<◌, ◌≤◌, Bool, true, false, refl, ap, sym, ◌∙◌, inl, inr, arith}
use Rattle.std.specs.Prelude.{cond, nat_le, ◌==◌, ◌&&◌}
use Rattle.std.proofs.Math.Nat.{add-mul, add-mul-mod_self_right, mod_self, mul-le-mul_right, mul-mod_left, suc-mul, zero-mod}
use Rattle.std.proofs.lemmas.Bool.{and_parts, and_from, cases_lt, cond-true, cond-false, eq-eqb, eqb-true, le-leb, leb-true, false≢true}
use Rattle.std.proofs.lemmas.Nat.{div-add-mod', mul-mod_second}
use Rattle.jr_model.specs.declared.blocks.Piece.{Piece}
use Rattle.jr_model.specs.declared.contents.VerifyKind.{VerifyKind}
use Rattle.jr_model.specs.declared.contents.VerifyKind.TheVariants as verify
use Rattle.jr_model.specs.declared.limits.TheConstants.{SECTOR}
use Rattle.jr_model.specs.Pieces.{piece_end}
use Rattle.jr_model.specs.Plan.{SubJob}
use Rattle.jr_model.specs.PlanFacts.{KeepsLimits}
use Rattle.jr_model.specs.Tickets.{has_whole_chunks, interval_fits}
use Rattle.jr_after.specs.Writes.{is_chunk}
use Rattle.jr_after_plans.specs.Taken.{chunk_len, has_digest, has_one_size}

-- a multiple further on
pub multiple_on : (s d len : ℕ) → d % len ≡ 0 → (s + d) % len ≡ s % len
multiple_on s d len whole =
    let parts : d / len * len + d % len ≡ d = div-add-mod' d len in
    let e : s + d ≡ s + d / len * len = omega (arith, parts, whole) in
    ap (λ (n : ℕ). n % len) e ∙ add-mul-mod_self_right s (d / len) len

-- so many of what is whole are whole
pub multiple_of : (x cell len : ℕ) → cell % len ≡ 0 → (x * cell) % len ≡ 0
multiple_of x cell len whole =
    sym (mul-mod_second x cell len) ∙ ap (λ (r : ℕ). (x * r) % len) whole ∙ ap (λ (r : ℕ). r % len) (let e : x * 0 ≡ 0 = omega arith in e) ∙ zero-mod len

pub record Meets (len chunk offset size : ℕ) : Type 0 where
  pub low : offset ≤ chunk
  pub high : chunk + len ≤ offset + size
  pub whole : (chunk - offset) % len ≡ 0

-- what shares a byte with a chunk of its grid has it whole
pub meets : (len chunk offset size : ℕ) → 0 < len → chunk % len ≡ offset % len → size % len ≡ 0 → chunk < offset + size → offset < chunk + len → Meets len chunk offset size
meets len chunk offset size some same whole before behind =
    let u = chunk / len in
    let v = offset / len in
    let w = size / len in
    let c : u * len + chunk % len ≡ chunk = div-add-mod' chunk len in
    let o : v * len + offset % len ≡ offset = div-add-mod' offset len in
    let s : w * len + size % len ≡ size = div-add-mod' size len in
    let sum : (v + w) * len ≡ v * len + w * len = add-mul v w len in
    let next : suc u * len ≡ u * len + len = suc-mul u len in
    let reach : suc u * len ≤ (v + w) * len = elim (cases_lt u (v + w)) [
      | inl less ↦ mul-le-mul_right len less
      | inr more ↦
          let step : (v + w) * len ≤ u * len = mul-le-mul_right len more in
          absurd (omega (arith, step, sum, c, o, s, same, whole, before))
    ] in
    let low : v ≤ u = elim (cases_lt u v) [
      | inl less ↦
          let step : suc u * len ≤ v * len = mul-le-mul_right len less in
          absurd (omega (arith, step, next, c, o, same, behind))
      | inr more ↦ more
    ] in
    let below : v * len ≤ u * len = mul-le-mul_right len low in
    let t = u - v in
    let split : t * len + v * len ≡ u * len = sym (add-mul t v len) ∙ ap (λ (n : ℕ). n * len) (let e : t + v ≡ u = omega (arith, low) in e) in
    let far : chunk - offset ≡ t * len = omega (arith, split, c, o, same) in
    record {
      low = omega (arith, below, c, o, same);
      high = omega (arith, reach, next, sum, c, o, s, same, whole);
      whole = ap (λ (n : ℕ). n % len) far ∙ mul-mod_left t len;
    }

-- how the chunks of a clone are long
pub record IsCut (job : SubJob) : Type 0 where
  pub divides : job.cell % chunk_len job ≡ 0
  pub whole : (job.method.interval == 0) ≡ true → (has_one_size job.cell job.write_split ≡ true) × (chunk_len job ≡ job.cell)
  pub parts : (job.method.interval == 0) ≡ false → chunk_len job ≡ job.method.interval

single_cut : (b : Bool) (cell : ℕ) → 0 < cond b cell 0 → (b ≡ true) × (cond b cell 0 ≡ cell)
single_cut true cell some = (refl, refl)
single_cut false cell some = absurd (omega (arith, some))

-- what an interval of a digest's kind divides
digest_cut : (kind : VerifyKind) (interval cell : ℕ) → has_digest kind ≡ true → interval_fits kind interval cell ≡ true → has_whole_chunks interval cell ≡ true
digest_cut verify.Plain interval cell digest fits = absurd (false≢true digest)
digest_cut verify.Pattern interval cell digest fits = absurd (false≢true digest)
digest_cut verify.Md5 interval cell digest fits = fits
digest_cut verify.Sha1 interval cell digest fits = fits
digest_cut verify.Sha256 interval cell digest fits = fits

interval_divides : (z : Bool) (interval cell : ℕ) → z ≡ false → cond z true ((interval % SECTOR == 0) && (cell % interval == 0)) ≡ true → cell % interval ≡ 0
interval_divides true interval cell e h = absurd (false≢true (sym e))
interval_divides false interval cell e h = eqb-true (cell % interval) 0 (and_parts (interval % SECTOR == 0) (cell % interval == 0) h).1

pub is_cut : (job : SubJob) → KeepsLimits job → has_digest job.method.kind ≡ true → 0 < chunk_len job → IsCut job
is_cut job limits digest some = by (job.method.interval == 0) refl some
  where
    single : Bool
    single = has_one_size job.cell job.write_split

    by : (z : Bool) → (job.method.interval == 0) ≡ z → 0 < cond z (cond single job.cell 0) job.method.interval → IsCut job
    by true zero some =
        let one = single_cut (has_one_size job.cell job.write_split) job.cell some in
        let len : chunk_len job ≡ job.cell = cond-true (job.method.interval == 0) (cond (has_one_size job.cell job.write_split) job.cell 0) job.method.interval zero ∙ one.1 in
        record {
          divides = ap (λ (n : ℕ). job.cell % n) len ∙ mod_self job.cell;
          whole = λ e. (one.0, len);
          parts = λ e. absurd (false≢true (sym e ∙ zero));
        }
    by false given some =
        let len : chunk_len job ≡ job.method.interval = cond-false (job.method.interval == 0) (cond (has_one_size job.cell job.write_split) job.cell 0) job.method.interval given in
        record {
          divides = ap (λ (n : ℕ). job.cell % n) len ∙ interval_divides (job.method.interval == 0) job.method.interval job.cell given (digest_cut job.method.kind job.method.interval job.cell digest limits.interval);
          whole = λ e. absurd (false≢true (sym given ∙ e));
          parts = λ e. len;
        }

-- a piece has such a chunk
pub chunk_from_meets : (interval len : ℕ) (piece chunk : Piece) → ((interval == 0) ≡ true → piece.len ≡ len) → ((interval == 0) ≡ false → len ≡ interval) → chunk.len ≡ len → Meets len chunk.offset piece.offset piece.len → is_chunk interval piece chunk ≡ true
chunk_from_meets interval len piece chunk whole parts size meet = by (interval == 0) refl
  where
    by : (z : Bool) → (interval == 0) ≡ z → cond z ((chunk.offset == piece.offset) && (chunk.len == piece.len)) ((chunk.len == interval) && nat_le piece.offset chunk.offset && ((chunk.offset - piece.offset) % interval == 0) && nat_le (piece_end chunk) (piece_end piece)) ≡ true
    by true zero =
        let all : piece.len ≡ len = whole zero in
        and_from (chunk.offset == piece.offset) (chunk.len == piece.len)
        (eq-eqb chunk.offset piece.offset (omega (arith, meet.low, meet.high, all)))
        (eq-eqb chunk.len piece.len (size ∙ sym all))
    by false given =
        let same : len ≡ interval = parts given in
        and_from ((chunk.len == interval) && nat_le piece.offset chunk.offset && ((chunk.offset - piece.offset) % interval == 0)) (nat_le (piece_end chunk) (piece_end piece))
        (and_from ((chunk.len == interval) && nat_le piece.offset chunk.offset) ((chunk.offset - piece.offset) % interval == 0)
        (and_from (chunk.len == interval) (nat_le piece.offset chunk.offset) (eq-eqb chunk.len interval (size ∙ same)) (le-leb piece.offset chunk.offset meet.low))
        (eq-eqb ((chunk.offset - piece.offset) % interval) 0 (ap (λ (n : ℕ). (chunk.offset - piece.offset) % n) (sym same) ∙ meet.whole)))
        (le-leb (piece_end chunk) (piece_end piece) (omega (arith, meet.high, size)))

-- and such a chunk meets it
pub meets_from_chunk : (interval len : ℕ) (piece chunk : Piece) → ((interval == 0) ≡ true → piece.len ≡ len) → ((interval == 0) ≡ false → len ≡ interval) → is_chunk interval piece chunk ≡ true → (chunk.len ≡ len) × Meets len chunk.offset piece.offset piece.len
meets_from_chunk interval len piece chunk whole parts is = by (interval == 0) refl is
  where
    by : (z : Bool) → (interval == 0) ≡ z → cond z ((chunk.offset == piece.offset) && (chunk.len == piece.len)) ((chunk.len == interval) && nat_le piece.offset chunk.offset && ((chunk.offset - piece.offset) % interval == 0) && nat_le (piece_end chunk) (piece_end piece)) ≡ true → (chunk.len ≡ len) × Meets len chunk.offset piece.offset piece.len
    by true zero h =
        let both = and_parts (chunk.offset == piece.offset) (chunk.len == piece.len) h in
        let place : chunk.offset ≡ piece.offset = eqb-true chunk.offset piece.offset both.0 in
        let size : chunk.len ≡ piece.len = eqb-true chunk.len piece.len both.1 in
        let all : piece.len ≡ len = whole zero in
        let none : chunk.offset - piece.offset ≡ 0 = omega (arith, place) in
        (size ∙ all, record { low = omega (arith, place); high = omega (arith, place, all); whole = ap (λ (n : ℕ). n % len) none ∙ zero-mod len })
    by false given h =
        let same : len ≡ interval = parts given in
        let p = and_parts ((chunk.len == interval) && nat_le piece.offset chunk.offset && ((chunk.offset - piece.offset) % interval == 0)) (nat_le (piece_end chunk) (piece_end piece)) h in
        let q = and_parts ((chunk.len == interval) && nat_le piece.offset chunk.offset) ((chunk.offset - piece.offset) % interval == 0) p.0 in
        let r = and_parts (chunk.len == interval) (nat_le piece.offset chunk.offset) q.0 in
        let size : chunk.len ≡ len = eqb-true chunk.len interval r.0 ∙ sym same in
        let high = leb-true (piece_end chunk) (piece_end piece) p.1 in (
          size,
          record {
            low = leb-true piece.offset chunk.offset r.1;
            high = omega (arith, high, size);
            whole = ap (λ (n : ℕ). (chunk.offset - piece.offset) % n) same ∙ eqb-true ((chunk.offset - piece.offset) % interval) 0 q.1;
          },
        )
