-- While a round is open none of the clone's writes flies, so the blocks of its file were last written as they were issued.
use Rattle.std.proofs.Common.{◌≡◌, ℕ, suc, List, [], ◌∷◌, Bool, true, false, ◌&&◌, refl, sym, ◌∙◌, ap, subst, ◌/◌}
use Rattle.std.specs.Prelude.{Some, slice_get}
use Rattle.std.specs.List.{list_all}
use Rattle.std.proofs.lemmas.Option.{same_Some}
use Rattle.jr_model.specs.declared.limits.TheConstants.{SECTOR}
use Rattle.jr_model.specs.declared.events.Event.{Event}
use Rattle.jr_model.specs.declared.events.WriteId.{WriteId}
use Rattle.jr_model.specs.declared.workloads.Draw.{Draw}
use Rattle.jr_model.specs.Draws.{draws_of_job}
use Rattle.jr_model.specs.LastWrite.{covers_block, last_write, is_this_write, blocks_of, is_intact}
use Rattle.jr_model.specs.Legal.{is_legal}
use Rattle.jr_model.specs.Plan.{Plan, SubJob, clone_of}
use Rattle.jr_model.specs.Rounds.{pass_of}
use Rattle.jr_model.specs.PlanFacts.{IsPlanned}
use Rattle.jr_model.proofs.PlaceLemmas.{got_ranged}
use Rattle.jr_model.proofs.PlanLemmas.{numbered_of}
use Rattle.jr_laws_quiet.specs.Quiet.{is_quiet, last_issued}
use Rattle.jr_laws_quiet.proofs.Issues.{may_take_up_parts}
use Rattle.jr_laws_quiet.proofs.Phases.{open_parts}
use Rattle.jr_laws_quiet.proofs.LastWrites.{last_law, barred}
use Rattle.jr_laws_quiet.proofs.Latest.{none_over, sectors_of, covers_own}
use Rattle.jr_laws_quiet.proofs.Steps.{IsTakeUp, probe_of, skip_of}
use Rattle.jr_laws_quiet.specs.Declining.{none_declines}
use Rattle.jr_laws_quiet.proofs.Flights.{clear_is_free}
use Rattle.jr_laws_quiet.proofs.Races.{unraced, quiet_is_fine}
use Rattle.jr_laws_rounds.specs.Latest.{OpenIsLatest, is_latest, TakenUpIsLatest}

-- tests that agree on each element of a list agree on the list
all_alike : (p q : ℕ → Bool) (xs : List ℕ) → ((k x : ℕ) → slice_get xs k ≡ Some x → p x ≡ q x) → list_all p xs ≡ list_all q xs
all_alike p q [] each = refl
all_alike p q (x ∷ xs) each =
    ap (λ b. b && list_all p xs) (each 0 x refl)
    ∙ ap (λ b. q x && b) (all_alike p q xs (λ k y at. each (suc k) y at))

pub open_latest : OpenIsLatest
open_latest = λ plan history job pass g block planned undeclined apart legal quiet there opened.
    let raceless = unraced plan (numbered_of plan planned) undeclined history legal in
    (last_law plan job.file block history raceless legal (quiet_is_fine plan history raceless legal quiet)).landed
    (none_over plan planned apart job.clone job there history legal (open_parts history (pass_of job pass) g opened).still block)

-- a write that may be taken up is intact just where it was issued last
taken_latest : (plan : Plan) (history : List Event) (write : WriteId) (job : SubJob) (draw : Draw) (intact : Bool) → IsPlanned plan → none_declines plan ≡ true → is_legal plan history ≡ true → is_quiet history ≡ true → clone_of plan write.clone ≡ Some job → slice_get (draws_of_job job write.pass) write.number ≡ Some draw → IsTakeUp plan history intact write → is_latest history write draw.piece ≡ intact
taken_latest plan history write job draw intact planned undeclined legal quiet there drawn take =
    let job_is : take.job ≡ job = same_Some take.job job (sym take.names.planned ∙ there) in
    let draw_is : take.draw ≡ draw = same_Some take.draw draw (sym take.names.drawn ∙ ap (λ (j : SubJob). slice_get (draws_of_job j write.pass) write.number) job_is ∙ drawn) in
    let sectors = sectors_of plan planned write.clone take.job take.names.planned write.pass write.number take.draw take.names.drawn in
    let clear = clear_is_free plan history write.clone take.job false take.draw.piece undeclined take.names.planned
    (may_take_up_parts plan history (pass_of take.job write.pass) take.draw take.may).clear in
    let raceless = unraced plan (numbered_of plan planned) undeclined history legal in
    let fine = quiet_is_fine plan history raceless legal quiet in
    let piece = take.draw.piece in
    let each : is_latest history write piece ≡ is_intact history write piece =
    all_alike (λ b. is_this_write write (last_issued history piece.file b)) (λ b. is_this_write write (last_write history piece.file b)) (blocks_of piece)
    (λ j b at.
    let place = got_ranged (piece.offset / SECTOR) (piece.len / SECTOR) j b at in
    let covers : covers_block piece piece.file b ≡ true = subst (λ x. covers_block piece piece.file x ≡ true) (sym place.0) (covers_own piece sectors j place.1) in
    ap (is_this_write write) (sym ((last_law plan piece.file b history raceless legal fine).landed
    (λ id s over. barred history false piece id s piece.file b clear over.at over.flying over.writes over.covers covers)))) in
    ap (λ (d : Draw). is_latest history write d.piece) (sym draw_is)
    ∙ each
    ∙ ap (λ (w : WriteId). is_intact history w piece) (sym take.names.name)
    ∙ take.intact_is

pub taken_up_latest : TakenUpIsLatest
taken_up_latest = λ plan history worker write piece job draw planned undeclined legal quiet there drawn. (
  λ may. taken_latest plan history write job draw true planned undeclined legal quiet there drawn (probe_of plan history worker write piece (numbered_of plan planned) may),
  λ may. taken_latest plan history write job draw false planned undeclined legal quiet there drawn (skip_of plan history worker write (numbered_of plan planned) may),
)
