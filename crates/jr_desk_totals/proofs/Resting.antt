-- A clone at rest stays so, where nothing more of a clone that is over is started.
use Rattle.std.proofs.Common.{◌≡◌, ℕ, ◌+◌, List, [], ◌∷◌, ◌++◌, true, ◌&&◌, sym, ◌∙◌, ap, arith, inl, inr}
use Rattle.std.specs.Prelude.{◌==◌, None, slice_get}
use Rattle.std.proofs.lemmas.Bool.{and_parts, and_from, cases_Bool, cases_eq, eqb-true, ne_eqb}
use Rattle.jr_model.specs.declared.events.Event.{Event}
use Rattle.jr_model.specs.declared.events.Event.TheVariants.{Issue, Probe, Skip, End, Verdict}
use Rattle.jr_model.specs.declared.blocks.Piece.{Piece}
use Rattle.jr_model.specs.declared.events.IssueKind.{IssueKind}
use Rattle.jr_model.specs.declared.events.WriteId.{WriteId}
use Rattle.jr_model.specs.History.{is_probe, started}
use Rattle.jr_model.specs.Legal.{is_io_of, is_legal, may_happen, is_over, is_at_rest}
use Rattle.jr_model.specs.Plan.{Plan, SubJob}
use Rattle.jr_desk_totals.specs.Tallies.{Tally, awaited, flying_checks, flying_issues, tally_of}
use Rattle.jr_desk_totals.proofs.Bads.{ends_counted, verdicts_counted}
use Rattle.jr_desk_totals.proofs.Compared.{is_at_rest-counts}
use Rattle.jr_desk_totals.proofs.Counted.{tally-more, tally_after-other}

module _ (plan : Plan) (other : SubJob) (h : List Event) (legal : is_legal plan h ≡ true)
    (none_issued : is_over h other ≡ true → (worker : ℕ) (kind : IssueKind) (write : WriteId) (piece : Piece)
    → may_happen plan h (Issue worker kind write piece) ≡ true → write.clone ≡ other.clone → ⊥)
    (none_checked : is_over h other ≡ true → (worker : ℕ) (write : WriteId) (piece : Piece)
    → may_happen plan h (Probe worker write piece) ≡ true → write.clone ≡ other.clone → ⊥) where
  -- its counts stay where they are 0
  same_tally : (e : Event) → is_over h other ≡ true → may_happen plan h e ≡ true → flying_issues h other.clone + flying_checks h other.clone ≡ 0
      → awaited h other.clone ≡ 0 → tally_of (h ++ e ∷ []) other.clone ≡ tally_of h other.clone
  same_tally (Issue worker kind write piece) over may flown told =
      let e = Issue worker kind write piece in
      elim (cases_eq write.clone other.clone) [
        | inl own ↦ absurd (none_issued over worker kind write piece may own)
        | inr apart ↦
            tally-more plan h e other.clone legal may
            ∙ tally_after-other other.clone None e (tally_of h other.clone) (ne_eqb write.clone other.clone apart)
      ]
  same_tally (Probe worker write piece) over may flown told =
      let e = Probe worker write piece in
      elim (cases_eq write.clone other.clone) [
        | inl own ↦ absurd (none_checked over worker write piece may own)
        | inr apart ↦
            tally-more plan h e other.clone legal may
            ∙ tally_after-other other.clone None e (tally_of h other.clone) (ne_eqb write.clone other.clone apart)
      ]
  same_tally (Skip worker write) over may flown told = tally-more plan h (Skip worker write) other.clone legal may
  same_tally (End worker io outcome) over may flown told =
      let e = End worker io outcome in
      let names = ends_counted plan h worker io outcome legal may in
      elim (cases_eq names.ended.write.clone other.clone) [
        | inl own ↦
            absurd (elim (cases_Bool (is_probe names.ended.kind)) [
              | inl check ↦
                  let some = names.check check in
                  let same = ap (flying_checks h) own in
                  omega (arith, flown, some, same)
              | inr issue ↦
                  let some = names.issue issue in
                  let same = ap (flying_issues h) own in
                  omega (arith, flown, some, same)
            ])
        | inr apart ↦
            tally-more plan h e other.clone legal may
            ∙ tally_after-other other.clone (slice_get (started h) io) e (tally_of h other.clone)
            (ap (is_io_of other.clone) names.there ∙ ne_eqb names.ended.write.clone other.clone apart)
      ]
  same_tally (Verdict worker io verdict) over may flown told =
      let e = Verdict worker io verdict in
      let names = verdicts_counted plan h worker io verdict legal may in
      elim (cases_eq names.judged.write.clone other.clone) [
        | inl own ↦
            absurd (let some = names.verdict in
            let same = ap (awaited h) own in
            omega (arith, told, some, same))
        | inr apart ↦
            tally-more plan h e other.clone legal may
            ∙ tally_after-other other.clone (slice_get (started h) io) e (tally_of h other.clone)
            (ap (is_io_of other.clone) names.there ∙ ne_eqb names.judged.write.clone other.clone apart)
      ]

  pub rest_longer : (e : Event) → may_happen plan h e ≡ true → (is_over h other ≡ true → is_over (h ++ e ∷ []) other ≡ true)
      → is_at_rest h other ≡ true → is_at_rest (h ++ e ∷ []) other ≡ true
  rest_longer e may over_longer rest =
      let c = other.clone in
      let later = h ++ e ∷ [] in
      let still = λ (t : Tally). t.issues + t.checks == 0 in
      let told = λ (t : Tally). t.verdicts == 0 in
      let parts = and_parts (is_over h other && still (tally_of h c)) (told (tally_of h c)) (sym (is_at_rest-counts h other) ∙ rest) in
      let two = and_parts (is_over h other) (still (tally_of h c)) parts.0 in
      let same = same_tally e two.0 may (eqb-true (flying_issues h c + flying_checks h c) 0 two.1) (eqb-true (awaited h c) 0 parts.1) in
      is_at_rest-counts later other
      ∙ and_from (is_over later other && still (tally_of later c)) (told (tally_of later c))
      (and_from (is_over later other) (still (tally_of later c)) (over_longer two.0) (ap still same ∙ two.1))
      (ap told same ∙ parts.1)
