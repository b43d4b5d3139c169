-- Internal: what verifiers say of the checks that they take, and whose checks these are (of this project).
use Rattle.std.specs.Prelude.{◌≡◌, ℕ, false, All, Contains, List, [], slice_get, Some}
use Rattle.jr_model.specs.declared.events.Verdict.{Verdict}
use Rattle.jr_model.specs.Legal.{is_void}
use Rattle.jr_engines.specs.Answers.{AnswerParts}
use Rattle.jr_crew_channel.specs.declared.parcel.Parcel.{Parcel}
use Rattle.jr_crew_channel.specs.declared.parcel.Parcel.TheVariants.{Check}
use Rattle.jr_crew_channel.specs.declared.parcel.PassState.{PassState}
use Rattle.jr_crew_channel.specs.PassStates.{PARTS}
use Rattle.jr_header.specs.Served.{answer_verdict}
use Rattle.jr_crew_books.specs.declared.books.Said.{Said}

-- the answers are checks among these parcels
abbrev pub AreChecksOf : List Parcel → List AnswerParts → Type 0
AreChecksOf parcels answers = All (λ answer. Contains parcels (Check answer)) answers

-- a check among these parcels has this number, and this is its verdict unless it raced
pub record IsSaidOfOne (parcels : List Parcel) (said : Said) : Type 0 where
  pub answer : AnswerParts
  pub among : Contains parcels (Check answer)
  pub number : said.io ≡ answer.ticket.id
  pub says : is_void said.verdict ≡ false → said.verdict ≡ answer_verdict answer

-- each verdict of these books is of a check among these parcels
abbrev pub AreSaidOf : {B : Type 0} → (B → List Said) → List Parcel → List B → Type 0
AreSaidOf items parcels books = All (λ book. All (IsSaidOfOne parcels) (items book)) books

-- what a verifier did: it put nothing, and each verdict of its book is of a check that it took
pub record IsJudging (pass : PassState) (book : List Said) : Type 0 where
  pub parts : pass.parts ≡ 1
  pub of : pass.of ≡ PARTS
  pub put : pass.put ≡ []
  pub said : All (IsSaidOfOne pass.taken) book

-- the verdict is that on a check that one of the workers handed over
pub record IsSourced (puts : List (List Parcel)) (io : ℕ) (verdict : Verdict) : Type 0 where
  pub at : ℕ
  pub put : List Parcel
  pub there : slice_get puts at ≡ Some put
  pub answer : AnswerParts
  pub among : Contains put (Check answer)
  pub number : io ≡ answer.ticket.id
  pub says : is_void verdict ≡ false → verdict ≡ answer_verdict answer
