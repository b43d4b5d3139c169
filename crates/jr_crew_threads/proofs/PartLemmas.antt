-- The parts of the hand-over: how they are given to threads and taken in again, and that what was taken was put.
use Rattle.std.proofs.Common.{◌≡◌, ℕ, suc, ◌+◌, ◌<◌, Bool, true, false, List, [], ◌∷◌, ◌++◌, length, map, flat_map, replicate, refl, sym, ◌∙◌, ap, subst, arith, append-nil, append_assoc, ⊎_elim, IsPermutation}
use Rattle.std.specs.Prelude.{All, Contains, OnOk, Result, Ok, Err, Some, slice_get, slice_index_or}
use Rattle.std.specs.Option.{option_map}
use Rattle.std.proofs.lemmas.List.{map-append}
use Rattle.std.proofs.lemmas.List.Elements.{All-contains, All-push, All-same, All-weaker, All-replicate, Contains-append_cases, Contains-append_left, Contains-append_right, Contains-push}
use Rattle.std.proofs.lemmas.List.Concat.{flat_map-append}
use Rattle.std.proofs.lemmas.Option.{get_or_from_slice_get, slice_get-get_or, slice_get-map, slice_get_within}
use Rattle.std.proofs.lemmas.List.Sorted.{Contains-permutation, IsPermutation-sym}
use Rattle.jr_model.specs.declared.events.Event.{Event}
use Rattle.jr_model.specs.declared.events.Event.TheVariants.{Verdict}
use Rattle.jr_model.specs.declared.events.Verdict.{Verdict as GivenVerdict}
use Rattle.jr_engines.specs.Answers.{AnswerParts}
use Rattle.jr_crew_channel.specs.declared.parcel.Parcel.{Parcel}
use Rattle.jr_crew_channel.specs.declared.parcel.Parcel.TheVariants.{Check, Stop}
use Rattle.jr_crew_channel.specs.declared.parcel.PassState.{PassState}
use Rattle.jr_crew_channel.specs.PassStates.{PARTS, first_state, given_of, kept_of, pass_with, with_taken}
use Rattle.jr_crew_channel.proofs.Steps.{cut-many}
use Rattle.jr_crew_books.specs.declared.books.Said.{Said}
use Rattle.jr_crew_books.specs.Books.{IsVerdictIn}
use Rattle.jr_crew_threads.specs.Judging.{AreChecksOf, AreSaidOf, IsJudging, IsSaidOfOne, IsSourced}
use Rattle.jr_crew_threads.specs.Parts.{IsLess, IsMore, IsTaker, one_part}

-- one part was given away
pub one_less : (old new : PassState) → 1 < old.parts → new ≡ kept_of old → IsLess 1 old new
one_less old new more same =
    let cut = cut-many old more in record {
      parts = ap (λ (v : PassState). v.parts + 1) same ∙ cut.0;
      of = ap (λ (v : PassState). v.of) same ∙ cut.1;
      put = ap (λ (v : PassState). v.put) same;
      taken = ap (λ (v : PassState). v.taken) same;
    }

-- and it is one of the whole
pub one_given : (old new : PassState) → 1 < old.parts → old.of ≡ PARTS → new ≡ given_of old → new ≡ one_part
one_given old new more whole same = same ∙ ap (λ (n : ℕ). pass_with 1 n [] []) ((cut-many old more).1 ∙ whole)

-- none yet
pub none_less : (v : PassState) → IsLess 0 v v
none_less v = let all : v.parts + 0 ≡ v.parts = omega arith in record { parts = all; of = refl; put = refl; taken = refl }

-- and one more
pub less_on : (n m : ℕ) (first old new : PassState) → m ≡ n + 1 → IsLess n first old → IsLess 1 old new → IsLess m first new
less_on n m first old new next before one = record {
  parts = omega (arith, next, before.parts, one.parts);
  of = one.of ∙ before.of;
  put = one.put ∙ before.put;
  taken = one.taken ∙ before.taken;
}

-- as many again
pub less_more : (n m : ℕ) (first old new : PassState) → IsLess n first old → IsLess m old new → IsLess (m + n) first new
less_more n m first old new before more = record {
  parts = omega (arith, before.parts, more.parts);
  of = more.of ∙ before.of;
  put = more.put ∙ before.put;
  taken = more.taken ∙ before.taken;
}

-- none yet
pub none_more : (v : PassState) → IsMore 0 [] [] v v
none_more v = let all : v.parts ≡ v.parts + 0 = omega arith in record { parts = all; of = refl; put = sym (append-nil v.put); taken = sym (append-nil v.taken) }

-- one part more, behind others
pub more_on : (n k m : ℕ) (put taken more_put more_taken all_put all_taken : List Parcel) (first old new : PassState) → IsMore n put taken first old → IsMore k more_put more_taken old new → m ≡ n + k → all_put ≡ put ++ more_put → all_taken ≡ taken ++ more_taken → IsMore m all_put all_taken first new
more_on n k m put taken more_put more_taken all_put all_taken first old new before more next puts takens = record {
  parts = omega (arith, before.parts, more.parts, next);
  of = more.of ∙ before.of;
  put = more.put ∙ ap (λ (l : List Parcel). l ++ more_put) before.put ∙ append_assoc first.put put more_put ∙ ap (λ (l : List Parcel). first.put ++ l) (sym puts);
  taken = more.taken ∙ ap (λ (l : List Parcel). l ++ more_taken) before.taken ∙ append_assoc first.taken taken more_taken ∙ ap (λ (l : List Parcel). first.taken ++ l) (sym takens);
}

-- what is of these checks is of more
pub said_of_more : (parcels more : List Parcel) (said : Said) → IsSaidOfOne parcels said → IsSaidOfOne (parcels ++ more) said
said_of_more parcels more said one = record {
  answer = one.answer;
  among = Contains-append_left parcels more (Check one.answer) one.among;
  number = one.number;
  says = one.says;
}

-- or of others, where all of these checks are among them
pub said_of_others : (parcels others : List Parcel) → ((answer : AnswerParts) → Contains parcels (Check answer) → Contains others (Check answer)) → (said : Said) → IsSaidOfOne parcels said → IsSaidOfOne others said
said_of_others parcels others among said one = record {
  answer = one.answer;
  among = among one.answer one.among;
  number = one.number;
  says = one.says;
}

-- a book more
pub books_on : {B : Type 0} (items : B → List Said) (parcels more all : List Parcel) (books new : List B) (book : B) → AreSaidOf items parcels books → All (IsSaidOfOne more) (items book) → all ≡ parcels ++ more → new ≡ books ++ book ∷ [] → AreSaidOf items all new
books_on {B} items parcels more all books new book are is together same =
    subst (λ (l : List Parcel). AreSaidOf items l new) (sym together)
    (All-same (λ (b : B). All (IsSaidOfOne (parcels ++ more)) (items b)) new (books ++ book ∷ []) same
    (All-push (λ (b : B). All (IsSaidOfOne (parcels ++ more)) (items b)) books book
    (All-weaker (λ (b : B). All (IsSaidOfOne parcels) (items b)) (λ (b : B). All (IsSaidOfOne (parcels ++ more)) (items b))
    (λ b of. All-weaker (IsSaidOfOne parcels) (IsSaidOfOne (parcels ++ more)) (said_of_more parcels more) (items b) of) books are)
    (All-weaker (IsSaidOfOne more) (IsSaidOfOne (parcels ++ more))
    (said_of_others more (parcels ++ more) (λ answer. Contains-append_right parcels more (Check answer))) (items book) is)))

-- a check is no stop
no_stop : (n : ℕ) (answer : AnswerParts) → Contains (replicate n Stop) (Check answer) → ⊥
no_stop n answer among =
    let same : Check answer ≡ Stop = All-contains (λ (p : Parcel). p ≡ Stop) (replicate n Stop) (Check answer) (All-replicate (λ (p : Parcel). p ≡ Stop) n Stop refl) among in cc

-- what was taken was put, and no check was put but by workers
pub taken_was_put : {B : Type 0} (items : B → List Said) (books : List B) (n : ℕ) (taken left put : List Parcel) (pass : PassState) → AreSaidOf items taken books → IsPermutation pass.put (pass.taken ++ left) → pass.put ≡ replicate n Stop ++ put → pass.taken ≡ taken → AreSaidOf items put books
taken_was_put {B} items books n taken left put pass are balanced puts takens =
    All-weaker (λ (b : B). All (IsSaidOfOne taken) (items b)) (λ (b : B). All (IsSaidOfOne put) (items b))
    (λ b of. All-weaker (IsSaidOfOne taken) (IsSaidOfOne put) (said_of_others taken put among) (items b) of) books are
  where
    among : (answer : AnswerParts) → Contains taken (Check answer) → Contains put (Check answer)
    among answer has =
        let there : Contains (pass.taken ++ left) (Check answer) =
        Contains-append_left pass.taken left (Check answer) (subst (λ (l : List Parcel). Contains l (Check answer)) (sym takens) has) in
        let here : Contains (replicate n Stop ++ put) (Check answer) =
        subst (λ (l : List Parcel). Contains l (Check answer)) puts
        (Contains-permutation (pass.taken ++ left) pass.put (Check answer) (IsPermutation-sym pass.put (pass.taken ++ left) balanced) there) in
        ⊎_elim (λ stop. absurd (no_stop n answer stop)) (λ in_put. in_put) (Contains-append_cases (replicate n Stop) put (Check answer) here)

-- what is so where it succeeded
pub on_ok : {X E : Type 0} (r : Result X E) (A B : Type 0) → (A → B) → OnOk r A → OnOk r B
on_ok (Ok x) A B f a = f a
on_ok (Err e) A B f a = tt

-- what is made of one more
pub map_on : {X Y : Type 0} (f : X → Y) (xs : List X) (x : X) (old new : List Y) → old ≡ map f xs → new ≡ old ++ f x ∷ [] → new ≡ map f (xs ++ x ∷ [])
map_on {Y = Y} f xs x old new so is = is ∙ ap (λ (ys : List Y). ys ++ f x ∷ []) so ∙ sym (map-append f xs (x ∷ []))

pub map_both_on : {X Y B : Type 0} (f : B → Y) (g : X → Y) (xs : List X) (x : X) (old new : List B) (b : B) → map f old ≡ map g xs → new ≡ old ++ b ∷ [] → g x ≡ f b → map f new ≡ map g (xs ++ x ∷ [])
map_both_on {Y = Y} f g xs x old new b so is same =
    ap (map f) is
    ∙ map-append f old (b ∷ [])
    ∙ ap (λ (ys : List Y). ys ++ f b ∷ []) so
    ∙ ap (λ (y : Y). map g xs ++ y ∷ []) (sym same)
    ∙ sym (map-append g xs (x ∷ []))

-- the lists of one more
pub flat_on : {X Y : Type 0} (f : X → List Y) (xs : List X) (x : X) → flat_map f (xs ++ x ∷ []) ≡ flat_map f xs ++ f x
flat_on {Y = Y} f xs x = flat_map-append f xs (x ∷ []) ∙ ap (λ (ys : List Y). flat_map f xs ++ ys) (append-nil (f x))

-- all parts are back: what was put by workers, and what verifiers took
pub all_back : (n w j : ℕ) (put taken : List Parcel) (first middle last pass : PassState) → first.put ≡ replicate n Stop → first.taken ≡ [] → IsMore w put [] first middle → IsMore j [] taken middle last → pass ≡ last → (pass.put ≡ replicate n Stop ++ put) × (pass.taken ≡ taken)
all_back n w j put taken first middle last pass stops none workers judges same = (
  ap (λ (v : PassState). v.put) same
      ∙ judges.put
      ∙ append-nil middle.put
      ∙ workers.put
      ∙ ap (λ (l : List Parcel). l ++ put) stops,
  ap (λ (v : PassState). v.taken) same
      ∙ judges.taken
      ∙ ap (λ (l : List Parcel). l ++ taken) (workers.taken ∙ append-nil first.taken ∙ none),
)

-- nothing was taken yet, and one more, and more
pub taken_first : (old new : PassState) (parcel : Parcel) → new ≡ with_taken old parcel → IsTaker old new
taken_first old new parcel same = record {
  parts = ap (λ (v : PassState). v.parts) same;
  of = ap (λ (v : PassState). v.of) same;
  put = ap (λ (v : PassState). v.put) same;
  more = parcel ∷ [];
  taken = ap (λ (v : PassState). v.taken) same;
}

pub taken_on : (first old new : PassState) (parcel : Parcel) → IsTaker first old → new ≡ with_taken old parcel → IsTaker first new
taken_on first old new parcel before same = record {
  parts = ap (λ (v : PassState). v.parts) same ∙ before.parts;
  of = ap (λ (v : PassState). v.of) same ∙ before.of;
  put = ap (λ (v : PassState). v.put) same ∙ before.put;
  more = before.more ++ parcel ∷ [];
  taken =
      ap (λ (v : PassState). v.taken) same
      ∙ ap (λ (l : List Parcel). l ++ parcel ∷ []) before.taken
      ∙ append_assoc first.taken before.more (parcel ∷ []);
}

-- it is among what was taken
pub just_taken : (old new : PassState) (parcel : Parcel) → new ≡ with_taken old parcel → Contains new.taken parcel
just_taken old new parcel same = subst (λ (v : PassState). Contains v.taken parcel) (sym same) (Contains-push old.taken parcel)

-- what was taken before still is
pub checks_on : (answers : List AnswerParts) (old new : PassState) (parcel : Parcel) → AreChecksOf old.taken answers → new ≡ with_taken old parcel → AreChecksOf new.taken answers
checks_on answers old new parcel are same =
    subst (λ (v : PassState). AreChecksOf v.taken answers) (sym same)
    (All-weaker (λ (a : AnswerParts). Contains old.taken (Check a)) (λ (a : AnswerParts). Contains (old.taken ++ parcel ∷ []) (Check a))
    (λ a. Contains-append_left old.taken (parcel ∷ []) (Check a)) answers are)

-- the next of a list of checks is one of them
pub check_at : {T : Type 0} (answer_of : T → AnswerParts) (parcels : List Parcel) (told : List T) (i : ℕ) (one : T) → i < length told → one ≡ slice_index_or told i one → AreChecksOf parcels (map answer_of told) → Contains parcels (Check (answer_of one))
check_at answer_of parcels told i one within here are =
    let there : slice_get told i ≡ Some one = slice_get-get_or told i one within ∙ ap Some (sym here) in
    let its : slice_get (map answer_of told) i ≡ Some (answer_of one) = slice_get-map answer_of told i ∙ ap (option_map answer_of) there in
    All-contains (λ (a : AnswerParts). Contains parcels (Check a)) (map answer_of told) (answer_of one) are
    (i, slice_get_within (map answer_of told) i (answer_of one) its, get_or_from_slice_get (map answer_of told) i (answer_of one) (answer_of one) its)

-- what was said of more
pub judged_on : (old new : PassState) (book more : List Said) (answers : List AnswerParts) → IsJudging old book → IsTaker old new → AreChecksOf new.taken answers → ((parcels : List Parcel) → AreChecksOf parcels answers → All (IsSaidOfOne parcels) book → All (IsSaidOfOne parcels) more) → IsJudging new more
judged_on old new book more answers judging took checks says = record {
  parts = took.parts ∙ judging.parts;
  of = took.of ∙ judging.of;
  put = took.put ∙ judging.put;
  said = says new.taken checks
      (All-weaker (IsSaidOfOne old.taken) (IsSaidOfOne new.taken)
      (λ said one. subst (λ (l : List Parcel). IsSaidOfOne l said) (sym took.taken) (said_of_more old.taken took.more said one)) book judging.said);
}

-- whose list it is in
from_flat : {W : Type 0} (put_of : W → List Parcel) (ended : List W) (x : Parcel) → Contains (flat_map put_of ended) x → (i : ℕ) × (put : List Parcel) × (slice_get (map put_of ended) i ≡ Some put) × Contains put x
from_flat put_of [] x has = let below = has.1 in absurd (omega (arith, below))
from_flat {W} put_of (w ∷ ended) x has =
    ⊎_elim (λ here. (0, put_of w, refl, here))
    (λ behind. let rest = from_flat put_of ended x behind in (suc rest.0, rest.1, rest.2, rest.3))
    (Contains-append_cases (put_of w) (flat_map put_of ended) x has)

-- a verdict that stands in a verifier's book is on a check that a worker handed over
pub sourced : {B W : Type 0} (items : B → List Said) (put_of : W → List Parcel) (books : List B) (ended : List W) (history : List Event) → AreSaidOf items (flat_map put_of ended) books → All (IsVerdictIn books items) history → (w io : ℕ) (v : GivenVerdict) → Contains history (Verdict w io v) → IsSourced (map put_of ended) io v
sourced items put_of books ended history are all w io v has =
    let parcels = flat_map put_of ended in
    let stands = All-contains (IsVerdictIn books items) history (Verdict w io v) all has in
    let of_book : All (IsSaidOfOne parcels) (items stands.book) =
    All-contains (λ b. All (IsSaidOfOne parcels) (items b)) books stands.book are
    (stands.at, slice_get_within books stands.at stands.book stands.there, get_or_from_slice_get books stands.at stands.book stands.book stands.there) in
    let one = All-contains (IsSaidOfOne parcels) (items stands.book) (record { io = io; verdict = v }) of_book stands.among in
    let from = from_flat put_of ended (Check one.answer) one.among in record {
      at = from.0;
      put = from.1;
      there = from.2;
      answer = one.answer;
      among = from.3;
      number = one.number;
      says = one.says;
    }

-- where something was answered at all, all verifiers were there
pub all_there : {X F : Type 0} (b : Bool) (r : Result X F) (x : X) (fault : F) → (b ≡ false → r ≡ Err fault) → r ≡ Ok x → b ≡ true
all_there true r x fault refused is = refl
all_there false r x fault refused is = let bad : Err fault ≡ Ok x = sym (refused refl) ∙ is in cc

-- the part that was given to nobody, once all were told to stop
pub record IsRest (workers verifiers : ℕ) (pass : PassState) : Type 0 where
  pub parts : pass.parts + workers + verifiers ≡ PARTS
  pub of : pass.of ≡ PARTS
  pub put : pass.put ≡ replicate verifiers Stop
  pub taken : pass.taken ≡ []

pub rest_of : (workers verifiers started judged : ℕ) (old new : PassState) → IsLess (workers + verifiers) first_state old → IsMore 0 (replicate started Stop) [] old new → judged ≡ started → started ≡ verifiers → IsRest workers judged new
rest_of workers verifiers started judged old new whole more same all = record {
  parts =
      let before : old.parts + (workers + verifiers) ≡ PARTS = whole.parts in
      let after : new.parts ≡ old.parts = more.parts ∙ none old.parts in omega (arith, before, after, same, all);
  of = more.of ∙ whole.of;
  put = more.put ∙ ap (λ (l : List Parcel). l ++ replicate started Stop) whole.put ∙ ap (λ (n : ℕ). replicate n Stop) (sym same);
  taken = more.taken ∙ append-nil old.taken ∙ whole.taken;
}
  where
    none : (n : ℕ) → n + 0 ≡ n
    none n = omega arith
