-- Each clone has the file of the name that it asks for, whichever clones come.
use Rattle.std.proofs.Common.{◌≡◌, ℕ, zero, suc, nat_eq, ◌+◌, ◌*◌, Bool, true, false, cond, ◌||◌, List, [], ◌∷◌, ◌++◌, length, map, slice_get, Some, ap, ◌∙◌, sym, subst, arith, refl, inl, inr, append-nil}
use Rattle.std.specs.Prelude.{fold, unwrap_or, Option}
use Rattle.std.specs.List.{list_any}
use Rattle.std.specs.Cmp.Lexicographic.{pointwise}
use Rattle.std.proofs.lemmas.Bool.{and_parts, and_from, eq-eqb, eqb-true}
use Rattle.std.proofs.lemmas.List.{append_assoc, length_push, map-append}
use Rattle.std.proofs.lemmas.List.Sums.{fold-append}
use Rattle.std.proofs.lemmas.Option.{slice_get_within}
use Rattle.jr_model.specs.Plan.{SubJob, FileSpec}
use Rattle.jr_plan.proofs.DraftLemmas.{slice_get-push}
use Rattle.jr_plan.specs.Clones.{planned_clone}
use Rattle.jr_plan.specs.Drafts.{Clones}
use Rattle.jr_plan.specs.Files.{same_text, file_place, with_file, widened}
use Rattle.jr_options.specs.FileNames.{asked, name_asked, with_name, first_uses, file_names, FilesAreNamed, FilesAreShared, FilesInOrder}
use Rattle.jr_options.specs.Planned.{workload_of}
use Rattle.jr_options.specs.PlanOf.{PhasedJob, planned_as, with_asked, no_clones, plan_of}
use Rattle.jr_options.specs.Surveys.{start_of}

-- texts are the same exactly where they are equal
same_self : (xs : List ℕ) → same_text xs xs ≡ true
same_self [] = refl
same_self (x ∷ xs) = and_from (nat_eq x x) (pointwise nat_eq xs xs) (eq-eqb x x refl) (same_self xs)

text_is : (xs ys : List ℕ) → same_text xs ys ≡ true → xs ≡ ys
text_is [] [] h = refl
text_is [] (y ∷ ys) h = absurd (cc)
text_is (x ∷ xs) [] h = absurd (cc)
text_is (x ∷ xs) (y ∷ ys) h =
    let parts = and_parts (nat_eq x y) (pointwise nat_eq xs ys) h in
    ap (λ n. n ∷ xs) (eqb-true x y parts.0) ∙ ap (λ ns. y ∷ ns) (text_is xs ys parts.1)

some_is : (x y : List ℕ) → Some x ≡ Some y → x ≡ y
some_is x y h = ap (λ (o : Option (List ℕ)). unwrap_or o x) h

-- the names once a clone uses a file of this name
names-step : (b any : Bool) (file : FileSpec) (files rest : List FileSpec) (name : List ℕ) (low high : ℕ) → file_names rest ≡ cond any (file_names files) (file_names files ++ name ∷ []) → file_names (cond b (widened file low high ∷ files) (file ∷ rest)) ≡ cond (b || any) (file.name ∷ file_names files) ((file.name ∷ file_names files) ++ name ∷ [])
names-step true any file files rest name low high h = refl
names-step false true file files rest name low high h = ap (λ names. file.name ∷ names) h
names-step false false file files rest name low high h = ap (λ names. file.name ∷ names) h

names_with : (files : List FileSpec) (name : List ℕ) (low high : ℕ) → file_names (with_file files name low high) ≡ with_name (file_names files) name
names_with [] name low high = refl
names_with (file ∷ files) name low high =
    names-step (same_text file.name name) (list_any (λ (other : List ℕ). same_text other name) (file_names files)) file files (with_file files name low high) name low high (names_with files name low high)

-- the clone's file has its name
own-step : (b : Bool) (file : FileSpec) (files rest : List FileSpec) (name : List ℕ) (low high place : ℕ) → same_text file.name name ≡ b → slice_get (file_names rest) place ≡ Some name → slice_get (file_names (cond b (widened file low high ∷ files) (file ∷ rest))) (cond b 0 (suc place)) ≡ Some name
own-step true file files rest name low high place is more = ap Some (text_is file.name name is)
own-step false file files rest name low high place is more = more

own_name : (files : List FileSpec) (name : List ℕ) (low high : ℕ) → slice_get (file_names (with_file files name low high)) (file_place files name) ≡ Some name
own_name [] name low high = refl
own_name (file ∷ files) name low high =
    own-step (same_text file.name name) file files (with_file files name low high) name low high (file_place files name) refl (own_name files name low high)

-- and the others keep theirs
kept-step : (b : Bool) (file : FileSpec) (files rest : List FileSpec) (low high f : ℕ) (other : List ℕ) → slice_get (file.name ∷ file_names files) f ≡ Some other → ((k : ℕ) → slice_get (file_names files) k ≡ Some other → slice_get (file_names rest) k ≡ Some other) → slice_get (file_names (cond b (widened file low high ∷ files) (file ∷ rest))) f ≡ Some other
kept-step true file files rest low high f other at more = at
kept-step false file files rest low high zero other at more = at
kept-step false file files rest low high (suc k) other at more = more k at

kept_name : (files : List FileSpec) (name : List ℕ) (low high f : ℕ) (other : List ℕ) → slice_get (file_names files) f ≡ Some other → slice_get (file_names (with_file files name low high)) f ≡ Some other
kept_name [] name low high f other at = absurd (cc)
kept_name (file ∷ files) name low high f other at =
    kept-step (same_text file.name name) file files (with_file files name low high) low high f other at (λ k h. kept_name files name low high k other h)

-- a name that has a file stays at its place
place-step : (b same : Bool) (file : FileSpec) (files rest : List FileSpec) (low high : ℕ) (other : List ℕ) → same_text file.name other ≡ same → slice_get (file.name ∷ file_names files) (cond same 0 (suc (file_place files other))) ≡ Some other → (slice_get (file_names files) (file_place files other) ≡ Some other → file_place rest other ≡ file_place files other) → file_place (cond b (widened file low high ∷ files) (file ∷ rest)) other ≡ cond same 0 (suc (file_place files other))
place-step true same file files rest low high other is at more = ap (λ v. cond v 0 (suc (file_place files other))) is
place-step false true file files rest low high other is at more = ap (λ v. cond v 0 (suc (file_place rest other))) is
place-step false false file files rest low high other is at more = ap (λ v. cond v 0 (suc (file_place rest other))) is ∙ ap suc (more at)

kept_place : (files : List FileSpec) (name : List ℕ) (low high : ℕ) (other : List ℕ) → slice_get (file_names files) (file_place files other) ≡ Some other → file_place (with_file files name low high) other ≡ file_place files other
kept_place [] name low high other at = absurd (cc)
kept_place (file ∷ files) name low high other at =
    place-step (same_text file.name name) (same_text file.name other) file files (with_file files name low high) low high other refl at (λ h. kept_place files name low high other h)

place-own : (b : Bool) (file : FileSpec) (files rest : List FileSpec) (name : List ℕ) (low high : ℕ) → same_text file.name name ≡ b → file_place rest name ≡ file_place files name → file_place (cond b (widened file low high ∷ files) (file ∷ rest)) name ≡ cond b 0 (suc (file_place files name))
place-own true file files rest name low high is more = ap (λ v. cond v 0 (suc (file_place files name))) is
place-own false file files rest name low high is more = ap (λ v. cond v 0 (suc (file_place rest name))) is ∙ ap suc more

own_place : (files : List FileSpec) (name : List ℕ) (low high : ℕ) → file_place (with_file files name low high) name ≡ file_place files name
own_place [] name low high = ap (λ v. cond v 0 1) (same_self name)
own_place (file ∷ files) name low high =
    place-own (same_text file.name name) file files (with_file files name low high) name low high refl (own_place files name low high)

-- these clones were asked for so, and have the files that they ask for
record AreNamed (d : Clones) (cs : List (ℕ × PhasedJob)) : Type 0 where
  many : length d.clones ≡ length cs
  ordered : file_names d.files ≡ first_uses (map name_asked cs)
  named : (i : ℕ) (job : SubJob) (c : ℕ × PhasedJob) → slice_get d.clones i ≡ Some job → slice_get cs i ≡ Some c → slice_get (file_names d.files) job.file ≡ Some (name_asked c)
  placed : (i : ℕ) (job : SubJob) (c : ℕ × PhasedJob) → slice_get d.clones i ≡ Some job → slice_get cs i ≡ Some c → job.file ≡ file_place d.files (name_asked c)

-- what holds of each clone and what it asked for, and of one more, holds of all
each-more : (clones : List SubJob) (cs : List (ℕ × PhasedJob)) (last : SubJob) (c : ℕ × PhasedJob) (P : SubJob → ℕ × PhasedJob → Type 0) → length clones ≡ length cs → ((i : ℕ) (job : SubJob) (x : ℕ × PhasedJob) → slice_get clones i ≡ Some job → slice_get cs i ≡ Some x → P job x) → P last c → (i : ℕ) (job : SubJob) (x : ℕ × PhasedJob) → slice_get (clones ++ last ∷ []) i ≡ Some job → slice_get (cs ++ c ∷ []) i ≡ Some x → P job x
each-more clones cs last c P many each own i job x at asks =
    elim (slice_get-push clones last i job at) [
      | inl before ↦ elim (slice_get-push cs c i x asks) [
        | inl also ↦ each i job x before also
        | inr late ↦ absurd (omega (arith, slice_get_within clones i job before, late.0, many))
      ]
      | inr here ↦ elim (slice_get-push cs c i x asks) [
        | inl early ↦ absurd (omega (arith, slice_get_within cs i x early, here.0, many))
        | inr also ↦ subst (P job) also.1 (subst (λ j. P j c) here.1 own)
      ]
    ]

named-more : (d : Clones) (cs : List (ℕ × PhasedJob)) (c : ℕ × PhasedJob) → AreNamed d cs → AreNamed (with_asked d c) (cs ++ c ∷ [])
named-more d cs c h =
    let name = name_asked c in
    let low = start_of c.1.job.options c.0 in
    let high = low + (planned_as c.1).shape.cells * (planned_as c.1).shape.cell in
    let files = with_file d.files name low high in
    let last = planned_clone (workload_of (planned_as c.1)) c.1.job.name (length d.clones) (file_place d.files name) low in
    record {
      many = omega (arith, length_push d.clones last, length_push cs c, h.many);
      ordered =
          names_with d.files name low high
          ∙ ap (λ names. with_name names name) h.ordered
          ∙ sym (ap first_uses (map-append name_asked cs (c ∷ [])) ∙ fold-append with_name [] (map name_asked cs) (name ∷ []));
      named = each-more d.clones cs last c (λ job x. slice_get (file_names files) job.file ≡ Some (name_asked x)) h.many
          (λ i job x at asks. kept_name d.files name low high job.file (name_asked x) (h.named i job x at asks))
          (own_name d.files name low high);
      placed = each-more d.clones cs last c (λ job x. job.file ≡ file_place files (name_asked x)) h.many
          (λ i job x at asks.
          let is = h.placed i job x at asks in
          is ∙ sym (kept_place d.files name low high (name_asked x) (subst (λ f. slice_get (file_names d.files) f ≡ Some (name_asked x)) is (h.named i job x at asks))))
          (sym (own_place d.files name low high));
    }

named-all : (rest cs : List (ℕ × PhasedJob)) (d : Clones) → AreNamed d cs → AreNamed (fold with_asked d rest) (cs ++ rest)
named-all [] cs d h = subst (AreNamed d) (sym (append-nil cs)) h
named-all (c ∷ rest) cs d h =
    subst (AreNamed (fold with_asked (with_asked d c) rest)) (append_assoc cs (c ∷ []) rest) (named-all rest (cs ++ c ∷ []) (with_asked d c) (named-more d cs c h))

named-none : AreNamed no_clones []
named-none = record { many = refl; ordered = refl; named = λ i job c at. absurd (cc); placed = λ i job c at. absurd (cc) }

-- lists of one length with equal values in each place are equal
same-each : (clones : List SubJob) (cs : List (ℕ × PhasedJob)) (f : SubJob → Option (List ℕ)) → length clones ≡ length cs → ((i : ℕ) (job : SubJob) (c : ℕ × PhasedJob) → slice_get clones i ≡ Some job → slice_get cs i ≡ Some c → f job ≡ Some (name_asked c)) → map f clones ≡ map (λ (c : ℕ × PhasedJob). Some (name_asked c)) cs
same-each [] [] f many each = refl
same-each [] (c ∷ cs) f many each = absurd (omega (arith, many))
same-each (job ∷ clones) [] f many each = absurd (omega (arith, many))
same-each (job ∷ clones) (c ∷ cs) f many each =
    ap (λ o. o ∷ map f clones) (each 0 job c refl refl)
    ∙ ap (λ os. Some (name_asked c) ∷ os) (same-each clones cs f (omega (arith, many)) (λ i other x at asks. each (suc i) other x at asks))

pub are_named : FilesAreNamed
unfolding plan_of
are_named = λ sections only.
    let h = named-all (asked sections only) [] no_clones named-none in
    same-each (plan_of sections only).clones (asked sections only) (λ (job : SubJob). slice_get (file_names (plan_of sections only).files) job.file) h.many h.named

pub are_shared : FilesAreShared
unfolding plan_of
are_shared = λ sections only i j a b c d at_i at_j asks_i asks_j.
    let h = named-all (asked sections only) [] no_clones named-none in
    let names = file_names (plan_of sections only).files in (
      λ same. some_is (name_asked c) (name_asked d) (sym (h.named i a c at_i asks_i) ∙ ap (slice_get names) same ∙ h.named j b d at_j asks_j),
      λ same. h.placed i a c at_i asks_i ∙ ap (file_place (plan_of sections only).files) same ∙ sym (h.placed j b d at_j asks_j),
    )

pub in_order : FilesInOrder
unfolding plan_of
in_order = λ sections only. (named-all (asked sections only) [] no_clones named-none).ordered
