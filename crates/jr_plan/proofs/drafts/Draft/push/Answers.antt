use Rattle.std.proofs.Common.{◌≡◌, ◌+◌, ◌*◌, [], ◌∷◌, ◌++◌, length, string_bytes, List, arith, ap, ◌∙◌, refl}
use Rattle.std.proofs.lemmas.List.Sums.{sum_by-append}
use Rattle.jr_model.specs.Plan.{SubJob}
use Rattle.jr_plan.specs.Clones.{planned_clone}
use Rattle.jr_plan.specs.Drafts.{Clones}
use Rattle.jr_plan.specs.Files.{with_file}
use Rattle.jr_model.specs.PlanFacts.{work_of}
use Rattle.jr_plan.proofs.DraftLemmas.{lengths, drafted-push}
use Rattle.jr_plan.proofs.LimitLemmas.{taken_of, limits_kept}
use Rattle.jr_plan.proofs.drafts.Draft.push.Goals as goal

pub overflow_cast-file : goal.overflow_cast-file
overflow_cast-file c =
    let files = c.self.inside.files.items in
    let sizes = lengths files (string_bytes c.args.file) c.args.start c.args.start in
    omega (arith, sizes.0, sizes.2, c.self.invariant.0.files_most, c.self.invariant.0.clones_most, c.in_ok-file.ensures.place)

pub invariant_of-push_reserved : goal.invariant_of-push_reserved
invariant_of-push_reserved c =
    limits_kept c.args.self.now c.args.workload.now (string_bytes c.args.job) c.len-clone.result c.in_ok-file.field-0 c.args.start c.requires c.facts.ensures.total c.facts-2.ensures.total

pub overflow_mul-self : goal.overflow_mul-self
overflow_mul-self c =
    let taken = taken_of c.args.self.now c.args.workload.now c.args.start c.requires in
    let visits : c.from-3.result * c.from-4.result ≡ c.args.workload.now.cells * c.args.workload.now.passes = ap (λ n. n * c.from-4.result) c.from-3.ensures ∙ ap (λ n. c.args.workload.now.cells * n) c.from-4.ensures in
    omega (arith, taken.work, visits)

pub overflow_add-self : goal.overflow_add-self
overflow_add-self c =
    let taken = taken_of c.args.self.now c.args.workload.now c.args.start c.requires in
    let work_is = ap (λ (d : Clones). work_of d.clones) c.self.view_is in
    let visits : c.from-3.result * c.from-4.result ≡ c.args.workload.now.cells * c.args.workload.now.passes = ap (λ n. n * c.from-4.result) c.from-3.ensures ∙ ap (λ n. c.args.workload.now.cells * n) c.from-4.ensures in
    omega (arith, taken.work, work_is, c.self.invariant.1, visits)

pub invariant_of-self-2 : goal.invariant_of-self-2
invariant_of-self-2 c =
    let inside = c.self.inside in
    let w = c.args.workload.now in
    let start = c.args.start in
    let taken = taken_of c.args.self.now w start c.requires in
    let job = planned_clone w (string_bytes c.args.job) c.len-clone.result c.in_ok-file.field-0 start in
    let high = start + w.cells * w.cell in
    let size_is : c.from.result * c.from-2.result ≡ w.cells * w.cell = ap (λ n. n * c.from-2.result) c.from.ensures ∙ ap (λ n. w.cells * n) c.from-2.ensures in
    let visits : c.from-3.result * c.from-4.result ≡ w.cells * w.passes = ap (λ n. n * c.from-4.result) c.from-3.ensures ∙ ap (λ n. w.cells * n) c.from-4.ensures in
    let files_are : c.use_file.new.files.items ≡ with_file inside.files.items (string_bytes c.args.file) start high =
    c.in_ok-file.ensures.files ∙ ap (λ n. with_file inside.files.items (string_bytes c.args.file) start (start + n)) size_is in
    let clones_are : c.push_reserved.new.self.items ≡ inside.clones.items ++ job ∷ [] =
    c.push_reserved.ensures.items ∙ ap (λ (xs : List SubJob). xs ++ job ∷ []) c.in_ok-reserve.ensures.items in
    let view_is : (record { clones = inside.clones.items; files = inside.files.items }) ≡ c.args.self.now = c.self.view_is in
    let count_is = ap (λ (d : Clones). length d.clones) view_is in
    let work_is = ap (λ (d : Clones). work_of d.clones) view_is in
    let limits = limits_kept c.args.self.now w (string_bytes c.args.job) c.len-clone.result c.in_ok-file.field-0 start c.requires c.facts.ensures.total c.facts-2.ensures.total in
    let drafted = drafted-push inside.clones.items inside.files.items job (string_bytes c.args.file) high c.self.invariant.0 (omega (arith, count_is, taken.room)) (omega (arith, c.in_ok-reserve.ensures.len, c.len-clone.ensures)) c.in_ok-file.ensures.place refl limits (omega (arith, work_is, taken.work)) in
    let all = sum_by-append (λ (j : SubJob). j.cells * j.passes) inside.clones.items (job ∷ []) in
    let one : work_of (job ∷ []) ≡ 0 + job.cells * job.passes = refl in
    let work_sum : inside.work + c.from-3.result * c.from-4.result ≡ work_of (inside.clones.items ++ job ∷ []) = omega (arith, all, one, visits, c.self.invariant.1) in
    rw (clones_are, files_are) (drafted, work_sum)

pub invariant_of-self : goal.invariant_of-self
invariant_of-self c = rw c.in_err-reserve.ensures.items c.self.invariant

pub invariant_of-self-in_err-file : goal.invariant_of-self-in_err-file
invariant_of-self-in_err-file c = rw (c.in_ok-reserve.ensures.items, c.in_err-file.ensures.err) c.self.invariant

pub overflow_mul-end : goal.overflow_mul-end
overflow_mul-end c =
    let taken = taken_of c.args.self.now c.args.workload.now c.args.start c.requires in
    let size_is : c.from.result * c.from-2.result ≡ c.args.workload.now.cells * c.args.workload.now.cell = ap (λ n. n * c.from-2.result) c.from.ensures ∙ ap (λ n. c.args.workload.now.cells * n) c.from-2.ensures in
    omega (arith, taken.region, size_is)

pub overflow_add-end : goal.overflow_add-end
overflow_add-end c =
    let taken = taken_of c.args.self.now c.args.workload.now c.args.start c.requires in
    let size_is : c.from.result * c.from-2.result ≡ c.args.workload.now.cells * c.args.workload.now.cell = ap (λ n. n * c.from-2.result) c.from.ensures ∙ ap (λ n. c.args.workload.now.cells * n) c.from-2.ensures in
    omega (arith, taken.region, size_is)

pub returns-clause-added : goal.returns-clause-added
returns-clause-added c =
    let inside = c.self.inside in
    let w = c.args.workload.now in
    let start = c.args.start in
    let job = planned_clone w (string_bytes c.args.job) c.len-clone.result c.in_ok-file.field-0 start in
    let size_is : c.from.result * c.from-2.result ≡ w.cells * w.cell = ap (λ n. n * c.from-2.result) c.from.ensures ∙ ap (λ n. w.cells * n) c.from-2.ensures in
    let files_are : c.use_file.new.files.items ≡ with_file inside.files.items (string_bytes c.args.file) start (start + w.cells * w.cell) =
    c.in_ok-file.ensures.files ∙ ap (λ n. with_file inside.files.items (string_bytes c.args.file) start (start + n)) size_is in
    let clones_are : c.push_reserved.new.self.items ≡ inside.clones.items ++ job ∷ [] =
    c.push_reserved.ensures.items ∙ ap (λ (xs : List SubJob). xs ++ job ∷ []) c.in_ok-reserve.ensures.items in
    let view_is : (record { clones = inside.clones.items; files = inside.files.items }) ≡ c.args.self.now = c.self.view_is in
    let number_is : c.len-clone.result ≡ length inside.clones.items = omega (arith, c.in_ok-reserve.ensures.len, c.len-clone.ensures) in
    rw (← view_is, clones_are, files_are, number_is, c.in_ok-file.ensures.place) refl
