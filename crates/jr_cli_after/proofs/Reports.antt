-- What is told of files that were read, as a whole.
use Rattle.std.proofs.Common.{◌≡◌, ℕ, Bool, cond, List, [], ◌∷◌, ◌++◌, map, flat_map, refl, sym, ap, subst, ◌∙◌}
use Rattle.std.specs.Prelude.{Result, IfOk, ◌||◌}
use Rattle.std.specs.List.{list_any}
use Rattle.jr_model.specs.Plan.{Plan}
use Rattle.jr_model.specs.Replies.{EngineState}
use Rattle.jr_after_report.specs.Reports.{FileFound, FileState, report_of, state_of}
use Rattle.jr_after_report.proofs.Faults.{faults_counted}
use Rattle.jr_cli_after.specs.Found.{AfterState, Asked, IsAfter, found_in, has_fault_counted, has_lost, has_some, has_unread, lines_in, report_after, state_found, state_unread, status_after, told_of, unread_text}
use Rattle.jr_cli_after.specs.Readings.{FileRead}

pub after_as : {E : Type 0} (r : Result AfterState E) (a b : Asked) (old new : EngineState) → a ≡ b → IfOk r (λ told. IsAfter a old told new) → IfOk r (λ told. IsAfter b old told new)
after_as r a b old new same is = subst (λ (x : Asked). IfOk r (λ told. IsAfter x old told new)) same is

maps : (asked : Asked) (files : List FileRead) → map (state_found asked) files ≡ map (state_of asked.plan) (map (found_in asked) files)
maps asked [] = refl
maps asked (one ∷ files) = ap (λ (l : List FileState). state_found asked one ∷ l) (maps asked files)

lines : (asked : Asked) (files : List FileRead) → flat_map lines_in (map (state_unread asked) files) ≡ flat_map (unread_text asked.plan) files
lines asked [] = refl
lines asked (one ∷ files) = ap (λ (l : List ℕ). unread_text asked.plan one ++ l) (lines asked files)

any_lost : (asked : Asked) (files : List FileRead) → list_any has_fault_counted (map (state_found asked) files) ≡ list_any (has_lost asked) files
any_lost asked [] = refl
any_lost asked (one ∷ files) =
    ap (λ (b : Bool). b || list_any has_fault_counted (map (state_found asked) files)) (faults_counted (found_in asked one).chunks)
    ∙ ap (λ (b : Bool). has_lost asked one || b) (any_lost asked files)

any_unread : (asked : Asked) (files : List FileRead) → list_any has_some (map (state_unread asked) files) ≡ list_any has_unread files
any_unread asked [] = refl
any_unread asked (one ∷ files) = ap (λ (b : Bool). has_unread one || b) (any_unread asked files)

pub status_told : (asked : Asked) (files : List FileRead) (told : AfterState) (lost unread : Bool) → told ≡ told_of asked files → lost ≡ list_any has_fault_counted told.found → unread ≡ list_any has_some told.unread → cond (lost || unread) 1 0 ≡ status_after asked files
status_told asked files told lost unread is by_lost by_unread =
    ap (λ (b : Bool). cond (b || unread) 1 0)
    (by_lost ∙ ap (λ (t : AfterState). list_any has_fault_counted t.found) is ∙ any_lost asked files)
    ∙ ap (λ (b : Bool). cond (list_any (has_lost asked) files || b) 1 0)
    (by_unread ∙ ap (λ (t : AfterState). list_any has_some t.unread) is ∙ any_unread asked files)

pub report_told : (asked : Asked) (files : List FileRead) (told : AfterState) (plan : Plan) (front text : List ℕ) → asked.plan ≡ plan → told ≡ told_of asked files → ((found : List FileFound) → told.found ≡ map (state_of plan) found → front ≡ report_of plan found) → text ≡ front ++ flat_map lines_in told.unread → text ≡ report_after asked files
report_told asked files told plan front text same is front_is text_is =
    text_is
    ∙ ap (λ (l : List ℕ). l ++ flat_map lines_in told.unread)
    (subst (λ (p : Plan). ((found : List FileFound) → told.found ≡ map (state_of p) found → front ≡ report_of p found)) (sym same) front_is (map (found_in asked) files)
    (ap (λ (t : AfterState). t.found) is ∙ maps asked files))
    ∙ ap (λ (l : List ℕ). report_of asked.plan (map (found_in asked) files) ++ l)
    (ap (λ (t : AfterState). flat_map lines_in t.unread) is ∙ lines asked files)
