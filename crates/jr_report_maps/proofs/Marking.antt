-- What is said of a file's bytes is all that counts for its map.
use Rattle.std.proofs.Common.{◌≡◌, ℕ, Bool, true, false, cond, List, [], ◌∷◌, ◌++◌, Option, Some, None, refl, sym, ap, ◌∙◌, ◌+◌, ◌<◌, length, take, get_or}
use Rattle.std.specs.Prelude.{fold, ◌==◌}
use Rattle.std.specs.List.{cons_option, filter_map}
use Rattle.std.specs.Option.{option_to_list}
use Rattle.std.proofs.lemmas.Bool.{and_left, cond-false}
use Rattle.std.proofs.lemmas.List.{take_more}
use Rattle.std.proofs.lemmas.List.Elements.{filter_map-append}
use Rattle.jr_model.specs.declared.events.Event.{Event}
use Rattle.jr_model.specs.Pieces.{pieces_overlap}
use Rattle.jr_model.specs.Plan.{Plan}
use Rattle.jr_model.proofs.OptionLemmas.{one_listed}
use Rattle.jr_report_maps.specs.BadBlocks.{block_piece}
use Rattle.jr_report_maps.specs.declared.fates.Fate.{Fate}
use Rattle.jr_report_maps.specs.declared.fates.Fate.TheVariants.{Untouched}
use Rattle.jr_report_maps.specs.Maps.{fate_of, marked, Said, said_of, worse}
use Rattle.jr_report_maps.specs.Marked.{fate_by, on_file, said_in}

-- the worse of two, where the said is of a byte of the cell
abbrev step : ℕ → ℕ → ℕ → Fate → Said → Fate
step file size cell fate said = marked file size cell fate (Some said)

-- what is said of another file changes nothing
elsewhere : (file size cell : ℕ) (fate : Fate) (said : Said) → (said.piece.file == file) ≡ false → marked file size cell fate (Some said) ≡ fate
elsewhere file size cell fate said other =
    cond-false (pieces_overlap said.piece (block_piece file size cell)) (worse fate said.fate) fate (and_left (said.piece.file == file) _ other)

one_event : (file size cell : ℕ) (fate : Fate) (said : Option Said)
    → marked file size cell fate said ≡ fold (step file size cell) fate (option_to_list (on_file file said))
one_event file size cell fate None = refl
one_event file size cell fate (Some said) = by (said.piece.file == file) refl
  where
    by : (t : Bool) → (said.piece.file == file) ≡ t → marked file size cell fate (Some said) ≡ fold (step file size cell) fate (option_to_list (cond t (Some said) None))
    by true is = refl
    by false is = elsewhere file size cell fate said is

more : {X Y : Type 0} (f : Y → X → Y) (y : Y) (x : Option X) (xs : List X) → fold f y (cons_option x xs) ≡ fold f (fold f y (option_to_list x)) xs
more f y None xs = refl
more f y (Some x) xs = refl

all_events : (plan : Plan) (history : List Event) (file size cell : ℕ) (fate : Fate) (events : List Event)
    → fold (λ (f : Fate) (event : Event). marked file size cell f (said_of plan history event)) fate events
    ≡ fold (step file size cell) fate (said_in plan history file events)
all_events plan history file size cell fate [] = refl
all_events plan history file size cell fate (e ∷ es) =
    all_events plan history file size cell (marked file size cell fate (said_of plan history e)) es
    ∙ ap (λ (f : Fate). fold (step file size cell) f (said_in plan history file es)) (one_event file size cell fate (said_of plan history e))
    ∙ sym (more (step file size cell) fate (on_file file (said_of plan history e)) (said_in plan history file es))

pub same_fate : (plan : Plan) (history : List Event) (file size cell : ℕ)
    → fate_by file size cell (said_in plan history file history) ≡ fate_of plan history file size cell
same_fate plan history file size cell = sym (all_events plan history file size cell Untouched history)

-- one event more
pub said_more : (plan : Plan) (history : List Event) (file : ℕ) (events : List Event) (i : ℕ) (d : Event) → i < length events
    → said_in plan history file (take (i + 1) events)
    ≡ said_in plan history file (take i events) ++ option_to_list (on_file file (said_of plan history (get_or events i d)))
said_more plan history file events i d below =
    let of = λ (event : Event). on_file file (said_of plan history event) in
    ap (filter_map of) (take_more events i d below)
    ∙ filter_map-append of (take i events) (get_or events i d ∷ [])
    ∙ ap (λ (xs : List Said). filter_map of (take i events) ++ xs) (one_listed (of (get_or events i d)))
