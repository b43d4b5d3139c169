-- What the matches of the command line hold: clap's facts of a parse, for these arguments.
use Rattle.std.proofs.Common.{◌≡◌, ◌∙◌, ◌<◌, ◌≤◌, ◌||◌, ℕ, Bool, true, false, true≢false, zero, suc, refl, sym, ap, subst, inl, inr, arith, List, [], ◌∷◌, map, length, Option, Some, None, option_map, codes}
use Rattle.std.specs.Prelude.{◌^◌, Result, Ok, Err, IsErrAnd, IfSome, pos, slice_get, unwrap_or}
use Rattle.std.specs.Borrow.{Bor}
use Rattle.std.specs.List.{All, slice_index_or}
use Rattle.std.specs.Str.{bytes_eq}
use Rattle.std.specs.Str.Parse.{ParsesUnsigned}
use Rattle.std.proofs.lemmas.Bool.{cases_lt}
use Rattle.std.proofs.lemmas.List.Elements.{All-get_or}
use Rattle.std.proofs.lemmas.Slice.Eq.{bytes_eq-Decides}
use Rattle.clap.specs.Facts.{Entry, EntryPasses, IsParsed, PassesArg, HasReading, args_of, groups_of, parser_of, parser_of_value}
use Rattle.clap.specs.Words.{Accepts, App, HasMatchesOf, IsParsedFrom, ReadsOne, Rule, SameRules, Text, app_of, found_of, has_subcommand, is_simple, matched_of, matches_of, one_text, read_as, reading_of, rows_of, rule_of, shape_of, without_minus}
use Rattle.clap.specs.Built.{IsAuto}
use Rattle.clap.specs.Faults.{is_simple_and_free}
use Rattle.clap.specs.Kinds.{FailsBy, HasKind, Kinds}
use Rattle.clap.specs.declared.error.Error.{Error}
use Rattle.clap.specs.declared.builder.arg.Arg.{Arg}
use Rattle.clap.specs.declared.builder.command.Command.{Command}
use Rattle.clap.specs.declared.builder.value_parser.Reading.{Reading}
use Rattle.clap.specs.declared.builder.value_parser.ValueParser.{ValueParser}
use Rattle.clap.specs.declared.builder.value_parser.ValueParser.TheVariants as parser
use Rattle.clap.specs.declared.parser.matches.ArgMatches.{ArgMatches}
use Rattle.clap.specs.declared.parser.matches.MatchedArg.{MatchedArg}
use Rattle.clap.proofs.CallerLemmas.{entry_by_id}
use Rattle.clap.proofs.CallerReads.{signed_reads}
use Rattle.clap.proofs.OnLiterals.{clap_on_literals}
use Rattle.clap.proofs.SimpleLemmas.{HasPlainFields, plain_fields, simple_groups, all_simple}
use Rattle.jr_cli_words.specs.CommandLine.{command_line, number_in}

-- clap says what the matches of such a command are, and which words it refuses
pub line_is_simple : is_simple command_line ≡ true
unfolding command_line clap_on_literals
line_is_simple = refl

pub line_is_free : is_simple_and_free command_line ≡ true
unfolding command_line clap_on_literals
line_is_free = refl

-- an argument of this id checks its values by q
abbrev pub HasParser : Text → ValueParser → Rule → Type 0
HasParser id q r = bytes_eq r.id id ≡ true → (r.parser ≡ Some q) × (r.ignore_case ≡ false)

abbrev pub AllHaveParser : Text → ValueParser → List Rule → Type 0
AllHaveParser id q [] = Unit {0}
AllHaveParser id q (r ∷ rs) = HasParser id q r × AllHaveParser id q rs

other_id : {A : Type 0} → false ≡ true → A
other_id e = absurd (true≢false (sym e))

pub workers_parser : AllHaveParser (codes "workers") (parser.Signed (pos 1) (pos 16)) command_line.top.rules
unfolding command_line
workers_parser = (other_id, (other_id, (other_id, ((λ e. (refl, refl)), (other_id, (other_id, (other_id, (other_id, (other_id, (other_id, (other_id, (other_id, (other_id, (other_id, (other_id, (other_id, (other_id, (other_id, (other_id, (other_id, (other_id, (other_id, (other_id, (other_id, (other_id, (other_id, (other_id, (other_id, (other_id, tt)))))))))))))))))))))))))))))

pub parse_only_parser : AllHaveParser (codes "parse-only") parser.Bool command_line.top.rules
unfolding command_line
parse_only_parser = (other_id, (other_id, ((λ e. (refl, refl)), (other_id, (other_id, (other_id, (other_id, (other_id, (other_id, (other_id, (other_id, (other_id, (other_id, (other_id, (other_id, (other_id, (other_id, (other_id, (other_id, (other_id, (other_id, (other_id, (other_id, (other_id, (other_id, (other_id, (other_id, (other_id, (other_id, tt)))))))))))))))))))))))))))))

pub cached_parser : AllHaveParser (codes "cached") parser.Bool command_line.top.rules
unfolding command_line
cached_parser = (other_id, (other_id, (other_id, (other_id, (other_id, (other_id, ((λ e. (refl, refl)), (other_id, (other_id, (other_id, (other_id, (other_id, (other_id, (other_id, (other_id, (other_id, (other_id, (other_id, (other_id, (other_id, (other_id, (other_id, (other_id, (other_id, (other_id, (other_id, (other_id, (other_id, (other_id, tt)))))))))))))))))))))))))))))

pub allow_mounted_write_parser : AllHaveParser (codes "allow-mounted-write") parser.Bool command_line.top.rules
unfolding command_line
allow_mounted_write_parser = (other_id, (other_id, (other_id, (other_id, (other_id, (other_id, (other_id, ((λ e. (refl, refl)), (other_id, (other_id, (other_id, (other_id, (other_id, (other_id, (other_id, (other_id, (other_id, (other_id, (other_id, (other_id, (other_id, (other_id, (other_id, (other_id, (other_id, (other_id, (other_id, (other_id, (other_id, tt)))))))))))))))))))))))))))))

pub notes_parser : AllHaveParser (codes "notes") parser.Bool command_line.top.rules
unfolding command_line
notes_parser = (other_id, (other_id, (other_id, (other_id, (other_id, (other_id, (other_id, (other_id, ((λ e. (refl, refl)), (other_id, (other_id, (other_id, (other_id, (other_id, (other_id, (other_id, (other_id, (other_id, (other_id, (other_id, (other_id, (other_id, (other_id, (other_id, (other_id, (other_id, (other_id, (other_id, (other_id, tt)))))))))))))))))))))))))))))

pub interrupted_parser : AllHaveParser (codes "interrupted") parser.Bool command_line.top.rules
unfolding command_line
interrupted_parser = (other_id, (other_id, (other_id, (other_id, (other_id, (other_id, (other_id, (other_id, (other_id, (other_id, ((λ e. (refl, refl)), (other_id, (other_id, (other_id, (other_id, (other_id, (other_id, (other_id, (other_id, (other_id, (other_id, (other_id, (other_id, (other_id, (other_id, (other_id, (other_id, (other_id, (other_id, tt)))))))))))))))))))))))))))))

pub map_parser : AllHaveParser (codes "map") parser.Bool command_line.top.rules
unfolding command_line
map_parser = (other_id, (other_id, (other_id, (other_id, (other_id, (other_id, (other_id, (other_id, (other_id, (other_id, (other_id, (other_id, (other_id, (other_id, ((λ e. (refl, refl)), (other_id, (other_id, (other_id, (other_id, (other_id, (other_id, (other_id, (other_id, (other_id, (other_id, (other_id, (other_id, (other_id, (other_id, tt)))))))))))))))))))))))))))))

pub progress_parser : AllHaveParser (codes "progress") (parser.Signed (pos 1) (pos 86400)) command_line.top.rules
unfolding command_line
progress_parser = (other_id, (other_id, (other_id, (other_id, (other_id, (other_id, (other_id, (other_id, (other_id, (other_id, (other_id, (other_id, (other_id, (other_id, (other_id, ((λ e. (refl, refl)), (other_id, (other_id, (other_id, (other_id, (other_id, (other_id, (other_id, (other_id, (other_id, (other_id, (other_id, (other_id, (other_id, tt)))))))))))))))))))))))))))))

pub repeat_parser : AllHaveParser (codes "repeat") (parser.Signed (pos 1) (pos 4294967295)) command_line.top.rules
unfolding command_line
repeat_parser = (other_id, (other_id, (other_id, (other_id, (other_id, (other_id, (other_id, (other_id, (other_id, (other_id, (other_id, (other_id, (other_id, (other_id, (other_id, (other_id, (other_id, (other_id, (other_id, ((λ e. (refl, refl)), (other_id, (other_id, (other_id, (other_id, (other_id, (other_id, (other_id, (other_id, (other_id, tt)))))))))))))))))))))))))))))

pub keep_going_parser : AllHaveParser (codes "keep-going") parser.Bool command_line.top.rules
unfolding command_line
keep_going_parser = (other_id, (other_id, (other_id, (other_id, (other_id, (other_id, (other_id, (other_id, (other_id, (other_id, (other_id, (other_id, (other_id, (other_id, (other_id, (other_id, (other_id, (other_id, (other_id, (other_id, ((λ e. (refl, refl)), (other_id, (other_id, (other_id, (other_id, (other_id, (other_id, (other_id, (other_id, tt)))))))))))))))))))))))))))))

pub keep_traces_parser : AllHaveParser (codes "keep-traces") parser.Bool command_line.top.rules
unfolding command_line
keep_traces_parser = (other_id, (other_id, (other_id, (other_id, (other_id, (other_id, (other_id, (other_id, (other_id, (other_id, (other_id, (other_id, (other_id, (other_id, (other_id, (other_id, (other_id, (other_id, (other_id, (other_id, (other_id, ((λ e. (refl, refl)), (other_id, (other_id, (other_id, (other_id, (other_id, (other_id, (other_id, tt)))))))))))))))))))))))))))))

pub go_on_parser : AllHaveParser (codes "go-on") parser.Bool command_line.top.rules
unfolding command_line
go_on_parser = (other_id, (other_id, (other_id, (other_id, (other_id, (other_id, (other_id, (other_id, (other_id, (other_id, (other_id, (other_id, (other_id, (other_id, (other_id, (other_id, (other_id, (other_id, (other_id, (other_id, (other_id, (other_id, ((λ e. (refl, refl)), (other_id, (other_id, (other_id, (other_id, (other_id, (other_id, tt)))))))))))))))))))))))))))))

pub adapt_parser : AllHaveParser (codes "adapt") parser.Bool command_line.top.rules
unfolding command_line
adapt_parser = (other_id, (other_id, (other_id, (other_id, (other_id, (other_id, (other_id, (other_id, (other_id, (other_id, (other_id, (other_id, (other_id, (other_id, (other_id, (other_id, (other_id, (other_id, (other_id, (other_id, (other_id, (other_id, (other_id, (other_id, ((λ e. (refl, refl)), (other_id, (other_id, (other_id, (other_id, tt)))))))))))))))))))))))))))))

pub sync_every_parser : AllHaveParser (codes "sync-every") (parser.Signed (pos 1) (pos 4294967295)) command_line.top.rules
unfolding command_line
sync_every_parser = (other_id, (other_id, (other_id, (other_id, (other_id, (other_id, (other_id, (other_id, (other_id, (other_id, (other_id, (other_id, (other_id, (other_id, (other_id, (other_id, (other_id, (other_id, (other_id, (other_id, (other_id, (other_id, (other_id, (other_id, (other_id, (other_id, (other_id, ((λ e. (refl, refl)), (other_id, tt)))))))))))))))))))))))))))))

line_is_plain : command_line.top.is_plain ≡ true
unfolding command_line
line_is_plain = refl

line_rules_are_simple : all_simple command_line.top.rules ≡ true
unfolding command_line
line_rules_are_simple = refl

-- what holds of each rule holds of each argument
each_arg : (id : Text) (q : ValueParser) (xs : List Arg) → AllHaveParser id q (map rule_of xs) → All (λ a. HasParser id q (rule_of a)) xs
each_arg id q [] h k d lt = absurd (omega arith)
each_arg id q (x ∷ xs) h zero d lt = h.0
each_arg id q (x ∷ xs) h (suc k) d lt = each_arg id q xs h.1 k d (omega arith)

module _ (c : Command) (m : ArgMatches) (is : app_of c ≡ command_line) (p : IsParsedFrom c m) where
  fields : HasPlainFields c
  fields = plain_fields c (ap (λ (a : App). a.top.is_plain) is ∙ line_is_plain)

  no_groups : groups_of p.built ≡ []
  no_groups =
      let simple : all_simple (shape_of c).rules ≡ true = ap (λ (a : App). all_simple a.top.rules) is ∙ line_rules_are_simple in
      (p.from.same_groups (simple_groups c simple)).1 ∙ fields.groups

  parsed : IsParsed p.built (found_of m) (has_subcommand m)
  parsed = p.parsed (p.from.globals ∙ fields.globals)

  module _ (id : Text) (q : ValueParser) (rules : AllHaveParser id q command_line.top.rules)
      (not_empty : bytes_eq id [] ≡ false) (not_help : bytes_eq id (codes "help") ≡ false) (not_version : bytes_eq id (codes "version") ≡ false) where
    -- an argument of the command as built that has this id checks its values by q
    arg_checks : (j : ℕ) (y : Arg) → j < length (args_of p.built) → slice_index_or (args_of p.built) j y ≡ y → bytes_eq y.id.now id ≡ true
        → (y.value_parser ≡ Some q) × (y.ignore_case ≡ false)
    arg_checks j y high at same = elim (cases_lt j (length (args_of c))) [
      | inl under ↦
          let s = subst (λ (w : Arg). SameRules (slice_index_or (args_of c) j y) w) at (p.from.kept j y under).1 in
          let own : bytes_eq (slice_index_or (args_of c) j y).id.now id ≡ true = rw (← s.id) same in
          let all : AllHaveParser id q (map rule_of (args_of c)) = subst (λ (a : App). AllHaveParser id q a.top.rules) (sym is) rules in
          let r = each_arg id q (args_of c) all j y under own in
          (s.parser q r.0, s.ignore_case ∙ r.1)
      | inr over ↦
          let flag = subst IsAuto at (p.from.extra j y over high) in
          let y_id : y.id.now ≡ id = (bytes_eq-Decides y.id.now id).0 same in
          elim flag [
            | inl help ↦
                let bad : bytes_eq id (codes "help") ≡ true = rw (← y_id, help) refl in
                absurd (true≢false (sym bad ∙ not_help))
            | inr version ↦
                let bad : bytes_eq id (codes "version") ≡ true = rw (← y_id, version) refl in
                absurd (true≢false (sym bad ∙ not_version))
          ]
    ]

    passes : (t : Text) → PassesArg p.built id t → Accepts false q t
    passes t any =
        let y = any.1 in
        let r = arg_checks any.0 y any.2 any.3 any.4.0 in
        let is_q : parser_of y ≡ q = ap parser_of_value r.0 in
        let as_q : Accepts y.ignore_case q t = subst (λ (w : ValueParser). Accepts y.ignore_case w t) is_q any.4.1 in
        subst (λ (b : Bool). Accepts b q t) r.1 as_q

    reads_by : (r : Reading) → HasReading p.built id r → r ≡ reading_of q
    reads_by r any =
        let y = any.1 in
        let s = arg_checks any.0 y any.2 any.3 any.4.0 in
        let is_q : parser_of y ≡ q = ap parser_of_value s.0 in
        sym any.4.1 ∙ ap reading_of is_q

    first_passes : (t : Text) (x : MatchedArg) (vs : List (Bor Text)) → x.reading ≡ reading_of q → All (λ v. PassesArg p.built id v.now) vs
        → option_map (λ s. read_as x.reading s.now) (slice_get vs 0) ≡ Some t
        → (w : Text) × (t ≡ read_as (reading_of q) w) × Accepts false q w
    first_passes t x [] how all first = cc
    first_passes t x (v ∷ vs) how all first =
        let same : Some (read_as (reading_of q) v.now) ≡ Some t = rw how at first in
        (v.now, ap (λ (o : Option Text). unwrap_or o t) (sym same), passes v.now (All-get_or (λ (w : Bor Text). PassesArg p.built id w.now) (v ∷ vs) 0 v (omega arith) all))

    entry_passes : (t : Text) (x : MatchedArg) → ((e : Entry) × (e.1 ≡ x) × (bytes_eq e.0.now id ≡ true) × EntryPasses p.built e)
        → option_map (λ s. read_as x.reading s.now) (slice_get x.vals.items 0) ≡ Some t
        → (w : Text) × (t ≡ read_as (reading_of q) w) × Accepts false q w
    entry_passes t x got first =
        let e = got.0 in
        let pass = got.3 in
        let key : e.0.now ≡ id = (bytes_eq-Decides e.0.now id).0 got.2 in
        let no_group : e.1.is_group ≡ true → ⊥ = λ g. elim (pass.3 g) [
          | inl empty ↦
              let bad : bytes_eq id [] ≡ true = rw (← key, empty) refl in
              true≢false (sym bad ∙ not_empty)
          | inr lots ↦
              let bad : 0 < 0 = rw no_groups at lots in
              absurd (omega arith)
        ] in
        let all : All (λ v. PassesArg p.built id v.now) x.vals.items = elim pass.0 [
          | inl g ↦ absurd (no_group g)
          | inr vals ↦ subst (λ (w : List ℕ). All (λ v. PassesArg p.built w v.now) x.vals.items) key (rw got.1 at vals)
        ] in
        let how : e.1.reading ≡ reading_of q = elim pass.4 [
          | inl g ↦ absurd (no_group g)
          | inr h ↦ reads_by e.1.reading (subst (λ (w : List ℕ). HasReading p.built w e.1.reading) key h)
        ] in
        first_passes t x x.vals.items (ap (λ (y : MatchedArg). y.reading) (sym got.1) ∙ how) all first

    -- what a typed getter reads is a text that passed the parser
    pub text_passes : (t : Text) → one_text (found_of m) id ≡ Some t → (w : Text) × (t ≡ read_as (reading_of q) w) × Accepts false q w
    text_passes t one = go (matched_of (found_of m) id) refl one
      where
        go : (o : Option MatchedArg) → matched_of (found_of m) id ≡ o → one_text (found_of m) id ≡ Some t
            → (w : Text) × (t ≡ read_as (reading_of q) w) × Accepts false q w
        go None e h =
            let bad : None ≡ Some t = rw e at h in
            cc
        go (Some x) e h = entry_passes t x (entry_by_id (EntryPasses p.built) (found_of m).entries.items id x parsed.values e) (rw e at h)

  -- a number is the one that its text writes, and is in its range
  pub number_read : (id : Text) (high : ℕ) → AllHaveParser id (parser.Signed (pos 1) (pos high)) command_line.top.rules
      → bytes_eq id [] ≡ false → bytes_eq id (codes "help") ≡ false → bytes_eq id (codes "version") ≡ false → high < 2 ^ 32
      → {E : Type 0} (G : Text → Result ℕ E → Type 0) (r : Option ℕ) → ((u : Text) (x : Result ℕ E) → G u x → ParsesUnsigned 32 10 u x)
      → (one_text (found_of m) id ≡ None → r ≡ None)
      → ((t : Text) → one_text (found_of m) id ≡ Some t → ReadsOne G t r)
      → (r ≡ option_map number_in (one_text (found_of m) id)) × IfSome r (λ n. (1 ≤ n) × (n ≤ high))
  number_read id high rules not_empty not_help not_version fits {E} G r only none value = go (one_text (found_of m) id) refl
    where
      IsRead : Option Text → Type 0
      IsRead o = (r ≡ option_map number_in o) × IfSome r (λ n. (1 ≤ n) × (n ≤ high))

      given : (t : Text) (o : Option ℕ) → ReadsOne G t o → (n : ℕ) → o ≡ Some n → n ≡ number_in t
      given t None one n e = cc
      given t (Some v) one n e = ap (λ (x : Option ℕ). unwrap_or x n) (sym e) ∙ (only t (Ok v) one).1

      read : (t : Text) → ReadsOne G t r → ((w : Text) × (t ≡ without_minus w) × Accepts false (parser.Signed (pos 1) (pos high)) w) → IsRead (Some t)
      read t one passed =
          let as_w : ReadsOne G (without_minus passed.0) r = subst (λ (u : Text). ReadsOne G u r) passed.1 one in
          let n = signed_reads E G 32 1 high passed.0 r as_w only fits passed.2 in
          (n.1 ∙ ap (λ (x : ℕ). Some x) (given t r one n.0 n.1), rw n.1 (n.2, n.3))

      go : (o : Option Text) → one_text (found_of m) id ≡ o → IsRead (one_text (found_of m) id)
      go None e = rw (e, none e) (refl, tt)
      go (Some t) e =
          subst IsRead (sym e) (read t (value t e) (text_passes id (parser.Signed (pos 1) (pos high)) rules not_empty not_help not_version t e))

  -- a flag is set exactly where its text says so
  pub flag_read : (id : Text) → AllHaveParser id parser.Bool command_line.top.rules → bytes_eq id [] ≡ false → bytes_eq id (codes "help") ≡ false → bytes_eq id (codes "version") ≡ false
      → (r : Bool) → (one_text (found_of m) id ≡ None → r ≡ false)
      → (one_text (found_of m) id ≡ Some (codes "true") → r ≡ true)
      → (one_text (found_of m) id ≡ Some (codes "false") → r ≡ false)
      → r ≡ unwrap_or (option_map (bytes_eq (codes "true")) (one_text (found_of m) id)) false
  flag_read id rules not_empty not_help not_version r none is_true is_false = go (one_text (found_of m) id) refl
    where
      says : (t : Text) (a b : Bool) → bytes_eq t (codes "true") ≡ a → bytes_eq t (codes "false") ≡ b → (a || b) ≡ true
          → one_text (found_of m) id ≡ Some t → r ≡ bytes_eq (codes "true") t
      says t true b is_a is_b some e =
          let text : t ≡ codes "true" = (bytes_eq-Decides t (codes "true")).0 is_a in
          is_true (e ∙ ap (λ (x : Text). Some x) text) ∙ rw text refl
      says t false true is_a is_b some e =
          let text : t ≡ codes "false" = (bytes_eq-Decides t (codes "false")).0 is_b in
          is_false (e ∙ ap (λ (x : Text). Some x) text) ∙ rw text refl
      says t false false is_a is_b some e = absurd (true≢false (sym some))

      go : (o : Option Text) → one_text (found_of m) id ≡ o → r ≡ unwrap_or (option_map (bytes_eq (codes "true")) (one_text (found_of m) id)) false
      go None e = rw (e, none e) refl
      go (Some t) e =
          let passed = text_passes id parser.Bool rules not_empty not_help not_version t e in
          rw e (says t _ _ refl refl (rw passed.1 passed.2) e)

  -- the matches, as rows
  pub rows_are : (words : List Text) → HasMatchesOf (app_of c) words m → rows_of (found_of m) ≡ matches_of command_line words
  rows_are words has = (has (ap is_simple is ∙ line_is_simple)).0 ∙ ap (λ (a : App). matches_of a words) is

-- an error handed on is the error of the parse
pub handed_on : {T : Type 0} (kinds : Kinds) (r : Result T Error) (error : Error) → IsErrAnd r (λ e. e ≡ error) → HasKind kinds error → FailsBy kinds r
handed_on kinds (Ok x) error h k = absurd h
handed_on kinds (Err e) error h k = subst (HasKind kinds) (sym h) k
