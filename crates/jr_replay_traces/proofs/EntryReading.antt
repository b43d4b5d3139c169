-- The line of an event says what the event's entry is.
use Rattle.std.proofs.Common.{◌≡◌, ℕ, ◌^◌, ◌<◌, List, [], ◌∷◌, ◌++◌, true, ◌&&◌, refl, sym, ap, ◌∙◌, append_assoc, arith}
use Rattle.std.specs.Prelude.{Option, Some, codes}
use Rattle.std.specs.Fmt.{decimal}
use Rattle.std.specs.Option.{option_map}
use Rattle.std.proofs.lemmas.Bool.{and_parts, ltb-true}
use Rattle.jr_model.specs.declared.events.Event.{Event}
use Rattle.jr_model.specs.declared.events.Event.TheVariants.{Issue, Probe, Skip, End, Verdict}
use Rattle.jr_model.specs.declared.events.Outcome.{Outcome}
use Rattle.jr_model.specs.declared.events.Outcome.TheVariants.{Whole, Failed, Short}
use Rattle.jr_model.specs.declared.events.Verdict.{Verdict as GivenVerdict}
use Rattle.jr_model.specs.declared.events.Verdict.TheVariants.{Good, Bad, Void}
use Rattle.jr_model.specs.declared.events.Part.TheVariants as part
use Rattle.jr_model.specs.declared.events.What.TheVariants.{Header, Digest, DataArea, Byte, Chunk}
use Rattle.jr_model.specs.declared.events.WriteId.{WriteId}
use Rattle.jr_replay_traces.specs.declared.entries.Ending.{Ending}
use Rattle.jr_replay_traces.specs.declared.entries.Ending.TheVariants as ending
use Rattle.jr_replay_traces.specs.declared.entries.Entry.TheVariants as entry
use Rattle.jr_replay_traces.specs.declared.entries.Finding.{Finding}
use Rattle.jr_replay_traces.specs.declared.entries.Finding.TheVariants as finding
use Rattle.jr_replay_traces.specs.declared.entries.Name.{Name}
use Rattle.jr_replay_traces.specs.TraceChecks.{ending_fits, entry_fits, finding_fits, is_small, name_fits}
use Rattle.jr_replay_traces.specs.TraceLaws.{ending_of, entry_of, finding_of, name_of}
use Rattle.jr_fields.specs.Fields.{fields_of}
use Rattle.jr_replay_traces.specs.TraceLines.{chunk_finding, end_of, ending_in, entry_in, finding_in, named, read_line, skip_of, start_of, verdict_of}
use Rattle.jr_replay_traces.specs.Traces.{draw_fields, event_text, outcome_fields, spaced, verdict_fields}
use Rattle.jr_replay_traces.proofs.LineReading.{number_more, number_read, word_more}

-- small numbers can be read
pub small : (n : ℕ) → is_small n ≡ true → n < 2 ^ 64
small n h = wide n (ltb-true n (2 ^ 32) h)
  where
    wide : (m : ℕ) → m < 2 ^ 32 → m < 2 ^ 64
    wide m k = omega arith

-- the fields of a draw behind those of a text
draw_more : (text : List ℕ) (parts : List (List ℕ)) (write : WriteId) → name_fits (name_of write) ≡ true → fields_of text ≡ parts → fields_of (text ++ draw_fields write) ≡ ((parts ++ decimal write.clone ∷ []) ++ decimal write.pass ∷ []) ++ decimal write.number ∷ []
draw_more text parts write fits so =
    let parts_fit = and_parts (is_small write.clone && is_small write.pass) (is_small write.number) fits in
    let first_two = and_parts (is_small write.clone) (is_small write.pass) parts_fit.0 in
    let one = number_more text parts write.clone (small write.clone first_two.0) so in
    let two = number_more (text ++ spaced write.clone) _ write.pass (small write.pass first_two.1) one in
    let three = number_more ((text ++ spaced write.clone) ++ spaced write.pass) _ write.number (small write.number parts_fit.1) two in
    ap fields_of (sym (append_assoc text (spaced write.clone ++ spaced write.pass) (spaced write.number)) ∙ ap (λ (t : List ℕ). t ++ spaced write.number) (sym (append_assoc text (spaced write.clone) (spaced write.pass))))
    ∙ three

-- numbers that are read
start_read : (a b c d e : Option ℕ) (worker io : ℕ) (write : Name) → a ≡ Some worker → b ≡ Some io → c ≡ Some write.clone → d ≡ Some write.pass → e ≡ Some write.number → start_of a b (named c d e) ≡ Some (record { worker = worker; io = io; write = write })
start_read a b c d e worker io write ha hb hc hd he =
    ap (λ (x : Option ℕ). start_of x b (named c d e)) ha
    ∙ ap (λ (x : Option ℕ). start_of (Some worker) x (named c d e)) hb
    ∙ ap (λ (x : Option ℕ). start_of (Some worker) (Some io) (named x d e)) hc
    ∙ ap (λ (x : Option ℕ). start_of (Some worker) (Some io) (named (Some write.clone) x e)) hd
    ∙ ap (λ (x : Option ℕ). start_of (Some worker) (Some io) (named (Some write.clone) (Some write.pass) x)) he

skip_read : (a c d e : Option ℕ) (worker : ℕ) (write : Name) → a ≡ Some worker → c ≡ Some write.clone → d ≡ Some write.pass → e ≡ Some write.number → skip_of a (named c d e) ≡ Some (entry.Skip worker write)
skip_read a c d e worker write ha hc hd he =
    ap (λ (x : Option ℕ). skip_of x (named c d e)) ha
    ∙ ap (λ (x : Option ℕ). skip_of (Some worker) (named x d e)) hc
    ∙ ap (λ (x : Option ℕ). skip_of (Some worker) (named (Some write.clone) x e)) hd
    ∙ ap (λ (x : Option ℕ). skip_of (Some worker) (named (Some write.clone) (Some write.pass) x)) he

end_read : (a b : Option ℕ) (o : Option Ending) (worker io : ℕ) (ending : Ending) → a ≡ Some worker → b ≡ Some io → o ≡ Some ending → end_of a b o ≡ Some (entry.End worker io ending)
end_read a b o worker io ending ha hb ho =
    ap (λ (x : Option ℕ). end_of x b o) ha
    ∙ ap (λ (x : Option ℕ). end_of (Some worker) x o) hb
    ∙ ap (λ (x : Option Ending). end_of (Some worker) (Some io) x) ho

verdict_read : (a b : Option ℕ) (o : Option Finding) (worker io : ℕ) (finding : Finding) → a ≡ Some worker → b ≡ Some io → o ≡ Some finding → verdict_of a b o ≡ Some (entry.Verdict worker io finding)
verdict_read a b o worker io finding ha hb ho =
    ap (λ (x : Option ℕ). verdict_of x b o) ha
    ∙ ap (λ (x : Option ℕ). verdict_of (Some worker) x o) hb
    ∙ ap (λ (x : Option Finding). verdict_of (Some worker) (Some io) x) ho

-- the first fields: a letter and two numbers
two_more : (tag : List ℕ) (a b : ℕ) → is_small a ≡ true → is_small b ≡ true → fields_of tag ≡ tag ∷ [] → fields_of ((tag ++ spaced a) ++ spaced b) ≡ tag ∷ decimal a ∷ decimal b ∷ []
two_more tag a b fits_a fits_b so =
    number_more (tag ++ spaced a) (tag ∷ decimal a ∷ []) b (small b fits_b) (number_more tag (tag ∷ []) a (small a fits_a) so)

-- the fields of an end and of a verdict
outcome_parts : Outcome → List (List ℕ)
outcome_parts Whole = codes "whole" ∷ []
outcome_parts Failed = codes "failed" ∷ []
outcome_parts (Short n) = codes "short" ∷ decimal n ∷ []

outcome_more : (text : List ℕ) (a b c : List ℕ) (outcome : Outcome) → ending_fits (ending_of outcome) ≡ true → fields_of text ≡ a ∷ b ∷ c ∷ [] → fields_of (text ++ outcome_fields outcome) ≡ a ∷ b ∷ c ∷ outcome_parts outcome
unfolding outcome_parts
outcome_more text a b c Whole fits so = word_more text (a ∷ b ∷ c ∷ []) (codes "whole") refl so
outcome_more text a b c Failed fits so = word_more text (a ∷ b ∷ c ∷ []) (codes "failed") refl so
outcome_more text a b c (Short n) fits so =
    ap fields_of (sym (append_assoc text (codes " short") (spaced n)))
    ∙ number_more (text ++ codes " short") (a ∷ b ∷ c ∷ codes "short" ∷ []) n (small n fits) (word_more text (a ∷ b ∷ c ∷ []) (codes "short") refl so)

outcome_read : (a b c : List ℕ) (outcome : Outcome) → ending_fits (ending_of outcome) ≡ true → ending_in (a ∷ b ∷ c ∷ outcome_parts outcome) ≡ Some (ending_of outcome)
unfolding outcome_parts
outcome_read a b c Whole fits = refl
outcome_read a b c Failed fits = refl
outcome_read a b c (Short n) fits = ap (λ (o : Option ℕ). option_map ending.Short o) (number_read n (small n fits))

verdict_parts : GivenVerdict → List (List ℕ)
verdict_parts Good = codes "good" ∷ []
verdict_parts Void = codes "void" ∷ []
verdict_parts (Bad Header) = codes "header" ∷ []
verdict_parts (Bad Digest) = codes "digest" ∷ []
verdict_parts (Bad DataArea) = codes "data" ∷ []
verdict_parts (Bad (Byte i)) = codes "byte" ∷ decimal i ∷ []
verdict_parts (Bad (Chunk i part.Header)) = codes "header" ∷ decimal i ∷ []
verdict_parts (Bad (Chunk i part.Digest)) = codes "digest" ∷ decimal i ∷ []
verdict_parts (Bad (Chunk i part.DataArea)) = codes "data" ∷ decimal i ∷ []

verdict_more : (text : List ℕ) (a b c : List ℕ) (verdict : GivenVerdict) → finding_fits (finding_of verdict) ≡ true → fields_of text ≡ a ∷ b ∷ c ∷ [] → fields_of (text ++ verdict_fields verdict) ≡ a ∷ b ∷ c ∷ verdict_parts verdict
unfolding verdict_parts
verdict_more text a b c Good fits so = word_more text (a ∷ b ∷ c ∷ []) (codes "good") refl so
verdict_more text a b c Void fits so = word_more text (a ∷ b ∷ c ∷ []) (codes "void") refl so
verdict_more text a b c (Bad Header) fits so = word_more text (a ∷ b ∷ c ∷ []) (codes "header") refl so
verdict_more text a b c (Bad Digest) fits so = word_more text (a ∷ b ∷ c ∷ []) (codes "digest") refl so
verdict_more text a b c (Bad DataArea) fits so = word_more text (a ∷ b ∷ c ∷ []) (codes "data") refl so
verdict_more text a b c (Bad (Byte i)) fits so =
    ap fields_of (sym (append_assoc text (codes " byte") (spaced i)))
    ∙ number_more (text ++ codes " byte") (a ∷ b ∷ c ∷ codes "byte" ∷ []) i (small i fits) (word_more text (a ∷ b ∷ c ∷ []) (codes "byte") refl so)
verdict_more text a b c (Bad (Chunk i part.Header)) fits so =
    ap fields_of (sym (append_assoc text (codes " header") (spaced i)))
    ∙ number_more (text ++ codes " header") (a ∷ b ∷ c ∷ codes "header" ∷ []) i (small i fits) (word_more text (a ∷ b ∷ c ∷ []) (codes "header") refl so)
verdict_more text a b c (Bad (Chunk i part.Digest)) fits so =
    ap fields_of (sym (append_assoc text (codes " digest") (spaced i)))
    ∙ number_more (text ++ codes " digest") (a ∷ b ∷ c ∷ codes "digest" ∷ []) i (small i fits) (word_more text (a ∷ b ∷ c ∷ []) (codes "digest") refl so)
verdict_more text a b c (Bad (Chunk i part.DataArea)) fits so =
    ap fields_of (sym (append_assoc text (codes " data") (spaced i)))
    ∙ number_more (text ++ codes " data") (a ∷ b ∷ c ∷ codes "data" ∷ []) i (small i fits) (word_more text (a ∷ b ∷ c ∷ []) (codes "data") refl so)

finding_read : (a b c : List ℕ) (verdict : GivenVerdict) → finding_fits (finding_of verdict) ≡ true → finding_in (a ∷ b ∷ c ∷ verdict_parts verdict) ≡ Some (finding_of verdict)
unfolding verdict_parts
finding_read a b c Good fits = refl
finding_read a b c Void fits = refl
finding_read a b c (Bad Header) fits = refl
finding_read a b c (Bad Digest) fits = refl
finding_read a b c (Bad DataArea) fits = refl
finding_read a b c (Bad (Byte i)) fits = ap (λ (o : Option ℕ). option_map finding.Byte o) (number_read i (small i fits))
finding_read a b c (Bad (Chunk i part.Header)) fits = ap (λ (o : Option ℕ). chunk_finding (Some part.Header) o) (number_read i (small i fits))
finding_read a b c (Bad (Chunk i part.Digest)) fits = ap (λ (o : Option ℕ). chunk_finding (Some part.Digest) o) (number_read i (small i fits))
finding_read a b c (Bad (Chunk i part.DataArea)) fits = ap (λ (o : Option ℕ). chunk_finding (Some part.DataArea) o) (number_read i (small i fits))

-- the line of an event, read
pub event_read : (io : ℕ) (e : Event) → entry_fits (entry_of io e) ≡ true → read_line (event_text io e) ≡ Some (entry_of io e)
unfolding outcome_parts verdict_parts
event_read io (Issue worker kind write piece) fits =
    let parts = and_parts (is_small worker && is_small io) (name_fits (name_of write)) fits in
    let numbers = and_parts (is_small worker) (is_small io) parts.0 in
    let name = and_parts (is_small write.clone && is_small write.pass) (is_small write.number) parts.1 in
    let draw = and_parts (is_small write.clone) (is_small write.pass) name.0 in
    ap entry_in (draw_more ((codes "I" ++ spaced worker) ++ spaced io) (codes "I" ∷ decimal worker ∷ decimal io ∷ []) write parts.1 (two_more (codes "I") worker io numbers.0 numbers.1 refl))
    ∙ ap (option_map entry.Issue) (start_read _ _ _ _ _ worker io (name_of write) (number_read worker (small worker numbers.0)) (number_read io (small io numbers.1)) (number_read write.clone (small write.clone draw.0)) (number_read write.pass (small write.pass draw.1)) (number_read write.number (small write.number name.1)))
event_read io (Probe worker write piece) fits =
    let parts = and_parts (is_small worker && is_small io) (name_fits (name_of write)) fits in
    let numbers = and_parts (is_small worker) (is_small io) parts.0 in
    let name = and_parts (is_small write.clone && is_small write.pass) (is_small write.number) parts.1 in
    let draw = and_parts (is_small write.clone) (is_small write.pass) name.0 in
    ap entry_in (draw_more ((codes "P" ++ spaced worker) ++ spaced io) (codes "P" ∷ decimal worker ∷ decimal io ∷ []) write parts.1 (two_more (codes "P") worker io numbers.0 numbers.1 refl))
    ∙ ap (option_map entry.Probe) (start_read _ _ _ _ _ worker io (name_of write) (number_read worker (small worker numbers.0)) (number_read io (small io numbers.1)) (number_read write.clone (small write.clone draw.0)) (number_read write.pass (small write.pass draw.1)) (number_read write.number (small write.number name.1)))
event_read io (Skip worker write) fits =
    let parts = and_parts (is_small worker) (name_fits (name_of write)) fits in
    let name = and_parts (is_small write.clone && is_small write.pass) (is_small write.number) parts.1 in
    let draw = and_parts (is_small write.clone) (is_small write.pass) name.0 in
    ap entry_in (draw_more (codes "S" ++ spaced worker) (codes "S" ∷ decimal worker ∷ []) write parts.1 (number_more (codes "S") (codes "S" ∷ []) worker (small worker parts.0) refl))
    ∙ skip_read _ _ _ _ worker (name_of write) (number_read worker (small worker parts.0)) (number_read write.clone (small write.clone draw.0)) (number_read write.pass (small write.pass draw.1)) (number_read write.number (small write.number name.1))
event_read io (End worker id outcome) fits =
    let parts = and_parts (is_small worker && is_small id) (ending_fits (ending_of outcome)) fits in
    let numbers = and_parts (is_small worker) (is_small id) parts.0 in
    ap entry_in (outcome_more ((codes "E" ++ spaced worker) ++ spaced id) (codes "E") (decimal worker) (decimal id) outcome parts.1 (two_more (codes "E") worker id numbers.0 numbers.1 refl))
    ∙ end_read _ _ _ worker id (ending_of outcome) (number_read worker (small worker numbers.0)) (number_read id (small id numbers.1)) (outcome_read (codes "E") (decimal worker) (decimal id) outcome parts.1)
event_read io (Verdict worker id verdict) fits =
    let parts = and_parts (is_small worker && is_small id) (finding_fits (finding_of verdict)) fits in
    let numbers = and_parts (is_small worker) (is_small id) parts.0 in
    ap entry_in (verdict_more ((codes "V" ++ spaced worker) ++ spaced id) (codes "V") (decimal worker) (decimal id) verdict parts.1 (two_more (codes "V") worker id numbers.0 numbers.1 refl))
    ∙ verdict_read _ _ _ worker id (finding_of verdict) (number_read worker (small worker numbers.0)) (number_read id (small id numbers.1)) (finding_read (codes "V") (decimal worker) (decimal id) verdict parts.1)
