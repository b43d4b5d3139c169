-- What goes to a formatter through one that escapes it.
use Rattle.std.proofs.Common.{◌≡◌, ℕ, Bool, List, [], ◌∷◌, Option, Some, None, sym, ap, ◌∙◌}
use Rattle.std.specs.Prelude.{chars, flat_map, option_map, OnOk, Result, Ok, Err}
use Rattle.std.specs.List.{concat, FoldsTo}
use Rattle.std.specs.Fmt.{DisplaysOnOk, HasWritten, IsPlainFormatter, WritesText}
use Rattle.std.specs.declared.fmt.Error.{Error}
use Rattle.std.specs.declared.fmt.Formatter.{Formatter}
use Rattle.std.proofs.Output.{has_written_append, has_written_of_eq, has_written_to_eq, writes_in_calls_nil}
use Rattle.std.proofs.lemmas.Str.{chars-append, chars-nil}
use Rattle.std.proofs.lemmas.List.Concat.{flat_map-append}
use Rattle.jr_escape.specs.declared.texts.Escaping.{Escaping}
use Rattle.jr_escape.specs.Writers.{shown, shown_char, WritesEscaped}

module _ {W : Type 0} (took : W → List ℕ → W → Type 0) where
  nothing : (keeps : Bool) (f : Formatter W) → IsPlainFormatter f → HasWritten took f (shown keeps []) f
  nothing keeps f plain =
      has_written_of_eq took _ _ _ _ (ap (flat_map (shown_char keeps)) (sym chars-nil)) (record { wrote = writes_in_calls_nil took f.writer; plain = plain })

  same_place : (s : Escaping W) (parts : List (List ℕ)) (t : Escaping W) → FoldsTo (WritesEscaped took) s parts t → t.to.ghost_name ≡ s.to.ghost_name
  same_place s [] t h = ap (λ (x : Escaping W). x.to.ghost_name) (sym h)
  same_place s (x ∷ xs) t h = same_place h.0 xs t h.2 ∙ h.1.same_reference

  same_breaks : (s : Escaping W) (parts : List (List ℕ)) (t : Escaping W) → FoldsTo (WritesEscaped took) s parts t → t.keeps_breaks ≡ s.keeps_breaks
  same_breaks s [] t h = ap (λ (x : Escaping W). x.keeps_breaks) (sym h)
  same_breaks s (x ∷ xs) t h = same_breaks h.0 xs t h.2 ∙ h.1.same_breaks

  all_written : (s : Escaping W) (parts : List (List ℕ)) (t : Escaping W) → FoldsTo (WritesEscaped took) s parts t → IsPlainFormatter s.to.now
      → HasWritten took s.to.now (shown s.keeps_breaks (concat parts)) t.to.now
  all_written s [] t h plain =
      has_written_to_eq took _ _ _ _ (ap (λ (x : Escaping W). x.to.now) (sym h)) (nothing s.keeps_breaks s.to.now plain)
  all_written s (x ∷ xs) t h plain =
      let first = h.1.wrote plain in
      let one = shown_char s.keeps_breaks in
      let both = flat_map-append one (chars x) (chars (concat xs)) in
      let rest = has_written_of_eq took _ _ _ _ (ap (λ (keeps : Bool). shown keeps (concat xs)) h.1.same_breaks) (all_written h.0 xs t h.2 first.plain) in
      has_written_of_eq took _ _ _ _ (sym both ∙ ap (flat_map one) (sym (chars-append x (concat xs) h.1.is_text)))
      (has_written_append took _ _ _ _ _ first rest)

  -- where the formatter is what the other one has at its end
  pub shown_is_written : (r : Result (Unit {0}) Error) (o : Option (List ℕ)) (s t : Escaping W) (end : Formatter W)
      → OnOk r (WritesText (WritesEscaped took) s o t) → (s.to.ghost_name ≡ t.to.ghost_name → end ≡ t.to.now)
      → DisplaysOnOk took s.to.now r (option_map (shown s.keeps_breaks) o) end
  shown_is_written r None s t end h back = tt
  shown_is_written (Err e) (Some bs) s t end h back = λ _ ok. cc
  shown_is_written (Ok u) (Some bs) s t end h back = λ plain _.
      has_written_of_eq took _ _ _ _ (ap (shown s.keeps_breaks) h.whole)
      (has_written_to_eq took _ _ _ _ (back (sym (same_place s h.parts t h.calls))) (all_written s h.parts t h.calls plain))
