-- Internal: a formatter that is written to through another one.
use Rattle.std.specs.Prelude.{◌≡◌, ℕ, Bool, true, false, List, chars, flat_map}
use Rattle.std.specs.Fmt.{HasWritten, IsPlainFormatter}
use Rattle.std.specs.Str.{IsUtf8}
use Rattle.jr_escape.specs.declared.texts.Escaping.{Escaping}
use Rattle.jr_escape.specs.Escapes.{escaped_char, lines_char}

-- a character where line feeds stay, and where they don't
abbrev pub shown_char : Bool → ℕ → List ℕ
shown_char true = lines_char
shown_char false = escaped_char

abbrev pub shown : Bool → List ℕ → List ℕ
shown keeps text = flat_map (shown_char keeps) (chars text)

-- the text went to it with each of its characters shown so
pub record WritesEscaped {W : Type 0} (took : W → List ℕ → W → Type 0) (old : Escaping W) (text : List ℕ) (new : Escaping W) : Type 0 where
  pub same_reference : new.to.ghost_name ≡ old.to.ghost_name
  pub same_breaks : new.keeps_breaks ≡ old.keeps_breaks
  pub is_text : IsUtf8 text
  pub wrote : IsPlainFormatter old.to.now → HasWritten took old.to.now (shown old.keeps_breaks text) new.to.now
