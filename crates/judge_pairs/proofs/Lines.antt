-- What holds of the line of a number.
use Rattle.std.proofs.Common.{◌≡◌, ◌↔◌, sym, subst, ◌∙◌, ap, ℕ, Bool, List}
use Rattle.std.proofs.lemmas.Option.{slice_get_within, get_or_from_slice_get}
use Rattle.std.proofs.lemmas.List.Elements.{All-get_or}
use Rattle.std.specs.Prelude.{All, IsTrue, Option, Some, slice_get}
use Rattle.states_core.specs.declared.fault.Fault.{Fault}
use Rattle.logs_updates.specs.declared.line.Line.{Line}
use Rattle.steps_lines_defs.specs.Logs.{OfLine, place_of_line}
use Rattle.states_verdicts.specs.Tellings.{Tells}
use Rattle.states_verdicts.specs.declared.pairs.Told.{Told}
use Rattle.states_verdicts.specs.declared.pairs.Told.TheVariants.{Holds, Fails, Faults}

some_same : (l m : Line) → ◌≡◌ {A = Option Line} (Some l) (Some m) → l ≡ m
some_same l m e = cc

module _ (lines : List Line) (n : ℕ) (l : Line) (at : slice_get lines n ≡ Some l) where
  of_line : (P : Line → Type 0) → P l → OfLine lines n P
  of_line P p = (l, at, p)

  from_line : (P : Line → Type 0) → OfLine lines n P → P l
  from_line P o = subst P (some_same o.0 l (sym o.1 ∙ at)) o.2

  pub line_place : l.at ≡ place_of_line (slice_get lines n)
  line_place = sym (ap place_of_line at)

  pub line_has : (P : Line → Type 0) → All P lines → P l
  line_has P all = subst P (get_or_from_slice_get lines n l l at) (All-get_or P lines n l (slice_get_within lines n l at) all)

  pub line_tests : (P : Line → Type 0) (b : Bool) → IsTrue b ↔ P l → IsTrue b ↔ OfLine lines n P
  line_tests P b h = (λ t. of_line P (h.0 t), λ o. h.1 (from_line P o))

  pub line_tells : (P : Line → Type 0) (Bad : Line → Fault → Type 0) (r : Told) → Tells (P l) (Bad l) r → Tells (OfLine lines n P) (λ f. OfLine lines n (λ m. Bad m f)) r
  line_tells P Bad Holds h = (of_line P h.0, λ f o. h.1 f (from_line (λ m. Bad m f) o))
  line_tells P Bad Fails h = (λ o. h.0 (from_line P o), λ f o. h.1 f (from_line (λ m. Bad m f) o))
  line_tells P Bad (Faults f) h = of_line (λ m. Bad m f) h
