-- The lines of logs, in one order or in several, by the laws of each.
use Rattle.std.proofs.Common.{◌≡◌, suc, List, [], ◌∷◌, length, map, ap, refl, sym, subst, ◌∙◌, arith}
use Rattle.std.specs.Prelude.{◌||◌, Bool, if◌then◌else◌}
use Rattle.std.specs.List.{AllZip}
use Rattle.names_terms.specs.declared.operator.Operator.{Operator}
use Rattle.logs_updates.specs.declared.line.Line.{Line}
use Rattle.base_cuts.specs.Orders.{by_clock, by_vectors}
use Rattle.logs_tied.specs.declared.logs.Lined.{Lined}
use Rattle.logs_tied.specs.declared.logs.Lined.TheVariants.{Sequence, Tied}
use Rattle.logs_tied.specs.declared.logs.Logs.{Logs}
use Rattle.logs_lines.specs.declared.file.FileLines.{FileLines}
use Rattle.logs_files.specs.Lined.{AreLogsOf, IsLinedOf, are_open, order_of}
use Rattle.twice_logs.specs.AlikeLogs.{AreAlikeLines}
use Rattle.twice_logs.specs.Steps.{AnswersAlike, VerdictsAlike}
use Rattle.twice_logs.specs.AlikeFiles.{AreAlikeFiles}
use Rattle.twice_logs.specs.Logs.{LogsAreAlike}
use Rattle.twice_logs.proofs.AlikeMerges.{all_clocks_same, all_vectors_same, are_vectors_same, sees_same}
use Rattle.twice_logs.specs.TiesBeside.{AreAlikeTied}
use Rattle.twice_logs.specs.Ties.{TiedAnswersAlike, TiedVerdictsAlike}
use Rattle.twice_logs.specs.LinedBeside.{AreAlikeLined}
use Rattle.twice_logs.specs.Lined.{LinedAnswersAlike, LinedVerdictsAlike}

zip_length : {A B : Type 0} (R : A → B → Type 0) (xs : List A) (ys : List B) → AllZip R xs ys → length xs ≡ length ys
zip_length R [] [] h = refl
zip_length R [] (y ∷ ys) h = absurd h
zip_length R (x ∷ xs) [] h = absurd h
zip_length R (x ∷ xs) (y ∷ ys) h = ap suc (zip_length R xs ys h.1)

module _ (ops all : List Operator) where
  steps_alike : (fs gs : List FileLines) → AllZip (AreAlikeFiles ops all) fs gs → AllZip (AllZip (AreAlikeLines ops all)) (map (λ f. f.steps) fs) (map (λ f. f.steps) gs)
  steps_alike [] [] h = tt
  steps_alike [] (g ∷ gs) h = absurd h
  steps_alike (f ∷ fs) [] h = absurd h
  steps_alike (f ∷ fs) (g ∷ gs) h = (h.0.steps, steps_alike fs gs h.1)

  orders_same : (fs gs : List FileLines) → AllZip (AreAlikeFiles ops all) fs gs → order_of fs ≡ order_of gs
  orders_same fs gs h =
      λ i. if are_vectors_same ops all fs gs h i then by_vectors (all_vectors_same ops all fs gs h i) else by_clock (all_clocks_same ops all fs gs h i)

  open_same : (ties : Bool) (fs gs : List FileLines) → AllZip (AreAlikeFiles ops all) fs gs → are_open ties fs ≡ are_open ties gs
  open_same ties fs gs h = ap (λ (b : Bool). ties || b) (are_vectors_same ops all fs gs h)

  tied_alike : (fs gs : List FileLines) (a b : Logs) → AllZip (AreAlikeFiles ops all) fs gs → AreLogsOf fs a → AreLogsOf gs b → AreAlikeTied ops all a b
  tied_alike fs gs a b h p q = record {
    init = p.init ∙ (sees_same ops all fs gs h ∙ sym q.init);
    files = subst (λ (x : List (List Line)). AllZip (AllZip (AreAlikeLines ops all)) x b.files.items) (sym p.lines)
        (subst (λ (y : List (List Line)). AllZip (AllZip (AreAlikeLines ops all)) (map (λ f. f.steps) fs) y) (sym q.lines) (steps_alike fs gs h));
    order = p.order ∙ (orders_same fs gs h ∙ sym q.order);
  }

  pub lined_alike : LogsAreAlike → (ties : Bool) (fs gs : List FileLines) (a b : Lined) → AllZip (AreAlikeFiles ops all) fs gs → IsLinedOf ties fs a → IsLinedOf ties gs b
      → AreAlikeLined ops all a b
  lined_alike law ties fs gs (Sequence log) (Sequence other) h p q = law ops all fs gs log other h p.1 q.1
  lined_alike law ties fs gs (Sequence log) (Tied others) h p q = omega (arith, p.0 (open_same ties fs gs h ∙ q.0), q.1, zip_length (AreAlikeFiles ops all) fs gs h)
  lined_alike law ties fs gs (Tied logs) (Sequence other) h p q = omega (arith, q.0 (sym (open_same ties fs gs h) ∙ p.0), p.1, zip_length (AreAlikeFiles ops all) fs gs h)
  lined_alike law ties fs gs (Tied logs) (Tied others) h p q = tied_alike fs gs logs others h p.2 q.2

pub answers_alike : AnswersAlike → TiedAnswersAlike → LinedAnswersAlike
answers_alike one tied s t (Sequence log) (Sequence other) asked h =
    let same = one s t log other asked (record { specs = h.specs; smaller = h.smaller; smaller_other = h.smaller_other; logs = h.lines }) in
    record { assumed = same.assumed; unassumed = same.unassumed; answer = same.answer }
answers_alike one tied s t (Sequence log) (Tied others) asked h = absurd h.lines
answers_alike one tied s t (Tied logs) (Sequence other) asked h = absurd h.lines
answers_alike one tied s t (Tied logs) (Tied others) asked h =
    let same = tied s t logs others asked (record { specs = h.specs; smaller = h.smaller; smaller_other = h.smaller_other; logs = h.lines }) in
    record { assumed = same.assumed; unassumed = same.unassumed; answer = same.answer }

pub verdicts_alike : VerdictsAlike → TiedVerdictsAlike → LinedVerdictsAlike
verdicts_alike one tied s t (Sequence log) (Sequence other) asked h w v is =
    one s t log other asked (record { specs = h.specs; smaller = h.smaller; smaller_other = h.smaller_other; logs = h.lines }) w v is
verdicts_alike one tied s t (Sequence log) (Tied others) asked h w v is = absurd h.lines
verdicts_alike one tied s t (Tied logs) (Sequence other) asked h w v is = absurd h.lines
verdicts_alike one tied s t (Tied logs) (Tied others) asked h w v is =
    tied s t logs others asked (record { specs = h.specs; smaller = h.smaller; smaller_other = h.smaller_other; logs = h.lines }) w v is
