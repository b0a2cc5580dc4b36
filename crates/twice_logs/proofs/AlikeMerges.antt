-- Files that are alike have logs that are alike: the clocks are the same, and so is the one order of the lines.
use Rattle.std.proofs.Common.{◌≡◌, ℕ, zero, suc, List, [], ◌∷◌, ◌++◌, map, Some, None, refl, sym, ◌∙◌, subst}
use Rattle.std.specs.Prelude.{◌||◌, slice_get}
use Rattle.std.specs.List.{AllZip, list_any}
use Rattle.names_terms.specs.declared.operator.Operator.{Operator}
use Rattle.logs_updates.specs.Clocks.{is_vector, number_in, vector_in}
use Rattle.logs_updates.specs.declared.clock.Clock.{Clock}
use Rattle.logs_updates.specs.declared.line.Line.{Line}
use Rattle.logs_updates.specs.declared.line.Log.{Log}
use Rattle.base_clock_order.specs.Orders.{Clocks, IsMerged, IsOnlyOrder}
use Rattle.base_clock_order.specs.declared.order.LineRef.{LineRef}
use Rattle.logs_lines.specs.declared.file.FileLines.{FileLines}
use Rattle.logs_files.specs.Logs.{IsLogOf, StandsAt, are_vectors, numbers_in, first_sees, sees_of, vectors_in}
use Rattle.twice_logs.specs.AlikeLogs.{AreAlikeLines, AreAlikeLogs}
use Rattle.twice_logs.specs.AlikeFiles.{AreAlikeFiles}

some_is : {A : Type 0} (a b : A) → Some a ≡ Some b → a ≡ b
some_is a b e = cc

none_is_some : {A : Type 0} (a : A) → None ≡ Some a → ⊥
none_is_some a e = cc

-- what stands at one place of both
zip_get : {A B : Type 0} (R : A → B → Type 0) (xs : List A) (ys : List B) (i : ℕ) (x : A) (y : B) → AllZip R xs ys → slice_get xs i ≡ Some x → slice_get ys i ≡ Some y → R x y
zip_get R [] [] i x y h p q = absurd (none_is_some x p)
zip_get R [] (b ∷ ys) i x y h p q = absurd h
zip_get R (a ∷ xs) [] i x y h p q = absurd h
zip_get {A} {B} R (a ∷ xs) (b ∷ ys) zero x y h p q =
    let there : R x b = subst (λ (c : A). R c b) (some_is a x p) h.0 in
    subst (λ (c : B). R x c) (some_is b y q) there
zip_get R (a ∷ xs) (b ∷ ys) (suc i) x y h p q = zip_get R xs ys i x y h.1 p q

-- one list beside two
zip_both : {A B C : Type 0} (R : A → B → Type 0) (S : A → C → Type 0) (T : B → C → Type 0) (xs : List A) (ys : List B) (zs : List C) → ((x : A) (y : B) (z : C) → R x y → S x z → T y z)
    → AllZip R xs ys → AllZip S xs zs → AllZip T ys zs
zip_both R S T [] [] [] both p q = tt
zip_both R S T [] [] (z ∷ zs) both p q = absurd q
zip_both R S T [] (y ∷ ys) zs both p q = absurd p
zip_both R S T (x ∷ xs) [] zs both p q = absurd p
zip_both R S T (x ∷ xs) (y ∷ ys) [] both p q = absurd q
zip_both R S T (x ∷ xs) (y ∷ ys) (z ∷ zs) both p q = (both x y z p.0 q.0, zip_both R S T xs ys zs both p.1 q.1)

module _ (ops all : List Operator) where
  module _ {K : Type 0} (of : Clock → K) where
    steps_same : (ls ms : List Line) → AllZip (AreAlikeLines ops all) ls ms → map (λ (l : Line). of l.clock) ls ≡ map (λ (l : Line). of l.clock) ms
    steps_same [] [] h = refl
    steps_same [] (m ∷ ms) h = absurd h
    steps_same (l ∷ ls) [] h = absurd h
    steps_same (l ∷ ls) (m ∷ ms) h = λ i. of (h.0.clock i) ∷ steps_same ls ms h.1 i

    files_same : (fs gs : List FileLines) → AllZip (AreAlikeFiles ops all) fs gs
        → map (λ (f : FileLines). map (λ (l : Line). of l.clock) f.steps) fs ≡ map (λ (f : FileLines). map (λ (l : Line). of l.clock) f.steps) gs
    files_same [] [] h = refl
    files_same [] (g ∷ gs) h = absurd h
    files_same (f ∷ fs) [] h = absurd h
    files_same (f ∷ fs) (g ∷ gs) h = λ i. steps_same f.steps g.steps h.0.steps i ∷ files_same fs gs h.1 i

  pub all_clocks_same : (fs gs : List FileLines) → AllZip (AreAlikeFiles ops all) fs gs → numbers_in fs ≡ numbers_in gs
  all_clocks_same fs gs h = files_same number_in fs gs h

  pub all_vectors_same : (fs gs : List FileLines) → AllZip (AreAlikeFiles ops all) fs gs → vectors_in fs ≡ vectors_in gs
  all_vectors_same fs gs h = files_same vector_in fs gs h

  some_vector_same : (ls ms : List Line) → AllZip (AreAlikeLines ops all) ls ms → list_any (λ (l : Line). is_vector l.clock) ls ≡ list_any (λ (l : Line). is_vector l.clock) ms
  some_vector_same [] [] h = refl
  some_vector_same [] (m ∷ ms) h = absurd h
  some_vector_same (l ∷ ls) [] h = absurd h
  some_vector_same (l ∷ ls) (m ∷ ms) h = λ i. is_vector (h.0.clock i) || some_vector_same ls ms h.1 i

  pub are_vectors_same : (fs gs : List FileLines) → AllZip (AreAlikeFiles ops all) fs gs → are_vectors fs ≡ are_vectors gs
  are_vectors_same [] [] h = refl
  are_vectors_same [] (g ∷ gs) h = absurd h
  are_vectors_same (f ∷ fs) [] h = absurd h
  are_vectors_same (f ∷ fs) (g ∷ gs) h = λ i. some_vector_same f.steps g.steps h.0.steps i || are_vectors_same fs gs h.1 i

  pub sees_same : (fs gs : List FileLines) → AllZip (AreAlikeFiles ops all) fs gs → first_sees fs ≡ first_sees gs
  sees_same [] [] h = refl
  sees_same [] (g ∷ gs) h = absurd h
  sees_same (f ∷ fs) [] h = absurd h
  sees_same (f ∷ fs) (g ∷ gs) h = λ i. sees_of (h.0.init i) ++ sees_same fs gs h.1 i

  lines_stand : (fs gs : List FileLines) (place : LineRef) (l m : Line) → AllZip (AreAlikeFiles ops all) fs gs → StandsAt fs place l → StandsAt gs place m → AreAlikeLines ops all l m
  lines_stand fs gs place l m h p q =
      let files : AreAlikeFiles ops all p.0 q.0 = zip_get (AreAlikeFiles ops all) fs gs place.file p.0 q.0 h p.1 q.1 in
      zip_get (AreAlikeLines ops all) p.0.steps q.0.steps place.index l m files.steps p.2 q.2

  pub logs_alike : IsOnlyOrder → (fs gs : List FileLines) (log m : Log) → AllZip (AreAlikeFiles ops all) fs gs → IsLogOf fs log → IsLogOf gs m → AreAlikeLogs ops all log m
  logs_alike only fs gs log m h p q =
      let merged : IsMerged (numbers_in fs) q.order = subst (λ (c : Clocks). IsMerged c q.order) (sym (all_clocks_same fs gs h)) q.merged in
      let order : q.order ≡ p.order = only (numbers_in fs) q.order p.order merged p.merged in
      let there : AllZip (StandsAt gs) p.order m.lines = subst (λ (o : List LineRef). AllZip (StandsAt gs) o m.lines) order q.lines in
      record {
        init = p.init ∙ (sees_same fs gs h ∙ sym q.init);
        lines = zip_both (StandsAt fs) (StandsAt gs) (AreAlikeLines ops all) p.order log.lines m.lines (λ place l k a b. lines_stand fs gs place l k h a b) p.lines there;
      }
