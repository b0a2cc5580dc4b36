-- From the texts that are kept to what is told.
use Rattle.std.proofs.Common.{◌≡◌, ◌⊎◌, ◌↔◌, inl, inr, refl, sym, ◌∙◌, ap, subst, arith, ℕ, zero, suc, ◌≤◌, ◌<◌, ◌+◌, List, [], ◌∷◌, ◌++◌, length, take, append_assoc}
use Rattle.std.specs.Prelude.{Contains}
use Rattle.std.proofs.lemmas.List.{take_all}
use Rattle.values_core.specs.Ascending.{none_in}
use Rattle.states_core.specs.States.{Values}
use Rattle.names_terms.specs.declared.spec.Spec.{Spec}
use Rattle.logs_updates.specs.declared.line.Line.{Line}
use Rattle.run_texts.specs.Answers.{Named}
use Rattle.run_near_lines.specs.Adding.{Adds, OneSays, with_texts}
use Rattle.run_near_lines.specs.Tells.{IsNearLine, TellsNear}
use Rattle.run_near_lines.specs.Texts.{first_told, near_told}
use Rattle.run_near_lines.proofs.FirstTexts.{none_ascend, texts_ascend, texts_in}

-- one more than are told of is enough

first_take : (m : ℕ) (ts : List (List ℕ)) → first_told m (take (suc m) ts) ≡ first_told m ts
first_take zero [] = refl
first_take zero (t ∷ ts) = refl
first_take (suc m) [] = refl
first_take (suc m) (t ∷ ts) = ap (λ (rest : List ℕ). t ++ rest) (first_take m ts)

near_take : (m : ℕ) (ts : List (List ℕ)) → near_told m (take (suc m) ts) ≡ near_told m ts
near_take m [] = refl
near_take m (t ∷ ts) = first_take m (t ∷ ts)

-- one put more than there is room for is cut off

pub cut_last : (k : ℕ) (xs ys : List (List ℕ)) (x : List ℕ) → xs ≡ ys ++ x ∷ [] → length xs ≤ k + 1 → k < length xs → ys ≡ take k xs
cut_last k xs ys x e few many = first k ys (ys_long k ys (subst (λ (zs : List (List ℕ)). length zs ≤ k + 1) e few) (subst (λ (zs : List (List ℕ)). k < length zs) e many)) ∙ ap (λ (zs : List (List ℕ)). take k zs) (sym e)
  where
    longer : (ys : List (List ℕ)) → length (ys ++ x ∷ []) ≡ length ys + 1
    longer [] = omega arith
    longer (y ∷ ys) = let l : length (ys ++ x ∷ []) ≡ length ys + 1 = longer ys in omega (arith, l)

    ys_long : (k : ℕ) (ys : List (List ℕ)) → length (ys ++ x ∷ []) ≤ k + 1 → k < length (ys ++ x ∷ []) → length ys ≡ k
    ys_long k ys a b = let l = longer ys in omega (arith, a, b, l)

    first : (k : ℕ) (ys : List (List ℕ)) → length ys ≡ k → ys ≡ take k (ys ++ x ∷ [])
    first zero [] l = refl
    first zero (y ∷ ys) l = absurd (omega (arith, l))
    first (suc k) [] l = absurd (omega (arith, l))
    first (suc k) (y ∷ ys) l = ap (λ (zs : List (List ℕ)). y ∷ zs) (first k ys (omega (arith, l)))

pub near_is : (g : Spec) (line : Line) (l : Named) (most : ℕ) (entries : List Values) (keys : List (List ℕ)) (text : List ℕ) → Adds (most + 1) (OneSays (IsNearLine g line l) entries) [] keys → text ≡ near_told most keys → TellsNear g line l most entries text
near_is g line l most entries keys text a e = record {
  lines = lines;
  ascend = texts_ascend [] a.texts none_ascend;
  are = λ t. (
    λ m. elim ((texts_in [] a.texts t).0 m) [ inl n ↦ absurd (none_in t n) | inr n ↦ (a.are t).0 n ],
    λ h. (texts_in [] a.texts t).1 (inr ((a.are t).1 h)),
  );
  told = e ∙ ap (λ (ts : List (List ℕ)). near_told most ts) a.left ∙ ap (λ (k : ℕ). near_told most (take k lines)) one_more ∙ near_take most lines;
}
  where
    lines : List (List ℕ)
    lines = with_texts [] a.texts

    one_more : most + 1 ≡ suc most
    one_more = omega arith
