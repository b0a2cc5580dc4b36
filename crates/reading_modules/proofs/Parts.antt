-- A path with `.tla` at its end is cut behind its last slash.
use Rattle.std.proofs.Common.{◌≡◌, ◌≢◌, ◌⊎◌, ◌∙◌, sym, ap, inl, inr, refl, arith, ℕ, ◌+◌, ◌-◌, ◌<◌, ◌≤◌, zero, suc, add-one, List, [], ◌∷◌, ◌++◌, length, get_or, take, drop, append_assoc}
use Rattle.std.specs.Prelude.{codes}
use Rattle.std.proofs.lemmas.List.{take-append-drop, take_more, length-drop, get_or-drop}
use Rattle.std.proofs.lemmas.List.Elements.{All-from_get_or}
use Rattle.reading_modules.specs.Paths.{IsPath}

folder_of : (stem : List ℕ) (n : ℕ) → n ≤ length stem → (0 < n → get_or stem (n - 1) 0 ≡ 47)
    → (take n stem ≡ []) ⊎ ((front : List ℕ) × (take n stem ≡ front ++ 47 ∷ []))
folder_of stem zero l slash = inl refl
folder_of stem (suc n) l slash =
    let lt : n < length stem = omega arith in
    let before : suc n - 1 ≡ n = omega arith in
    let at : get_or stem n 0 ≡ 47 = ap (λ (k : ℕ). get_or stem k 0) (sym before) ∙ slash (omega arith) in
    inr (take n stem, rw (← add-one n) (take_more stem n 0 lt ∙ ap (λ (b : ℕ). take n stem ++ b ∷ []) at))

name_of : (stem : List ℕ) (n : ℕ) → n ≤ length stem → ((k : ℕ) → n ≤ k → k < length stem → get_or stem k 0 ≢ 47)
    → (i : ℕ) → i < length (drop n stem) → get_or (drop n stem) i 0 ≢ 47
name_of stem n l behind i below e = behind (n + i) (omega arith) (omega (arith, length-drop n stem)) (sym (get_or-drop n stem i 0) ∙ e)

pub path_is : (path stem : List ℕ) (n : ℕ) → path ≡ stem ++ codes ".tla" → n ≤ length stem → (0 < n → get_or stem (n - 1) 0 ≡ 47)
    → ((k : ℕ) → n ≤ k → k < length stem → get_or stem k 0 ≢ 47) → IsPath path (take n stem) (drop n stem)
path_is path stem n e l slash behind = record {
  parts = e ∙ ap (λ (s : List ℕ). s ++ codes ".tla") (sym (take-append-drop n stem)) ∙ append_assoc (take n stem) (drop n stem) (codes ".tla");
  whole = folder_of stem n l slash;
  plain = All-from_get_or (λ (b : ℕ). b ≢ 47) (drop n stem) 0 (name_of stem n l behind);
}

pub no_path : (path folder name : List ℕ) → ((front : List ℕ) → path ≢ front ++ codes ".tla") → IsPath path folder name → ⊥
no_path path folder name missing p = missing (folder ++ name) (p.parts ∙ sym (append_assoc folder name (codes ".tla")))
