-- The names that a tree mentions, each with whether it is above level 0: what such a list tells.
use Rattle.std.proofs.Common.{◌≡◌, ◌∙◌, sym, ap, refl, subst, List, [], ◌∷◌, ◌++◌, length, ◌<◌, ◌≤◌, arith, map, append_assoc, append-nil}
use Rattle.std.specs.Prelude.{ℕ, zero, suc, ◌+◌, Bool, true, false, if◌then◌else◌, Contains, drop, get_or}
use Rattle.std.specs.Str.{bytes_eq}
use Rattle.std.specs.Cmp.Lexicographic.{bytes_decides}
use Rattle.std.proofs.lemmas.List.{map-append}
use Rattle.base_core.specs.Texts.{same_bytes}
use Rattle.names_scopes.proofs.LevelLoops.{cut_at, cut_end}
use Rattle.names_least_levels.specs.declared.told.NameLevel.{NameLevel}
use Rattle.names_least_levels.specs.declared.told.Told.{Told}
use Rattle.names_least_levels.specs.declared.told.Told.TheVariants.{Above, Constant}
use Rattle.names_least_levels.specs.Levels.{names_rise, told_rises}
use Rattle.names_least_levels.specs.Rising.{Rising}

abbrev name_of : NameLevel → List ℕ
name_of w = w.name

-- each entry tells of its name what is so
abbrev pub TellEach : Rising → List NameLevel → Type 0
TellEach g [] = Unit {0}
TellEach g (w ∷ ws) = (told_rises [] w.told ≡ g w.name) × TellEach g ws

-- so far, of the first names
pub record ToldSoFar (g : Rising) (names : List (List ℕ)) (i : ℕ) (ws : List NameLevel) : Type 0 where
  pub each : TellEach g ws
  pub names_are : map name_of ws ++ drop i names ≡ names

pub told_begin : (g : Rising) (names : List (List ℕ)) → ToldSoFar g names 0 []
told_begin g names = record { each = tt; names_are = refl }

tell_more : (g : Rising) (ws : List NameLevel) (w : NameLevel) → TellEach g ws → told_rises [] w.told ≡ g w.name → TellEach g (ws ++ w ∷ [])
tell_more g [] w h t = (t, tt)
tell_more g (x ∷ ws) w h t = (h.0, tell_more g ws w h.1 t)

pub level_tells : (b : Bool) (t : Told) → t ≡ (if b then Above else Constant) → told_rises [] t ≡ b
level_tells true t q = ap (told_rises []) q
level_tells false t q = ap (told_rises []) q

pub told_on : (g : Rising) (names : List (List ℕ)) (i : ℕ) (old new : List NameLevel) (w : NameLevel) (x : List ℕ) → i < length names → x ≡ get_or names i x → new ≡ old ++ w ∷ [] → w.name ≡ x → told_rises [] w.told ≡ g x → ToldSoFar g names i old → ToldSoFar g names (i + 1) new
told_on g names i old new w x lt e n q t h =
    record {
      each = subst (λ (l : List NameLevel). TellEach g l) (sym n) (tell_more g old w h.each (t ∙ ap g (sym q)));
      names_are =
          ap (λ (l : List NameLevel). map name_of l ++ drop (i + 1) names) n ∙ ap (λ (l : List (List ℕ)). l ++ drop (i + 1) names) (map-append name_of old (w ∷ [])) ∙ append_assoc (map name_of old) (w.name ∷ []) (drop (i + 1) names)
          ∙ ap (λ (m : List ℕ). map name_of old ++ (m ∷ drop (i + 1) names)) q ∙ ap (λ (l : List (List ℕ)). map name_of old ++ l) (sym (cut_at names i x lt e)) ∙ h.names_are;
    }

no_name : (n : List ℕ) → Contains [] n → ⊥
no_name n (k, h, e) = absurd (omega arith)

itself_is : (n : List ℕ) → bytes_eq n n ≡ true
itself_is n = (bytes_decides n n).1 refl

tells : (g : Rising) (ws : List NameLevel) (n : List ℕ) → TellEach g ws → Contains (map name_of ws) n → names_rise ws [] n ≡ g n
tells g [] n h c = absurd (no_name n c)
tells g (w ∷ ws) n h c = by_test (bytes_eq w.name n) refl c (λ d. tells g ws n h.1 d)
  where
    by_test : (b : Bool) → bytes_eq w.name n ≡ b → Contains (map name_of (w ∷ ws)) n → (Contains (map name_of ws) n → names_rise ws [] n ≡ g n) → (if b then told_rises [] w.told else names_rise ws [] n) ≡ g n
    by_test true q d f = h.0 ∙ ap g (same_bytes w.name n q)
    by_test false q (zero, lt, e) f = let other : true ≡ false = sym (itself_is n) ∙ sym (ap (λ (m : List ℕ). bytes_eq m n) e) ∙ q in absurd (cc)
    by_test false q (suc k, lt, e) f = let less : k < length (map name_of ws) = omega (arith, lt) in f (k, less, e)

pub told_end : (g : Rising) (names : List (List ℕ)) (i : ℕ) (ws : List NameLevel) → length names ≤ i → ToldSoFar g names i ws → (n : List ℕ) → Contains names n → names_rise ws [] n ≡ g n
told_end g names i ws le h n c =
    let all : map name_of ws ≡ names = sym (append-nil (map name_of ws)) ∙ ap (λ (l : List (List ℕ)). map name_of ws ++ l) (sym (cut_end names i le)) ∙ h.names_are in
    tells g ws n h.each (subst (λ (l : List (List ℕ)). Contains l n) (sym all) c)
