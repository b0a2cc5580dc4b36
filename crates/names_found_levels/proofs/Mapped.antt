-- What a map of names holds when one more name comes.
use Rattle.std.proofs.Common.{◌≡◌, ◌∙◌, ◌<◌, ◌+◌, sym, ap, refl, subst, arith, List, [], ◌∷◌, ◌++◌, cond, drop, length, get_or, append_assoc}
use Rattle.std.proofs.Math.Seq.{drop-cons}
use Rattle.std.specs.Prelude.{ℕ, suc, Bool, true, false, if◌then◌else◌, Option, Some, None}
use Rattle.std.specs.Str.{bytes_eq}
use Rattle.std.specs.declared.hash.FoldHasher.{FoldHasher}
use Rattle.std.specs.declared.hash.BuildHasherDefault.{BuildHasherDefault}
use Rattle.std.specs.HashMap.{get, HashMap, Updates}
use Rattle.base_core.specs.Texts.{same_bytes}
use Rattle.names_found_levels.specs.Found.{AreFound, told_first, first_rises}
use Rattle.names_least_levels.specs.declared.told.NameLevel.{NameLevel}
use Rattle.names_least_levels.specs.declared.told.Told.{Told}
use Rattle.names_least_levels.specs.Levels.{names_rise, told_rises}

-- the first of two
abbrev or2 : Option Told → Option Told → Option Told
or2 (Some t) o = Some t
or2 None o = o

found_push : (ws : List NameLevel) (x : NameLevel) (n : List ℕ) → told_first (ws ++ x ∷ []) n ≡ or2 (told_first ws n) (if bytes_eq x.name n then Some x.told else None)
found_push [] x n = refl
found_push (w ∷ ws) x n = one (bytes_eq w.name n) (found_push ws x n)
  where
    one : (b : Bool) → told_first (ws ++ x ∷ []) n ≡ or2 (told_first ws n) (if bytes_eq x.name n then Some x.told else None)
        → (if b then Some w.told else told_first (ws ++ x ∷ []) n) ≡ or2 (if b then Some w.told else told_first ws n) (if bytes_eq x.name n then Some x.told else None)
    one true e = refl
    one false e = e

-- a name that stands before already
pub found_known : (ws : List NameLevel) (m : HashMap (List ℕ) Told (BuildHasherDefault FoldHasher)) (x : NameLevel) (t : Told) → get bytes_eq m x.name ≡ Some t → AreFound ws m → AreFound (ws ++ x ∷ []) m
found_known ws m x t k h n = h n ∙ sym (found_push ws x n ∙ one (bytes_eq x.name n) refl (told_first ws n) refl)
  where
    one : (b : Bool) → bytes_eq x.name n ≡ b → (o : Option Told) → told_first ws n ≡ o → or2 o (if b then Some x.told else None) ≡ o
    one b e (Some s) p = refl
    one false e None p = refl
    one true e None p =
        let same : x.name ≡ n = same_bytes x.name n e in
        let here : get bytes_eq m n ≡ Some t = subst (λ (y : List ℕ). get bytes_eq m y ≡ Some t) same k in
        absurd (let q : None ≡ Some t = sym p ∙ sym (h n) ∙ here in cc)

-- a name that is new
pub found_new : (ws : List NameLevel) (m m' : HashMap (List ℕ) Told (BuildHasherDefault FoldHasher)) (x : NameLevel) (name : List ℕ) → name ≡ x.name → get bytes_eq m x.name ≡ None → AreFound ws m → Updates bytes_eq m m' name (Some x.told) → AreFound (ws ++ x ∷ []) m'
found_new ws m m' x name w none h u n =
    let v : Updates bytes_eq m m' x.name (Some x.told) = subst (λ (y : List ℕ). Updates bytes_eq m m' y (Some x.told)) w u in
    v.0 n ∙ sym (found_push ws x n ∙ one none (bytes_eq x.name n) refl)
  where
    one : get bytes_eq m x.name ≡ None → (b : Bool) → bytes_eq x.name n ≡ b → or2 (told_first ws n) (if b then Some x.told else None) ≡ cond b (Some x.told) (get bytes_eq m n)
    one k true e =
        let same : x.name ≡ n = same_bytes x.name n e in
        let here : get bytes_eq m n ≡ None = subst (λ (y : List ℕ). get bytes_eq m y ≡ None) same k in
        ap (λ o. or2 o (Some x.told)) (sym (h n) ∙ here)
    one k false e = no_more (told_first ws n) ∙ sym (h n)
      where
        no_more : (o : Option Told) → or2 o None ≡ o
        no_more (Some t) = refl
        no_more None = refl

pub rises_first : (ws : List NameLevel) (bs : List Bool) (n : List ℕ) → first_rises bs (told_first ws n) ≡ names_rise ws bs n
rises_first [] bs n = refl
rises_first (w ∷ ws) bs n = one (bytes_eq w.name n) (rises_first ws bs n)
  where
    one : (b : Bool) → first_rises bs (told_first ws n) ≡ names_rise ws bs n → first_rises bs (if b then Some w.told else told_first ws n) ≡ (if b then told_rises bs w.told else names_rise ws bs n)
    one true e = refl
    one false e = e

-- one more of a list that is walked
pub walked_one : (before names : List NameLevel) (i : ℕ) (x : NameLevel) → before ++ drop i names ≡ names → i < length names → x ≡ get_or names i x → (before ++ x ∷ []) ++ drop (i + 1) names ≡ names
walked_one before names i x h l e =
    let here : drop i names ≡ x ∷ drop (suc i) names = drop-cons names i x l ∙ ap (λ (y : NameLevel). y ∷ drop (suc i) names) (sym e) in
    let next : i + 1 ≡ suc i = omega arith in
    append_assoc before (x ∷ []) (drop (i + 1) names) ∙ ap (λ (k : ℕ). before ++ x ∷ drop k names) next ∙ ap (λ (r : List NameLevel). before ++ r) (sym here) ∙ h
