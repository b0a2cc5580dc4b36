-- Names that are declared one behind the other, and the map that knows them.
use Rattle.std.proofs.Common.{◌≡◌, refl, ◌+◌, ◌<◌, suc, length, take, drop, get_or, sym, ap, ◌∙◌, subst, ℕ, Bool, true, false, cond, if◌then◌else◌, List, [], ◌∷◌, ◌++◌, append_assoc, append-nil}
use Rattle.std.specs.Prelude.{Option, Some, None, option_map}
use Rattle.std.proofs.lemmas.List.{take-append-drop, take_more}
use Rattle.std.proofs.Math.Seq.{drop-cons}
use Rattle.std.specs.Str.{bytes_eq}
use Rattle.std.specs.Cmp.Lexicographic.{bytes_decides}
use Rattle.std.specs.HashMap.{get, Updates}
use Rattle.base_core.specs.Texts.{same_bytes}
use Rattle.base_core.specs.declared.place.Place.{Place}
use Rattle.reading_trees.specs.declared.module.Declared.{Declared}
use Rattle.reading_modules.specs.Known.{Places, Knows}
use Rattle.reading_modules.specs.Standard.{is_brought}
use Rattle.reading_modules.specs.Twice.{place_among, stands, AreNew, IsTwice}

-- the first place that there is
abbrev or_else : Option Place → Option Place → Option Place
or_else None o = o
or_else (Some at) o = Some at

or_else_if : (b : Bool) (at : Place) (p o r : Option Place) → r ≡ or_else p o
    → (if b then Some at else r) ≡ or_else (if b then Some at else p) o
or_else_if true at p o r e = refl
or_else_if false at p o r e = e

place_push : (name : List ℕ) (ds : List Declared) (d : Declared)
    → place_among name (ds ++ d ∷ []) ≡ or_else (place_among name ds) (if bytes_eq name d.name then Some d.at else None)
place_push name [] d = refl
place_push name (c ∷ ds) d = or_else_if (bytes_eq name c.name) c.at (place_among name ds) _ _ (place_push name ds d)

pub same_name : (a : List ℕ) → bytes_eq a a ≡ true
same_name a = (bytes_decides a a).1 refl

turned : (a b : List ℕ) (r : Bool) → bytes_eq a b ≡ r → bytes_eq a b ≡ false → bytes_eq b a ≡ false
turned a b r e f = elim (bytes_eq b a) as (λ v. bytes_eq b a ≡ v → bytes_eq b a ≡ false) [
  | true ↦ λ t. absurd (let same : b ≡ a = same_bytes b a t in
      let eq : bytes_eq a b ≡ true = subst (λ (x : List ℕ). bytes_eq a x ≡ true) (sym same) (same_name a) in cc)
  | false ↦ λ t. t
] refl

none_first : (p o : Option Place) → p ≡ None → or_else p o ≡ o
none_first None o e = refl
none_first (Some at) o e = absurd (cc)

none_behind : (p o : Option Place) → o ≡ None → or_else p o ≡ p
none_behind None o e = e
none_behind (Some at) o e = refl

-- one more name that was not known
knows_push : (m n : Places) (ds : List Declared) (d : Declared) → Knows m ds → place_among d.name ds ≡ None
    → Updates bytes_eq m n d.name (Some d.at) → Knows n (ds ++ d ∷ [])
knows_push m n ds d knows apart put name = by_test (bytes_eq d.name name) refl
  where
    by_test : (b : Bool) → bytes_eq d.name name ≡ b → get bytes_eq n name ≡ place_among name (ds ++ d ∷ [])
    by_test true e =
        let same : d.name ≡ name = same_bytes d.name name e in
        let found : get bytes_eq n name ≡ Some d.at = put.0 name ∙ ap (λ v. cond v (Some d.at) (get bytes_eq m name)) e in
        let none : place_among name ds ≡ None = subst (λ (x : List ℕ). place_among x ds ≡ None) same apart in
        let test : bytes_eq name d.name ≡ true = subst (λ (x : List ℕ). bytes_eq x d.name ≡ true) same (same_name d.name) in
        let behind : or_else (place_among name ds) (if bytes_eq name d.name then Some d.at else None) ≡ Some d.at =
        none_first _ _ none ∙ ap (λ v. if v then Some d.at else None) test in
        found ∙ sym (place_push name ds d ∙ behind)
    by_test false e =
        let found : get bytes_eq n name ≡ get bytes_eq m name = put.2 name e in
        let test : bytes_eq name d.name ≡ false = turned d.name name false e e in
        let behind : or_else (place_among name ds) (if bytes_eq name d.name then Some d.at else None) ≡ place_among name ds =
        none_behind _ _ (ap (λ v. if v then Some d.at else None) test) in
        found ∙ knows name ∙ sym (place_push name ds d ∙ behind)

-- one more new name
new_push : (standard : List (List ℕ)) (before ds : List Declared) (d : Declared) → AreNew standard before ds
    → stands standard (before ++ ds) d.name ≡ None → AreNew standard before (ds ++ d ∷ [])
new_push standard before [] d new e = (subst (λ (xs : List Declared). stands standard xs d.name ≡ None) (append-nil before) e, tt)
new_push standard before (c ∷ ds) d new e = (
  new.0,
  new_push standard (before ++ c ∷ []) ds d new.1
      (subst (λ (xs : List Declared). stands standard xs d.name ≡ None) (sym (append_assoc before (c ∷ []) ds)) e),
)

none_stands : (b : Bool) (p : Option Place) → (if b then Some None else option_map (λ at. Some at) p) ≡ None → p ≡ None
none_stands true p e = absurd (cc)
none_stands false None e = refl
none_stands false (Some at) e = absurd (cc)

-- the name at an index is one more, and it is new
pub known_on : (standard : List (List ℕ)) (m n : Places) (names : List Declared) (i : ℕ) (d : Declared) → i < length names → d ≡ get_or names i d
    → Knows m (take i names) → AreNew standard [] (take i names) → stands standard (take i names) d.name ≡ None
    → Updates bytes_eq m n d.name (Some d.at) → Knows n (take (i + 1) names) × AreNew standard [] (take (i + 1) names)
known_on standard m n names i d lt at knows new none put =
    let more : take (i + 1) names ≡ take i names ++ d ∷ [] = take_more names i d lt ∙ ap (λ (x : Declared). take i names ++ x ∷ []) (sym at) in
    let apart : place_among d.name (take i names) ≡ None = none_stands (is_brought standard d.name) _ none in (
      subst (λ (ds : List Declared). Knows n ds) (sym more) (knows_push m n (take i names) d knows apart put),
      subst (λ (ds : List Declared). AreNew standard [] ds) (sym more) (new_push standard [] (take i names) d new none),
    )

-- the name at an index stands before
pub twice_at : (standard : List (List ℕ)) (names : List Declared) (i : ℕ) (d : Declared) (earlier : Option Place) → i < length names
    → d ≡ get_or names i d → AreNew standard [] (take i names) → stands standard (take i names) d.name ≡ Some earlier
    → IsTwice standard names d.name d.at earlier
twice_at standard names i d earlier lt at new is = record {
  before = take i names;
  rest = drop (suc i) names;
  whole = sym (take-append-drop i names) ∙ ap (λ (ds : List Declared). take i names ++ ds) (drop-cons names i d lt ∙ ap (λ (x : Declared). x ∷ drop (suc i) names) (sym at));
  new_before = new;
  twice = is;
}
