-- Where the first entry of a name stands.
use Rattle.std.proofs.Common.{◌≡◌, ◌∙◌, sym, ap, refl, subst, List, [], ◌∷◌, ◌++◌, length, cond}
use Rattle.std.specs.Prelude.{ℕ, suc, ◌+◌, Bool, true, false, if◌then◌else◌, Option, Some, None, option_map, MatchOption, option_copied, slice_get, take}
use Rattle.std.specs.Borrow.{Bor}
use Rattle.std.specs.Str.{bytes_eq}
use Rattle.std.specs.Cmp.Lexicographic.{bytes_decides}
use Rattle.std.specs.declared.hash.FoldHasher.{FoldHasher}
use Rattle.std.specs.declared.hash.BuildHasherDefault.{BuildHasherDefault}
use Rattle.std.specs.HashMap.{get, HashMap, Updates, IsUnchanged}
use Rattle.std.specs.Map.{lookup}
use Rattle.base_core.specs.Texts.{same_bytes}
use Rattle.names_scopes.specs.declared.meant.Entry.{Entry}
use Rattle.names_scopes.specs.declared.meant.Named.{Named}
use Rattle.names_scopes.specs.Placed.{place_in, ArePlaced}
use Rattle.names_scopes.specs.Scopes.{among}

none_below : (o : Option ℕ) → option_map suc o ≡ None → o ≡ None
none_below None r = refl
none_below (Some i) r = absurd (cc)

none_one : (b : Bool) (o : Option ℕ) (x : Named) (a : Option Named) → (o ≡ None → a ≡ None) → (if b then Some 0 else option_map suc o) ≡ None → (if b then Some x else a) ≡ None
none_one true o x a h q = absurd (cc)
none_one false o x a h q = h (none_below o q)

pub among_none : (es : List Entry) (n : List ℕ) → place_in es n ≡ None → among es n ≡ None
among_none [] n e = refl
among_none (x ∷ es) n e = none_one (bytes_eq x.name n) (place_in es n) x.is (among es n) (among_none es n) e

-- an entry that stands there, and is the first of its name
pub record StandsAt (es : List Entry) (n : List ℕ) (i : ℕ) : Type 0 where
  pub entry : Entry
  pub at : slice_get es i ≡ Some entry
  pub is : among es n ≡ Some entry.is

stands_one : (b : Bool) (o : Option ℕ) (x : Entry) (es : List Entry) (n : List ℕ) (i : ℕ) → bytes_eq x.name n ≡ b → ((j : ℕ) → o ≡ Some j → StandsAt es n j) → (if b then Some 0 else option_map suc o) ≡ Some i → StandsAt (x ∷ es) n i
stands_one true o x es n i t h q =
    let z : 0 ≡ i = cc in
    record { entry = x; at = ap (λ j. slice_get (x ∷ es) j) (sym z); is = ap (λ c. if c then Some x.is else among es n) t }
stands_one false None x es n i t h q = absurd (cc)
stands_one false (Some j) x es n i t h q =
    let z : suc j ≡ i = cc in
    let r : StandsAt es n j = h j refl in
    record { entry = r.entry; at = ap (λ k. slice_get (x ∷ es) k) (sym z) ∙ r.at; is = ap (λ c. if c then Some x.is else among es n) t ∙ r.is }

pub among_place : (es : List Entry) (n : List ℕ) (i : ℕ) → place_in es n ≡ Some i → StandsAt es n i
among_place [] n i e = absurd (cc)
among_place (x ∷ es) n i e = stands_one (bytes_eq x.name n) (place_in es n) x es n i refl (λ j p. among_place es n j p) e

-- the first of two
abbrev or2 : Option ℕ → Option ℕ → Option ℕ
or2 (Some i) o = Some i
or2 None o = o

place_push : (es : List Entry) (x : Entry) (n : List ℕ) → place_in (es ++ x ∷ []) n ≡ or2 (place_in es n) (if bytes_eq x.name n then Some (length es) else None)
place_push [] x n = one (bytes_eq x.name n)
  where
    one : (b : Bool) → (if b then Some 0 else option_map suc None) ≡ or2 None (if b then Some 0 else None)
    one true = refl
    one false = refl
place_push (e ∷ es) x n = one (bytes_eq e.name n) (bytes_eq x.name n) (place_in es n) (place_push es x n)
  where
    one : (b c : Bool) (o : Option ℕ) → place_in (es ++ x ∷ []) n ≡ or2 o (if c then Some (length es) else None) → (if b then Some 0 else option_map suc (place_in (es ++ x ∷ []) n)) ≡ or2 (if b then Some 0 else option_map suc o) (if c then Some (length (e ∷ es)) else None)
    one true c o p = refl
    one false true None p = ap (option_map suc) p
    one false false None p = ap (option_map suc) p
    one false c (Some i) p = ap (option_map suc) p

same_name : (a : List ℕ) → bytes_eq a a ≡ true
same_name a = (bytes_decides a a).1 refl

-- a name that stands before already
pub placed_known : (es : List Entry) (m : HashMap (List ℕ) ℕ (BuildHasherDefault FoldHasher)) (x : Entry) (i : ℕ) → get bytes_eq m x.name ≡ Some i → ArePlaced es m → ArePlaced (es ++ x ∷ []) m
placed_known es m x i k h n = h n ∙ sym (place_push es x n ∙ one (bytes_eq x.name n) refl (place_in es n) refl)
  where
    one : (b : Bool) → bytes_eq x.name n ≡ b → (o : Option ℕ) → place_in es n ≡ o → or2 o (if b then Some (length es) else None) ≡ o
    one b e (Some j) p = refl
    one false e None p = refl
    one true e None p =
        let same : x.name ≡ n = same_bytes x.name n e in
        let here : get bytes_eq m n ≡ Some i = subst (λ (y : List ℕ). get bytes_eq m y ≡ Some i) same k in
        absurd (let q : None ≡ Some i = sym p ∙ sym (h n) ∙ here in cc)

-- a name that is new
pub placed_new : (es : List Entry) (m m' : HashMap (List ℕ) ℕ (BuildHasherDefault FoldHasher)) (x : Entry) (name : List ℕ) → name ≡ x.name → get bytes_eq m name ≡ None → ArePlaced es m → Updates bytes_eq m m' name (Some (length es)) → ArePlaced (es ++ x ∷ []) m'
placed_new es m m' x name w none h u n =
    let v : Updates bytes_eq m m' x.name (Some (length es)) = subst (λ (y : List ℕ). Updates bytes_eq m m' y (Some (length es))) w u in
    let k : get bytes_eq m x.name ≡ None = subst (λ (y : List ℕ). get bytes_eq m y ≡ None) w none in
    v.0 n ∙ sym (place_push es x n ∙ one k (bytes_eq x.name n) refl)
  where
    one : get bytes_eq m x.name ≡ None → (b : Bool) → bytes_eq x.name n ≡ b → or2 (place_in es n) (if b then Some (length es) else None) ≡ cond b (Some (length es)) (get bytes_eq m n)
    one k true e =
        let same : x.name ≡ n = same_bytes x.name n e in
        let here : get bytes_eq m n ≡ None = subst (λ (y : List ℕ). get bytes_eq m y ≡ None) same k in
        ap (λ o. or2 o (Some (length es))) (sym (h n) ∙ here)
    one k false e = no_more (place_in es n) ∙ sym (h n)
      where
        no_more : (o : Option ℕ) → or2 o None ≡ o
        no_more (Some i) = refl
        no_more None = refl

-- what a list answers at the place of an entry
pub gives_entry : (es : List Entry) (n : List ℕ) (i : ℕ) (r : Option (Bor Entry)) → place_in es n ≡ Some i → option_copied r ≡ slice_get es i → MatchOption r (among es n ≡ None) (λ e. among es n ≡ Some e.now.is)
gives_entry es n i (Some e) p k =
    let s : StandsAt es n i = among_place es n i p in
    let same : Some e.now ≡ Some s.entry = k ∙ s.at in
    s.is ∙ ap (λ (x : Entry). Some x.is) (sym (let q : e.now ≡ s.entry = cc in q))
gives_entry es n i None p k =
    let s : StandsAt es n i = among_place es n i p in
    absurd (let q : None ≡ Some s.entry = k ∙ s.at in cc)

take_begin : (es ys : List Entry) → take (length es) (es ++ ys) ≡ es
take_begin [] ys = refl
take_begin (e ∷ es) ys = ap (λ (l : List Entry). e ∷ l) (take_begin es ys)

unchanged_gets : (m m' : HashMap (List ℕ) ℕ (BuildHasherDefault FoldHasher)) (n : List ℕ) → IsUnchanged m m' → get bytes_eq m' n ≡ get bytes_eq m n
unchanged_gets m m' n u = ap (λ (l : List (List ℕ × ℕ)). lookup (bytes_eq n) l) u

-- an entry that was pushed and popped again, beside places that did not change
pub popped_placed : (es pushed popped : List Entry) (m m' : HashMap (List ℕ) ℕ (BuildHasherDefault FoldHasher)) (x : Entry) (k : ℕ) → ArePlaced es m → pushed ≡ es ++ x ∷ [] → k ≡ length es → popped ≡ take k pushed → IsUnchanged m m' → ArePlaced popped m'
popped_placed es pushed popped m m' x k h p e t u n =
    let same : popped ≡ es = t ∙ ap (λ (j : ℕ). take j pushed) e ∙ ap (λ (l : List Entry). take (length es) l) p ∙ take_begin es (x ∷ []) in
    unchanged_gets m m' n u ∙ h n ∙ ap (λ (l : List Entry). place_in l n) (sym same)

pub popped_is : (es pushed popped : List Entry) (x : Entry) (k : ℕ) → pushed ≡ es ++ x ∷ [] → k ≡ length es → popped ≡ take k pushed → popped ≡ es
popped_is es pushed popped x k p e t = t ∙ ap (λ (j : ℕ). take j pushed) e ∙ ap (λ (l : List Entry). take (length es) l) p ∙ take_begin es (x ∷ [])
