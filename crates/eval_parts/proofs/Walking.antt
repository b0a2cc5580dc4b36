-- The walk over combinations: it begins with the first and each step goes on to the next.
use Rattle.std.proofs.Common.{◌≡◌, refl, ap, sym, ◌∙◌, subst, ℕ, zero, suc, ◌+◌, ◌<◌, ◌≤◌, Bool, true, false, List, [], ◌∷◌, ◌++◌, length, map, take, drop, set, get_or, drop-cons, append_assoc, arith, rules}
use Rattle.std.proofs.lemmas.List.{take_more, take-set, drop-set, length-set, map-append}
use Rattle.std.specs.Prelude.{◌↔◌, IsTrue, Some, slice_get}
use Rattle.values_core.specs.Data.{Val}
use Rattle.eval_meanings.specs.Binders.{combinations, with_each, times, ranges}
use Rattle.eval_parts.specs.Walks.{AreWithin, at_places, first_places, first_with, from_places, left_from}

length_both : {X : Type 0} (xs ys : List X) → length (xs ++ ys) ≡ length xs + length ys
length_both [] ys = omega arith
length_both (x ∷ xs) ys = omega (arith, length_both xs ys)

-- the walk begins with all combinations
first_all : (vs : List Val) (all : List (List Val)) → first_with vs all all ≡ with_each vs all
first_all [] all = refl
first_all (v ∷ vs) all = refl

pub from_first : (lists : List (List Val)) → from_places lists (first_places lists) ≡ combinations lists
from_first [] = refl
from_first (vs ∷ lists) = ap (λ (some : List (List Val)). first_with vs some (combinations lists)) (from_first lists) ∙ first_all vs (combinations lists)

-- a list without a member leaves no combination
none_each : (vs : List Val) → with_each vs [] ≡ []
none_each [] = refl
none_each (v ∷ vs) = none_each vs

none_left : (lists : List (List Val)) → (AreWithin lists (first_places lists) → ⊥) → combinations lists ≡ []
none_left [] h = absurd (h tt)
none_left ([] ∷ lists) h = refl
none_left ((v ∷ vs) ∷ lists) h =
    let rest = none_left lists (λ w. h (omega arith, w)) in ap (λ (all : List (List Val)). with_each (v ∷ vs) all) rest ∙ none_each (v ∷ vs)

pub begins : (lists : List (List Val)) (more : Bool) → IsTrue more ↔ AreWithin lists (first_places lists) → left_from more lists (first_places lists) ≡ combinations lists
begins lists true h = from_first lists
begins lists false h = sym (none_left lists (λ w. absurd (cc (h.1 w))))

-- what stands at a place
place_cut : (vs : List Val) (i : ℕ) → i < length vs → (v : Val) × (drop i vs ≡ v ∷ drop (i + 1) vs)
place_cut [] i l = absurd (omega (arith, l))
place_cut (v ∷ vs) zero l = (v, refl)
place_cut (v ∷ vs) (suc i) l =
    let rest = place_cut vs i (omega (arith, l)) in
    let more : suc (i + 1) ≡ suc i + 1 = omega arith in
    (rest.0, rest.1 ∙ ap (λ (n : ℕ). rest.0 ∷ drop n (v ∷ vs)) more)

past_end : (vs : List Val) (i : ℕ) → length vs ≤ i → drop i vs ≡ []
past_end [] zero l = refl
past_end [] (suc i) l = refl
past_end (v ∷ vs) zero l = absurd (omega (arith, l))
past_end (v ∷ vs) (suc i) l = past_end vs i (omega (arith, l))

-- as many members as lists
one_taken : (vs : List Val) (i : ℕ) → i < length vs → length (take 1 (drop i vs)) ≡ 1
one_taken vs i l = let found = place_cut vs i l in ap (λ (us : List Val). length (take 1 us)) found.1

pub chosen_length : (lists : List (List Val)) (places : List ℕ) → AreWithin lists places → length (at_places lists places) ≡ length lists
chosen_length [] [] w = refl
chosen_length [] (i ∷ places) w = absurd w
chosen_length (vs ∷ lists) [] w = absurd w
chosen_length (vs ∷ lists) (i ∷ places) w =
    omega (arith, length_both (take 1 (drop i vs)) (at_places lists places), one_taken vs i w.0, chosen_length lists places w.1)

pub places_length : (lists : List (List Val)) (places : List ℕ) → AreWithin lists places → length places ≡ length lists
places_length [] [] w = refl
places_length [] (i ∷ places) w = absurd w
places_length (vs ∷ lists) [] w = absurd w
places_length (vs ∷ lists) (i ∷ places) w = ap suc (places_length lists places w.1)

-- the first places are places where any are
pub first_within : (lists : List (List Val)) (places : List ℕ) → AreWithin lists places → AreWithin lists (first_places lists)
first_within [] [] w = tt
first_within [] (i ∷ places) w = absurd w
first_within (vs ∷ lists) [] w = absurd w
first_within (vs ∷ lists) (i ∷ places) w = (omega (arith, w.0), first_within lists places w.1)

-- the combination at the places is the last that is left
abbrev pub IsLast : List (List Val) → List ℕ → Type 0
IsLast lists places = from_places lists places ≡ at_places lists places ∷ []

-- the next behind it is that at other places
abbrev pub GoesTo : List (List Val) → List ℕ → List ℕ → Type 0
GoesTo lists places new = from_places lists places ≡ at_places lists places ∷ from_places lists new

-- the last place of a list behind which all are last
pub last_of : (vs : List Val) (lists : List (List Val)) (i : ℕ) (places : List ℕ) → i < length vs → length vs ≤ i + 1 → IsLast lists places → IsLast (vs ∷ lists) (i ∷ places)
last_of vs lists i places l m h =
    let found = place_cut vs i l in
    let cut : drop i vs ≡ found.0 ∷ [] = found.1 ∙ ap (λ (us : List Val). found.0 ∷ us) (past_end vs (i + 1) m) in
    let Q : List Val → Type 0 = λ us. first_with us (from_places lists places) (combinations lists) ≡ (take 1 us ++ at_places lists places) ∷ [] in
    subst Q (sym cut) (ap (λ (some : List (List Val)). first_with (found.0 ∷ []) some (combinations lists)) h)

-- another place of it
pub next_of : (vs : List Val) (lists : List (List Val)) (i : ℕ) (places : List ℕ) → i < length vs → IsLast lists places → GoesTo (vs ∷ lists) (i ∷ places) ((i + 1) ∷ first_places lists)
next_of vs lists i places l h =
    let found = place_cut vs i l in
    let rest = drop (i + 1) vs in
    let all = combinations lists in
    let behind : first_with rest (from_places lists (first_places lists)) all ≡ with_each rest all = ap (λ (some : List (List Val)). first_with rest some all) (from_first lists) ∙ first_all rest all in
    let Q : List Val → Type 0 = λ us. first_with us (from_places lists places) all ≡ (take 1 us ++ at_places lists places) ∷ first_with rest (from_places lists (first_places lists)) all in
    subst Q (sym found.1) (ap (λ (some : List (List Val)). first_with (found.0 ∷ rest) some all) h ∙ ap (λ (ws : List (List Val)). (found.0 ∷ at_places lists places) ∷ ws) (sym behind))

-- a step behind the first list is a step of the whole
pub step_behind : (vs : List Val) (lists : List (List Val)) (i : ℕ) (places new : List ℕ) → i < length vs → GoesTo lists places new → GoesTo (vs ∷ lists) (i ∷ places) (i ∷ new)
step_behind vs lists i places new l h =
    let found = place_cut vs i l in
    let all = combinations lists in
    let Q : List Val → Type 0 = λ us. first_with us (from_places lists places) all ≡ (take 1 us ++ at_places lists places) ∷ first_with us (from_places lists new) all in
    subst Q (sym found.1) (ap (λ (some : List (List Val)). first_with (found.0 ∷ drop (i + 1) vs) some all) h)

same_head : {X : Type 0} (x y : X) (xs ys : List X) → x ∷ xs ≡ y ∷ ys → x ≡ y
same_head x y xs ys e = cc

same_tail : {X : Type 0} (x y : X) (xs ys : List X) → x ∷ xs ≡ y ∷ ys → xs ≡ ys
same_tail x y xs ys e = cc

-- a step behind the first lists, where the places of these stay
pub goes_on : (k : ℕ) (lists : List (List Val)) (places new : List ℕ) → AreWithin lists places → length new ≡ length places → k < length places → take k new ≡ take k places → GoesTo (drop k lists) (drop k places) (drop k new) → GoesTo lists places new
goes_on zero lists places new w n l e h = h
goes_on (suc k) [] [] new w n l e h = absurd (omega (arith, l))
goes_on (suc k) [] (i ∷ places) new w n l e h = absurd w
goes_on (suc k) (vs ∷ lists) [] new w n l e h = absurd w
goes_on (suc k) (vs ∷ lists) (i ∷ places) [] w n l e h = absurd (omega (arith, n))
goes_on (suc k) (vs ∷ lists) (i ∷ places) (j ∷ new) w n l e h =
    let rest = goes_on k lists places new w.1 (omega (arith, n)) (omega (arith, l)) (same_tail j i (take k new) (take k places) e) h in
    subst (λ (m : ℕ). GoesTo (vs ∷ lists) (i ∷ places) (m ∷ new)) (sym (same_head j i (take k new) (take k places) e)) (step_behind vs lists i places new w.0 rest)

pub stays_within : (k : ℕ) (lists : List (List Val)) (places new : List ℕ) → AreWithin lists places → length new ≡ length places → take k new ≡ take k places → AreWithin (drop k lists) (drop k new) → AreWithin lists new
stays_within zero lists places new w n e h = h
stays_within (suc k) [] [] [] w n e h = tt
stays_within (suc k) [] [] (j ∷ new) w n e h = absurd (omega (arith, n))
stays_within (suc k) [] (i ∷ places) new w n e h = absurd w
stays_within (suc k) (vs ∷ lists) [] new w n e h = absurd w
stays_within (suc k) (vs ∷ lists) (i ∷ places) [] w n e h = absurd (omega (arith, n))
stays_within (suc k) (vs ∷ lists) (i ∷ places) (j ∷ new) w n e h =
    let rest = stays_within k lists places new w.1 (omega (arith, n)) (same_tail j i (take k new) (take k places) e) h in
    subst (λ (m : ℕ). AreWithin (vs ∷ lists) (m ∷ new)) (sym (same_head j i (take k new) (take k places) e)) (w.0, rest)

pub within_behind : (k : ℕ) (lists : List (List Val)) (places : List ℕ) → AreWithin lists places → AreWithin (drop k lists) (drop k places)
within_behind zero lists places w = w
within_behind (suc k) [] [] w = tt
within_behind (suc k) [] (i ∷ places) w = absurd w
within_behind (suc k) (vs ∷ lists) [] w = absurd w
within_behind (suc k) (vs ∷ lists) (i ∷ places) w = within_behind k lists places w.1

-- what is left at a test of the loop
pub left_is : (more again : Bool) (lists : List (List Val)) (places new : List ℕ) → more ≡ true → from_places lists places ≡ at_places lists places ∷ left_from again lists new → left_from more lists places ≡ at_places lists places ∷ left_from again lists new
left_is true again lists places new e h = h
left_is false again lists places new e h = cc

begun : (lists : List (List Val)) (places : List ℕ) → AreWithin lists places → (rest : List (List Val)) × (from_places lists places ≡ at_places lists places ∷ rest)
begun [] [] w = ([], refl)
begun [] (i ∷ places) w = absurd w
begun (vs ∷ lists) [] w = absurd w
begun (vs ∷ lists) (i ∷ places) w =
    let found = place_cut vs i w.0 in
    let below = begun lists places w.1 in
    let rest = drop (i + 1) vs in
    let all = combinations lists in
    let left : List (List Val) = map (λ (chosen : List Val). found.0 ∷ chosen) below.0 ++ with_each rest all in
    let Q : List Val → Type 0 = λ us. first_with us (from_places lists places) all ≡ (take 1 us ++ at_places lists places) ∷ left in
    (left, subst Q (sym found.1) (ap (λ (some : List (List Val)). first_with (found.0 ∷ rest) some all) below.1))

pub some_left : (more : Bool) (lists : List (List Val)) (places : List ℕ) → more ≡ true → AreWithin lists places → (rest : List (List Val)) × (left_from more lists places ≡ at_places lists places ∷ rest)
some_left false lists places e w = cc
some_left true lists places e w = begun lists places w

pub none_more : (more : Bool) (lists : List (List Val)) (places : List ℕ) → more ≡ false → left_from more lists places ≡ []
none_more true lists places e = cc
none_more false lists places e = refl

pub fewer : (left rest : List (List Val)) (x : List Val) → left ≡ x ∷ rest → length rest < length left
fewer left rest x e = omega (arith, ap (λ (us : List (List Val)). length us) e)

-- One step of the walk, in the midst of its loop: behind the end all places are first again.
pub record Turned (lists : List (List Val)) (old now : List ℕ) (end : ℕ) : Type 0 where
  pub many : length now ≡ length old
  pub below : end ≤ length old
  pub within : AreWithin lists old
  pub kept : take end now ≡ take end old
  pub first : drop end now ≡ first_places (drop end lists)
  pub last : IsLast (drop end lists) (drop end old)

none_behind : (lists : List (List Val)) (places : List ℕ) → AreWithin lists places → drop (length places) lists ≡ []
none_behind [] [] w = refl
none_behind [] (i ∷ places) w = absurd w
none_behind (vs ∷ lists) [] w = absurd w
none_behind (vs ∷ lists) (i ∷ places) w = none_behind lists places w.1

drop_whole : {X : Type 0} (xs : List X) → drop (length xs) xs ≡ []
drop_whole [] = refl
drop_whole (x ∷ xs) = drop_whole xs

pub turned_first : (lists : List (List Val)) (places : List ℕ) → AreWithin lists places → Turned lists places places (length places)
turned_first lists places w = record {
  many = refl;
  below = omega arith;
  within = w;
  kept = refl;
  first = drop_whole places ∙ sym (ap first_places (none_behind lists places w));
  last = subst (λ (ls : List (List Val)). IsLast ls (drop (length places) places)) (sym (none_behind lists places w)) (subst (λ (ps : List ℕ). IsLast [] ps) (sym (drop_whole places)) refl);
}

-- a list and the place in it, by their index
place_there : (k : ℕ) (lists : List (List Val)) (places : List ℕ) (vs : List Val) (p : ℕ) (ls : List (List Val)) (ps : List ℕ) → AreWithin lists places → drop k lists ≡ vs ∷ ls → drop k places ≡ p ∷ ps → p < length vs
place_there k lists places vs p ls ps w e f =
    let there : AreWithin (drop k lists) (drop k places) = within_behind k lists places w in
    let both : AreWithin (vs ∷ ls) (p ∷ ps) = subst (λ (us : List (List Val)). AreWithin us (p ∷ ps)) e (subst (λ (qs : List ℕ). AreWithin (drop k lists) qs) f there) in
    both.0

drop_at : {X : Type 0} (xs : List X) (k : ℕ) (d : X) → k < length xs → drop k xs ≡ get_or xs k d ∷ drop (k + 1) xs
drop_at xs k d l = drop-cons xs k d l ∙ ap (λ (n : ℕ). get_or xs k d ∷ drop n xs) (add-one_back k)
  where
    add-one_back : (k : ℕ) → suc k ≡ k + 1
    add-one_back k = omega arith

none_longer : (us : List ℕ) (x : ℕ) → [] ≡ us ++ x ∷ [] → ⊥
none_longer [] x q = cc
none_longer (u ∷ us) x q = cc

same_end : (us vs : List ℕ) (x y : ℕ) → us ++ x ∷ [] ≡ vs ++ y ∷ [] → x ≡ y
same_end [] [] x y q = cc
same_end [] (v ∷ vs) x y q = absurd (none_longer vs y (same_tail x v [] (vs ++ y ∷ []) q))
same_end (u ∷ us) [] x y q = absurd (none_longer us x (sym (same_tail u y (us ++ x ∷ []) [] q)))
same_end (u ∷ us) (v ∷ vs) x y q = same_end us vs x y (same_tail u v (us ++ x ∷ []) (vs ++ y ∷ []) q)

get_kept : (k : ℕ) (xs ys : List ℕ) (d : ℕ) → k < length xs → k < length ys → take (k + 1) xs ≡ take (k + 1) ys → get_or xs k d ≡ get_or ys k d
get_kept k xs ys d l m e = same_end (take k xs) (take k ys) (get_or xs k d) (get_or ys k d) (sym (take_more xs k d l) ∙ e ∙ take_more ys k d m)

front_kept : (k : ℕ) (xs ys : List ℕ) → k < length xs → k < length ys → take (k + 1) xs ≡ take (k + 1) ys → take k xs ≡ take k ys
front_kept zero xs ys l m e = refl
front_kept (suc k) [] ys l m e = absurd (omega (arith, l))
front_kept (suc k) (x ∷ xs) [] l m e = absurd (omega (arith, m))
front_kept (suc k) (x ∷ xs) (y ∷ ys) l m e =
    let more : suc k + 1 ≡ suc (k + 1) = omega arith in
    let f : x ∷ take (k + 1) xs ≡ y ∷ take (k + 1) ys = subst (λ (n : ℕ). take n (x ∷ xs) ≡ take n (y ∷ ys)) more e in
    let rest = front_kept k xs ys (omega (arith, l)) (omega (arith, m)) (same_tail x y (take (k + 1) xs) (take (k + 1) ys) f) in
    ap (λ (z : ℕ). z ∷ take k xs) (same_head x y (take (k + 1) xs) (take (k + 1) ys) f) ∙ ap (λ (zs : List ℕ). y ∷ zs) rest

-- what the loop sees at the index before its end: the list there, and the place in it, which is the old one
pub record Seen (lists : List (List Val)) (old : List ℕ) (k : ℕ) (list : List Val) (place : ℕ) : Type 0 where
  pub lists_cut : drop k lists ≡ list ∷ drop (k + 1) lists
  pub old_cut : drop k old ≡ place ∷ drop (k + 1) old
  pub inside : place < length list

pub seen : (lists : List (List Val)) (old now : List ℕ) (end k : ℕ) (list : List Val) (place : ℕ) → Turned lists old now end → end ≡ k + 1 → drop k lists ≡ list ∷ drop (k + 1) lists → place ≡ get_or now k 0 → Seen lists old k list place
seen lists old now end k list place t e cut f =
    let l : k < length old = omega (arith, e, t.below) in
    let below : k < length now = omega (arith, l, t.many) in
    let kept : take (k + 1) now ≡ take (k + 1) old = subst (λ (n : ℕ). take n now ≡ take n old) e t.kept in
    let same : get_or old k 0 ≡ place = sym (get_kept k now old 0 below l kept) ∙ sym f in
    let second : drop k old ≡ place ∷ drop (k + 1) old = drop_at old k 0 l ∙ ap (λ (p : ℕ). p ∷ drop (k + 1) old) same in
    record {
      lists_cut = cut;
      old_cut = second;
      inside = place_there k lists old list place (drop (k + 1) lists) (drop (k + 1) old) t.within cut second;
    }

last_there : (lists : List (List Val)) (old now : List ℕ) (end k : ℕ) → Turned lists old now end → end ≡ k + 1 → IsLast (drop (k + 1) lists) (drop (k + 1) old)
last_there lists old now end k t e = subst (λ (n : ℕ). IsLast (drop n lists) (drop n old)) e t.last

-- the place stands at the end of its list: it is the first again
pub turned_on : (lists : List (List Val)) (old now : List ℕ) (end k : ℕ) (list : List Val) (place : ℕ) → Seen lists old k list place → Turned lists old now end → end ≡ k + 1 → length list ≤ place + 1 → Turned lists old (set now k 0) k
turned_on lists old now end k list place s t e m =
    let l : k < length old = omega (arith, e, t.below) in
    let below : k < length now = omega (arith, l, t.many) in
    let kept : take (k + 1) now ≡ take (k + 1) old = subst (λ (n : ℕ). take n now ≡ take n old) e t.kept in
    let first : drop (k + 1) now ≡ first_places (drop (k + 1) lists) = subst (λ (n : ℕ). drop n now ≡ first_places (drop n lists)) e t.first in
    let last = last_of list (drop (k + 1) lists) place (drop (k + 1) old) s.inside m (last_there lists old now end k t e) in
    record {
      many = length-set now k 0 ∙ t.many;
      below = omega (arith, l);
      within = t.within;
      kept = take-set now k 0 ∙ front_kept k now old below l kept;
      first = drop-set now k 0 below ∙ ap (λ (ps : List ℕ). 0 ∷ ps) first ∙ sym (ap first_places s.lists_cut);
      last = subst (λ (ls : List (List Val)). IsLast ls (drop k old)) (sym s.lists_cut) (subst (λ (ps : List ℕ). IsLast (list ∷ drop (k + 1) lists) ps) (sym s.old_cut) last);
    }

-- the place has another behind it: there the walk goes on
pub went_on : (lists : List (List Val)) (old now : List ℕ) (end k : ℕ) (list : List Val) (place next : ℕ) → Seen lists old k list place → Turned lists old now end → end ≡ k + 1 → next ≡ place + 1 → next < length list → GoesTo lists old (set now k next) × AreWithin lists (set now k next)
went_on lists old now end k list place next s t e f m =
    let l : k < length old = omega (arith, e, t.below) in
    let below : k < length now = omega (arith, l, t.many) in
    let kept : take (k + 1) now ≡ take (k + 1) old = subst (λ (n : ℕ). take n now ≡ take n old) e t.kept in
    let first : drop (k + 1) now ≡ first_places (drop (k + 1) lists) = subst (λ (n : ℕ). drop n now ≡ first_places (drop n lists)) e t.first in
    let new = set now k next in
    let many : length new ≡ length old = length-set now k next ∙ t.many in
    let same : take k new ≡ take k old = take-set now k next ∙ front_kept k now old below l kept in
    let cut : drop k new ≡ next ∷ first_places (drop (k + 1) lists) = drop-set now k next below ∙ ap (λ (ps : List ℕ). next ∷ ps) first in
    let rest = within_behind (k + 1) lists old t.within in
    let inside : AreWithin (list ∷ drop (k + 1) lists) (next ∷ first_places (drop (k + 1) lists)) = (m, first_within (drop (k + 1) lists) (drop (k + 1) old) rest) in
    let once = next_of list (drop (k + 1) lists) place (drop (k + 1) old) s.inside (last_there lists old now end k t e) in
    let stepped : GoesTo (list ∷ drop (k + 1) lists) (place ∷ drop (k + 1) old) (next ∷ first_places (drop (k + 1) lists)) = subst (λ (n : ℕ). GoesTo (list ∷ drop (k + 1) lists) (place ∷ drop (k + 1) old) (n ∷ first_places (drop (k + 1) lists))) (sym f) once in
    let step : GoesTo (drop k lists) (drop k old) (drop k new) =
    subst (λ (ls : List (List Val)). GoesTo ls (drop k old) (drop k new)) (sym s.lists_cut)
    (subst (λ (ps : List ℕ). GoesTo (list ∷ drop (k + 1) lists) ps (drop k new)) (sym s.old_cut)
    (subst (λ (ps : List ℕ). GoesTo (list ∷ drop (k + 1) lists) (place ∷ drop (k + 1) old) ps) (sym cut) stepped)) in
    let there : AreWithin (drop k lists) (drop k new) =
    subst (λ (ls : List (List Val)). AreWithin ls (drop k new)) (sym s.lists_cut) (subst (λ (ps : List ℕ). AreWithin (list ∷ drop (k + 1) lists) ps) (sym cut) inside) in
    (goes_on k lists old new t.within many l same step, stays_within k lists old new t.within many same there)

-- all places are first again: the combination was the last
pub was_last : (lists : List (List Val)) (old now : List ℕ) (end : ℕ) → end ≡ 0 → Turned lists old now end → IsLast lists old
was_last lists old now end e t = subst (λ (n : ℕ). IsLast (drop n lists) (drop n old)) e t.last

-- the loop begins with all combinations
pub left_begins : (lists : List (List Val)) (more : Bool) (places : List ℕ) → places ≡ first_places lists → IsTrue more ↔ AreWithin lists (first_places lists) → left_from more lists places ≡ combinations lists
left_begins lists more places e h = ap (λ (ps : List ℕ). left_from more lists ps) e ∙ begins lists more h

pub within_begins : (lists : List (List Val)) (more : Bool) (places : List ℕ) → places ≡ first_places lists → IsTrue more ↔ AreWithin lists (first_places lists) → IsTrue more → AreWithin lists places
within_begins lists more places e h m = subst (λ (ps : List ℕ). AreWithin lists ps) (sym e) (h.0 m)

-- a list once more
pub times_more : (n : ℕ) (vs : List Val) → times (n + 1) vs ≡ times n vs ++ vs ∷ []
times_more n vs = ap (λ (k : ℕ). times k vs) (one_up n) ∙ pushed n
  where
    one_up : (n : ℕ) → n + 1 ≡ suc n
    one_up n = omega arith

    pushed : (n : ℕ) → vs ∷ times n vs ≡ times n vs ++ vs ∷ []
    pushed zero = refl
    pushed (suc n) = ap (λ (us : List (List Val)). vs ∷ us) (pushed n)

pub pushed_time : {X : Type 0} (f : X → List Val) (first now new : List X) (x : X) (n : ℕ) → new ≡ now ++ x ∷ [] → map f now ≡ map f first ++ times n (f x) → map f new ≡ map f first ++ times (n + 1) (f x)
pushed_time f first now new x n e h =
    ap (map f) e ∙ map-append f now (x ∷ []) ∙ ap (λ (us : List (List Val)). us ++ f x ∷ []) h ∙ append_assoc (map f first) (times n (f x)) (f x ∷ []) ∙ ap (λ (us : List (List Val)). map f first ++ us) (sym (times_more n (f x)))

-- the first place of one list more
pub started : (lists : List (List Val)) (i : ℕ) (vs : List Val) (old new : List ℕ) → drop i lists ≡ vs ∷ drop (i + 1) lists → new ≡ old ++ 0 ∷ [] → old ++ first_places (drop i lists) ≡ first_places lists → new ++ first_places (drop (i + 1) lists) ≡ first_places lists
started lists i vs old new cut e h =
    ap (λ (us : List ℕ). us ++ first_places (drop (i + 1) lists)) e ∙ append_assoc old (0 ∷ []) (first_places (drop (i + 1) lists)) ∙ sym (ap (λ (us : List (List Val)). old ++ first_places us) cut) ∙ h

-- one value more
pub one_value_more : (all : List Val) (i : ℕ) (v : Val) (old new end : List Val) → drop i all ≡ v ∷ drop (i + 1) all → new ≡ old ++ v ∷ [] → old ++ drop i all ≡ end → new ++ drop (i + 1) all ≡ end
one_value_more all i v old new end cut e h =
    ap (λ (us : List Val). us ++ drop (i + 1) all) e ∙ append_assoc old (v ∷ []) (drop (i + 1) all) ∙ sym (ap (λ (us : List Val). old ++ us) cut) ∙ h

-- the member of one list more
pub member_there : (k : ℕ) (lists : List (List Val)) (places : List ℕ) (vs : List Val) → AreWithin lists places → drop k lists ≡ vs ∷ drop (k + 1) lists → k < length places → get_or places k 0 < length vs
member_there k lists places vs w cut l = place_there k lists places vs (get_or places k 0) (drop (k + 1) lists) (drop (k + 1) places) w cut (drop_at places k 0 l)

taken : (vs : List Val) (i : ℕ) (v : Val) → slice_get vs i ≡ Some v → take 1 (drop i vs) ≡ v ∷ []
taken [] zero v e = cc
taken [] (suc i) v e = cc
taken (u ∷ us) zero v e = ap (λ (w : Val). w ∷ []) (inside e)
  where
    inside : Some u ≡ Some v → u ≡ v
    inside q = cc
taken (u ∷ us) (suc i) v e = taken us i v e

pub chosen_more : (k : ℕ) (lists : List (List Val)) (places : List ℕ) (vs : List Val) (v : Val) (old new end : List Val) → drop k lists ≡ vs ∷ drop (k + 1) lists → k < length places → slice_get vs (get_or places k 0) ≡ Some v → new ≡ old ++ v ∷ [] → old ++ at_places (drop k lists) (drop k places) ≡ end → new ++ at_places (drop (k + 1) lists) (drop (k + 1) places) ≡ end
chosen_more k lists places vs v old new end cut l g e h =
    let rest = at_places (drop (k + 1) lists) (drop (k + 1) places) in
    let there : at_places (drop k lists) (drop k places) ≡ v ∷ rest =
    ap (λ (us : List (List Val)). at_places us (drop k places)) cut ∙ ap (λ (ps : List ℕ). at_places (vs ∷ drop (k + 1) lists) ps) (drop_at places k 0 l) ∙ ap (λ (us : List Val). us ++ rest) (taken vs (get_or places k 0) v g) in
    ap (λ (us : List Val). us ++ rest) e ∙ append_assoc old (v ∷ []) rest ∙ sym (ap (λ (us : List Val). old ++ us) there) ∙ h
