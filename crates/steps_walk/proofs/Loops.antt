-- The loops of the walk: what the first parts find, the whole finds.
use Rattle.std.proofs.Common.{◌≡◌, refl, sym, ap, ◌∙◌, subst, ℕ, zero, suc, ◌+◌, ◌≤◌, List, [], ◌∷◌, ◌++◌, length, take, drop, append_assoc, arith, rules}
use Rattle.std.specs.Prelude.{Contains, Result, Ok, Err}
use Rattle.std.proofs.lemmas.List.{take_all, map-append}
use Rattle.values_core.specs.Data.{Val}
use Rattle.values_core.specs.Ascending.{head_in}
use Rattle.names_terms.specs.Terms.{Term}
use Rattle.eval_meanings.specs.declared.fault.EvalFault.{EvalFault}
use Rattle.eval_meanings.specs.Contexts.{Context, Places, bind}
use Rattle.actions_meanings.specs.Forms.{Setting}
use Rattle.actions_meanings.specs.Outcomes.{Fixes}
use Rattle.actions_meanings.specs.Reads.{VariableSet}
use Rattle.logs_updates.specs.declared.update.See.{See}
use Rattle.steps_found_states.specs.Walks.{FailsOf, HoldsOf}
use Rattle.steps_found_states.specs.Grounds.{Grounds}
use Rattle.steps_found_states.specs.Parts.{FixesAll, GroundsAll, IsOnTheWay, Leads, Parts, WalkedAll, WalkedAny, WalkedEach}
use Rattle.steps_found_states.proofs.Lists.{in_right}
use Rattle.steps_found_states.proofs.Finding.{each_more, each_none, each_refused}
use Rattle.steps_found_states.proofs.Several.{first_grounds, way_begins, way_goes_on, way_refused}
use Rattle.steps_found_states.proofs.Choice.{any_begins, any_goes_on, any_refused}
use Rattle.steps_walk.specs.Walking.{AllGrounded, AllWalked, AnyGrounded, AnyWalked, EachGrounded, EachWalked, Grounded, IsWalked, under}

to_end : {X : Type 0} (xs : List X) → xs ++ [] ≡ xs
to_end xs = search rules

-- a list is taken apart at an index: what is before, what stands there, and what is behind
pub record Apart {X : Type 0} (xs : List X) (i : ℕ) (x : X) : Type 0 where
  pub rest : drop i xs ≡ x ∷ drop (i + 1) xs
  pub more : take (i + 1) xs ≡ take i xs ++ x ∷ []
  pub whole : take i xs ++ x ∷ drop (i + 1) xs ≡ xs

pub within : {X : Type 0} (xs : List X) (i : ℕ) (x : X) → Apart xs i x → Contains xs x
within xs i x c = subst (λ ys. Contains ys x) c.whole (in_right (take i xs) (x ∷ drop (i + 1) xs) x (head_in x (drop (i + 1) xs)))

halves : {X : Type 0} (xs : List X) (i : ℕ) → take i xs ++ drop i xs ≡ xs
halves [] zero = refl
halves [] (suc i) = refl
halves (y ∷ xs) zero = refl
halves (y ∷ xs) (suc i) = ap (λ ys. y ∷ ys) (halves xs i)

pub apart : {X : Type 0} (xs : List X) (i : ℕ) (x : X) → drop i xs ≡ x ∷ drop (i + 1) xs → Apart xs i x
apart xs i x c = record { rest = c; more = more xs i x c; whole = ap (λ ys. take i xs ++ ys) (sym c) ∙ halves xs i }
  where
    first : {X : Type 0} (x y : X) (xs ys : List X) → x ∷ xs ≡ y ∷ ys → x ≡ y
    first x y xs ys e = cc

    one_more : (i : ℕ) → i + 1 ≡ suc i
    one_more i = omega arith

    more_suc : {X : Type 0} (xs : List X) (i : ℕ) (x : X) (ys : List X) → drop i xs ≡ x ∷ ys → take (suc i) xs ≡ take i xs ++ x ∷ []
    more_suc [] zero x ys c = cc
    more_suc [] (suc i) x ys c = cc
    more_suc (y ∷ xs) zero x ys c = ap (λ z. z ∷ []) (first y x xs ys c)
    more_suc (y ∷ xs) (suc i) x ys c = ap (λ zs. y ∷ zs) (more_suc xs i x ys c)

    more : {X : Type 0} (xs : List X) (i : ℕ) (x : X) → drop i xs ≡ x ∷ drop (i + 1) xs → take (i + 1) xs ≡ take i xs ++ x ∷ []
    more xs i x c = ap (λ k. take k xs) (one_more i) ∙ more_suc xs i x (drop (i + 1) xs) c

past : {X : Type 0} (xs : List X) (i : ℕ) → length xs ≤ i → drop i xs ≡ []
past [] zero l = refl
past [] (suc i) l = refl
past (x ∷ xs) zero l = absurd (omega (arith, l))
past (x ∷ xs) (suc i) l = past xs i (omega (arith, l))

-- a list that is gone through by value: what is ahead, and a fact of the index at which it begins
abbrev pub Ahead : {X : Type 0} → List X → List X → (ℕ → Type 0) → Type 0
Ahead xs left P = (i : ℕ) × (drop i xs ≡ left) × P i

pub ahead_first : {X : Type 0} (xs : List X) → drop 0 xs ≡ xs
ahead_first [] = refl
ahead_first (x ∷ xs) = refl

behind : {X : Type 0} (xs : List X) (i : ℕ) (x : X) (left : List X) → drop i xs ≡ x ∷ left → drop (suc i) xs ≡ left
behind [] zero x left e = cc
behind [] (suc i) x left e = cc
behind (y ∷ xs) zero x left e = ahead_first xs ∙ same y x xs left e
  where
    same : {X : Type 0} (y x : X) (ys xs : List X) → y ∷ ys ≡ x ∷ xs → ys ≡ xs
    same y x ys xs e = cc
behind (y ∷ xs) (suc i) x left e = behind xs i x left e

pub ahead_next : {X : Type 0} (xs all : List X) (i : ℕ) (x : X) (left : List X) → drop i xs ≡ all → all ≡ x ∷ left → drop (i + 1) xs ≡ left
ahead_next xs all i x left e s = let one : i + 1 ≡ suc i = omega arith in ap (λ k. drop k xs) one ∙ behind xs i x left (e ∙ s)

pub ahead_at : {X : Type 0} (xs all : List X) (i : ℕ) (x : X) (left : List X) → drop i xs ≡ all → all ≡ x ∷ left → Apart xs i x
ahead_at xs all i x left e s = apart xs i x (e ∙ s ∙ ap (λ ys. x ∷ ys) (sym (ahead_next xs all i x left e s)))

pub ahead_over : {X : Type 0} (xs left : List X) (i : ℕ) → drop i xs ≡ left → length left ≡ 0 → length xs ≤ i
ahead_over xs left i e z = none xs i (subst (λ ys. length ys ≡ 0) (sym e) z)
  where
    none : {X : Type 0} (xs : List X) (i : ℕ) → length (drop i xs) ≡ 0 → length xs ≤ i
    none [] i z = omega arith
    none (x ∷ xs) zero z = absurd (omega (arith, z))
    none (x ∷ xs) (suc i) z = let l = none xs i z in omega (arith, l)

module _ (g : Setting) (d : ℕ) (sees : List See) (p : Places) where
  -- one of the parts

  abbrev pub AnySoFar : Parts → ℕ → List Places → Type 0
  AnySoFar es i qs = (B : VariableSet) (a : Term) → ((e : Context × Term) → Contains es e → Grounds g d sees B p e.0 e.1) → ((e : Context × Term) → Contains es e → Leads g B a e.1)
      → WalkedAny g d sees B p a (take i es) (Ok qs)

  pub any_start : (es : Parts) (qs : List Places) → qs ≡ [] → AnySoFar es 0 qs
  any_start es qs z B a h l = subst (λ (us : List Places). WalkedAny g d sees B p a [] (Ok us)) (sym z) (any_begins g d sees B p a)

  pub any_step : (es : Parts) (i : ℕ) (e : Context × Term) (qs rs new : List Places) → Apart es i e → IsWalked g d sees p e.0 e.1 (Ok rs) → new ≡ qs ++ rs → AnySoFar es i qs → AnySoFar es (i + 1) new
  any_step es i e qs rs new c w z s B a h l =
      let m = within es i e c in
      let found = any_goes_on g d sees B p a (take i es) e qs rs (h e m).long (l e m) (s B a h l) (w B (h e m)) in
      let more = subst (λ (us : Parts). WalkedAny g d sees B p a us (Ok (qs ++ rs))) (sym c.more) found in
      subst (λ (us : List Places). WalkedAny g d sees B p a (take (i + 1) es) (Ok us)) (sym z) more

  pub any_stop : (es : Parts) (i : ℕ) (e : Context × Term) (f : EvalFault) → Apart es i e → IsWalked g d sees p e.0 e.1 (Err f) → AnyWalked g d sees p es (Err f)
  any_stop es i e f c w B a h l = let m = within es i e c in any_refused g d sees B p a es e f m (w B (h e m))

  pub any_done : (es : Parts) (i : ℕ) (qs : List Places) → length es ≤ i → AnySoFar es i qs → AnyWalked g d sees p es (Ok qs)
  any_done es i qs l s B a h x = subst (λ (us : Parts). WalkedAny g d sees B p a us (Ok qs)) (take_all i es l) (s B a h x)

  pub any_ground : (es : Parts) (i : ℕ) (e : Context × Term) → Apart es i e → AnyGrounded g d sees p es → Grounded g d sees p e.0 e.1
  any_ground es i e c h = h e (within es i e c)

  -- one of two parts
  pub any_two : (e f : Context × Term) (qs rs new : List Places) → IsWalked g d sees p e.0 e.1 (Ok qs) → IsWalked g d sees p f.0 f.1 (Ok rs) → new ≡ qs ++ rs → AnyWalked g d sees p (e ∷ f ∷ []) (Ok new)
  any_two e f qs rs new w v z =
      let one : AnySoFar (e ∷ f ∷ []) 1 qs = any_step (e ∷ f ∷ []) 0 e [] qs qs (record { rest = refl; more = refl; whole = refl }) w refl (any_start (e ∷ f ∷ []) [] refl) in
      let two : AnySoFar (e ∷ f ∷ []) 2 new = any_step (e ∷ f ∷ []) 1 f qs rs new (record { rest = refl; more = refl; whole = refl }) v z one in
      let over : 2 ≤ 2 = omega arith in
      any_done (e ∷ f ∷ []) 2 new over two

  -- all of the parts

  abbrev pub AllSoFar : Parts → ℕ → List Places → Type 0
  AllSoFar es i qs = (B C : VariableSet) → GroundsAll g d sees B p es → FixesAll g es B C → IsOnTheWay g d sees B p (take i es) (drop i es) qs

  pub all_start : (es : Parts) (qs : List Places) → qs ≡ p ∷ [] → AllSoFar es 0 qs
  all_start es qs z B C h x = subst (λ (us : List Places). IsOnTheWay g d sees B p [] es us) (sym z) (way_begins g d sees B p es h C x)

  -- at a part
  at_part : (es : Parts) (i : ℕ) (e : Context × Term) (qs : List Places) → Apart es i e → AllSoFar es i qs → (B C : VariableSet) → GroundsAll g d sees B p es → FixesAll g es B C
      → IsOnTheWay g d sees B p (take i es) (e ∷ drop (i + 1) es) qs
  at_part es i e qs c s B C h x = subst (λ (us : Parts). IsOnTheWay g d sees B p (take i es) us qs) c.rest (s B C h x)

  from_each : (es : Parts) (i : ℕ) (e : Context × Term) (qs : List Places) (r : Result (List Places) EvalFault) → EachWalked g d sees qs e.0 e.1 r
      → (B : VariableSet) → IsOnTheWay g d sees B p (take i es) (e ∷ drop (i + 1) es) qs → (D : VariableSet) → FixesAll g (take i es) B D → WalkedEach g d sees D qs e.0 e.1 r
  from_each es i e qs r w B y D z = w D (λ q m. first_grounds g d sees D q e (drop (i + 1) es) (y.grounds D q z m))

  pub all_step : (es : Parts) (i : ℕ) (e : Context × Term) (qs rs : List Places) → Apart es i e → EachWalked g d sees qs e.0 e.1 (Ok rs) → AllSoFar es i qs → AllSoFar es (i + 1) rs
  all_step es i e qs rs c w s B C h x =
      let y = at_part es i e qs c s B C h x in
      subst (λ (us : Parts). IsOnTheWay g d sees B p us (drop (i + 1) es) rs) (sym c.more) (way_goes_on g d sees B p (take i es) e (drop (i + 1) es) qs rs y (from_each es i e qs (Ok rs) w B y))

  pub all_stop : (es : Parts) (i : ℕ) (e : Context × Term) (qs : List Places) (f : EvalFault) → Apart es i e → EachWalked g d sees qs e.0 e.1 (Err f) → AllSoFar es i qs → AllWalked g d sees p es (Err f)
  all_stop es i e qs f c w s B C h x =
      let y = at_part es i e qs c s B C h x in
      subst (λ (us : Parts). WalkedAll g d sees B p us (Err f)) c.whole (way_refused g d sees B p (take i es) e (drop (i + 1) es) qs f y (from_each es i e qs (Err f) w B y))

  pub all_ground : (es : Parts) (i : ℕ) (e : Context × Term) (qs : List Places) → Apart es i e → AllGrounded g d sees p es → AllSoFar es i qs → EachGrounded g d sees qs e.0 e.1
  all_ground es i e qs c h s q m =
      let y = at_part es i e qs c s h.0 h.2.0 h.1 h.2.1 in
      (y.left.0, first_grounds g d sees y.left.0 q e (drop (i + 1) es) (y.grounds y.left.0 q y.left.1 m))

  pub all_done : (es : Parts) (i : ℕ) (qs : List Places) → length es ≤ i → AllSoFar es i qs → AllWalked g d sees p es (Ok qs)
  all_done es i qs l s B C h x = subst (λ (us : Parts). WalkedAll g d sees B p us (Ok qs)) (take_all i es l) (s B C h x).found

  -- where nothing is found, the rest finds nothing
  way_none : (B : VariableSet) (done rest : Parts) → IsOnTheWay g d sees B p done rest [] → IsOnTheWay g d sees B p (done ++ rest) [] []
  way_none B done [] y = subst (λ (us : Parts). IsOnTheWay g d sees B p us [] []) (sym (to_end done)) y
  way_none B done (e ∷ rest) y =
      let next = way_goes_on g d sees B p done e rest [] [] y (λ D z. each_none sees (Fixes g e.1 D) (HoldsOf g d e.0 e.1) (FailsOf g d D e.0 e.1)) in
      subst (λ (us : Parts). IsOnTheWay g d sees B p us [] []) (append_assoc done (e ∷ []) rest) (way_none B (done ++ e ∷ []) rest next)

  pub all_ended : (es : Parts) (i : ℕ) (qs : List Places) → qs ≡ [] → AllSoFar es i qs → AllWalked g d sees p es (Ok qs)
  all_ended es i qs z s B C h x =
      let here = subst (λ (us : List Places). IsOnTheWay g d sees B p (take i es) (drop i es) us) z (s B C h x) in
      let done = subst (λ (us : Parts). IsOnTheWay g d sees B p us [] []) (halves es i) (way_none B (take i es) (drop i es) here) in
      subst (λ (us : List Places). WalkedAll g d sees B p es (Ok us)) (sym z) done.found

  -- a term under one combination after another

  abbrev pub UnderSoFar : Context → Term → List (List Val) → List (List Val) → List Places → Type 0
  UnderSoFar c e all left qs = (done : List (List Val)) × (done ++ left ≡ all)
      × ((B : VariableSet) (a : Term) → ((x : Context × Term) → Contains (under c e all) x → Grounds g d sees B p x.0 x.1) → ((x : Context × Term) → Contains (under c e all) x → Leads g B a x.1)
      → WalkedAny g d sees B p a (under c e done) (Ok qs))

  pub under_start : (c : Context) (e : Term) (all left : List (List Val)) (qs : List Places) → left ≡ all → qs ≡ [] → UnderSoFar c e all left qs
  under_start c e all left qs y z = ([], y, λ B a h l. subst (λ (us : List Places). WalkedAny g d sees B p a [] (Ok us)) (sym z) (any_begins g d sees B p a))

  there : (c : Context) (e : Term) (all done left : List (List Val)) (x : List Val) (rest : List (List Val)) → left ≡ x ∷ rest → done ++ left ≡ all → Contains (under c e all) (bind c x, e)
  there c e all done left x rest y w =
      let at : done ++ x ∷ rest ≡ all = ap (λ (us : List (List Val)). done ++ us) (sym y) ∙ w in
      subst (λ (us : List (List Val)). Contains (under c e us) (bind c x, e)) at
      (subst (λ (us : Parts). Contains us (bind c x, e)) (sym (map-append (λ (vs : List Val). (bind c vs, e)) done (x ∷ rest))) (in_right (under c e done) (under c e (x ∷ rest)) (bind c x, e) (head_in (bind c x, e) (under c e rest))))

  pub under_step : (c : Context) (e : Term) (all left : List (List Val)) (x : List Val) (rest : List (List Val)) (qs rs new : List Places) → left ≡ x ∷ rest → IsWalked g d sees p (bind c x) e (Ok rs)
      → new ≡ qs ++ rs → UnderSoFar c e all left qs → UnderSoFar c e all rest new
  under_step c e all left x rest qs rs new y w z s = (
    s.0 ++ x ∷ [],
    append_assoc s.0 (x ∷ []) rest ∙ ap (λ (us : List (List Val)). s.0 ++ us) (sym y) ∙ s.1,
    λ B a h l.
        let m = there c e all s.0 left x rest y s.1 in
        let found = any_goes_on g d sees B p a (under c e s.0) (bind c x, e) qs rs (h (bind c x, e) m).long (l (bind c x, e) m) (s.2 B a h l) (w B (h (bind c x, e) m)) in
        let more = subst (λ (us : Parts). WalkedAny g d sees B p a us (Ok (qs ++ rs))) (sym (map-append (λ (vs : List Val). (bind c vs, e)) s.0 (x ∷ []))) found in
        subst (λ (us : List Places). WalkedAny g d sees B p a (under c e (s.0 ++ x ∷ [])) (Ok us)) (sym z) more,
  )

  pub under_stop : (c : Context) (e : Term) (all left : List (List Val)) (x : List Val) (rest : List (List Val)) (qs : List Places) (f : EvalFault) → left ≡ x ∷ rest → IsWalked g d sees p (bind c x) e (Err f)
      → UnderSoFar c e all left qs → AnyWalked g d sees p (under c e all) (Err f)
  under_stop c e all left x rest qs f y w s B a h l =
      let m = there c e all s.0 left x rest y s.1 in any_refused g d sees B p a (under c e all) (bind c x, e) f m (w B (h (bind c x, e) m))

  pub under_done : (c : Context) (e : Term) (all left : List (List Val)) (qs : List Places) → left ≡ [] → UnderSoFar c e all left qs → AnyWalked g d sees p (under c e all) (Ok qs)
  under_done c e all left qs y s B a h l =
      let same : s.0 ≡ all = sym (to_end s.0) ∙ ap (λ (us : List (List Val)). s.0 ++ us) (sym y) ∙ s.1 in
      subst (λ (us : List (List Val)). WalkedAny g d sees B p a (under c e us) (Ok qs)) same (s.2 B a h l)

  pub under_ground : (c : Context) (e : Term) (all left : List (List Val)) (x : List Val) (rest : List (List Val)) (qs : List Places) → left ≡ x ∷ rest → AnyGrounded g d sees p (under c e all)
      → UnderSoFar c e all left qs → Grounded g d sees p (bind c x) e
  under_ground c e all left x rest qs y h s = h (bind c x, e) (there c e all s.0 left x rest y s.1)

-- a term from each of several places
module _ (g : Setting) (d : ℕ) (sees : List See) (c : Context) (a : Term) where
  abbrev pub EachSoFar : List Places → ℕ → List Places → Type 0
  EachSoFar ps i rs = (B : VariableSet) → ((p : Places) → Contains ps p → Grounds g d sees B p c a) → WalkedEach g d sees B (take i ps) c a (Ok rs)

  pub each_start : (ps rs : List Places) → rs ≡ [] → EachSoFar ps 0 rs
  each_start ps rs z B h = subst (λ (us : List Places). WalkedEach g d sees B [] c a (Ok us)) (sym z) (each_none sees (Fixes g a B) (HoldsOf g d c a) (FailsOf g d B c a))

  pub each_step : (ps : List Places) (i : ℕ) (p : Places) (rs ss new : List Places) → Apart ps i p → IsWalked g d sees p c a (Ok ss) → new ≡ rs ++ ss → EachSoFar ps i rs → EachSoFar ps (i + 1) new
  each_step ps i p rs ss new k w z s B h =
      let m = within ps i p k in
      let found = each_more sees (take i ps) p (Fixes g a B) (HoldsOf g d c a) (FailsOf g d B c a) rs ss (s B h) (w B (h p m)) in
      let more = subst (λ (us : List Places). WalkedEach g d sees B us c a (Ok (rs ++ ss))) (sym k.more) found in
      subst (λ (us : List Places). WalkedEach g d sees B (take (i + 1) ps) c a (Ok us)) (sym z) more

  pub each_stop : (ps : List Places) (i : ℕ) (p : Places) (f : EvalFault) → Apart ps i p → IsWalked g d sees p c a (Err f) → EachWalked g d sees ps c a (Err f)
  each_stop ps i p f k w B h = let m = within ps i p k in each_refused sees ps p (Fixes g a B) (HoldsOf g d c a) (FailsOf g d B c a) f m (w B (h p m))

  pub each_done : (ps : List Places) (i : ℕ) (rs : List Places) → length ps ≤ i → EachSoFar ps i rs → EachWalked g d sees ps c a (Ok rs)
  each_done ps i rs l s B h = subst (λ (us : List Places). WalkedEach g d sees B us c a (Ok rs)) (take_all i ps l) (s B h)

  pub each_ground : (ps : List Places) (i : ℕ) (p : Places) → Apart ps i p → EachGrounded g d sees ps c a → Grounded g d sees p c a
  each_ground ps i p k h = h p (within ps i p k)

  -- from a single one
  pub each_one : (p : Places) (r : Result (List Places) EvalFault) → IsWalked g d sees p c a r → EachWalked g d sees (p ∷ []) c a r
  each_one p (Ok ss) w B h =
      each_more sees [] p (Fixes g a B) (HoldsOf g d c a) (FailsOf g d B c a) [] ss (each_none sees (Fixes g a B) (HoldsOf g d c a) (FailsOf g d B c a)) (w B (h p (head_in p [])))
  each_one p (Err f) w B h = each_refused sees (p ∷ []) p (Fixes g a B) (HoldsOf g d c a) (FailsOf g d B c a) f (head_in p []) (w B (h p (head_in p [])))
