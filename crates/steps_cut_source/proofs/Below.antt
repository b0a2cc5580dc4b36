-- Steps over cuts are listed log by log.
use Rattle.std.proofs.Common.{◌≡◌, ◌≢◌, ◌⊎◌, inl, inr, ℕ, suc, ◌<◌, List, [], ◌∷◌, ◌++◌, length, map, ap, sym, ◌∙◌, subst, refl, arith}
use Rattle.std.proofs.lemmas.List.{length-map}
use Rattle.std.specs.List.{AllPairs, Contains}
use Rattle.states_core.specs.Sets.{HasMoreThan, IsList}
use Rattle.states_core.specs.States.{Values}
use Rattle.states_core.specs.declared.fault.Fault.{Fault}
use Rattle.base_clock_order.specs.declared.order.LineRef.{LineRef}
use Rattle.logs_updates.specs.declared.line.Line.{Line}
use Rattle.base_cuts.specs.Cuts.{Cut, next, taken, with_one}
use Rattle.base_cuts.specs.Orders.{IsMade, IsReadyAt, Order}
use Rattle.base_cuts.proofs.Lists.{before, cons_cases, head_in, none_in, pairs_more, pairs_none, rest, tail_in}
use Rattle.base_cuts.proofs.Growing.{with_other, with_there}
use Rattle.base_cuts.proofs.Lengths.{next_is}
use Rattle.logs_tied.specs.Lines.{StandsIn}
use Rattle.logs_tied.proofs.Zips.{one_line, stands_log}
use Rattle.steps_tied.specs.Languages.{Language}
use Rattle.steps_tied.specs.Tied.{CutState, TakesLine, by_cuts}
use Rattle.steps_cut_source.specs.Listing.{GivesBelow, TakesBelow, at_cut}

module _ {X : Type 0} where
  in_append : (xs ys : List X) (v : X) → Contains (xs ++ ys) v → Contains xs v ⊎ Contains ys v
  in_append [] ys v h = inr h
  in_append (x ∷ xs) ys v h = elim (cons_cases x (xs ++ ys) v h) [
    | inl e ↦ inl (subst (Contains (x ∷ xs)) e (head_in x xs))
    | inr k ↦ elim (in_append xs ys v k) [ inl a ↦ inl (tail_in x xs v a) | inr b ↦ inr b ]
  ]

  append_left : (xs ys : List X) (v : X) → Contains xs v → Contains (xs ++ ys) v
  append_left [] ys v h = absurd (none_in v h)
  append_left (x ∷ xs) ys v h = elim (cons_cases x xs v h) [
    | inl e ↦ subst (Contains (x ∷ (xs ++ ys))) e (head_in x (xs ++ ys))
    | inr k ↦ tail_in x (xs ++ ys) v (append_left xs ys v k)
  ]

  append_right : (xs ys : List X) (v : X) → Contains ys v → Contains (xs ++ ys) v
  append_right [] ys v h = h
  append_right (x ∷ xs) ys v h = tail_in x (xs ++ ys) v (append_right xs ys v h)

  pairs_append : (R : X → X → Type 0) (xs ys : List X) → AllPairs R xs → AllPairs R ys → ((x y : X) → Contains xs x → Contains ys y → R x y) → AllPairs R (xs ++ ys)
  pairs_append R [] ys p q r = q
  pairs_append R (x ∷ xs) ys p q r =
      pairs_more R x (xs ++ ys) (λ y h. elim (in_append xs ys y h) [ inl a ↦ before R x xs y p a | inr b ↦ r x y (head_in x xs) b ])
      (pairs_append R xs ys (rest R x xs p) q (λ a b h k. r a b (tail_in x xs a h) k))

module _ {X Y : Type 0} (f : X → Y) where
  pub map_in : (xs : List X) (x : X) → Contains xs x → Contains (map f xs) (f x)
  map_in [] x h = absurd (none_in x h)
  map_in (z ∷ zs) x h = elim (cons_cases z zs x h) [
    | inl e ↦ subst (λ (w : X). Contains (f z ∷ map f zs) (f w)) e (head_in (f z) (map f zs))
    | inr g ↦ tail_in (f z) (map f zs) (f x) (map_in zs x g)
  ]

  pub in_map : (xs : List X) (y : Y) → Contains (map f xs) y → (x : X) × Contains xs x × (f x ≡ y)
  in_map [] y h = absurd (none_in y h)
  in_map (z ∷ zs) y h = elim (cons_cases (f z) (map f zs) y h) [
    | inl e ↦ (z, head_in z zs, e)
    | inr g ↦ let r = in_map zs y g in (r.0, tail_in z zs r.0 r.1, r.2)
  ]

  pub pairs_map : ((a b : X) → f a ≡ f b → a ≡ b) → (xs : List X) → AllPairs (λ a b. a ≢ b) xs → AllPairs (λ a b. a ≢ b) (map f xs)
  pairs_map one [] p = pairs_none (λ a b. a ≢ b)
  pairs_map one (x ∷ xs) p =
      pairs_more (λ a b. a ≢ b) (f x) (map f xs) (λ y h e. let r = in_map xs y h in before (λ a b. a ≢ b) x xs r.0 p r.1 (one x r.0 (e ∙ sym r.2)))
      (pairs_map one xs (rest (λ a b. a ≢ b) x xs p))

self_suc : (n : ℕ) → n < suc n
self_suc n = omega arith

split_suc : (g k : ℕ) → g < suc k → (g < k) ⊎ (g ≡ k)
split_suc g k h = grind arith

module _ (k : Language) (files : List (List Line)) (o : Order) (made : IsMade o) (e : CutState) where
  -- the log i has none
  same_log : (c : Cut) (l m : LineRef) → IsReadyAt o c l → IsReadyAt o c m → l.file ≡ m.file → l ≡ m
  same_log c l m r s q = next_is o made c l r ∙ ap (next c) q ∙ sym (next_is o made c m s)

  skip_below : (i : ℕ) (d : Cut) (P : Line → Type 0) → (IsReadyAt o e.cut (next e.cut i) → ⊥) → TakesBelow files o (suc i) e.cut d P → TakesBelow files o i e.cut d P
  skip_below i d P none h = elim (split_suc h.0.place.file i h.1) [
    | inl l ↦ (h.0, l)
    | inr same ↦ absurd (none (subst (IsReadyAt o e.cut) (next_is o made e.cut h.0.place h.0.ready ∙ ap (next e.cut) same) h.0.ready))
  ]

  pub skips : (i : ℕ) (xs : List CutState) → (IsReadyAt o e.cut (next e.cut i) → ⊥) → GivesBelow k files o e i xs → GivesBelow k files o e (suc i) xs
  skips i xs none g = record {
    list = record {
      are = record { distinct = g.list.are.distinct; members = λ x h. let b = g.list.are.members x h in let l = b.1 in (b.0, omega (arith, l)) };
      all = λ x h. g.list.all x (skip_below i x.cut (λ l. k.Step l e.state x.state) none h);
    };
    clear = λ f x h s. g.clear f x (skip_below i f.cut (λ l. k.FaultStep l e.state f.state x) none h) (skip_below i f.cut (λ l. k.Seen l f.state) none s);
  }

  -- the log i has a line that is ready
  module _ (i : ℕ) (line : Line) (ready : IsReadyAt o e.cut (next e.cut i)) (stands : StandsIn files (next e.cut i) line) (inside : i < length e.cut) where
    pub takes_it : (P : Line → Type 0) → P line → TakesLine files o e.cut (with_one e.cut i) P
    takes_it P p = record { place = next e.cut i; ready = ready; further = refl; line = line; stands = stands; holds = p }

    takes_below : (P : Line → Type 0) → P line → TakesBelow files o (suc i) e.cut (with_one e.cut i) P
    takes_below P p = (record { place = next e.cut i; ready = ready; further = refl; line = line; stands = stands; holds = p }, self_suc i)

    -- what is taken of that log is this line, to this cut
    is_it : (d : Cut) (P : Line → Type 0) → (h : TakesLine files o e.cut d P) → h.place.file ≡ i → (d ≡ with_one e.cut i) × P line
    is_it d P h same =
        let place : h.place ≡ next e.cut i = same_log e.cut h.place (next e.cut i) h.ready ready same in
        let one : h.line ≡ line = one_line files (next e.cut i) h.line line (subst (λ (l : LineRef). StandsIn files l h.line) place h.stands) stands in
        (h.further ∙ ap (with_one e.cut) same, subst P one h.holds)

    -- a line of an earlier log leads to another cut
    other_cut : (d : Cut) (P : Line → Type 0) → TakesBelow files o i e.cut d P → d ≡ with_one e.cut i → ⊥
    other_cut d P h same =
        let f = h.0.place.file in
        let apart : f ≢ i = λ q. (let l = h.1 in omega (arith, q, l)) in
        let there : taken d i ≡ taken e.cut i = ap (λ (c : Cut). taken c i) h.0.further ∙ with_other e.cut f i apart in
        let more : taken d i ≡ suc (taken e.cut i) = ap (λ (c : Cut). taken c i) same ∙ with_there e.cut i inside in
        omega (arith, there, more)

    at_it : Values → CutState
    at_it s = at_cut (with_one e.cut i) s

    one_state : (s t : Values) → at_cut (with_one e.cut i) s ≡ at_cut (with_one e.cut i) t → s ≡ t
    one_state s t q = ap (λ (x : CutState). x.state) q

    pub adds : (xs : List CutState) (ts : List Values) → GivesBelow k files o e i xs → IsList (k.Step line e.state) ts → ((t : Values) (x : Fault) → k.FaultStep line e.state t x → k.Seen line t → ⊥)
        → GivesBelow k files o e (suc i) (xs ++ map (at_cut (with_one e.cut i)) ts)
    adds xs ts g listed quiet = record {
      list = record {
        are = record {
          distinct = pairs_append (λ a b. a ≢ b) xs (map (at_cut (with_one e.cut i)) ts) g.list.are.distinct (pairs_map (at_cut (with_one e.cut i)) one_state ts listed.are.distinct)
              (λ x y h m q. let r = in_map (at_cut (with_one e.cut i)) ts y m in
              other_cut x.cut (λ l. k.Step l e.state x.state) (g.list.are.members x h) (ap (λ (z : CutState). z.cut) (q ∙ sym r.2)));
          members = λ x h. elim (in_append xs (map (at_cut (with_one e.cut i)) ts) x h) [
            | inl a ↦ let b = g.list.are.members x a in let l = b.1 in (b.0, omega (arith, l))
            | inr m ↦ let r = in_map (at_cut (with_one e.cut i)) ts x m in
                subst (λ (z : CutState). TakesBelow files o (suc i) e.cut z.cut (λ l. k.Step l e.state z.state)) r.2 (takes_below (λ l. k.Step l e.state r.0) (listed.are.members r.0 r.1))
          ];
        };
        all = λ x h. elim (split_suc h.0.place.file i h.1) [
          | inl l ↦ append_left xs (map (at_cut (with_one e.cut i)) ts) x (g.list.all x (h.0, l))
          | inr same ↦ let r = is_it x.cut (λ l. k.Step l e.state x.state) h.0 same in
              append_right xs (map (at_cut (with_one e.cut i)) ts) x
              (subst (Contains (map (at_cut (with_one e.cut i)) ts)) (λ j. record { cut = sym r.0 j; state = x.state }) (map_in (at_cut (with_one e.cut i)) ts x.state (listed.all x.state r.1)))
        ];
      };
      clear = λ f x h s. elim (split_suc h.0.place.file i h.1) [
        | inl l ↦ elim (split_suc s.0.place.file i s.1) [
          | inl m ↦ g.clear f x (h.0, l) (s.0, m)
          | inr same ↦ other_cut f.cut (λ z. k.FaultStep z e.state f.state x) (h.0, l) (is_it f.cut (λ z. k.Seen z f.state) s.0 same).0
        ]
        | inr same ↦ elim (split_suc s.0.place.file i s.1) [
          | inl m ↦ other_cut f.cut (λ z. k.Seen z f.state) (s.0, m) (is_it f.cut (λ z. k.FaultStep z e.state f.state x) h.0 same).0
          | inr also ↦ quiet f.state x (is_it f.cut (λ z. k.FaultStep z e.state f.state x) h.0 same).1 (is_it f.cut (λ z. k.Seen z f.state) s.0 also).1
        ]
      ];
    }

    -- more than the bound by this line alone
    pub too_many : (bound : ℕ) → HasMoreThan (k.Step line e.state) bound → HasMoreThan ((by_cuts k files o).Step 0 e) bound
    too_many bound h = (
      map (at_cut (with_one e.cut i)) h.0,
      record {
        distinct = pairs_map (at_cut (with_one e.cut i)) one_state h.0 h.1.distinct;
        members = λ x m. let r = in_map (at_cut (with_one e.cut i)) h.0 x m in
            subst (λ (z : CutState). (by_cuts k files o).Step 0 e z) r.2 (takes_it (λ l. k.Step l e.state r.0) (h.1.members r.0 r.1));
      },
      (let long = length-map h.0 (at_cut (with_one e.cut i)) in let more = h.2 in omega (arith, long, more)),
    )

  pub none_made : GivesBelow k files o e 0 []
  none_made = record {
    list = record { are = record { distinct = pairs_none (λ a b. a ≢ b); members = λ x h. absurd (none_in x h) }; all = λ x h. absurd (let l = h.1 in omega (arith, l)) };
    clear = λ f x h s. let l = h.1 in omega (arith, l);
  }

  -- all logs
  all_below : (d : Cut) (P : Line → Type 0) → (h : TakesLine files o e.cut d P) → h.place.file < length (map length files)
  all_below d P h = stands_log files h.place h.line h.stands

  pub all_given : (xs : List CutState) → GivesBelow k files o e (length (map length files)) xs → IsList ((by_cuts k files o).Step 0 e) xs
      × ((f : CutState) (x : Fault) → (by_cuts k files o).FaultStep 0 e f x → (by_cuts k files o).Seen 0 e f → ⊥)
  all_given xs g = (
    record {
      are = record { distinct = g.list.are.distinct; members = λ x h. (g.list.are.members x h).0 };
      all = λ x h. g.list.all x (h, all_below x.cut (λ l. k.Step l e.state x.state) h);
    },
    λ f x h s. g.clear f x (h, all_below f.cut (λ l. k.FaultStep l e.state f.state x) h) (s, all_below f.cut (λ l. k.Seen l f.state) s),
  )
