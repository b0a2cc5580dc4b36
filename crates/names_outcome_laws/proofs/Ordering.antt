-- An order of uses exists in which what uses itself asks for nothing: definitions stand in it by how many others they lead to.
use Rattle.std.proofs.Common.{◌≡◌, ◌≢◌, ◌∙◌, sym, ap, refl, subst, arith, inl, inr, ℕ, zero, suc, ◌+◌, List, [], ◌∷◌, ◌++◌, length, ◌<◌, ◌≤◌, ◌⊎◌}
use Rattle.std.specs.Prelude.{Bool, true, false, AllPairs, Contains}
use Rattle.std.specs.List.{slice_index_or}
use Rattle.std.proofs.lemmas.List.Elements.{Contains-append_cases, Contains-get_or}
use Rattle.base_use_order.specs.Uses.{IsWithin, Leads, Table, Uses, UsesItself, direct, through}
use Rattle.base_use_order.proofs.Lists.{cons_cases, earlier, head_in, none_in, of_rest, tail_in, within_or_past}
use Rattle.base_use_order.specs.Apart.{IsOrderApart}
use Rattle.names_outcome_laws.proofs.Deciding.{Decided}
use Rattle.names_outcome_laws.proofs.Leading.{leads_or_not}

pub pairs_behind : (R : ℕ → ℕ → Type 0) (x : ℕ) (xs : List ℕ) → ((v : ℕ) → Contains xs v → R x v) → AllPairs R xs → AllPairs R (x ∷ xs)
pairs_behind R x xs h p zero zero d lt le = absurd (omega (arith, lt))
pairs_behind R x xs h p zero (suc j) d lt le = h (slice_index_or xs j d) (Contains-get_or xs j d (omega (arith, le)))
pairs_behind R x xs h p (suc i) zero d lt le = absurd (omega (arith, lt))
pairs_behind R x xs h p (suc i) (suc j) d lt le = p i j d (omega (arith, lt)) (omega (arith, le))

no_pairs : (R : ℕ → ℕ → Type 0) → AllPairs R []
no_pairs R i j d lt le = absurd (omega (arith, le))

-- of each behind it
behind_it : (R : ℕ → ℕ → Type 0) (before after : List ℕ) (a v : ℕ) → AllPairs R (before ++ a ∷ after) → Contains after v → R a v
behind_it R [] after a v p h = earlier R a after v p h
behind_it R (b ∷ before) after a v p h = behind_it R before after a v (of_rest R b (before ++ a ∷ after) p) h

-- ---- a list in order of ranks

module _ (rank : ℕ → ℕ) where
  abbrev Ranked : List ℕ → Type 0
  Ranked xs = AllPairs (λ a b. rank a ≤ rank b) xs

  abbrev Once : List ℕ → Type 0
  Once xs = AllPairs (λ a b. a ≢ b) xs

  -- the list with one more
  record Inserted (x : ℕ) (xs : List ℕ) : Type 0 where
    pub list : List ℕ
    pub each : (v : ℕ) → Contains list v → (x ≡ v) ⊎ Contains xs v
    pub all : (v : ℕ) → (x ≡ v) ⊎ Contains xs v → Contains list v
    pub ranked : Ranked list
    pub once : Once list

  inserted : (x : ℕ) (xs : List ℕ) → Ranked xs → Once xs → ¬ Contains xs x → Inserted x xs
  inserted x [] r o n = record {
    list = x ∷ [];
    each = λ v h. cons_cases x [] v h;
    all = λ v h. elim h [ inl e ↦ subst (λ (w : ℕ). Contains (x ∷ []) w) e (head_in x []) | inr g ↦ absurd (none_in v g) ];
    ranked = pairs_behind (λ a b. rank a ≤ rank b) x [] (λ v g. absurd (none_in v g)) (no_pairs (λ a b. rank a ≤ rank b));
    once = pairs_behind (λ a b. a ≢ b) x [] (λ v g. absurd (none_in v g)) (no_pairs (λ a b. a ≢ b));
  }
  inserted x (y ∷ ys) r o n = elim (within_or_past (rank y) (rank x)) [
    | inl less ↦ later less (inserted x ys (of_rest (λ a b. rank a ≤ rank b) y ys r) (of_rest (λ a b. a ≢ b) y ys o) (λ h. n (tail_in y ys x h)))
    | inr le ↦ here le
  ]
    where
      here : rank x ≤ rank y → Inserted x (y ∷ ys)
      here le = record {
        list = x ∷ y ∷ ys;
        each = λ v h. cons_cases x (y ∷ ys) v h;
        all = λ v h. elim h [ inl e ↦ subst (λ (w : ℕ). Contains (x ∷ y ∷ ys) w) e (head_in x (y ∷ ys)) | inr g ↦ tail_in x (y ∷ ys) v g ];
        ranked = pairs_behind (λ a b. rank a ≤ rank b) x (y ∷ ys) (λ v g. no_less v (cons_cases y ys v g)) r;
        once = pairs_behind (λ a b. a ≢ b) x (y ∷ ys) (λ v g e. n (subst (λ (w : ℕ). Contains (y ∷ ys) w) (sym e) g)) o;
      }
        where
          no_less : (v : ℕ) → (y ≡ v) ⊎ Contains ys v → rank x ≤ rank v
          no_less v (inl e) = subst (λ (w : ℕ). rank x ≤ rank w) e le
          no_less v (inr g) = let more : rank y ≤ rank v = earlier (λ a b. rank a ≤ rank b) y ys v r g in omega (arith, le, more)

      later : rank y < rank x → Inserted x ys → Inserted x (y ∷ ys)
      later less rest =
          record {
            list = y ∷ rest.list;
            each = λ v h. elim (cons_cases y rest.list v h) [
              | inl e ↦ inr (subst (λ (w : ℕ). Contains (y ∷ ys) w) e (head_in y ys))
              | inr g ↦ elim (rest.each v g) [ inl e ↦ inl e | inr k ↦ inr (tail_in y ys v k) ]
            ];
            all = λ v h. elim h [
              | inl e ↦ tail_in y rest.list v (rest.all v (inl e))
              | inr g ↦ elim (cons_cases y ys v g) [
                | inl e ↦ subst (λ (w : ℕ). Contains (y ∷ rest.list) w) e (head_in y rest.list)
                | inr k ↦ tail_in y rest.list v (rest.all v (inr k))
              ]
            ];
            ranked = pairs_behind (λ a b. rank a ≤ rank b) y rest.list (λ v g. no_less v (rest.each v g)) rest.ranked;
            once = pairs_behind (λ a b. a ≢ b) y rest.list (λ v g. other v (rest.each v g)) rest.once;
          }
        where
          no_less : (v : ℕ) → (x ≡ v) ⊎ Contains ys v → rank y ≤ rank v
          no_less v (inl e) = subst (λ (w : ℕ). rank y ≤ rank w) e (omega (arith, less))
          no_less v (inr g) = earlier (λ a b. rank a ≤ rank b) y ys v r g

          other : (v : ℕ) → (x ≡ v) ⊎ Contains ys v → y ≢ v
          other v (inl e) = λ q. n (subst (λ (w : ℕ). Contains (y ∷ ys) w) (q ∙ sym e) (head_in y ys))
          other v (inr g) = earlier (λ a b. a ≢ b) y ys v o g

  -- the first numbers, so many of them
  record Sorted (n : ℕ) : Type 0 where
    pub list : List ℕ
    pub each : (a : ℕ) → Contains list a → a < n
    pub all : (a : ℕ) → a < n → Contains list a
    pub ranked : Ranked list
    pub once : Once list

  sorted : (n : ℕ) → Sorted n
  sorted zero = record {
    list = [];
    each = λ a h. absurd (none_in a h);
    all = λ a lt. absurd (omega (arith, lt));
    ranked = no_pairs (λ a b. rank a ≤ rank b);
    once = no_pairs (λ a b. a ≢ b);
  }
  sorted (suc n) =
      let before : Sorted n = sorted n in
      let more : Inserted n before.list = inserted n before.list before.ranked before.once (λ h. let lt : n < n = before.each n h in omega (arith, lt)) in
      record {
        list = more.list;
        each = λ a h. elim (more.each a h) [ inl e ↦ omega (arith, e) | inr g ↦ let lt : a < n = before.each a g in omega (arith, lt) ];
        all = λ a lt. more.all a (elim (within_or_past a n) [ inl less ↦ inr (before.all a less) | inr le ↦ inl (omega (arith, le, lt)) ]);
        ranked = more.ranked;
        once = more.once;
      }

-- ---- how many a definition leads to

abbrev one : {P : Type 0} → Decided P → ℕ
one (inl p) = 1
one (inr n) = 0

one_no_less : {P Q : Type 0} (p : Decided P) (q : Decided Q) → (P → Q) → one p ≤ one q
one_no_less (inl p) (inl q) f = omega arith
one_no_less (inl p) (inr n) f = absurd (n (f p))
one_no_less (inr m) (inl q) f = omega arith
one_no_less (inr m) (inr n) f = omega arith

one_more : {P Q : Type 0} (p : Decided P) (q : Decided Q) → ¬ P → Q → one p < one q
one_more (inl p) q n k = absurd (n p)
one_more (inr m) (inl q) n k = omega arith
one_more (inr m) (inr w) n k = absurd (w k)

module _ (uses : Table) (within : IsWithin uses) (marks : List Bool) (recursive : (a : ℕ) → slice_index_or marks a false ≡ false → ¬ UsesItself uses a) where
  abbrev reached : ℕ → ℕ → ℕ
  reached zero a = 0
  reached (suc k) a = one (leads_or_not uses within a k) + reached k a

  reached_no_less : (k a b : ℕ) → Uses uses a b → reached k b ≤ reached k a
  reached_no_less zero a b u = omega arith
  reached_no_less (suc k) a b u =
      let here : one (leads_or_not uses within b k) ≤ one (leads_or_not uses within a k) = one_no_less (leads_or_not uses within b k) (leads_or_not uses within a k) (λ l. through a b k u l) in
      let before : reached k b ≤ reached k a = reached_no_less k a b u in
      omega (arith, here, before)

  reached_more : (k a b : ℕ) → Uses uses a b → ¬ Leads uses b b → b < k → reached k b < reached k a
  reached_more zero a b u n lt = absurd (omega (arith, lt))
  reached_more (suc k) a b u n lt = elim (within_or_past b k) [
    | inl less ↦
        let here : one (leads_or_not uses within b k) ≤ one (leads_or_not uses within a k) = one_no_less (leads_or_not uses within b k) (leads_or_not uses within a k) (λ l. through a b k u l) in
        let before : reached k b < reached k a = reached_more k a b u n less in
        omega (arith, here, before)
    | inr le ↦
        let same : b ≡ k = omega (arith, le, lt) in
        let here : one (leads_or_not uses within b k) < one (leads_or_not uses within a k) = one_more (leads_or_not uses within b k) (leads_or_not uses within a k) (λ l. n (subst (λ (x : ℕ). Leads uses b x) (sym same) l)) (direct a k (subst (λ (x : ℕ). Uses uses a x) same u)) in
        let before : reached k b ≤ reached k a = reached_no_less k a b u in
        omega (arith, here, before)
  ]

  -- what uses itself comes first
  abbrev rank_by : Bool → ℕ → ℕ
  rank_by true a = 0
  rank_by false a = suc (reached (length uses) a)

  abbrev rank : ℕ → ℕ
  rank a = rank_by (slice_index_or marks a false) a

  falls : (a b : ℕ) → slice_index_or marks a false ≡ false → Uses uses a b → rank b < rank a
  falls a b free u = by_mark (slice_index_or marks b false) refl
    where
      high : rank a ≡ suc (reached (length uses) a)
      high = ap (λ (m : Bool). rank_by m a) free

      by_mark : (m : Bool) → slice_index_or marks b false ≡ m → rank b < rank a
      by_mark true q = let low : rank b ≡ 0 = ap (λ (m : Bool). rank_by m b) q in omega (arith, low, high)
      by_mark false q =
          let low : rank b ≡ suc (reached (length uses) b) = ap (λ (m : Bool). rank_by m b) q in
          let more : reached (length uses) b < reached (length uses) a = reached_more (length uses) a b u (recursive b q) (within a b u) in
          omega (arith, low, high, more)

  pub some_order : (order : List ℕ) × IsOrderApart marks uses order
  some_order = (s.list, record { all = λ a. (s.all a, s.each a); once = s.once; used_before = before_it })
    where
      s : Sorted rank (length uses)
      s = sorted rank (length uses)

      before_it : (a b : ℕ) (before after : List ℕ) → s.list ≡ before ++ a ∷ after → slice_index_or marks a false ≡ false → Uses uses a b → Contains before b
      before_it a b before after e free u =
          let there : Contains (before ++ a ∷ after) b = subst (λ (l : List ℕ). Contains l b) e (s.all b (within a b u)) in
          let lower : rank b < rank a = falls a b free u in
          elim (Contains-append_cases before (a ∷ after) b there) [
            | inl g ↦ g
            | inr g ↦ elim (cons_cases a after b g) [
              | inl q ↦ absurd (recursive a free (subst (λ (x : ℕ). Leads uses a x) (sym q) (direct a b u)))
              | inr k ↦
                  let no_less : rank a ≤ rank b = behind_it (λ x y. rank x ≤ rank y) before after a b (subst (λ (l : List ℕ). AllPairs (λ x y. rank x ≤ rank y) l) e s.ranked) k in
                  absurd (omega (arith, lower, no_less))
            ]
          ]
