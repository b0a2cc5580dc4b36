-- Lines that are taken one after the other begin an allowed order.
use Rattle.std.proofs.Common.{◌≡◌, ◌≢◌, ◌⊎◌, inl, inr, ℕ, zero, suc, ◌+◌, ◌<◌, ◌≤◌, List, [], ◌∷◌, ◌++◌, length, ap, sym, ◌∙◌, subst, refl, arith}
use Rattle.std.specs.List.{Contains, AllPairs}
use Rattle.base_clock_order.specs.Orders.{FollowsInLog, NoneBefore, line}
use Rattle.base_clock_order.specs.declared.order.LineRef.{LineRef}
use Rattle.base_cuts.specs.Cuts.{Cut, IsLineOf, after, next, nothing, taken, total, with_one}
use Rattle.base_cuts.specs.Orders.{IsOrderUnder}
use Rattle.base_cuts.specs.Heads.{AreTaken, IsLeast, IsRule}
use Rattle.base_cuts.proofs.Lists.{before, cons_cases, head_in, none_in, pairs_more, pairs_none, rest, tail_in}
use Rattle.base_cuts.proofs.Growing.{all_or_left, has_log, nat_lt_or, nat_two, after_long, after_more, nothing_long, nothing_taken, total_with_one, total_within, with_long, with_other, with_there}

-- the line is not taken at the cut
abbrev pub IsLeft : Cut → LineRef → Type 0
IsLeft c l = taken c l.file ≤ l.index

-- an order of the lines that are left at the cut
pub record OrdersRest (sizes : Cut) (R : LineRef → LineRef → Type 0) (c : Cut) (xs : List LineRef) : Type 0 where
  pub lines : (l : LineRef) → Contains xs l → IsLineOf sizes l
  pub left : (l : LineRef) → Contains xs l → IsLeft c l
  pub all : (l : LineRef) → IsLineOf sizes l → IsLeft c l → Contains xs l
  pub once : AllPairs (λ a b. a ≢ b) xs
  pub in_log : NoneBefore FollowsInLog xs
  pub rule : NoneBefore R xs

-- nothing is left at the cut
abbrev pub IsAll : Cut → Cut → Type 0
IsAll sizes c = (f : ℕ) → taken sizes f ≤ taken c f

is_next : (c : Cut) (l : LineRef) → taken c l.file ≡ l.index → l ≡ next c l.file
is_next c l e = λ i. record { file = l.file; index = sym e i }

pub split : (m n : ℕ) → m ≤ n → (m ≡ n) ⊎ (m < n)
split m n h = grind arith

above : (k m n : ℕ) → m ≤ n → m ≢ n → k ≡ suc m → k ≤ n
above k m n h apart e = elim (split m n h) [ inl s ↦ absurd (apart s) | inr l ↦ omega (arith, l, e) ]

split_suc : (g k : ℕ) → g < suc k → (g < k) ⊎ (g ≡ k)
split_suc g k h = grind arith

-- no more is taken than there is
abbrev pub IsWithin : Cut → Cut → Type 0
IsWithin sizes c = (f : ℕ) → taken c f ≤ taken sizes f

line_two : (a b : LineRef) → (a ≡ b) ⊎ (a ≢ b)
line_two a b = elim (nat_two a.file b.file) [
  | inl e ↦ elim (nat_two a.index b.index) [
    | inl f ↦ inl (λ i. record { file = e i; index = f i })
    | inr n ↦ inr (λ s. n (ap (λ (x : LineRef). x.index) s))
  ]
  | inr n ↦ inr (λ s. n (ap (λ (x : LineRef). x.file) s))
]

module _ (sizes : Cut) (R : LineRef → LineRef → Type 0) (rule : IsRule sizes R) where
  -- of what is left behind the next line of f
  left_behind : (c : Cut) (f : ℕ) → f < length c → (l : LineRef) → IsLeft (with_one c f) l → IsLeft c l × (l ≢ next c f)
  left_behind c f b l h = elim (nat_two f l.file) [
    | inl e ↦ let more : taken (with_one c f) l.file ≡ suc (taken c l.file) = subst (λ (g : ℕ). taken (with_one c f) g ≡ suc (taken c g)) e (with_there c f b) in
        (omega (arith, h, more), λ same. let index : l.index ≡ taken c f = ap (λ (x : LineRef). x.index) same in let t : taken c f ≡ taken c l.file = ap (taken c) e in omega (arith, h, more, index, t))
    | inr n ↦ let other = with_other c f l.file n in (omega (arith, h, other), λ same. n (sym (ap (λ (x : LineRef). x.file) same)))
  ]

  left_before : (c : Cut) (f : ℕ) → f < length c → (l : LineRef) → IsLeft c l → l ≢ next c f → IsLeft (with_one c f) l
  left_before c f b l h differ = elim (nat_two f l.file) [
    | inl e ↦ let more : taken (with_one c f) l.file ≡ suc (taken c l.file) = subst (λ (g : ℕ). taken (with_one c f) g ≡ suc (taken c g)) e (with_there c f b) in
        elim (nat_two (taken c l.file) l.index) [
          | inl same ↦ absurd (differ (is_next c l same ∙ ap (next c) (sym e)))
          | inr apart ↦ above (taken (with_one c f) l.file) (taken c l.file) l.index h apart more
        ]
    | inr n ↦ let other = with_other c f l.file n in omega (arith, h, other)
  ]

  head_line : (c : Cut) (x : LineRef) → IsLineOf sizes x → IsLeft c x → IsLineOf sizes (next c x.file)
  head_line c x is left = omega (arith, is, left)

  cons_taken : (c : Cut) (l : LineRef) (ls : List LineRef) → length c ≡ length sizes → l ≡ next c l.file → IsLeast sizes R c l.file → OrdersRest sizes R (with_one c l.file) ls
      → OrdersRest sizes R c (l ∷ ls)
  cons_taken c l ls long is least r =
      let line : IsLineOf sizes l = subst (IsLineOf sizes) (sym is) least.is in
      let b : l.file < length c = let h = has_log sizes l line in omega (arith, h, long) in
      record {
        lines = λ x h. elim (cons_cases l ls x h) [ inl e ↦ subst (IsLineOf sizes) e line | inr k ↦ r.lines x k ];
        left = λ x h. elim (cons_cases l ls x h) [
          | inl e ↦ subst (IsLeft c) e (subst (IsLeft c) (sym is) (omega arith))
          | inr k ↦ (left_behind c l.file b x (r.left x k)).0
        ];
        all = λ x h left. elim (line_two x l) [
          | inl e ↦ subst (Contains (l ∷ ls)) (sym e) (head_in l ls)
          | inr n ↦ tail_in l ls x (r.all x h (left_before c l.file b x left (λ e. n (e ∙ sym is))))
        ];
        once = pairs_more (λ x y. x ≢ y) l ls (λ x h e. (left_behind c l.file b x (r.left x h)).1 (sym e ∙ is)) r.once;
        in_log = pairs_more (λ x y. ¬ FollowsInLog x y) l ls (λ x h later.
            let there = (left_behind c l.file b x (r.left x h)).0 in
            let index : l.index ≡ taken c l.file = ap (λ (z : LineRef). z.index) is in
            let same : taken c l.file ≡ taken c x.file = ap (taken c) later.0 in
            let less = later.1 in
            omega (arith, there, index, same, less)) r.in_log;
        rule = pairs_more (λ x y. ¬ R x y) l ls (λ x h must.
            let there = (left_behind c l.file b x (r.left x h)).0 in
            let down = rule.down l x (taken c x.file) line (r.lines x h) there must in
            least.least x.file (head_line c x (r.lines x h) there) (subst (λ (z : LineRef). R z (next c x.file)) is down)) r.rule;
      }

  none_left : (c : Cut) → IsAll sizes c → OrdersRest sizes R c []
  none_left c h = record {
    lines = λ x k. absurd (none_in x k);
    left = λ x k. absurd (none_in x k);
    all = λ x is left. let a = h x.file in absurd (omega (arith, is, left, a));
    once = pairs_none (λ x y. x ≢ y);
    in_log = pairs_none (λ x y. ¬ FollowsInLog x y);
    rule = pairs_none (λ x y. ¬ R x y);
  }

  -- what is taken to the end is an order of what is left
  pub taken_orders : (c : Cut) (xs : List LineRef) → length c ≡ length sizes → AreTaken sizes R c xs → IsAll sizes (after c xs) → OrdersRest sizes R c xs
  taken_orders c [] long h all = none_left c all
  taken_orders c (l ∷ ls) long h all = cons_taken c l ls long h.0 h.1 (taken_orders (with_one c l.file) ls (with_long c l.file ∙ long) h.2 all)

  first_next : (c : Cut) (l : LineRef) (ls : List LineRef) → OrdersRest sizes R c (l ∷ ls) → l ≡ next c l.file
  first_next c l ls r =
      let left = r.left l (head_in l ls) in
      let line = r.lines l (head_in l ls) in
      elim (split (taken c l.file) l.index left) [
        | inl e ↦ is_next c l e
        | inr less ↦
            let there : Contains (l ∷ ls) (next c l.file) = r.all (next c l.file) (omega (arith, less, line)) (omega arith) in
            elim (cons_cases l ls (next c l.file) there) [
              | inl e ↦ e
              | inr k ↦ absurd (before (λ x y. ¬ FollowsInLog x y) l ls (next c l.file) r.in_log k (refl, less))
            ]
      ]

  first_least : (c : Cut) (l : LineRef) (ls : List LineRef) → OrdersRest sizes R c (l ∷ ls) → IsLeast sizes R c l.file
  first_least c l ls r =
      let is = first_next c l ls r in
      let line = r.lines l (head_in l ls) in
      record {
        is = subst (IsLineOf sizes) is line;
        least = λ g h must.
            let by_l : R l (next c g) = subst (λ (z : LineRef). R z (next c g)) (sym is) must in
            elim (cons_cases l ls (next c g) (r.all (next c g) h (omega arith))) [
              | inl e ↦ rule.never l line (subst (R l) (sym e) by_l)
              | inr k ↦ before (λ x y. ¬ R x y) l ls (next c g) r.rule k by_l
            ];
      }

  pub rest_orders : (c : Cut) (l : LineRef) (ls : List LineRef) → length c ≡ length sizes → OrdersRest sizes R c (l ∷ ls) → OrdersRest sizes R (with_one c l.file) ls
  rest_orders c l ls long r =
      let is = first_next c l ls r in
      let line = r.lines l (head_in l ls) in
      let b : l.file < length c = let h = has_log sizes l line in omega (arith, h, long) in
      record {
        lines = λ x h. r.lines x (tail_in l ls x h);
        left = λ x h. left_before c l.file b x (r.left x (tail_in l ls x h)) (λ e. before (λ y z. y ≢ z) l ls x r.once h (is ∙ sym e));
        all = λ x h left. let behind = left_behind c l.file b x left in
            elim (cons_cases l ls x (r.all x h behind.0)) [ inl e ↦ absurd (behind.1 (sym e ∙ is)) | inr k ↦ k ];
        once = rest (λ x y. x ≢ y) l ls r.once;
        in_log = rest (λ x y. ¬ FollowsInLog x y) l ls r.in_log;
        rule = rest (λ x y. ¬ R x y) l ls r.rule;
      }

  -- an order of what is left is taken line by line
  pub orders_taken : (c : Cut) (xs : List LineRef) → length c ≡ length sizes → OrdersRest sizes R c xs → AreTaken sizes R c xs
  orders_taken c [] long r = tt
  orders_taken c (l ∷ ls) long r = (first_next c l ls r, first_least c l ls r, orders_taken (with_one c l.file) ls (with_long c l.file ∙ long) (rest_orders c l ls long r))

  -- of the logs before the k-th, none has a next line that the next line of f must follow
  record Best (c : Cut) (k : ℕ) : Type 0 where
    f : ℕ
    is : IsLineOf sizes (next c f)
    least : (g : ℕ) → g < k → IsLineOf sizes (next c g) → R (next c f) (next c g) → ⊥

  below : (c : Cut) (k : ℕ) (b : Best c k) (g : ℕ) → g < suc k → IsLineOf sizes (next c g) → R (next c k) (next c g) → IsLineOf sizes (next c k) → R (next c b.f) (next c k) → ⊥
  below c k b g h is r line must = elim (split_suc g k h) [
    | inl l ↦ b.least g l is (rule.across (next c b.f) (next c k) (next c g) b.is line is must r)
    | inr e ↦ rule.never (next c k) line (subst (λ (z : ℕ). R (next c k) (next c z)) e r)
  ]

  gone : (c : Cut) (k g : ℕ) → g ≡ k → IsLineOf sizes (next c g) → taken sizes k ≤ taken c k → ⊥
  gone c k g e is over = let a : taken sizes g ≤ taken c g = subst (λ (z : ℕ). taken sizes z ≤ taken c z) (sym e) over in omega (arith, a, is)

  best_more : (c : Cut) (k : ℕ) → Best c k → Best c (suc k)
  best_more c k b = elim (nat_lt_or (taken c k) (taken sizes k)) [
    | inl line ↦ elim (rule.decides (next c b.f) (next c k) b.is line) [
      | inl must ↦ record { f = k; is = line; least = λ g h is r. below c k b g h is r line must }
      | inr free ↦ record { f = b.f; is = b.is; least = λ g h is r. elim (split_suc g k h) [ inl l ↦ b.least g l is r | inr e ↦ free (subst (λ (z : ℕ). R (next c b.f) (next c z)) e r) ] }
    ]
    | inr over ↦ record { f = b.f; is = b.is; least = λ g h is r. elim (split_suc g k h) [ inl l ↦ b.least g l is r | inr e ↦ gone c k g e is over ] }
  ]

  best : (c : Cut) (f : ℕ) → IsLineOf sizes (next c f) → (k : ℕ) → Best c k
  best c f is zero = record { f = f; is = is; least = λ g h. absurd (omega (arith, h)) }
  best c f is (suc k) = best_more c k (best c f is k)

  -- where a log has a next line, some log has one that must follow none
  pub some_least : (c : Cut) (f : ℕ) → IsLineOf sizes (next c f) → (g : ℕ) × IsLeast sizes R c g
  some_least c f is =
      let b = best c f is (length sizes) in
      (b.f, record { is = b.is; least = λ g h. b.least g (has_log sizes (next c g) h) h })

  one_within : (c : Cut) (f : ℕ) → length c ≡ length sizes → IsWithin sizes c → IsLineOf sizes (next c f) → IsWithin sizes (with_one c f)
  one_within c f long within line g = elim (nat_two f g) [
    | inl e ↦
        let b : f < length c = let h = has_log sizes (next c f) line in omega (arith, h, long) in
        let more : taken (with_one c f) g ≡ suc (taken c g) = subst (λ (z : ℕ). taken (with_one c f) z ≡ suc (taken c z)) e (with_there c f b) in
        let there : taken c g < taken sizes g = subst (λ (z : ℕ). taken c z < taken sizes z) e line in
        omega (arith, more, there)
    | inr n ↦ let other = with_other c f g n in let w = within g in omega (arith, other, w)
  ]

  -- one more line of a log that has one
  record Further (c : Cut) (f : ℕ) : Type 0 where
    more : total (with_one c f) ≡ suc (total c)
    within : IsWithin sizes (with_one c f)
    most : total (with_one c f) ≤ total sizes

  further : (c : Cut) (f : ℕ) → length c ≡ length sizes → IsWithin sizes c → IsLineOf sizes (next c f) → Further c f
  further c f long within line =
      let b : f < length c = let h = has_log sizes (next c f) line in omega (arith, h, long) in
      let wide = one_within c f long within line in
      record { more = total_with_one c f b; within = wide; most = total_within (with_one c f) sizes (with_long c f ∙ long) wide }

  pub completes : (n : ℕ) (c : Cut) → length c ≡ length sizes → IsWithin sizes c → total sizes ≤ total c + n → (ys : List LineRef) × AreTaken sizes R c ys × IsAll sizes (after c ys)
  completes zero c long within few = elim (all_or_left c sizes) [
    | inl all ↦ ([], tt, all)
    | inr left ↦ let r = further c left.0 long within left.1 in let more = r.more in let most = r.most in absurd (omega (arith, few, more, most))
  ]
  completes (suc n) c long within few = elim (all_or_left c sizes) [
    | inl all ↦ ([], tt, all)
    | inr left ↦
        let f = some_least c left.0 left.1 in
        let r = further c f.0 long within f.1.is in
        let more = r.more in
        let ys = completes n (with_one c f.0) (with_long c f.0 ∙ long) r.within (omega (arith, few, more)) in
        (next c f.0 ∷ ys.0, (refl, f.1, ys.1), ys.2)
  ]

  pub taken_more : (c : Cut) (xs ys : List LineRef) → AreTaken sizes R c xs → AreTaken sizes R (after c xs) ys → AreTaken sizes R c (xs ++ ys)
  taken_more c [] ys h k = k
  taken_more c (x ∷ xs) ys h k = (h.0, h.1, taken_more (with_one c x.file) xs ys h.2 k)

  pub taken_first : (c : Cut) (xs ys : List LineRef) → AreTaken sizes R c (xs ++ ys) → AreTaken sizes R c xs
  taken_first c [] ys h = tt
  taken_first c (x ∷ xs) ys h = (h.0, h.1, taken_first (with_one c x.file) xs ys h.2)

  pub taken_last : (c : Cut) (xs ys : List LineRef) → AreTaken sizes R c (xs ++ ys) → AreTaken sizes R (after c xs) ys
  taken_last c [] ys h = h
  taken_last c (x ∷ xs) ys h = taken_last (with_one c x.file) xs ys h.2

  pub taken_within : (c : Cut) (xs : List LineRef) → length c ≡ length sizes → IsWithin sizes c → AreTaken sizes R c xs → IsWithin sizes (after c xs)
  taken_within c [] long within h = within
  taken_within c (x ∷ xs) long within h = taken_within (with_one c x.file) xs (with_long c x.file ∙ long) (one_within c x.file long within h.1.is) h.2

  pub nothing_within : IsWithin sizes (nothing sizes)
  nothing_within f = let z = nothing_taken sizes f in omega (arith, z)

  -- lines that are taken from the start begin an order
  pub taken_begins : (xs : List LineRef) → AreTaken sizes R (nothing sizes) xs → (ys : List LineRef) × IsOrderUnder sizes R (xs ++ ys)
  taken_begins xs h =
      let c = after (nothing sizes) xs in
      let long : length c ≡ length sizes = after_long (nothing sizes) xs ∙ nothing_long sizes in
      let ys = completes (total sizes) c long (taken_within (nothing sizes) xs (nothing_long sizes) nothing_within h) (omega arith) in
      let r = taken_orders (nothing sizes) (xs ++ ys.0) (nothing_long sizes) (taken_more (nothing sizes) xs ys.0 h ys.1)
      (subst (IsAll sizes) (sym (after_more (nothing sizes) xs ys.0)) ys.2) in (
        ys.0,
        record {
          lines = record { lines = r.lines; all = λ l is. r.all l is (let z = nothing_taken sizes l.file in omega (arith, z)); once = r.once };
          in_log = r.in_log;
          rule = r.rule;
        },
      )

  pub order_rest : (xs : List LineRef) → IsOrderUnder sizes R xs → OrdersRest sizes R (nothing sizes) xs
  order_rest xs o = record {
    lines = o.lines.lines;
    left = λ l h. let z = nothing_taken sizes l.file in omega (arith, z);
    all = λ l is h. o.lines.all l is;
    once = o.lines.once;
    in_log = o.in_log;
    rule = o.rule;
  }

  pub begins_taken : (xs ys : List LineRef) → IsOrderUnder sizes R (xs ++ ys) → AreTaken sizes R (nothing sizes) xs
  begins_taken xs ys o = taken_first (nothing sizes) xs ys (orders_taken (nothing sizes) (xs ++ ys) (nothing_long sizes) (order_rest (xs ++ ys) o))
