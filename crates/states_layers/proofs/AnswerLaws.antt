-- Answers from whole layers.
use Rattle.std.proofs.Common.{◌≡◌, ◌≤◌, ◌<◌, ◌+◌, ◌-◌, ℕ, zero, suc, List, [], ◌∷◌, ◌++◌, length, arith, refl, sym, subst, ap, ◌∙◌, inl, inr, add-one}
use Rattle.std.proofs.lemmas.List.{length-map, length-append}
use Rattle.std.proofs.lemmas.Bool.{cases_lt}
use Rattle.std.proofs.lemmas.Grind.{common_steps}
use Rattle.base_core.specs.declared.place.LineAt.{LineAt}
use Rattle.states_core.specs.System.{System}
use Rattle.states_core.specs.Sets.{IsList, HasAtMost}
use Rattle.states_core.specs.Runs.{Run, start, wait, go, Layer, Entry, Upto, IsUpto}
use Rattle.states_layers.specs.Moves.{entries, line_after, silents_after}
use Rattle.states_layers.specs.Found.{Found, members_of}
use Rattle.states_layers.specs.Kept.{nodes_of, Kept, Continues, Starts, IsBehind, IsStuck}
use Rattle.states_layers.specs.Answers.{Clear, IsExplained, IsNotExplained}
use Rattle.states_layers.specs.declared.node.Node.{Node}
use Rattle.states_layers.specs.declared.node.Move.{Move}
use Rattle.states_layers.specs.declared.node.Move.TheVariants.{Wait, Go}
use Rattle.states_core.specs.declared.state.Shown.{Shown}
use Rattle.states_layers.proofs.LayerLaws.{run_within, run_lines}
use Rattle.states_layers.proofs.Grow.{at_most, at_most_more}
use Rattle.states_layers.proofs.KeptLaws.{long_new}
use Rattle.states_layers.proofs.Ranges.{starts_line}

-- a set that has no member unless a fact holds
at_most_if : {A : Type 0} (P : A → Type 0) (k : ℕ) → ((x : A) → P x → HasAtMost P k) → HasAtMost P k
at_most_if P k f [] of = omega arith
at_most_if P k f (x ∷ xs) of = f x (of.members x (0, omega arith, refl)) (x ∷ xs) of

module _ {A : Type 0} where
  -- no layer after line n is behind silent step j
  abbrev pub IsLast : System A → ℕ → ℕ → Type 0
  IsLast y n j = (k : ℕ) (s : A) → Layer y n k s → k ≤ j

  pub last_within : (y : System A) (n : ℕ) → 1 ≤ y.within → IsLast y n (y.within - 1)
  last_within y n one k s l = let h = run_within y n k s l.states one l.run in omega arith

  run_end : (y : System A) (n k : ℕ) (s : A) (w : List Shown) → y.count ≤ n → Run y n k s w → k ≤ 0
  run_end y n k s w le (start t i e) = omega arith
  run_end y n k s w le (wait m j t u v r lt o h) = absurd (omega arith)
  run_end y n k s w le (go m j t u v r lt h) = omega arith

  pub last_end : (y : System A) → IsLast y y.count 0
  last_end y k s l = run_end y y.count k s l.states (omega arith) l.run

  upto_any : (y : System A) (n j m k : ℕ) (s : A) → m ≤ n → IsLast y n j → Layer y m k s → IsUpto n j m k
  upto_any y n j m k s le last l = elim (cases_lt m n) [
    | inl a ↦ inl a
    | inr b ↦ (let e : m ≡ n = omega arith in inr (e, last k s (subst (λ (a : ℕ). Layer y a k s) e l)))
  ]

  pub clear_of : (y : System A) (n j : ℕ) (nodes : List (Node A)) (w : ℕ) → IsLast y n j → Kept y n j nodes w → Clear y n
  clear_of y n j nodes w last k = record {
    init = λ h. k.init h.0 h.1 h.2 h.3;
    steps = λ m i lt h. elim h.5 [
      | inl p ↦ k.clear (Go m) lt m i h.0 h.1 h.2 refl h.3 p.0 p.1
      | inr p ↦ k.clear (Wait m i) (inl (lt, p.0)) m i h.0 h.1 h.2 (refl, refl) h.3 p.1 tt
    ];
    layers = λ m i le. at_most_if (Layer y m i) y.limit (λ s l. at_most_more (Layer y m i) w y.limit k.limit (k.sizes m i (upto_any y n j m i s le last l)));
    together = λ i xs of. (
        let all : HasAtMost (Upto y n j) (length (entries nodes)) = at_most (Upto y n j) (entries nodes) k.list in
        let few : length xs ≤ length (entries nodes) = all xs (record { distinct = of.distinct; members = λ p h. more p (of.members p h) }) in
        let same : length (entries nodes) ≡ length nodes = simp length-map in
        let total = k.total in omega arith);
  }
    where
      more : {i : ℕ} (p : Entry A) → Upto y n i p → Upto y n j p
      more p u = record { layer = u.layer; upto = elim u.upto [ inl a ↦ inl a | inr b ↦ upto_any y n j p.line p.silents p.member (omega (arith, b.0)) last u.layer ] }

  pub explained : (y : System A) (nodes : List (Node A)) (w : ℕ) (v : List Shown) (front : A) → Kept y y.count 0 nodes w → Run y y.count 0 front v → IsExplained y v w
  explained y nodes w v front k r = record {
    behaves = (front, r);
    clear = clear_of y y.count 0 nodes w (last_end y) k;
    at_most = λ n j. at_most_if (Layer y n j) w (λ s l. k.sizes n j (upto_any y y.count 0 n j s (run_lines y n j s l.states l.run) (last_end y) l));
    reached = k.reached;
  }

  pub none_behind : (y : System A) (move : Move) (old now : List (Node A)) → length now ≡ length old → IsBehind y move old now
      → (s : A) → Layer y (line_after move) (silents_after move) s → ⊥
  none_behind y move old now same b s l =
      let e = long_new (line_after move) (silents_after move) b.added in
      let f = length-append old (nodes_of (line_after move) (silents_after move) b.added) in
      let g : length now ≡ length (old ++ nodes_of (line_after move) (silents_after move) b.added) = ap (λ (ns : List (Node A)). length ns) b.is in
      let none : length b.added ≡ 0 = omega arith in
      let short : length (members_of b.added) ≡ length b.added = simp length-map in
      let h = b.list.all s l in absurd (omega (arith, h.1))

  pub not_explained : (y : System A) (n front : ℕ) (nodes : List (Node A)) (shown : List Shown) → 1 ≤ y.within → n < y.count → IsStuck y n nodes front
      → (s : A) → Run y n 0 s shown → (after : LineAt) → y.Expected n s after → IsNotExplained y n y.count after shown
  not_explained y n front nodes shown one lt k s r after told = record {
    some_left = lt;
    all = refl;
    behaves = (s, r, told);
    no_more = λ u more. k.none more.0 (record { states = u; run = more.1 });
    clear = clear_of y n (y.within - 1) nodes k.widest (last_within y n one) k.kept;
    no_fault = λ j h. elim h.5 [
      | inl p ↦ k.clear n j h.0 h.1 h.2 refl h.3 p.0 p.1
      | inr p ↦ k.kept.clear (Wait n j) (inr (refl, omega (arith, p.0))) n j h.0 h.1 h.2 (refl, refl) h.3 p.1 tt
    ];
  }

  -- the step of line n led nowhere
  pub stuck : (y : System A) (n front : ℕ) (old now : List (Node A)) (w v : ℕ) → Kept y n (y.within - 1) old w → Continues n old front
      → Kept y (suc n) 0 now v → IsBehind y (Go n) old now → length now ≡ length old → now ≡ old → IsStuck y n now front
  stuck y n front old now w v k c next b same e = record {
    widest = w;
    kept = subst (λ (ns : List (Node A)). Kept y n (y.within - 1) ns w) (sym e) k;
    whole = subst (λ (ns : List (Node A)). Continues n ns front) (sym e) c;
    clear = next.clear (Go n) (omega arith);
    none = none_behind y (Go n) old now same b;
  }

  none_of : (xs : List (Found A)) → length xs ≡ 0 → xs ≡ []
  none_of [] e = refl
  none_of (x ∷ xs) e = absurd (omega arith)

  pub behind_same : (y : System A) (move : Move) (old now : List (Node A)) → length now ≡ length old → IsBehind y move old now → now ≡ old
  behind_same y move old now same b =
      let e = long_new (line_after move) (silents_after move) b.added in
      let f = length-append old (nodes_of (line_after move) (silents_after move) b.added) in
      let g : length now ≡ length (old ++ nodes_of (line_after move) (silents_after move) b.added) = ap (λ (ns : List (Node A)). length ns) b.is in
      let none : b.added ≡ [] = none_of b.added (omega arith) in
      let h : now ≡ old ++ [] = subst (λ (a : List (Found A)). now ≡ old ++ nodes_of (line_after move) (silents_after move) a) none b.is in
      grind (arith, common_steps)

  pub line_starts : (y : System A) (n j end : ℕ) (old now : List (Node A)) → IsBehind y (Go n) old now → IsList (Upto y n j) (entries old)
      → (length now ≡ length old → ⊥) → end ≡ length old → Starts (n + 1) now end
  line_starts y n j end old now b l more e =
      let f = long_new (suc n) 0 b.added in
      let h = length-append old (nodes_of (suc n) 0 b.added) in
      let g : length now ≡ length (old ++ nodes_of (suc n) 0 b.added) = ap (λ (ns : List (Node A)). length ns) b.is in
      let some : 0 < length b.added = positive (length b.added) (λ z. more (omega arith)) in
      rw (add-one, e, b.is) (starts_line y n j old b.added l some)
    where
      positive : (k : ℕ) → (k ≡ 0 → ⊥) → 0 < k
      positive zero h = absurd (h refl)
      positive (suc k) h = omega arith
