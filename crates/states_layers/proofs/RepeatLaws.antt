-- What is gone on from once, and what is kept of silent steps.
use Rattle.std.proofs.Common.{◌≡◌, ◌≤◌, ◌<◌, ◌+◌, ℕ, Bool, true, false, not, cond, List, [], ◌∷◌, ◌++◌, Vec, Global, Some, arith, refl, sym, subst, ap, ◌∙◌, ◌⊎◌, inl, inr, true≢false, ◌||◌, if◌then◌else◌}
use Rattle.std.specs.Borrow.{Bor}
use Rattle.std.specs.List.{Contains, list_any, slice_get}
use Rattle.std.specs.Map.{lookup}
use Rattle.states_core.specs.System.{System}
use Rattle.states_layers.specs.Moves.{Moves, MoveFaults, MoveSeen, Growing}
use Rattle.states_layers.specs.Found.{Found}
use Rattle.states_layers.specs.Repeats.{AreGone, IsKept, Keeps, Notes, lent}
use Rattle.states_layers.specs.declared.node.Node.{Node}
use Rattle.states_layers.specs.declared.node.Move.{Move}
use Rattle.states_layers.proofs.Members.{in_right, in_append, in_nil, in_one, get_same}

module _ {A : Type 0} (E : A → A → Bool) (same : (a b : A) → E a b ≡ true → a ≡ b) where
  lent_there : (ks : List (Bor A)) (k : Bor A) → list_any (λ r. E k.now r.now) ks ≡ true → Contains (lent ks) k.now
  lent_there [] k h = absurd (true≢false (sym h))
  lent_there (r ∷ rs) k h = by (E k.now r.now) refl (lent_there rs k)
    where
      by : (b : Bool) → E k.now r.now ≡ b → (list_any (λ q. E k.now q.now) rs ≡ true → Contains (lent rs) k.now) → Contains (lent (r ∷ rs)) k.now
      by true p rest = subst (λ (x : A). Contains (lent (r ∷ rs)) x) (sym (same k.now r.now p)) (0, omega arith, refl)
      by false p rest = in_right (r.now ∷ []) (lent rs) k.now (rest (sym (ap (λ c. c || list_any (λ q. E k.now q.now) rs) p) ∙ h))

  pub notes : (ks now : List (Bor A)) (k : Bor A) (is_new : Bool) → is_new ≡ not (list_any (λ r. E k.now r.now) ks)
      → now ≡ (if list_any (λ r. E k.now r.now) ks then ks else ks ++ k ∷ []) → Notes (lent ks) k.now (not is_new) (lent now)
  notes ks now k is_new n e = by (list_any (λ r. E k.now r.now) ks) refl
    where
      by : (b : Bool) → list_any (λ r. E k.now r.now) ks ≡ b → Notes (lent ks) k.now (not is_new) (lent now)
      by true p =
          let stays : now ≡ ks = e ∙ ap (λ c. if c then ks else ks ++ k ∷ []) p in record {
            there = λ h. lent_there ks k p;
            new = λ t h. inl (subst (λ (rs : List (Bor A)). Contains (lent rs) t) stays h);
          }
      by false p =
          let grows : now ≡ ks ++ k ∷ [] = e ∙ ap (λ c. if c then ks else ks ++ k ∷ []) p in
          let is : is_new ≡ true = n ∙ ap not p in record {
            there = λ h. absurd (true≢false (sym h ∙ ap not is));
            new = λ t h. elim (in_append (lent ks) (k.now ∷ []) t (subst (λ (xs : List A). Contains xs t) (lent_more ks k) (subst (λ (rs : List (Bor A)). Contains (lent rs) t) grows h))) [
              | inl a ↦ inl a
              | inr b ↦ inr (sym (in_one k.now t b))
            ];
          }
        where
          lent_more : (ks : List (Bor A)) (k : Bor A) → lent (ks ++ k ∷ []) ≡ lent ks ++ k.now ∷ []
          lent_more [] k = refl
          lent_more (r ∷ rs) k = ap (λ (xs : List A). r.now ∷ xs) (lent_more rs k)

module _ {A : Type 0} where
  pub gone_nil : (nodes : List (Node A)) (from i : ℕ) → AreGone nodes from i []
  gone_nil nodes from i = record { at = λ s h. absurd (in_nil s h) }

  -- one node more
  pub gone_more : (nodes : List (Node A)) (from i : ℕ) (x : Node A) (old now : List A) (repeated : Bool) → slice_get nodes i ≡ Some x → from ≤ i
      → Notes old x.entry repeated now → AreGone nodes from i old → AreGone nodes from (i + 1) now
  gone_more nodes from i x old now repeated at le n g = record {
    at = λ s h. elim (n.new s h) [
      | inl a ↦ (let r = g.at s a in (r.0, r.1, r.2, r.3, (let lt : r.0 < i = r.4 in omega arith), r.5))
      | inr e ↦ (i, x, at, le, omega arith, sym e)
    ];
  }

  -- what was gone on from before is not gone on from again
  pub growing_skip : (y : System A) (move : Move) (nodes : List (Node A)) (from i : ℕ) (layer : List (Found A)) (x : Node A) (gone : List A) → slice_get nodes i ≡ Some x
      → AreGone nodes from i gone → Contains gone x.entry → Growing y move nodes from i layer → Growing y move nodes from (i + 1) layer
  growing_skip y move nodes from i layer x gone at a there g =
      let r = a.at x.entry there in
      record {
        part = g.part;
        all = λ k z t here b h m. elim (below k i h) [
          | inl c ↦ g.all k z t here b c m
          | inr c ↦ (let one : z ≡ x = get_same nodes i z x (subst (λ (n : ℕ). slice_get nodes n ≡ Some z) c here) at in
              g.all r.0 r.1 t r.2 r.3 r.4 (subst (λ (s : A). Moves y move s t) (sym (r.5 ∙ ap (λ (n : Node A). n.entry) (sym one))) m))
        ];
        clear = λ k z t f here b h m seen. elim (below k i h) [
          | inl c ↦ g.clear k z t f here b c m seen
          | inr c ↦ (let one : z ≡ x = get_same nodes i z x (subst (λ (n : ℕ). slice_get nodes n ≡ Some z) c here) at in
              let e : z.entry ≡ r.1.entry = sym (r.5 ∙ ap (λ (n : Node A). n.entry) (sym one)) in
              g.clear r.0 r.1 t f r.2 r.3 r.4 (subst (λ (s : A). MoveFaults y move s t f) e m) (subst (λ (s : A). MoveSeen y move s t) e seen))
        ];
        limit = g.limit;
        total = g.total;
      }
    where
      below : (k i : ℕ) → k < i + 1 → (k < i) ⊎ (k ≡ i)
      below k i h = grind arith

  -- what an insertion keeps
  pub keeps_one : (E : A → A → Bool) (same : (a b : A) → E a b ≡ true → a ≡ b) (old now : List (A × Vec A Global)) (s : A) (list : Vec A Global) (listed : List A) → listed ≡ list.items
      → ((t : A) → lookup (E t) now ≡ cond (E s t) (Some list) (lookup (E t) old)) → Keeps E old s listed now
  keeps_one E same old now s list listed e updates = record { at = λ t. by t (E s t) refl }
    where
      by : (t : A) (b : Bool) → E s t ≡ b → (lookup (E t) now ≡ lookup (E t) old) ⊎ ((t ≡ s) × IsKept E now t listed)
      by t true p = inr (sym (same s t p), (list, updates t ∙ ap (λ c. cond c (Some list) (lookup (E t) old)) p, e))
      by t false p = inl (updates t ∙ ap (λ c. cond c (Some list) (lookup (E t) old)) p)
