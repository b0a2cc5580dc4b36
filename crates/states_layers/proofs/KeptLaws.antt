-- Whole layers, one behind another.
use Rattle.std.proofs.Common.{◌≡◌, ◌≤◌, ◌<◌, ◌+◌, ◌-◌, ℕ, List, [], ◌∷◌, ◌++◌, length, map, arith, refl, sym, subst, ap, ◌∙◌, ◌⊎◌, inl, inr, get_or, Some, take}
use Rattle.std.specs.List.{Contains, slice_get}
use Rattle.std.proofs.lemmas.Grind.{common_steps}
use Rattle.std.proofs.lemmas.Bool.{cases_lt}
use Rattle.std.proofs.lemmas.List.{map-append, take-append-le, length-map, length-append}
use Rattle.std.proofs.lemmas.Option.{slice_get_within, get_or_from_slice_get, slice_get-get_or}
use Rattle.states_core.specs.System.{System}
use Rattle.states_core.specs.Sets.{AreOf, IsList, HasAtMost, HasSome}
use Rattle.states_core.specs.Runs.{Layer, Entry, Upto, IsUpto}
use Rattle.states_layers.specs.Moves.{line_of, silents_of, line_after, silents_after, IsOpen, IsClear, entry_of, entries, entry, at_layer, Comes, Grown}
use Rattle.states_layers.specs.Found.{Found, all_from, members_of}
use Rattle.states_layers.specs.Kept.{node, nodes_of, Linked, moves, AllLinked, IsDone, Kept}
use Rattle.states_layers.specs.declared.node.Node.{Node}
use Rattle.states_layers.specs.declared.node.Move.{Move}
use Rattle.states_layers.specs.declared.node.Move.TheVariants.{Wait, Go}
use Rattle.states_layers.proofs.Members.{map_in}
use Rattle.states_layers.proofs.LayerLaws.{upto_new}
use Rattle.states_layers.proofs.Grow.{at_most, at_most_more, together_list}

-- elements of two lists, one behind the other
pub get_append : {A : Type 0} (xs ys : List A) (i : ℕ) (x : A) → slice_get (xs ++ ys) i ≡ Some x
    → ((i < length xs) × (slice_get xs i ≡ Some x)) ⊎ ((length xs ≤ i) × Contains ys x)
get_append xs ys i x e =
    let g : get_or (xs ++ ys) i x ≡ x = get_or_from_slice_get (xs ++ ys) i x x e in
    let lt : i < length (xs ++ ys) = slice_get_within (xs ++ ys) i x e in
    elim (cases_lt i (length xs)) [
      | inl a ↦ (let h : get_or xs i x ≡ x = grind (arith, common_steps) in inl (a, slice_get-get_or xs i x a ∙ ap (λ z. Some z) h))
      | inr b ↦ (let h : get_or ys (i - length xs) x ≡ x = grind (arith, common_steps) in
          let u : i - length xs < length ys = grind (arith, common_steps) in inr (b, (i - length xs, u, h)))
    ]

pub append_get : {A : Type 0} (xs ys : List A) (i : ℕ) (x : A) → slice_get xs i ≡ Some x → slice_get (xs ++ ys) i ≡ Some x
append_get xs ys i x e =
    let a : i < length xs = slice_get_within xs i x e in
    let g : get_or xs i x ≡ x = get_or_from_slice_get xs i x x e in
    let h : get_or (xs ++ ys) i x ≡ x = grind (arith, common_steps) in
    let u : i < length (xs ++ ys) = grind (arith, common_steps) in
    slice_get-get_or (xs ++ ys) i x u ∙ ap (λ z. Some z) h

-- an early element is one of a long enough part
pub get_part : {A : Type 0} (xs ys : List A) (k i : ℕ) (x : A) → slice_get xs k ≡ Some x → length xs ≤ i → slice_get (take i (xs ++ ys)) k ≡ Some x
get_part xs ys k i x e le =
    let a : k < length xs = slice_get_within xs k x e in
    let g : get_or xs k x ≡ x = get_or_from_slice_get xs k x x e in
    let h : get_or (take i (xs ++ ys)) k x ≡ x = grind (arith, common_steps) in
    let u : k < length (take i (xs ++ ys)) = grind (arith, common_steps) in
    slice_get-get_or (take i (xs ++ ys)) k x u ∙ ap (λ z. Some z) h

module _ {A : Type 0} where
  places_new : (n j : ℕ) (layer : List (Found A)) → entries (nodes_of n j layer) ≡ at_layer n j (members_of layer)
  places_new n j [] = refl
  places_new n j (f ∷ fs) = ap (λ (ps : List (Entry A)). entry n j f.0 ∷ ps) (places_new n j fs)

  pub places_keep : (nodes : List (Node A)) (n j : ℕ) (layer : List (Found A)) → entries (nodes ++ nodes_of n j layer) ≡ entries nodes ++ at_layer n j (members_of layer)
  places_keep nodes n j layer = map-append entry_of nodes (nodes_of n j layer) ∙ ap (λ (ps : List (Entry A)). entries nodes ++ ps) (places_new n j layer)

  pub nodes_alone : (n j k : ℕ) (xs : List A) → map (λ s. node n j s k) xs ≡ nodes_of n j (all_from k xs)
  nodes_alone n j k [] = refl
  nodes_alone n j k (x ∷ xs) = ap (λ (ys : List (Node A)). node n j x k ∷ ys) (nodes_alone n j k xs)

  pub long_new : (n j : ℕ) (layer : List (Found A)) → length (nodes_of n j layer) ≡ length layer
  long_new n j layer = simp length-map

  pub long_members : (layer : List (Found A)) → length (members_of layer) ≡ length layer
  long_members layer = simp length-map

  pub links_keep : (y : System A) (move : Move) (nodes : List (Node A)) (layer : List (Found A)) → IsOpen y move → AllLinked y nodes
      → ((f : Found A) → Contains layer f → Comes y move nodes f) → AllLinked y (nodes ++ nodes_of (line_after move) (silents_after move) layer)
  links_keep y move nodes layer o links comes i x at =
      elim (get_append nodes (nodes_of (line_after move) (silents_after move) layer) i x at) [
        | inl p ↦ (let e : take i (nodes ++ nodes_of (line_after move) (silents_after move) layer) ≡ take i nodes = take-append-le i nodes _ (omega (arith, p.0)) in
            subst (λ (ns : List (Node A)). Linked y ns x) (sym e) (links i x p.1))
        | inr q ↦ (let r = map_in (λ (f : Found A). node (line_after move) (silents_after move) f.0 f.1) layer x q.1 in
            let c = comes r.0 r.1 in
            subst (λ (z : Node A). Linked y (take i (nodes ++ nodes_of (line_after move) (silents_after move) layer)) z) r.2
            (moves c.node move r.0.0 r.0.1 (get_part nodes (nodes_of (line_after move) (silents_after move) layer) r.0.1 i c.node c.at q.0) c.source o c.step))
      ]

  -- what is done behind a step was done before it, or is the step
  done_step : (y : System A) (move other : Move) → 1 ≤ y.within → IsDone y (line_after move) (silents_after move) other
      → IsDone y (line_of move) (silents_of y move) other ⊎ (other ≡ move)
  done_step y (Wait n j) (Go m) one d = inl d
  done_step y (Wait n j) (Wait m k) one d = elim d [
    | inl a ↦ inl (inl a)
    | inr b ↦ elim (cases_lt k j) [ inl c ↦ inl (inr (b.0, c)) | inr c ↦ inr (same m n k j b.0 (omega (arith, b.1, c))) ]
  ]
    where
      same : (m n k j : ℕ) → m ≡ n → k ≡ j → ◌≡◌ {A = Move} (Wait m k) (Wait n j)
      same m n k j e f = cc
  done_step y (Go n) (Go m) one d = elim (cases_lt m n) [ inl c ↦ inl c | inr c ↦ inr (same m n (omega (arith, d, c))) ]
    where
      same : (m n : ℕ) → m ≡ n → ◌≡◌ {A = Move} (Go m) (Go n)
      same m n e = cc
  done_step y (Go n) (Wait m k) one d = elim d [
    | inl a ↦ elim (cases_lt m n) [ inl c ↦ inl (inl (c, a.1)) | inr c ↦ inl (inr (omega (arith, a.0, c), omega (arith, a.1))) ]
    | inr b ↦ absurd (omega (arith, b.1))
  ]

  upto_size : (y : System A) (move : Move) (m k : ℕ) (w : ℕ) → 1 ≤ y.within
      → ((m k : ℕ) → IsUpto (line_of move) (silents_of y move) m k → HasAtMost (Layer y m k) w) → HasAtMost (Layer y (line_after move) (silents_after move)) w
      → IsUpto (line_after move) (silents_after move) m k → HasAtMost (Layer y m k) w
  upto_size y move m k w one old here up xs of = first xs of
    where
      first : (xs : List A) → AreOf (Layer y m k) xs → length xs ≤ w
      first [] of = omega arith
      first (x ∷ xs) of =
          let l = of.members x (0, omega arith, refl) in
          elim (upto_new y move (entry m k x) one (record { layer = l; upto = up })) [
            | inl u ↦ old m k u.upto (x ∷ xs) of
            | inr e ↦ subst (λ (a : ℕ). HasAtMost (Layer y a k) w) (sym e.0) (subst (λ (a : ℕ). HasAtMost (Layer y (line_after move) a) w) (sym e.1) here) (x ∷ xs) of
          ]

  pub kept_step : (y : System A) (move : Move) (nodes : List (Node A)) (layer : List (Found A)) (w : ℕ) → 1 ≤ y.within → IsOpen y move
      → Kept y (line_of move) (silents_of y move) nodes w → Grown y move nodes layer → (v : ℕ)
      → ((w ≤ v) × (length layer ≤ v) × ((v ≡ w) ⊎ (v ≡ length layer)))
      → Kept y (line_after move) (silents_after move) (nodes ++ nodes_of (line_after move) (silents_after move) layer) v
  kept_step y move nodes layer w one o k g v most =
      let small : HasAtMost (Layer y (line_after move) (silents_after move)) (length (members_of layer)) = at_most (Layer y (line_after move) (silents_after move)) (members_of layer) g.list in
      let long : length (members_of layer) ≡ length layer = long_members layer in
      record {
        list = subst (λ (ps : List (Entry A)). IsList (Upto y (line_after move) (silents_after move)) ps) (sym (places_keep nodes (line_after move) (silents_after move) layer))
            (together_list y move nodes (members_of layer) one k.list g.list);
        links = links_keep y move nodes layer o k.links g.comes;
        init = k.init;
        clear = λ other d. elim (done_step y move other one d) [ inl a ↦ k.clear other a | inr e ↦ subst (λ (z : Move). IsClear y z) (sym e) g.clear ];
        sizes = λ m i up. upto_size y move m i v one (λ a b u. at_most_more (Layer y a b) w v most.0 (k.sizes a b u))
            (at_most_more (Layer y (line_after move) (silents_after move)) (length (members_of layer)) v (omega (arith, most.1)) small) up;
        reached = elim most.2 [
          | inl e ↦ subst (λ (a : ℕ). (m i : ℕ) × HasSome (Layer y m i) a) (sym e) k.reached
          | inr e ↦ (line_after move, silents_after move, (members_of layer, g.list.are, long ∙ sym e))
        ];
        limit = elim most.2 [ inl e ↦ (let h = k.limit in omega (arith, e)) | inr e ↦ (let h = g.limit in omega (arith, e)) ];
        total = (let h = g.total in let l : length (nodes ++ nodes_of (line_after move) (silents_after move) layer) ≡ length nodes + length layer =
            length-append nodes (nodes_of (line_after move) (silents_after move) layer) ∙ ap (λ (a : ℕ). length nodes + a) (long_new (line_after move) (silents_after move) layer) in omega arith);
      }
