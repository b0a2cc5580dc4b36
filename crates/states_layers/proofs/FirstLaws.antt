-- The first layer.
use Rattle.std.proofs.Common.{◌≡◌, ◌≤◌, ◌<◌, ℕ, suc, List, [], ◌∷◌, ◌++◌, length, arith, refl, sym, subst, ap, ◌∙◌, inl, inr, Some, take, reverse, append_assoc}
use Rattle.std.specs.List.{Contains, slice_get}
use Rattle.std.proofs.lemmas.List.{length-map, take-append-drop, reverse-append}
use Rattle.std.proofs.lemmas.Grind.{common_steps}
use Rattle.states_core.specs.System.{System, Begins}
use Rattle.states_core.specs.Sets.{IsList, HasAtMost, HasMoreThan}
use Rattle.states_core.specs.Runs.{Run, start, wait, go, Layer, Entry, Upto, IsUpto}
use Rattle.states_layers.specs.Answers.{IsTotalLimit}
use Rattle.states_layers.specs.Moves.{entries, entry, at_layer, IsClear}
use Rattle.states_layers.specs.Kept.{node, first_of, IsInitClear, Linked, begins, IsDone, Kept, Starts}
use Rattle.states_layers.specs.declared.node.Node.{Node}
use Rattle.states_layers.specs.declared.node.Move.{Move}
use Rattle.states_layers.specs.declared.node.Move.TheVariants.{Wait, Go}
use Rattle.states_layers.proofs.Members.{in_map, map_in, distinct_map, get_in, get_same, get_below}
use Rattle.states_layers.proofs.LayerLaws.{run_begin, layer_after}
use Rattle.states_layers.proofs.Grow.{at_most, at_most_more}

module _ {A : Type 0} where
  first_layer : (y : System A) (s : A) → Begins y s → Layer y 0 0 s
  first_layer y s b = record { states = _; run = start s b.0 b.1 }

  pub first_list : (y : System A) (ss : List A) → IsList (Begins y) ss → IsList (Layer y 0 0) ss
  first_list y ss l = record {
    are = record { distinct = l.are.distinct; members = λ s h. first_layer y s (l.are.members s h) };
    all = λ s h. l.all s (run_begin y s h.states h.run);
  }

  pub first_many : (y : System A) (k : ℕ) → HasMoreThan (Begins y) k → HasMoreThan (Layer y 0 0) k
  first_many y k h = (h.0, record { distinct = h.1.distinct; members = λ s i. first_layer y s (h.1.members s i) }, h.2)

  pub first_limit : (y : System A) (ss : List A) (k : ℕ) → IsList (Begins y) ss → k < length ss → HasMoreThan (Layer y 0 0) k
  first_limit y ss k l lt = (ss, (first_list y ss l).are, lt)

  first_place : (p : Entry A) → IsUpto 0 0 p.line p.silents → (p.line ≡ 0) × (p.silents ≡ 0)
  first_place p u = elim u [ inl a ↦ absurd (omega (arith, a)) | inr b ↦ (b.0, omega (arith, b.1)) ]

  same_place : (p : Entry A) → p.line ≡ 0 → p.silents ≡ 0 → entry 0 0 p.member ≡ p
  same_place p e f = let g : entry p.line p.silents p.member ≡ p = refl in
      subst (λ (m : ℕ). entry m 0 p.member ≡ p) e (subst (λ (k : ℕ). entry p.line k p.member ≡ p) f g)

  first_upto : (y : System A) (ss : List A) → IsList (Layer y 0 0) ss → IsList (Upto y 0 0) (at_layer 0 0 ss)
  first_upto y ss l = record {
    are = record {
      distinct = distinct_map (entry 0 0) (λ s t e. ap (λ (p : Entry A). p.member) e) ss l.are.distinct;
      members = λ p h. let r = map_in (entry 0 0) ss p h in
          subst (λ (z : Entry A). Upto y 0 0 z) r.2 (record { layer = l.are.members r.0 r.1; upto = inr (refl, omega arith) });
    };
    all = λ p u. let e = first_place p u.upto in
        let here : Layer y 0 0 p.member = subst (λ (k : ℕ). Layer y 0 k p.member) e.1 (subst (λ (m : ℕ). Layer y m p.silents p.member) e.0 u.layer) in
        subst (λ (z : Entry A). Contains (at_layer 0 0 ss) z) (same_place p e.0 e.1) (in_map (entry 0 0) ss p.member (l.all p.member here));
  }

  first_places : (ss : List A) → entries (first_of ss) ≡ at_layer 0 0 ss
  first_places [] = refl
  first_places (s ∷ ss) = ap (λ (ps : List (Entry A)). entry 0 0 s ∷ ps) (first_places ss)

  pub first_total : (y : System A) (ss : List A) → 1 ≤ y.within → IsList (Begins y) ss → y.total < length ss → IsTotalLimit y 0 0
  first_total y ss one l lt = record {
    layer = layer_after y 0 one (omega arith);
    more = (at_layer 0 0 ss, (first_upto y ss (first_list y ss l)).are, (let e : length (at_layer 0 0 ss) ≡ length ss = simp length-map in omega arith));
  }

  pub kept_first : (y : System A) (ss : List A) → IsInitClear y → IsList (Begins y) ss → length ss ≤ y.limit → length ss ≤ y.total
      → Kept y 0 0 (first_of ss) (length (first_of ss))
  kept_first y ss clear l lim tot =
      let long : length (first_of ss) ≡ length ss = simp length-map in
      let layer = first_list y ss l in
      record {
        list = subst (λ (ps : List (Entry A)). IsList (Upto y 0 0) ps) (sym (first_places ss)) (first_upto y ss layer);
        links = λ i x at. let r = map_in (λ (s : A). node 0 0 s 0) ss x (get_in (first_of ss) i x at) in let b = l.are.members r.0 r.1 in
            subst (λ (z : Node A). Linked y (take i (first_of ss)) z) r.2 (begins r.0 0 b.0 b.1);
        init = clear;
        clear = none;
        sizes = λ m k u. elim u [
          | inl a ↦ absurd (omega (arith, a))
          | inr b ↦
              subst (λ (a : ℕ). HasAtMost (Layer y a k) (length (first_of ss))) (sym b.0) (subst (λ (a : ℕ). HasAtMost (Layer y 0 a) (length (first_of ss))) (sym (zero_of k b.1))
              (at_most_more (Layer y 0 0) (length ss) (length (first_of ss)) (omega arith) (at_most (Layer y 0 0) ss layer)))
        ];
        reached = (0, 0, (ss, layer.are, sym long));
        limit = omega arith;
        total = omega arith;
      }
    where
      zero_of : (k : ℕ) → k ≤ 0 → k ≡ 0
      zero_of k le = omega arith

      none : (move : Move) → IsDone y 0 0 move → IsClear y move
      none (Wait m k) d = elim d [ inl a ↦ absurd (omega (arith, a.0)) | inr b ↦ absurd (omega (arith, b.1)) ]
      none (Go m) d = absurd (omega (arith, d))

  first_node : (ss : List A) (i : ℕ) (x : Node A) → slice_get (first_of ss) i ≡ Some x → (x.line ≡ 0) × (x.silents ≡ 0)
  first_node ss i x at = let r = map_in (λ (s : A). node 0 0 s 0) ss x (get_in (first_of ss) i x at) in
      (sym (ap (λ (z : Node A). z.line) r.2), sym (ap (λ (z : Node A). z.silents) r.2))

  pub starts_first : (ss : List A) → 0 < length ss → Starts 0 (first_of ss) 0
  starts_first ss lt = record {
    whole = record {
      line = λ i x at. ((λ le. (first_node ss i x at).0), (λ e. omega arith));
      some = (let long : length (first_of ss) ≡ length ss = simp length-map in omega arith);
      front = λ x at. (first_node ss 0 x at).1;
    };
    layer = λ i x at. ((λ le. first_node ss i x at), (λ e. omega arith));
  }
