-- Where the states of a layer stand.
use Rattle.std.proofs.Common.{◌≡◌, ◌≤◌, ◌<◌, ◌+◌, ℕ, suc, List, ◌++◌, length, arith, sym, subst, ap, inl, inr, Some, add-one}
use Rattle.std.specs.List.{Contains, slice_get}
use Rattle.states_core.specs.System.{System}
use Rattle.states_core.specs.Sets.{IsList}
use Rattle.states_core.specs.Runs.{Upto, IsUpto}
use Rattle.states_layers.specs.Found.{Found}
use Rattle.states_layers.specs.Moves.{entry_of, entries, IsRange}
use Rattle.states_layers.specs.Kept.{node, nodes_of, Continues, Starts}
use Rattle.states_layers.specs.declared.node.Node.{Node}
use Rattle.states_layers.specs.declared.node.Move.TheVariants.{Wait, Go}
use Rattle.states_layers.proofs.Members.{in_map, map_in, get_in}
use Rattle.states_layers.proofs.KeptLaws.{get_append, long_new}
use Rattle.std.proofs.lemmas.List.{length-append}

module _ {A : Type 0} where
  upto_node : (y : System A) (n j : ℕ) (nodes : List (Node A)) → IsList (Upto y n j) (entries nodes) → (i : ℕ) (x : Node A) → slice_get nodes i ≡ Some x
      → IsUpto n j x.line x.silents
  upto_node y n j nodes l i x e = (l.are.members (entry_of x) (in_map entry_of nodes x (get_in nodes i x e))).upto

  new_node : (n j : ℕ) (layer : List (Found A)) (x : Node A) → Contains (nodes_of n j layer) x → (x.line ≡ n) × (x.silents ≡ j)
  new_node n j layer x h = let r = map_in (λ (f : Found A). node n j f.0 f.1) layer x h in
      (sym (ap (λ (z : Node A). z.line) r.2), sym (ap (λ (z : Node A). z.silents) r.2))

  -- the new nodes are the last layer
  pub range_last : (y : System A) (n j m k : ℕ) (nodes : List (Node A)) (layer : List (Found A)) → IsList (Upto y n j) (entries nodes) → (IsUpto n j m k → ⊥)
      → IsRange (Wait m k) (nodes ++ nodes_of m k layer) (length nodes)
  range_last y n j m k nodes layer l after i x at = elim (get_append nodes (nodes_of m k layer) i x at) [
    | inl p ↦ (
      (λ le. absurd (omega (arith, p.0, le))),
      (λ e. absurd (after (subst (λ (a : ℕ). IsUpto n j m a) e.1 (subst (λ (a : ℕ). IsUpto n j a x.silents) e.0 (upto_node y n j nodes l i x p.1))))),
    )
    | inr q ↦ ((λ le. new_node m k layer x q.1), (λ e. q.0))
  ]

  -- more silent steps after a line
  pub range_more : (n j start : ℕ) (nodes : List (Node A)) (layer : List (Found A)) → start ≤ length nodes → IsRange (Go n) nodes start
      → IsRange (Go n) (nodes ++ nodes_of n j layer) start
  range_more n j start nodes layer le range i x at = elim (get_append nodes (nodes_of n j layer) i x at) [
    | inl p ↦ range i x p.1
    | inr q ↦ ((λ h. (new_node n j layer x q.1).0), (λ e. omega (arith, q.0)))
  ]

  -- the first states after a line
  pub range_line : (y : System A) (n j k : ℕ) (nodes : List (Node A)) (layer : List (Found A)) → IsList (Upto y n j) (entries nodes)
      → IsRange (Go (suc n)) (nodes ++ nodes_of (suc n) k layer) (length nodes)
  range_line y n j k nodes layer l i x at = elim (get_append nodes (nodes_of (suc n) k layer) i x at) [
    | inl p ↦ ((λ le. absurd (omega (arith, p.0, le))), (λ e. absurd (early e (upto_node y n j nodes l i x p.1))))
    | inr q ↦ ((λ le. (new_node (suc n) k layer x q.1).0), (λ e. q.0))
  ]
    where
      early : x.line ≡ suc n → IsUpto n j x.line x.silents → ⊥
      early e u = elim u [ inl a ↦ absurd (omega (arith, a, e)) | inr b ↦ absurd (omega (arith, b.0, e)) ]

  pub continues_more : (n j start : ℕ) (nodes : List (Node A)) (layer : List (Found A)) → Continues n nodes start → Continues n (nodes ++ nodes_of n j layer) start
  continues_more n j start nodes layer c = record {
    line = range_more n j start nodes layer (let h = c.some in omega arith) c.line;
    some = (let h = c.some in let e = length-append nodes (nodes_of n j layer) in omega arith);
    front = λ x at. elim (get_append nodes (nodes_of n j layer) start x at) [
      | inl p ↦ c.front x p.1
      | inr q ↦ absurd (let h = c.some in omega (arith, q.0))
    ];
  }

  pub starts_line : (y : System A) (n j : ℕ) (nodes : List (Node A)) (layer : List (Found A)) → IsList (Upto y n j) (entries nodes) → 0 < length layer
      → Starts (suc n) (nodes ++ nodes_of (suc n) 0 layer) (length nodes)
  starts_line y n j nodes layer l some = record {
    whole = record {
      line = range_line y n j 0 nodes layer l;
      some = (let e = length-append nodes (nodes_of (suc n) 0 layer) in let f = long_new (suc n) 0 layer in omega arith);
      front = λ x at. elim (get_append nodes (nodes_of (suc n) 0 layer) (length nodes) x at) [
        | inl p ↦ absurd (omega (arith, p.0))
        | inr q ↦ (new_node (suc n) 0 layer x q.1).1
      ];
    };
    layer = range_last y n j (suc n) 0 nodes layer l (λ u. elim u [ inl a ↦ absurd (omega (arith, a)) | inr b ↦ absurd (omega (arith, b.0)) ]);
  }

  pub wait_last : (y : System A) (n j end : ℕ) (nodes now : List (Node A)) (layer : List (Found A)) → IsList (Upto y n j) (entries nodes)
      → now ≡ nodes ++ nodes_of n (suc j) layer → end ≡ length nodes → IsRange (Wait n (j + 1)) now end
  wait_last y n j end nodes now layer l e f =
      rw (e, f, add-one) (range_last y n j n (suc j) nodes layer l (λ u. elim u [ inl a ↦ absurd (omega (arith, a)) | inr b ↦ absurd (omega (arith, b.1)) ]))

  pub wait_whole : (n j start : ℕ) (nodes now : List (Node A)) (layer : List (Found A)) → now ≡ nodes ++ nodes_of n j layer → Continues n nodes start → Continues n now start
  wait_whole n j start nodes now layer e c = subst (λ (ns : List (Node A)). Continues n ns start) (sym e) (continues_more n j start nodes layer c)
