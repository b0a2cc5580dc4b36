-- A layer that grows.
use Rattle.std.proofs.Common.{◌≡◌, ◌≤◌, ◌<◌, ◌+◌, ℕ, List, [], ◌∷◌, ◌++◌, length, arith, refl, sym, subst, ap, ◌⊎◌, inl, inr, Some}
use Rattle.std.specs.List.{Contains, slice_get}
use Rattle.states_core.specs.System.{System}
use Rattle.states_core.specs.Sets.{AreOf, IsList, HasAtMost, HasMoreThan}
use Rattle.states_core.specs.Runs.{Layer, Entry, Upto, IsUpto}
use Rattle.states_layers.specs.Moves.{IsSource, line_of, silents_of, line_after, silents_after, IsOpen, Moves, MoveFaults, MoveSeen, entry_of, entries, entry, at_layer, IsRange, Comes, Part, Growing, Grown}
use Rattle.states_layers.specs.Found.{Found, members_of, all_from, IsDistinct, Merged}
use Rattle.std.proofs.lemmas.List.{length-map}
use Rattle.states_layers.specs.Says.{Expands}
use Rattle.states_layers.specs.declared.node.Node.{Node}
use Rattle.states_layers.specs.declared.node.Move.{Move}
use Rattle.states_layers.specs.declared.node.Move.TheVariants.{Wait, Go}
use Rattle.states_layers.proofs.Members.{in_nil, in_left, in_right, in_append, in_map, map_in, distinct_append, distinct_map, no_longer, get_in, in_get, get_below, get_same}
use Rattle.states_layers.proofs.LayerLaws.{into, out_of, upto_source, upto_old, upto_new}

pub at_most : {A : Type 0} (P : A → Type 0) (xs : List A) → IsList P xs → HasAtMost P (length xs)
at_most P xs l ys of = no_longer ys xs of.distinct (λ y h. l.all y (of.members y h))

pub at_most_more : {A : Type 0} (P : A → Type 0) (k n : ℕ) → k ≤ n → HasAtMost P k → HasAtMost P n
at_most_more P k n le h ys of = let small : length ys ≤ k = h ys of in omega arith

pub more_than : {A : Type 0} (P Q : A → Type 0) (k : ℕ) → ((x : A) → P x → Q x) → HasMoreThan P k → HasMoreThan Q k
more_than P Q k f h = (h.0, record { distinct = h.1.distinct; members = λ x i. f x (h.1.members x i) }, h.2)

module _ {A : Type 0} where
  -- a node of a list of all states up to a layer is in its layer
  pub node_layer : (y : System A) (n j : ℕ) (nodes : List (Node A)) → IsList (Upto y n j) (entries nodes) → (i : ℕ) (x : Node A) → slice_get nodes i ≡ Some x
      → Layer y x.line x.silents x.entry
  node_layer y n j nodes l i x e = (l.are.members (entry_of x) (in_map entry_of nodes x (get_in nodes i x e))).layer

  pub comes_layer : (y : System A) (move : Move) (nodes : List (Node A)) (f : Found A) → IsOpen y move
      → IsList (Upto y (line_of move) (silents_of y move)) (entries nodes) → Comes y move nodes f → Layer y (line_after move) (silents_after move) f.0
  comes_layer y move nodes f o l c = into y move c.node.line c.node.silents c.node.entry f.0 o c.source
      (node_layer y (line_of move) (silents_of y move) nodes l f.1 c.node c.at) c.step

  pub part_are : (y : System A) (move : Move) (nodes : List (Node A)) (layer : List (Found A)) → IsOpen y move
      → IsList (Upto y (line_of move) (silents_of y move)) (entries nodes) → Part y move nodes layer
      → AreOf (Layer y (line_after move) (silents_after move)) (members_of layer)
  part_are y move nodes layer o l p = record {
    distinct = p.distinct;
    members = λ s h. let r = map_in (λ (f : Found A). f.0) layer s h in
        subst (λ (z : A). Layer y (line_after move) (silents_after move) z) r.2 (comes_layer y move nodes r.0 o l (p.comes r.0 r.1));
  }

  not_yet : (y : System A) (move : Move) → IsUpto (line_of move) (silents_of y move) (line_after move) (silents_after move) → ⊥
  not_yet y (Wait n j) h = elim h [ inl a ↦ absurd (omega (arith, a)) | inr b ↦ absurd (omega (arith, b.1)) ]
  not_yet y (Go n) h = elim h [ inl a ↦ absurd (omega (arith, a)) | inr b ↦ absurd (omega (arith, b.0)) ]

  -- with a part of the next layer
  pub together : (y : System A) (move : Move) (nodes : List (Node A)) (xs : List A)
      → IsList (Upto y (line_of move) (silents_of y move)) (entries nodes) → AreOf (Layer y (line_after move) (silents_after move)) xs
      → AreOf (Upto y (line_after move) (silents_after move)) (entries nodes ++ at_layer (line_after move) (silents_after move) xs)
  together y move nodes xs l a = record {
    distinct = distinct_append (entries nodes) (at_layer (line_after move) (silents_after move) xs) l.are.distinct
        (distinct_map (entry (line_after move) (silents_after move)) (λ s t e. ap (λ (p : Entry A). p.member) e) xs a.distinct)
        (λ p old new. let r = map_in (entry (line_after move) (silents_after move)) xs p new in
        not_yet y move (subst (λ (z : Entry A). IsUpto (line_of move) (silents_of y move) z.line z.silents) (sym r.2) (l.are.members p old).upto));
    members = λ p h. elim (in_append (entries nodes) (at_layer (line_after move) (silents_after move) xs) p h) [
      | inl old ↦ upto_old y move p (l.are.members p old)
      | inr new ↦ (let r = map_in (entry (line_after move) (silents_after move)) xs p new in
          subst (λ (z : Entry A). Upto y (line_after move) (silents_after move) z) r.2
          (record { layer = a.members r.0 r.1; upto = inr (refl, omega arith) }))
    ];
  }

  pub together_list : (y : System A) (move : Move) (nodes : List (Node A)) (xs : List A) → 1 ≤ y.within
      → IsList (Upto y (line_of move) (silents_of y move)) (entries nodes) → IsList (Layer y (line_after move) (silents_after move)) xs
      → IsList (Upto y (line_after move) (silents_after move)) (entries nodes ++ at_layer (line_after move) (silents_after move) xs)
  together_list y move nodes xs one l a = record {
    are = together y move nodes xs l a.are;
    all = λ p u. elim (upto_new y move p one u) [
      | inl old ↦ in_left (entries nodes) (at_layer (line_after move) (silents_after move) xs) p (l.all p old)
      | inr e ↦ in_right (entries nodes) (at_layer (line_after move) (silents_after move) xs) p
          (let here : Layer y (line_after move) (silents_after move) p.member =
          subst (λ (k : ℕ). Layer y (line_after move) k p.member) e.1 (subst (λ (m : ℕ). Layer y m p.silents p.member) e.0 u.layer) in
          let q : entry (line_after move) (silents_after move) p.member ≡ p = same p (line_after move) (silents_after move) e.0 e.1 in
          subst (λ (z : Entry A). Contains (at_layer (line_after move) (silents_after move) xs) z) q
          (in_map (entry (line_after move) (silents_after move)) xs p.member (a.all p.member here)))
    ];
  }
    where
      same : (p : Entry A) (n j : ℕ) → p.line ≡ n → p.silents ≡ j → entry n j p.member ≡ p
      same p n j e f = let g : entry p.line p.silents p.member ≡ p = refl in
          subst (λ (m : ℕ). entry m j p.member ≡ p) e (subst (λ (k : ℕ). entry p.line k p.member ≡ p) f g)

  -- one state's steps are merged in
  pub part_step : (y : System A) (move : Move) (nodes : List (Node A)) (old now : List (Found A)) (list : List A) (i most : ℕ) (x : Node A)
      → slice_get nodes i ≡ Some x → IsSource move x.line x.silents → Expands y move x.entry list → Merged old list i most now
      → Part y move nodes old → Part y move nodes now
  part_step y move nodes old now list i most x at src e m p = record {
    distinct = m.distinct p.distinct;
    comes = λ f h. elim (m.new f h) [
      | inl a ↦ p.comes f a
      | inr b ↦ record { node = x; at = subst (λ (k : ℕ). slice_get nodes k ≡ Some x) (sym b.0) at; source = src; step = e.list.are.members f.0 b.1 }
    ];
  }

  pub growing_nil : (y : System A) (move : Move) (nodes : List (Node A)) (from : ℕ) → length nodes ≤ y.total → Growing y move nodes from from []
  growing_nil y move nodes from le = record {
    part = record { distinct = λ i j x lt under. absurd (omega arith); comes = λ f h. absurd (in_nil f h) };
    all = λ k x t at a b h. absurd (omega arith);
    clear = λ k x t f at a b h seen. absurd (omega arith);
    limit = omega arith;
    total = omega arith;
  }

  pub growing_step : (y : System A) (move : Move) (nodes : List (Node A)) (from i : ℕ) (old now : List (Found A)) (list : List A) (most : ℕ) (x : Node A)
      → slice_get nodes i ≡ Some x → IsSource move x.line x.silents → Expands y move x.entry list → Merged old list i most now
      → Growing y move nodes from i old → length now ≤ y.limit → length nodes + length now ≤ y.total → length now ≤ most
      → Growing y move nodes from (i + 1) now
  growing_step y move nodes from i old now list most x at src e m g lim tot le = record {
    part = part_step y move nodes old now list i most x at src e m g.part;
    all = λ k z t here a b h. elim (below k i b) [
      | inl c ↦ m.kept t (g.all k z t here a c h)
      | inr c ↦ (let same : z ≡ x = get_same nodes i z x (subst (λ (n : ℕ). slice_get nodes n ≡ Some z) c here) at in
          m.all le t (e.list.all t (subst (λ (n : Node A). Moves y move n.entry t) same h)))
    ];
    clear = λ k z t f here a b h seen. elim (below k i b) [
      | inl c ↦ g.clear k z t f here a c h seen
      | inr c ↦ (let same : z ≡ x = get_same nodes i z x (subst (λ (n : ℕ). slice_get nodes n ≡ Some z) c here) at in
          e.clear t f (subst (λ (n : Node A). MoveFaults y move n.entry t f) same h) (subst (λ (n : Node A). MoveSeen y move n.entry t) same seen))
    ];
    limit = lim;
    total = tot;
  }
    where
      below : (k i : ℕ) → k < i + 1 → (k < i) ⊎ (k ≡ i)
      below k i h = grind arith

  -- where a source state stands
  source_at : (y : System A) (move : Move) (nodes : List (Node A)) (from : ℕ) → 1 ≤ y.within → IsRange move nodes from
      → IsList (Upto y (line_of move) (silents_of y move)) (entries nodes) → (m k : ℕ) (s : A) → IsSource move m k → Layer y m k s
      → (i : ℕ) × (x : Node A) × (slice_get nodes i ≡ Some x) × (from ≤ i) × (i < length nodes) × (x.entry ≡ s)
  source_at y move nodes from one range l m k s src h =
      let r = map_in entry_of nodes (entry m k s) (l.all (entry m k s) (upto_source y move m k s one src h)) in
      let g = in_get nodes r.0 r.1 in
      let line : r.0.line ≡ m = ap (λ (p : Entry A). p.line) r.2 in
      let silents : r.0.silents ≡ k = ap (λ (p : Entry A). p.silents) r.2 in (
        g.0,
        r.0,
        g.1,
        (range g.0 r.0 g.1).1 (subst (λ (a : ℕ). IsSource move r.0.line a) (sym silents) (subst (λ (a : ℕ). IsSource move a k) (sym line) src)),
        get_below nodes g.0 r.0 g.1,
        ap (λ (p : Entry A). p.member) r.2,
      )

  pub grown : (y : System A) (move : Move) (nodes : List (Node A)) (from i : ℕ) (layer : List (Found A)) → 1 ≤ y.within → IsOpen y move → IsRange move nodes from
      → IsList (Upto y (line_of move) (silents_of y move)) (entries nodes) → length nodes ≤ i → Growing y move nodes from i layer → Grown y move nodes layer
  grown y move nodes from i layer one o range l end g = record {
    list = record {
      are = part_are y move nodes layer o l g.part;
      all = λ t h. let b = out_of y move t h in
          let w = source_at y move nodes from one range l b.line b.silents b.state b.source b.layer in
          g.all w.0 w.1 t w.2 w.3 (omega (arith, w.4)) (subst (λ (s : A). Moves y move s t) (sym w.5) b.step);
    };
    comes = g.part.comes;
    clear = λ m k s t f src h bad seen.
        let w = source_at y move nodes from one range l m k s src h in
        g.clear w.0 w.1 t f w.2 w.3 (omega (arith, w.4)) (subst (λ (z : A). MoveFaults y move z t f) (sym w.5) bad) (subst (λ (z : A). MoveSeen y move z t) (sym w.5) seen);
    limit = g.limit;
    total = g.total;
  }

  -- from one node alone
  members_all : (k : ℕ) (xs : List A) → members_of (all_from k xs) ≡ xs
  members_all k [] = refl
  members_all k (x ∷ xs) = ap (λ (ys : List A). x ∷ ys) (members_all k xs)

  long_all : (k : ℕ) (xs : List A) → length (all_from k xs) ≡ length xs
  long_all k xs = simp length-map

  merged_alone : (list : List A) (k most : ℕ) → IsDistinct list → Merged [] list k most (all_from k list)
  merged_alone list k most d = record {
    kept = λ s h. absurd (in_nil s h);
    new = λ f h. let r = map_in (λ (x : A). (x, k)) list f h in
        inr (sym (ap (λ (p : Found A). p.1) r.2), subst (λ (z : A). Contains list z) (ap (λ (p : Found A). p.0) r.2) r.1);
    distinct = λ h. subst (λ (xs : List A). IsDistinct xs) (sym (members_all k list)) d;
    all = λ le s h. subst (λ (xs : List A). Contains xs s) (sym (members_all k list)) h;
  }

  pub grown_alone : (y : System A) (move : Move) (nodes : List (Node A)) (from : ℕ) (list : List A) (x : Node A) → 1 ≤ y.within → IsOpen y move
      → IsRange move nodes from → IsList (Upto y (line_of move) (silents_of y move)) (entries nodes) → length nodes ≡ from + 1 → slice_get nodes from ≡ Some x
      → Expands y move x.entry list → length list ≤ y.limit → length nodes + length list ≤ y.total → Grown y move nodes (all_from from list)
  grown_alone y move nodes from list x one o range l end at e lim tot =
      let size : length (all_from from list) ≡ length list = long_all from list in
      grown y move nodes from (from + 1) (all_from from list) one o range l (omega (arith, end))
      (growing_step y move nodes from from [] (all_from from list) list (length list) x at ((range from x at).0 (omega arith)) e
      (merged_alone list from (length list) e.list.are.distinct) (growing_nil y move nodes from (omega (arith, tot)))
      (omega (arith, size, lim)) (omega (arith, size, tot)) (omega (arith, size)))

  -- the entries of a list of steps are in the layer, beside what is known of all
  pub list_are : (y : System A) (move : Move) (nodes : List (Node A)) (list : List A) (x : Node A) (i : ℕ) → IsOpen y move
      → IsList (Upto y (line_of move) (silents_of y move)) (entries nodes) → slice_get nodes i ≡ Some x → IsSource move x.line x.silents
      → Expands y move x.entry list → AreOf (Layer y (line_after move) (silents_after move)) list
  list_are y move nodes list x i o l at src e = record {
    distinct = e.list.are.distinct;
    members = λ s h. into y move x.line x.silents x.entry s o src (node_layer y (line_of move) (silents_of y move) nodes l i x at) (e.list.are.members s h);
  }
