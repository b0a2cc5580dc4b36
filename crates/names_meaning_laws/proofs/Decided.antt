-- What a tree means depends on what the names mean that are free in it.
use Rattle.std.proofs.Common.{◌≡◌, ◌∙◌, sym, ap, refl, arith, List, [], ◌∷◌, ◌++◌, length}
use Rattle.std.specs.Prelude.{ℕ, suc, ◌+◌, Bool, true, false, not, ◌&&◌, ◌||◌, if◌then◌else◌, Option, Some, None, slice_get}
use Rattle.std.specs.Str.{bytes_eq}
use Rattle.base_core.specs.declared.place.Place.{Place}
use Rattle.reading_trees.specs.declared.form.DefinitionForm.{DefinitionForm}
use Rattle.reading_trees.specs.Trees as tree
use Rattle.reading_trees.specs.Trees.{Tree}
use Rattle.names_scopes.specs.Mentions.{is_one_of, binds, defines, mentions, mentions_each, mentions_operands, mentions_step, mentions_steps, mentions_bounds, mentions_fields, mentions_changes, mentions_arms, mentions_definitions}
use Rattle.names_terms.specs.declared.ids.DefId.{DefId}
use Rattle.names_terms.specs.declared.operator.Operator.{Operator}
use Rattle.names_terms.specs.declared.operator.Own.{Own}
use Rattle.names_terms.specs.declared.operator.Own.TheVariants as owns
use Rattle.names_terms.specs.Terms as term
use Rattle.names_terms.specs.Terms.{Term, Terms, Meaning}
use Rattle.names_scopes.specs.declared.scope.Local.{Local}
use Rattle.names_scopes.specs.declared.scope.Local.TheVariants.{Bound, Defined}
use Rattle.names_scopes.specs.declared.meant.Meant.TheVariants as meant
use Rattle.names_scopes.specs.declared.meant.Named.{Named}
use Rattle.names_scopes.specs.declared.meant.Entry.{Entry}
use Rattle.names_scopes.specs.Scopes.{later, named, slots, bound_from, bound, among, meaning_in, bind, bind_bounds, at_sign}
use Rattle.names_meanings.specs.Complaints.{Takes, bound_name, or_else, counted, number_of, with_name, with_names, with_bounds, with_definitions, with_itself, itself, complaint, complaints, operands_complaint, step_complaint, steps_complaint, bounds_complaint, fields_complaint, changes_complaint, arms_complaint, definitions_complaint}
use Rattle.names_meanings.specs.Means.{Uses, Means, MeansEach, MeansOperands, MeansStep, MeansSteps, MeansBounds, MeansFields, MeansChanges, MeansArms, Defines, local_operator, with_own}
use Rattle.names_meanings.specs.Outcomes.{takes_in}
use Rattle.names_meanings.specs.Owning.{own_of}
use Rattle.names_meaning_laws.specs.Laws.{MeansByNames}
use Rattle.names_meaning_laws.proofs.Bits.{left_none, right_none, or_left, or_right, or_false, hidden_and, none_of, itself_is}
use Rattle.names_meanings.proofs.Risen.{other_name}

-- One more name in a scope.

later_none : (o : Option Named) → later None o ≡ o
later_none None = refl
later_none (Some x) = refl

later_twice : (a b c : Option Named) → later a (later b c) ≡ later (later a b) c
later_twice a b None = refl
later_twice a b (Some x) = refl

-- what is behind, if its name is asked for
abbrev if_asked : Bool → Named → Option Named
if_asked b x = if b then Some x else None

later_same : (b : Bool) (x y : Named) (o o' : Option Named) → x ≡ y → (b ≡ false → o ≡ o') → later o (if_asked b x) ≡ later o' (if_asked b y)
later_same true x y o o' e h = ap Some e
later_same false x y o o' e h = h refl

bound_behind : (sc : List Local) (i j : ℕ) (m n : List ℕ) → j ≡ i + slots sc → bound_from i (sc ++ Bound m ∷ []) n ≡ later (bound_from i sc n) (if_asked (bytes_eq m n) (named 0 (meant.Slot j)))
bound_behind [] i j m n e = let s : i ≡ j = omega (arith, e) in ap (λ (k : ℕ). if_asked (bytes_eq m n) (named 0 (meant.Slot k))) s ∙ sym (later_none (if_asked (bytes_eq m n) (named 0 (meant.Slot j))))
bound_behind (Bound k ∷ sc) i j m n e =
    ap (λ (o : Option Named). later (if_asked (bytes_eq k n) (named 0 (meant.Slot i))) o) (bound_behind sc (suc i) j m n (omega (arith, e))) ∙ later_twice (if_asked (bytes_eq k n) (named 0 (meant.Slot i))) (bound_from (suc i) sc n) (if_asked (bytes_eq m n) (named 0 (meant.Slot j)))
bound_behind (Defined k d p ∷ sc) i j m n e =
    ap (λ (o : Option Named). later (if_asked (bytes_eq k n) (named p (meant.Definition d))) o) (bound_behind sc i j m n e) ∙ later_twice (if_asked (bytes_eq k n) (named p (meant.Definition d))) (bound_from i sc n) (if_asked (bytes_eq m n) (named 0 (meant.Slot j)))

defined_behind : (sc : List Local) (i : ℕ) (m : List ℕ) (d : DefId) (p : ℕ) (n : List ℕ) → bound_from i (sc ++ Defined m d p ∷ []) n ≡ later (bound_from i sc n) (if_asked (bytes_eq m n) (named p (meant.Definition d)))
defined_behind [] i m d p n = sym (later_none (if_asked (bytes_eq m n) (named p (meant.Definition d))))
defined_behind (Bound k ∷ sc) i m d p n =
    ap (λ (o : Option Named). later (if_asked (bytes_eq k n) (named 0 (meant.Slot i))) o) (defined_behind sc (suc i) m d p n) ∙ later_twice (if_asked (bytes_eq k n) (named 0 (meant.Slot i))) (bound_from (suc i) sc n) (if_asked (bytes_eq m n) (named p (meant.Definition d)))
defined_behind (Defined k c q ∷ sc) i m d p n =
    ap (λ (o : Option Named). later (if_asked (bytes_eq k n) (named q (meant.Definition c))) o) (defined_behind sc i m d p n) ∙ later_twice (if_asked (bytes_eq k n) (named q (meant.Definition c))) (bound_from i sc n) (if_asked (bytes_eq m n) (named p (meant.Definition d)))

meaning_bound : (names : List Entry) (sc : List Local) (m n : List ℕ) → meaning_in names (sc ++ Bound m ∷ []) n ≡ later (meaning_in names sc n) (if_asked (bytes_eq m n) (named 0 (meant.Slot (slots sc))))
meaning_bound names sc m n =
    ap (λ (o : Option Named). later (among names n) o) (bound_behind sc 0 (slots sc) m n (omega arith)) ∙ later_twice (among names n) (bound sc n) (if_asked (bytes_eq m n) (named 0 (meant.Slot (slots sc))))

meaning_defined : (names : List Entry) (sc : List Local) (m : List ℕ) (d : DefId) (p : ℕ) (n : List ℕ) → meaning_in names (sc ++ Defined m d p ∷ []) n ≡ later (meaning_in names sc n) (if_asked (bytes_eq m n) (named p (meant.Definition d)))
meaning_defined names sc m d p n =
    ap (λ (o : Option Named). later (among names n) o) (defined_behind sc 0 m d p n) ∙ later_twice (among names n) (bound sc n) (if_asked (bytes_eq m n) (named p (meant.Definition d)))

slots_bound : (sc : List Local) (m : List ℕ) → slots (sc ++ Bound m ∷ []) ≡ suc (slots sc)
slots_bound [] m = refl
slots_bound (Bound k ∷ sc) m = ap suc (slots_bound sc m)
slots_bound (Defined k d p ∷ sc) m = slots_bound sc m

slots_defined : (sc : List Local) (m : List ℕ) (d : DefId) (p : ℕ) → slots (sc ++ Defined m d p ∷ []) ≡ slots sc
slots_defined [] m d p = refl
slots_defined (Bound k ∷ sc) m d p = ap suc (slots_defined sc m d p)
slots_defined (Defined k c q ∷ sc) m d p = slots_defined sc m d p

taken_bound : (sc sc' : List Local) (m : List ℕ) → slots sc ≡ slots sc' → slots (sc ++ Bound m ∷ []) ≡ slots (sc' ++ Bound m ∷ [])
taken_bound sc sc' m e = slots_bound sc m ∙ ap suc e ∙ sym (slots_bound sc' m)

taken_bind : (sc sc' : List Local) (ns : List (List ℕ)) → slots sc ≡ slots sc' → slots (bind sc ns) ≡ slots (bind sc' ns)
taken_bind sc sc' [] e = e
taken_bind sc sc' (n ∷ ns) e = taken_bind (sc ++ Bound n ∷ []) (sc' ++ Bound n ∷ []) ns (taken_bound sc sc' n e)

taken_bounds : (sc sc' : List Local) (bs : tree.Bounds) → slots sc ≡ slots sc' → slots (bind_bounds sc bs) ≡ slots (bind_bounds sc' bs)
taken_bounds sc sc' tree.NoBounds e = e
taken_bounds sc sc' (tree.MoreBounds bs ns x) e = taken_bind (bind_bounds sc bs) (bind_bounds sc' bs) ns (taken_bounds sc sc' bs e)

module _ (names names' : List Entry) (ops : List Operator) where
  -- the name means the same at both places
  abbrev Same : List Local → List Local → List ℕ → Type 0
  Same sc sc' n = meaning_in names sc n ≡ meaning_in names' sc' n

  -- as many slots are taken at both places, and these names mean the same
  abbrev Alike : List Local → List Local → (List ℕ → Bool) → Type 0
  Alike sc sc' free = (slots sc ≡ slots sc') × ((n : List ℕ) → free n ≡ true → Same sc sc' n)

  -- the definitions of a LET at the one place are made at the other too
  record Followed (sc sc' : List Local) (ds : tree.Definitions) (ks : List ℕ) (before : List Local) : Type 0 where
    inner : List Local
    made : Defines names' ops sc' ds ks inner
    taken : slots before ≡ slots inner
    same : (n : List ℕ) → (defines ds n ≡ false → Same sc sc' n) → Same before inner n

  left : (sc sc' : List Local) (p q : List ℕ → Bool) → Alike sc sc' (λ n. p n || q n) → Alike sc sc' p
  left sc sc' p q h = (h.0, λ n t. h.1 n (or_left (p n) (q n) t))

  right : (sc sc' : List Local) (p q : List ℕ → Bool) → Alike sc sc' (λ n. p n || q n) → Alike sc sc' q
  right sc sc' p q h = (h.0, λ n t. h.1 n (or_right (p n) (q n) t))

  same_bound : (sc sc' : List Local) (m n : List ℕ) → slots sc ≡ slots sc' → (bytes_eq m n ≡ false → Same sc sc' n) → Same (sc ++ Bound m ∷ []) (sc' ++ Bound m ∷ []) n
  same_bound sc sc' m n e h =
      meaning_bound names sc m n ∙ later_same (bytes_eq m n) (named 0 (meant.Slot (slots sc))) (named 0 (meant.Slot (slots sc'))) (meaning_in names sc n) (meaning_in names' sc' n) (ap (λ (k : ℕ). named 0 (meant.Slot k)) e) h ∙ sym (meaning_bound names' sc' m n)

  same_bind : (sc sc' : List Local) (ns : List (List ℕ)) (n : List ℕ) → slots sc ≡ slots sc' → (is_one_of n ns ≡ false → Same sc sc' n) → Same (bind sc ns) (bind sc' ns) n
  same_bind sc sc' [] n e h = h refl
  same_bind sc sc' (m ∷ ns) n e h =
      same_bind (sc ++ Bound m ∷ []) (sc' ++ Bound m ∷ []) ns n (taken_bound sc sc' m e) (λ q. same_bound sc sc' m n e (λ r. h (or_false (bytes_eq m n) (is_one_of n ns) r q)))

  same_bounds : (sc sc' : List Local) (bs : tree.Bounds) (n : List ℕ) → slots sc ≡ slots sc' → (binds bs n ≡ false → Same sc sc' n) → Same (bind_bounds sc bs) (bind_bounds sc' bs) n
  same_bounds sc sc' tree.NoBounds n e h = h refl
  same_bounds sc sc' (tree.MoreBounds bs ns x) n e h =
      same_bind (bind_bounds sc bs) (bind_bounds sc' bs) ns n (taken_bounds sc sc' bs e) (λ q. same_bounds sc sc' bs n e (λ r. h (or_false (binds bs n) (is_one_of n ns) r q)))

  under : (sc sc' : List Local) (m : List ℕ) (p : List ℕ → Bool) → Alike sc sc' (λ n. not (bytes_eq m n) && p n) → Alike (sc ++ Bound m ∷ []) (sc' ++ Bound m ∷ []) p
  under sc sc' m p h = (taken_bound sc sc' m h.0, λ n t. same_bound sc sc' m n h.0 (λ q. h.1 n (hidden_and (bytes_eq m n) (p n) q t)))

  under_bounds : (sc sc' : List Local) (bs : tree.Bounds) (p : List ℕ → Bool) → Alike sc sc' (λ n. not (binds bs n) && p n) → Alike (bind_bounds sc bs) (bind_bounds sc' bs) p
  under_bounds sc sc' bs p h = (taken_bounds sc sc' bs h.0, λ n t. same_bounds sc sc' bs n h.0 (λ q. h.1 n (hidden_and (binds bs n) (p n) q t)))

  -- behind the definitions of a LET
  behind : (sc sc' : List Local) (ds : tree.Definitions) (ks : List ℕ) (inner : List Local) (p : List ℕ → Bool) (d : Followed sc sc' ds ks inner) → Alike sc sc' (λ n. not (defines ds n) && p n) → Alike inner d.inner p
  behind sc sc' ds ks inner p d h = (d.taken, λ n t. d.same n (λ q. h.1 n (hidden_and (defines ds n) (p n) q t)))

  -- where a definition sees its own name, if it uses itself
  own_taken : (o : Own) (sc sc' : List Local) (m : List ℕ) (k : DefId) (c : ℕ) → slots sc ≡ slots sc' → slots (with_own o sc m k c) ≡ slots (with_own o sc' m k c)
  own_taken owns.Apart sc sc' m k c e = e
  own_taken owns.Itself sc sc' m k c e = slots_defined sc m k c ∙ e ∙ sym (slots_defined sc' m k c)
  own_taken owns.Function sc sc' m k c e = slots_defined sc m k c ∙ e ∙ sym (slots_defined sc' m k c)

  defined_same : (sc sc' : List Local) (m : List ℕ) (k : DefId) (c : ℕ) (n : List ℕ) → (bytes_eq m n ≡ false → Same sc sc' n) → Same (sc ++ Defined m k c ∷ []) (sc' ++ Defined m k c ∷ []) n
  defined_same sc sc' m k c n h =
      let it : Named = named c (meant.Definition k) in
      meaning_defined names sc m k c n ∙ later_same (bytes_eq m n) it it (meaning_in names sc n) (meaning_in names' sc' n) refl h ∙ sym (meaning_defined names' sc' m k c n)

  own_same : (o : Own) (sc sc' : List Local) (m : List ℕ) (k : DefId) (c : ℕ) (n : List ℕ) → (o ≡ owns.Apart → bytes_eq m n ≡ false) → (bytes_eq m n ≡ false → Same sc sc' n) → Same (with_own o sc m k c) (with_own o sc' m k c) n
  own_same owns.Apart sc sc' m k c n w h = h (w refl)
  own_same owns.Itself sc sc' m k c n w h = defined_same sc sc' m k c n h
  own_same owns.Function sc sc' m k c n w h = defined_same sc sc' m k c n h

  -- the body of a definition
  in_body : (sc sc' : List Local) (ds : tree.Definitions) (ks : List ℕ) (mid : List Local) (m : List ℕ) (ps : List (List ℕ)) (e : Tree) (k : DefId) (c : ℕ) (o : Own) → (o ≡ owns.Apart → (n : List ℕ) → mentions n e ≡ true → is_one_of n ps ≡ false → bytes_eq m n ≡ false) → (d : Followed sc sc' ds ks mid) → Alike sc sc' (λ n. not (defines ds n || bytes_eq m n || is_one_of n ps) && mentions n e) → Alike (bind (with_own o mid m k c) ps) (bind (with_own o d.inner m k c) ps) (λ n. mentions n e)
  in_body sc sc' ds ks mid m ps e k c o w d h = (
    taken_bind (with_own o mid m k c) (with_own o d.inner m k c) ps (own_taken o mid d.inner m k c d.taken),
    λ n t. same_bind (with_own o mid m k c) (with_own o d.inner m k c) ps n (own_taken o mid d.inner m k c d.taken) (λ q.
        own_same o mid d.inner m k c n (λ a. w a n t q) (λ p. d.same n (λ r.
        h.1 n (hidden_and (defines ds n || bytes_eq m n || is_one_of n ps) (mentions n e) (none_of (defines ds n) (bytes_eq m n) (is_one_of n ps) r p q) t)))),
  )

  -- one more definition
  one_more : (sc sc' : List Local) (ds : tree.Definitions) (js ks : List ℕ) (mid inner : List Local) (m : List ℕ) (at : Place) (ps : List (List ℕ)) (form : DefinitionForm) (e : Tree) (k : DefId) (x : Term) (d : Followed sc sc' ds js mid) → Means names' ops (bind (with_own (own_of form m ps e) d.inner m k (length ps)) ps) e x → slice_get ops k.0 ≡ Some (local_operator (slots mid) (length ps) (own_of form m ps e) x) → ks ≡ js ++ k.0 ∷ [] → inner ≡ mid ++ Defined m k (length ps) ∷ [] → Followed sc sc' (tree.MoreDefinitions ds m at ps form e) ks inner
  one_more sc sc' ds js ks mid inner m at ps form e k x d body row order scope =
      record {
        inner = d.inner ++ Defined m k (length ps) ∷ [];
        made = (js, d.inner, k, x, d.made, body, row ∙ ap (λ (j : ℕ). Some (local_operator j (length ps) (own_of form m ps e) x)) d.taken, order, refl);
        taken = ap slots scope ∙ slots_defined mid m k (length ps) ∙ d.taken ∙ sym (slots_defined d.inner m k (length ps));
        same = λ n h.
            ap (λ (s : List Local). meaning_in names s n) scope ∙ defined_same mid d.inner m k (length ps) n (λ q. d.same n (λ r. h (or_false (defines ds n) (bytes_eq m n) r q)));
      }

  use_same : (sc sc' : List Local) (n : List ℕ) (ts : Terms) (m : Meaning) → Same sc sc' n → Uses names sc n ts m → Uses names' sc' n ts m
  use_same sc sc' n ts m f u = (u.0, sym f ∙ u.1, u.2)

  mutual
    pub go_tree : (t : Tree) (sc sc' : List Local) (x : Term) (g : Takes) → complaint g t ≡ None → Alike sc sc' (λ n. mentions n t) → Means names ops sc t x → Means names' ops sc' t x
    go_tree (tree.Number at z) sc sc' x g c h r = r
    go_tree (tree.Str at z) sc sc' x g c h r = r
    go_tree (tree.Truth at z) sc sc' x g c h r = r
    go_tree (tree.Builtin at z) sc sc' x g c h r = r
    go_tree (tree.Name at n) sc sc' x g c h r = (r.0, use_same sc sc' n term.NoTerms r.0 (h.1 n (itself_is n)) r.1, r.2)
    go_tree (tree.Call at n es) sc sc' x g c h r =
        (r.0, r.1, go_trees es sc sc' r.0 g (right_none (counted n at (number_of es) (g n)) (complaints g es) c) (right sc sc' (λ k. bytes_eq n k) (λ k. mentions_each k es) h) r.2, use_same sc sc' n r.0 r.1 (h.1 n (or_left (bytes_eq n n) (mentions_each n es) (itself_is n))) r.3, r.4)
    go_tree (tree.Qualified at n es) sc sc' x g c h r =
        (r.0, r.1, go_trees es sc sc' r.0 g (right_none (counted n at (number_of es) (g n)) (complaints g es) c) (right sc sc' (λ k. bytes_eq n k) (λ k. mentions_each k es) h) r.2, use_same sc sc' n r.0 r.1 (h.1 n (or_left (bytes_eq n n) (mentions_each n es) (itself_is n))) r.3, r.4)
    go_tree (tree.At at) sc sc' x g c h r = (r.0, use_same sc sc' at_sign term.NoTerms r.0 (h.1 at_sign (itself_is at_sign)) r.1, r.2)
    go_tree (tree.Parenthesized at e) sc sc' x g c h r =
        (r.0, go_tree e sc sc' r.0 g c h r.1, r.2)
    go_tree (tree.Junction at l es) sc sc' x g c h r =
        (r.0, go_trees es sc sc' r.0 g c h r.1, r.2)
    go_tree (tree.Prefix at o e) sc sc' x g c h r =
        (r.0, go_tree e sc sc' r.0 g c h r.1, r.2)
    go_tree (tree.Infix at o os e) sc sc' x g c h r =
        (r.0, r.1, go_operands os sc sc' r.0 g (left_none (operands_complaint g os) (complaint g e) c) (left sc sc' (λ n. mentions_operands n os) (λ n. mentions n e) h) r.2, go_tree e sc sc' r.1 g (right_none (operands_complaint g os) (complaint g e) c) (right sc sc' (λ n. mentions_operands n os) (λ n. mentions n e) h) r.3, r.4)
    go_tree (tree.Postfix at e ss p) sc sc' x g c h r =
        (r.0, r.1, r.2, go_tree e sc sc' r.0 g (left_none (complaint g e) (or_else (steps_complaint g ss) (step_complaint g p)) c) (left sc sc' (λ n. mentions n e) (λ n. mentions_steps n ss) (left sc sc' (λ n. mentions n e || mentions_steps n ss) (λ n. mentions_step n p) h)) r.3, go_steps ss sc sc' r.1 g (left_none (steps_complaint g ss) (step_complaint g p) (right_none (complaint g e) (or_else (steps_complaint g ss) (step_complaint g p)) c)) (right sc sc' (λ n. mentions n e) (λ n. mentions_steps n ss) (left sc sc' (λ n. mentions n e || mentions_steps n ss) (λ n. mentions_step n p) h)) r.4, go_step p sc sc' r.2 g (right_none (steps_complaint g ss) (step_complaint g p) (right_none (complaint g e) (or_else (steps_complaint g ss) (step_complaint g p)) c)) (right sc sc' (λ n. mentions n e || mentions_steps n ss) (λ n. mentions_step n p) h) r.5, r.6)
    go_tree (tree.SetOf at es) sc sc' x g c h r =
        (r.0, go_trees es sc sc' r.0 g c h r.1, r.2)
    go_tree (tree.Filter at m d e) sc sc' x g c h r =
        (r.0, r.1, go_tree d sc sc' r.0 g (left_none (complaint g d) (complaint (with_name g m bound_name) e) c) (left sc sc' (λ n. mentions n d) (λ n. not (bytes_eq m n) && mentions n e) h) r.2, go_tree e (sc ++ Bound m ∷ []) (sc' ++ Bound m ∷ []) r.1 (with_name g m bound_name) (right_none (complaint g d) (complaint (with_name g m bound_name) e) c) (under sc sc' m (λ n. mentions n e) (right sc sc' (λ n. mentions n d) (λ n. not (bytes_eq m n) && mentions n e) h)) r.3, r.4)
    go_tree (tree.Map at e bs) sc sc' x g c h r =
        (r.0, r.1, go_tree e (bind_bounds sc bs) (bind_bounds sc' bs) r.0 (with_bounds g bs) (left_none (complaint (with_bounds g bs) e) (bounds_complaint g bs) c) (under_bounds sc sc' bs (λ n. mentions n e) (left sc sc' (λ n. (not (binds bs n) && mentions n e)) (λ n. mentions_bounds n bs) h)) r.2, go_bounds bs sc sc' r.1 g (right_none (complaint (with_bounds g bs) e) (bounds_complaint g bs) c) (right sc sc' (λ n. (not (binds bs n) && mentions n e)) (λ n. mentions_bounds n bs) h) r.3, r.4)
    go_tree (tree.Tuple at es) sc sc' x g c h r =
        (r.0, go_trees es sc sc' r.0 g c h r.1, r.2)
    go_tree (tree.Function at bs e) sc sc' x g c h r =
        (r.0, r.1, go_bounds bs sc sc' r.0 g (left_none (bounds_complaint g bs) (complaint (with_bounds g bs) e) c) (left sc sc' (λ n. mentions_bounds n bs) (λ n. not (binds bs n) && mentions n e) h) r.2, go_tree e (bind_bounds sc bs) (bind_bounds sc' bs) r.1 (with_bounds g bs) (right_none (bounds_complaint g bs) (complaint (with_bounds g bs) e) c) (under_bounds sc sc' bs (λ n. mentions n e) (right sc sc' (λ n. mentions_bounds n bs) (λ n. not (binds bs n) && mentions n e) h)) r.3, r.4)
    go_tree (tree.FunctionSet at d e) sc sc' x g c h r =
        (r.0, r.1, go_tree d sc sc' r.0 g (left_none (complaint g d) (complaint g e) c) (left sc sc' (λ n. mentions n d) (λ n. mentions n e) h) r.2, go_tree e sc sc' r.1 g (right_none (complaint g d) (complaint g e) c) (right sc sc' (λ n. mentions n d) (λ n. mentions n e) h) r.3, r.4)
    go_tree (tree.Record at fs) sc sc' x g c h r =
        (r.0, go_fields fs sc sc' r.0 g c h r.1, r.2)
    go_tree (tree.RecordSet at fs) sc sc' x g c h r =
        (r.0, go_fields fs sc sc' r.0 g c h r.1, r.2)
    go_tree (tree.Except at e cs) sc sc' x g c h r =
        (r.0, r.1, go_tree e sc sc' r.0 g (left_none (complaint g e) (changes_complaint g cs) c) (left sc sc' (λ n. mentions n e) (λ n. mentions_changes n cs) h) r.2, go_changes cs sc sc' r.1 g (right_none (complaint g e) (changes_complaint g cs) c) (right sc sc' (λ n. mentions n e) (λ n. mentions_changes n cs) h) r.3, r.4)
    go_tree (tree.Quantified at q bs e) sc sc' x g c h r =
        (r.0, r.1, go_bounds bs sc sc' r.0 g (left_none (bounds_complaint g bs) (complaint (with_bounds g bs) e) c) (left sc sc' (λ n. mentions_bounds n bs) (λ n. not (binds bs n) && mentions n e) h) r.2, go_tree e (bind_bounds sc bs) (bind_bounds sc' bs) r.1 (with_bounds g bs) (right_none (bounds_complaint g bs) (complaint (with_bounds g bs) e) c) (under_bounds sc sc' bs (λ n. mentions n e) (right sc sc' (λ n. mentions_bounds n bs) (λ n. not (binds bs n) && mentions n e) h)) r.3, r.4)
    go_tree (tree.Choose at m d e) sc sc' x g c h r =
        (r.0, r.1, go_tree d sc sc' r.0 g (left_none (complaint g d) (complaint (with_name g m bound_name) e) c) (left sc sc' (λ n. mentions n d) (λ n. not (bytes_eq m n) && mentions n e) h) r.2, go_tree e (sc ++ Bound m ∷ []) (sc' ++ Bound m ∷ []) r.1 (with_name g m bound_name) (right_none (complaint g d) (complaint (with_name g m bound_name) e) c) (under sc sc' m (λ n. mentions n e) (right sc sc' (λ n. mentions n d) (λ n. not (bytes_eq m n) && mentions n e) h)) r.3, r.4)
    go_tree (tree.If at p e f) sc sc' x g c h r =
        (r.0, r.1, r.2, go_tree p sc sc' r.0 g (left_none (complaint g p) (or_else (complaint g e) (complaint g f)) c) (left sc sc' (λ n. mentions n p) (λ n. mentions n e) (left sc sc' (λ n. mentions n p || mentions n e) (λ n. mentions n f) h)) r.3, go_tree e sc sc' r.1 g (left_none (complaint g e) (complaint g f) (right_none (complaint g p) (or_else (complaint g e) (complaint g f)) c)) (right sc sc' (λ n. mentions n p) (λ n. mentions n e) (left sc sc' (λ n. mentions n p || mentions n e) (λ n. mentions n f) h)) r.4, go_tree f sc sc' r.2 g (right_none (complaint g e) (complaint g f) (right_none (complaint g p) (or_else (complaint g e) (complaint g f)) c)) (right sc sc' (λ n. mentions n p || mentions n e) (λ n. mentions n f) h) r.5, r.6)
    go_tree (tree.Case at arms) sc sc' x g c h r =
        (r.0, go_arms arms sc sc' r.0 g c h r.1, r.2)
    go_tree (tree.CaseOther at arms e) sc sc' x g c h r =
        (r.0, r.1, go_arms arms sc sc' r.0 g (left_none (arms_complaint g arms) (complaint g e) c) (left sc sc' (λ n. mentions_arms n arms) (λ n. mentions n e) h) r.2, go_tree e sc sc' r.1 g (right_none (arms_complaint g arms) (complaint g e) c) (right sc sc' (λ n. mentions_arms n arms) (λ n. mentions n e) h) r.3, r.4)
    go_tree (tree.Let at ds e) sc sc' x g c h r =
        let d : Followed sc sc' ds r.0 r.1 = go_definitions ds sc sc' r.0 r.1 g (left_none (definitions_complaint g ds) (complaint (with_definitions g ds) e) c) (left sc sc' (λ n. mentions_definitions n ds) (λ n. not (defines ds n) && mentions n e) h) r.3 in
        (r.0, d.inner, r.2, d.made, go_tree e r.1 d.inner r.2 (with_definitions g ds) (right_none (definitions_complaint g ds) (complaint (with_definitions g ds) e) c) (behind sc sc' ds r.0 r.1 (λ n. mentions n e) d (right sc sc' (λ n. mentions_definitions n ds) (λ n. not (defines ds n) && mentions n e) h)) r.4, r.5)
    go_tree (tree.BoxAction at e v) sc sc' x g c h r =
        (r.0, r.1, go_tree e sc sc' r.0 g (left_none (complaint g e) (complaint g v) c) (left sc sc' (λ n. mentions n e) (λ n. mentions n v) h) r.2, go_tree v sc sc' r.1 g (right_none (complaint g e) (complaint g v) c) (right sc sc' (λ n. mentions n e) (λ n. mentions n v) h) r.3, r.4)
    go_tree (tree.AngleAction at e v) sc sc' x g c h r =
        (r.0, r.1, go_tree e sc sc' r.0 g (left_none (complaint g e) (complaint g v) c) (left sc sc' (λ n. mentions n e) (λ n. mentions n v) h) r.2, go_tree v sc sc' r.1 g (right_none (complaint g e) (complaint g v) c) (right sc sc' (λ n. mentions n e) (λ n. mentions n v) h) r.3, r.4)
    go_tree (tree.Fairness at v e) sc sc' x g c h r =
        (r.0, r.1, go_tree v sc sc' r.0 g (left_none (complaint g v) (complaint g e) c) (left sc sc' (λ n. mentions n v) (λ n. mentions n e) h) r.2, go_tree e sc sc' r.1 g (right_none (complaint g v) (complaint g e) c) (right sc sc' (λ n. mentions n v) (λ n. mentions n e) h) r.3, r.4)

    go_trees : (t : tree.Trees) (sc sc' : List Local) (x : Terms) (g : Takes) → complaints g t ≡ None → Alike sc sc' (λ n. mentions_each n t) → MeansEach names ops sc t x → MeansEach names' ops sc' t x
    go_trees tree.NoTrees sc sc' x g c h r = r
    go_trees (tree.MoreTrees es e) sc sc' x g c h r =
        (r.0, r.1, r.2, go_trees es sc sc' r.0 g (left_none (complaints g es) (complaint g e) c) (left sc sc' (λ n. mentions_each n es) (λ n. mentions n e) h) r.3, go_tree e sc sc' r.1 g (right_none (complaints g es) (complaint g e) c) (right sc sc' (λ n. mentions_each n es) (λ n. mentions n e) h) r.4)

    go_operands : (t : tree.Operands) (sc sc' : List Local) (x : term.Operands) (g : Takes) → operands_complaint g t ≡ None → Alike sc sc' (λ n. mentions_operands n t) → MeansOperands names ops sc t x → MeansOperands names' ops sc' t x
    go_operands (tree.First e) sc sc' x g c h r =
        (r.0, r.1, go_tree e sc sc' r.0 g c h r.2)
    go_operands (tree.Next os at e) sc sc' x g c h r =
        (r.0, r.1, r.2, go_operands os sc sc' r.0 g (left_none (operands_complaint g os) (complaint g e) c) (left sc sc' (λ n. mentions_operands n os) (λ n. mentions n e) h) r.3, go_tree e sc sc' r.1 g (right_none (operands_complaint g os) (complaint g e) c) (right sc sc' (λ n. mentions_operands n os) (λ n. mentions n e) h) r.4)

    go_step : (t : tree.Step) (sc sc' : List Local) (x : term.Step) (g : Takes) → step_complaint g t ≡ None → Alike sc sc' (λ n. mentions_step n t) → MeansStep names ops sc t x → MeansStep names' ops sc' t x
    go_step tree.Prime sc sc' x g c h r = r
    go_step (tree.Index es) sc sc' x g c h r =
        (r.0, r.1, go_trees es sc sc' r.0 g c h r.2)
    go_step (tree.Field f) sc sc' x g c h r = r

    go_steps : (t : tree.Steps) (sc sc' : List Local) (x : term.Steps) (g : Takes) → steps_complaint g t ≡ None → Alike sc sc' (λ n. mentions_steps n t) → MeansSteps names ops sc t x → MeansSteps names' ops sc' t x
    go_steps tree.NoSteps sc sc' x g c h r = r
    go_steps (tree.MoreSteps ss at e) sc sc' x g c h r =
        (r.0, r.1, r.2, go_steps ss sc sc' r.0 g (left_none (steps_complaint g ss) (step_complaint g e) c) (left sc sc' (λ n. mentions_steps n ss) (λ n. mentions_step n e) h) r.3, go_step e sc sc' r.1 g (right_none (steps_complaint g ss) (step_complaint g e) c) (right sc sc' (λ n. mentions_steps n ss) (λ n. mentions_step n e) h) r.4)

    go_bounds : (t : tree.Bounds) (sc sc' : List Local) (x : term.Bounds) (g : Takes) → bounds_complaint g t ≡ None → Alike sc sc' (λ n. mentions_bounds n t) → MeansBounds names ops sc t x → MeansBounds names' ops sc' t x
    go_bounds tree.NoBounds sc sc' x g c h r = r
    go_bounds (tree.MoreBounds bs ns e) sc sc' x g c h r =
        (r.0, r.1, r.2, go_bounds bs sc sc' r.0 g (left_none (bounds_complaint g bs) (complaint g e) c) (left sc sc' (λ n. mentions_bounds n bs) (λ n. mentions n e) h) r.3, go_tree e sc sc' r.1 g (right_none (bounds_complaint g bs) (complaint g e) c) (right sc sc' (λ n. mentions_bounds n bs) (λ n. mentions n e) h) r.4)

    go_fields : (t : tree.Fields) (sc sc' : List Local) (x : term.Fields) (g : Takes) → fields_complaint g t ≡ None → Alike sc sc' (λ n. mentions_fields n t) → MeansFields names ops sc t x → MeansFields names' ops sc' t x
    go_fields tree.NoFields sc sc' x g c h r = r
    go_fields (tree.MoreFields fs f e) sc sc' x g c h r =
        (r.0, r.1, r.2, go_fields fs sc sc' r.0 g (left_none (fields_complaint g fs) (complaint g e) c) (left sc sc' (λ n. mentions_fields n fs) (λ n. mentions n e) h) r.3, go_tree e sc sc' r.1 g (right_none (fields_complaint g fs) (complaint g e) c) (right sc sc' (λ n. mentions_fields n fs) (λ n. mentions n e) h) r.4)

    go_changes : (t : tree.Changes) (sc sc' : List Local) (x : term.Changes) (g : Takes) → changes_complaint g t ≡ None → Alike sc sc' (λ n. mentions_changes n t) → MeansChanges names ops sc t x → MeansChanges names' ops sc' t x
    go_changes tree.NoChanges sc sc' x g c h r = r
    go_changes (tree.MoreChanges cs path e) sc sc' x g c h r =
        (r.0, r.1, r.2, r.3, go_changes cs sc sc' r.0 g (left_none (changes_complaint g cs) (or_else (steps_complaint g path) (complaint (with_name g at_sign bound_name) e)) c) (left sc sc' (λ n. mentions_changes n cs) (λ n. mentions_steps n path) (left sc sc' (λ n. mentions_changes n cs || mentions_steps n path) (λ n. not (bytes_eq at_sign n) && mentions n e) h)) r.4, go_steps path sc sc' r.1 g (left_none (steps_complaint g path) (complaint (with_name g at_sign bound_name) e) (right_none (changes_complaint g cs) (or_else (steps_complaint g path) (complaint (with_name g at_sign bound_name) e)) c)) (right sc sc' (λ n. mentions_changes n cs) (λ n. mentions_steps n path) (left sc sc' (λ n. mentions_changes n cs || mentions_steps n path) (λ n. not (bytes_eq at_sign n) && mentions n e) h)) r.5, go_tree e (sc ++ Bound at_sign ∷ []) (sc' ++ Bound at_sign ∷ []) r.2 (with_name g at_sign bound_name) (right_none (steps_complaint g path) (complaint (with_name g at_sign bound_name) e) (right_none (changes_complaint g cs) (or_else (steps_complaint g path) (complaint (with_name g at_sign bound_name) e)) c)) (under sc sc' at_sign (λ n. mentions n e) (right sc sc' (λ n. mentions_changes n cs || mentions_steps n path) (λ n. not (bytes_eq at_sign n) && mentions n e) h)) r.6)

    go_arms : (t : tree.Arms) (sc sc' : List Local) (x : term.Arms) (g : Takes) → arms_complaint g t ≡ None → Alike sc sc' (λ n. mentions_arms n t) → MeansArms names ops sc t x → MeansArms names' ops sc' t x
    go_arms tree.NoArms sc sc' x g c h r = r
    go_arms (tree.MoreArms arms p e) sc sc' x g c h r =
        (r.0, r.1, r.2, r.3, go_arms arms sc sc' r.0 g (left_none (arms_complaint g arms) (or_else (complaint g p) (complaint g e)) c) (left sc sc' (λ n. mentions_arms n arms) (λ n. mentions n p) (left sc sc' (λ n. mentions_arms n arms || mentions n p) (λ n. mentions n e) h)) r.4, go_tree p sc sc' r.1 g (left_none (complaint g p) (complaint g e) (right_none (arms_complaint g arms) (or_else (complaint g p) (complaint g e)) c)) (right sc sc' (λ n. mentions_arms n arms) (λ n. mentions n p) (left sc sc' (λ n. mentions_arms n arms || mentions n p) (λ n. mentions n e) h)) r.5, go_tree e sc sc' r.2 g (right_none (complaint g p) (complaint g e) (right_none (arms_complaint g arms) (or_else (complaint g p) (complaint g e)) c)) (right sc sc' (λ n. mentions_arms n arms || mentions n p) (λ n. mentions n e) h) r.6)

    go_definitions : (t : tree.Definitions) (sc sc' : List Local) (ks : List ℕ) (inner : List Local) (g : Takes) → definitions_complaint g t ≡ None → Alike sc sc' (λ n. mentions_definitions n t) → Defines names ops sc t ks inner → Followed sc sc' t ks inner
    go_definitions tree.NoDefinitions sc sc' ks inner g c h d =
        record { inner = sc'; made = (d.0, refl); taken = ap slots d.1 ∙ h.0; same = λ n a. ap (λ (s : List Local). meaning_in names s n) d.1 ∙ a refl }
    go_definitions (tree.MoreDefinitions ds m at ps form e) sc sc' ks inner g c h d =
        let gd : Takes = with_definitions g ds in
        let own : Own = own_of form m ps e in
        let inside : Takes = with_names (with_itself own gd m (length ps)) ps in
        let rest : or_else (itself gd form m at ps e) (complaint inside e) ≡ None = right_none (definitions_complaint g ds) (or_else (itself gd form m at ps e) (complaint inside e)) c in
        let fine : itself gd form m at ps e ≡ None = left_none (itself gd form m at ps e) (complaint inside e) rest in
        let before : Followed sc sc' ds d.0 d.1 = go_definitions ds sc sc' d.0 d.1 g (left_none (definitions_complaint g ds) (or_else (itself gd form m at ps e) (complaint inside e)) c) (left sc sc' (λ n. mentions_definitions n ds) (λ n. not (defines ds n || bytes_eq m n || is_one_of n ps) && mentions n e) h) d.4 in
        let body : Means names' ops (bind (with_own own before.inner m d.2 (length ps)) ps) e d.3 =
        go_tree e (bind (with_own own d.1 m d.2 (length ps)) ps) (bind (with_own own before.inner m d.2 (length ps)) ps) d.3 inside (right_none (itself gd form m at ps e) (complaint inside e) rest)
        (in_body sc sc' ds d.0 d.1 m ps e d.2 (length ps) own (λ apart n t q. other_name form gd m at ps e apart fine n t q) before (right sc sc' (λ n. mentions_definitions n ds) (λ n. not (defines ds n || bytes_eq m n || is_one_of n ps) && mentions n e) h)) d.5 in
        one_more sc sc' ds d.0 ks d.1 inner m at ps form e d.2 d.3 before body d.6 d.7 d.8

pub means_by_names : MeansByNames
means_by_names names names' sc sc' ops t e h c =
    (go_tree names names' ops t sc sc' e (takes_in ops names sc) c (h.taken, h.free), go_tree names' names ops t sc' sc e (takes_in ops names sc) c (sym h.taken, λ n m. sym (h.free n m)))
