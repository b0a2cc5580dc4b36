-- Each definition that a tree's meaning mentions has a meaning, where those of the names around have.
use Rattle.std.proofs.Common.{◌≡◌, ◌∙◌, ap, sym, refl, subst, List, [], ◌∷◌, ◌++◌, length, inl, inr}
use Rattle.std.specs.Prelude.{◌≢◌, ◌+◌, ℕ, suc, Contains, Some, None, slice_get}
use Rattle.std.specs.Str.{bytes_eq}
use Rattle.std.proofs.lemmas.List.Elements.{Contains-push_cases}
use Rattle.reading_trees.specs.Trees.{Tree}
use Rattle.names_terms.specs.declared.ids.DefId.{DefId}
use Rattle.names_terms.specs.declared.operator.Operator.{Operator}
use Rattle.names_terms.specs.declared.operator.Own.{Own}
use Rattle.names_terms.specs.declared.operator.Own.TheVariants as owns
use Rattle.names_terms.specs.Terms as term
use Rattle.names_terms.specs.Terms.{Term, Terms, Meaning, level_of}
use Rattle.names_term_parts.proofs.Contained.{contains_head, contains_tail}
use Rattle.names_scopes.specs.declared.scope.Local.{Local}
use Rattle.names_scopes.specs.declared.scope.Local.TheVariants.{Bound, Defined}
use Rattle.names_scopes.specs.declared.meant.Meant.{Meant}
use Rattle.names_scopes.specs.declared.meant.Meant.TheVariants as meant
use Rattle.names_scopes.specs.declared.meant.Named.{Named}
use Rattle.names_scopes.specs.declared.meant.Entry.{Entry}
use Rattle.names_scopes.specs.Scopes as scopes
use Rattle.names_scopes.specs.Scopes.{named, bound_from, bound, among, bind, slots}
use Rattle.names_meanings.specs.Complaints.{complaint}
use Rattle.names_meanings.specs.Means.{Means, local_operator, own_level, with_own}
use Rattle.names_meanings.specs.Outcomes.{takes_in}
use Rattle.names_specification_laws.specs.Formed.{IsFormed}
use Rattle.names_specification_laws.specs.Meanings.{NameMeanings, ScopeFits, HasMeaning, meaning, NamesHaveMeaning}
use Rattle.names_specification_laws.specs.Laws.{MentionedHaveMeaning}
use Rattle.names_specification_laws.proofs.Ordered.{last_bound, either_way, fit_bound, fit_bind, fit_local, fit_own}
use Rattle.names_specification_laws.proofs.Somewhere.{OwnAre, OwnRows, mentioned_are}
use Rattle.names_specification_laws.proofs.Walk.{Rows, IsPlain, slots_bind, slots_own, of_tree}

-- the definition that is meant, if it is one, is such
abbrev pub MeantIs : (ℕ → Type 0) → Meant → Type 0
MeantIs Q (meant.Definition k) = Q k.0
MeantIs Q m = Unit {0}

abbrev pub LocalIs : (ℕ → Type 0) → Local → Type 0
LocalIs Q (Bound n) = Unit {0}
LocalIs Q (Defined n k p) = Q k.0

-- each definition of the scope is such
abbrev pub LocalsAre : (ℕ → Type 0) → List Local → Type 0
LocalsAre Q sc = (n : List ℕ) (d : DefId) (p : ℕ) → Contains sc (Defined n d p) → Q d.0

abbrev number_of_local : Local → ℕ
number_of_local (Bound n) = 0
number_of_local (Defined n k p) = k.0

module _ (Q : ℕ → Type 0) where
  pub bound_is : (i : ℕ) (sc : List Local) (n : List ℕ) (w : Named) → LocalsAre Q sc → bound_from i sc n ≡ Some w → MeantIs Q w.meant
  bound_is i [] n w s q = absurd (cc)
  bound_is i (Bound m ∷ sc) n w s q =
      last_bound (λ x. MeantIs Q x.meant) (bytes_eq m n) (named 0 (meant.Slot i)) w (bound_from (suc i) sc n) tt (bound_is (suc i) sc n w (λ k d p c. s k d p (contains_tail (Bound m) sc (Defined k d p) c))) q
  bound_is i (Defined m j r ∷ sc) n w s q =
      last_bound (λ x. MeantIs Q x.meant) (bytes_eq m n) (named r (meant.Definition j)) w (bound_from i sc n) (s m j r (contains_head (Defined m j r) sc)) (bound_is i sc n w (λ k d p c. s k d p (contains_tail (Defined m j r) sc (Defined k d p) c))) q

  own_use : (w : Meant) (ts : Terms) → MeantIs Q w → OwnAre Q (scopes.used w ts)
  own_use (meant.Slot i) ts h = tt
  own_use (meant.Variable x) ts h = tt
  own_use (meant.Known v) ts h = tt
  own_use (meant.Set s) ts h = tt
  own_use (meant.Standard o) ts h = tt
  own_use (meant.Definition k) ts h = h

  own_plain : (m : Meaning) → IsPlain m → OwnAre Q m
  own_plain (term.Variable x) p = absurd p
  own_plain (term.Slot j) p = absurd p
  own_plain (term.Use k ts) p = absurd p
  own_plain (term.Standard o ts) p = absurd p
  own_plain (term.Scoped ks e) p = absurd p
  own_plain m p = tt

  -- one more name in the scope
  pub locals_more : (sc : List Local) (l : Local) → LocalsAre Q sc → LocalIs Q l → LocalsAre Q (sc ++ l ∷ [])
  locals_more sc l h k n d p c = elim (Contains-push_cases sc l (Defined n d p) c) [
    | inl a ↦ h n d p a
    | inr b ↦ subst (λ (x : Local). LocalIs Q x) b k
  ]

  pub locals_bind : (sc : List Local) (ns : List (List ℕ)) → LocalsAre Q sc → LocalsAre Q (bind sc ns)
  locals_bind sc [] h = h
  locals_bind sc (n ∷ ns) h = locals_bind (sc ++ Bound n ∷ []) ns (locals_more sc (Bound n) h tt)

  but_last : (sc : List Local) (n : List ℕ) (k : DefId) (p : ℕ) → LocalsAre Q sc → (m : List ℕ) (d : DefId) (r : ℕ) → Contains (sc ++ Defined n k p ∷ []) (Defined m d r) → d.0 ≢ k.0 → Q d.0
  but_last sc n k p h m d r c ne = elim (Contains-push_cases sc (Defined n k p) (Defined m d r) c) [
    | inl a ↦ h m d r a
    | inr b ↦ absurd (ne (sym (ap number_of_local b)))
  ]

  -- in the body of a definition of a LET: but itself
  pub locals_own : (own : Own) (sc : List Local) (n : List ℕ) (k : DefId) (p : ℕ) → LocalsAre Q sc → (m : List ℕ) (d : DefId) (r : ℕ) → Contains (with_own own sc n k p) (Defined m d r) → d.0 ≢ k.0 → Q d.0
  locals_own owns.Apart sc n k p h m d r c ne = h m d r c
  locals_own owns.Itself sc n k p h m d r c ne = but_last sc n k p h m d r c ne
  locals_own owns.Function sc n k p h m d r c ne = but_last sc n k p h m d r c ne

  pub program_is : (o : Meant) → ((d : DefId) → o ≡ meant.Definition d → Q d.0) → MeantIs Q o
  program_is (meant.Slot i) h = tt
  program_is (meant.Variable x) h = tt
  program_is (meant.Known v) h = tt
  program_is (meant.Set s) h = tt
  program_is (meant.Standard o) h = tt
  program_is (meant.Definition k) h = h k refl

module _ (known : NameMeanings) (ops : List Operator) where
  abbrev Has : ℕ → Type 0
  Has k = HasMeaning known ops k

  abbrev InScope : List Local → Type 0
  InScope sc = ScopeFits ops sc × LocalsAre Has sc

  of_local : (names : List Entry) → ((n : List ℕ) → among names n ≡ known n) → (sc : List Local) (n : List ℕ) (k : DefId) (own : Own) (ps : List (List ℕ)) (t : Tree) (x : Term) → InScope sc → slice_get ops k.0 ≡ Some (local_operator (slots sc) (length ps) own x) → own_level own x ≡ level_of x → IsFormed t → complaint (takes_in ops names (bind (with_own own sc n k (length ps)) ps)) t ≡ None → Means names ops (bind (with_own own sc n k (length ps)) ps) t x → Has k.0
  of_local names are sc n k own ps t x h q l f c m =
      let inner : List Local = with_own own sc n k (length ps) in
      meaning k.0 (local_operator (slots sc) (length ps) own x) (bind inner ps) t q l (slots_bind inner ps ∙ ap (λ (i : ℕ). i + length ps) (slots_own own sc n k (length ps))) (fit_bind ops inner ps (fit_own ops sc n k (length ps) own own x h.0 q)) (locals_bind (λ j. j ≢ k.0 → Has j) inner ps (locals_own Has own sc n k (length ps) h.1))
      (record { names = names; are = are; formed = f; fine = c; means = m })

  rows_of_own : (names : List Entry) → NamesHaveMeaning known ops → ((n : List ℕ) → among names n ≡ known n) → Rows names ops InScope Has (OwnRows Has)
  rows_of_own names program are =
      record {
        of_name = λ sc n w ts at s q e. own_use Has w.meant ts
            (either_way (λ x. MeantIs Has x.meant) (among names n) (bound sc n) w (bound_is Has 0 sc n w s.1)
            (λ p. program_is Has w.meant (λ d r. program n w d (sym (are n) ∙ p) r)) q);
        of_let = λ i ks e at h. h;
        of_plain = λ i m at p h. own_plain Has m p;
        bound = λ sc n h. (fit_bound ops 0 sc n h.0, locals_more Has sc (Bound n) h.1 tt);
        defined = λ sc n k own ps t x h q l f c m.
            let r : Has k.0 = of_local names are sc n k own ps t x h q l f c m in
            (r, (fit_local ops sc n k (length ps) own x h.0 q, locals_more Has sc (Defined n k (length ps)) h.1 r));
      }

pub mentioned_have_meaning : MentionedHaveMeaning
mentioned_have_meaning known ops sc t e program fit s h k w =
    mentioned_are (HasMeaning known ops) e k w (slots sc)
    (of_tree h.names ops (InScope known ops) (HasMeaning known ops) (OwnRows (HasMeaning known ops)) (rows_of_own known ops h.names program h.are) sc t e (fit, s) h.formed h.fine h.means)
