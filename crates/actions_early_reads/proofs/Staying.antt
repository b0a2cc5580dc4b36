-- UNCHANGED, item by item.
use Rattle.std.proofs.Common.{◌≡◌, ◌∙◌, inl, inr, ap, sym, refl, subst, List, [], ◌∷◌, ◌++◌, map, drop, length, get_or, arith, append_assoc}
use Rattle.std.specs.Prelude.{◌<◌, ◌≤◌, ◌+◌, ℕ, zero, suc, Bool, true, false, Option, Some, None, Contains, slice_get, if◌then◌else◌}
use Rattle.std.specs.List.{AllByRecursion as Each}
use Rattle.std.proofs.lemmas.List.{append-nil, drop_more, drop_all}
use Rattle.std.proofs.lemmas.Option.{slice_get_read}
use Rattle.base_core.specs.declared.place.Place.{Place}
use Rattle.names_terms.specs.declared.level.Level.{Level}
use Rattle.names_terms.specs.declared.level.Level.TheVariants as levels
use Rattle.names_terms.specs.Lists.{terms_list}
use Rattle.names_terms.specs.TermViews.{terms_from, terms_of}
use Rattle.names_terms.specs.Terms as term
use Rattle.names_terms.specs.Terms.{Term, Placed, Meaning, Terms, level_of, meaning_of}
use Rattle.names_term_parts.specs.Parts.{Part, part, parts}
use Rattle.names_term_parts.specs.Slots.{MentionsBelow, UsesSmaller, used, listed_in_let, mentioned_in_part}
use Rattle.names_term_parts.specs.Weights.{weight, inner, in_terms}
use Rattle.names_term_parts.proofs.Contained.{contains_cons, contains_nothing}
use Rattle.eval_meanings.specs.Contexts.{Table}
use Rattle.eval_meanings.specs.Unchanged.{behind, prime_of, unchanged_of, changed_of}
use Rattle.actions_meanings.specs.declared.fault.FormFault.{FormFault}
use Rattle.actions_meanings.specs.Forms.{is_taken}
use Rattle.actions_meanings.specs.Reads.{VariableSet, Ends, terms_in}
use Rattle.actions_meanings.specs.Outcomes.{or_else, too_early, first_early, early_unchanged}
use Rattle.actions_early_reads.specs.declared.walking.Walk.{Walk}
use Rattle.actions_early_reads.specs.Levels.{StaysBelow}
use Rattle.actions_early_reads.specs.Orderly.{IsSoundThroughout}
use Rattle.actions_early_reads.specs.Weight.{weights}
use Rattle.actions_early_reads.specs.Follow.{IsBehind}
use Rattle.actions_early_reads.specs.Keeping.{Fits}
use Rattle.actions_early_reads.specs.Ready.{table_of, setting_of, IsWalked, TellsUnread}
use Rattle.actions_early_reads.specs.Shapes.{IsOther}
use Rattle.actions_early_reads.specs.Opened.{early_at, unread_at, TellsStays, TellsItems}
use Rattle.actions_early_reads.proofs.Each.{each-both, each-from, each-item, each-weaker}
use Rattle.actions_early_reads.proofs.Rows.{terms-hold}
use Rattle.actions_early_reads.proofs.Within.{body-stays, stays-more}
use Rattle.actions_early_reads.proofs.Ends.{ends-in, ends-behind, orderly-terms, orderly-behind}
use Rattle.actions_early_reads.proofs.Early.{action-taken, if-taken, IsStill, still-items, early-still}

-- MENTIONS

mentions-of : (n : ℕ) (e : Term) → ((k : ℕ) (ts : Terms) → meaning_of e ≡ term.Use k ts → k < n) → ((ks : List ℕ) (f : Term) (k : ℕ) → meaning_of e ≡ term.Scoped ks f → Contains ks k → k < n) → ((p : Part) → Contains (parts false (meaning_of e)) p → MentionsBelow n p.term) → MentionsBelow n e
mentions-of n _ uses lets inner k (used at l _ ts) = uses k ts refl
mentions-of n _ uses lets inner k (listed_in_let at l ks f _ c) = lets ks f k refl c
mentions-of n _ uses lets inner k (mentioned_in_part at l m p _ c u) = inner p c k u

one-mentioned : (n : ℕ) (b : Bool) (e : Term) → MentionsBelow n e → (p : Part) → Contains (part b e ∷ []) p → MentionsBelow n p.term
one-mentioned n b e h p c = elim (contains_cons (part b e) [] p c) [
  | inl s ↦ subst (λ (y : Part). MentionsBelow n y.term) s h
  | inr k ↦ absurd (contains_nothing p k)
]

two-mentioned : (n : ℕ) (b c : Bool) (e f : Term) → MentionsBelow n e → MentionsBelow n f → (p : Part) → Contains (part b e ∷ part c f ∷ []) p → MentionsBelow n p.term
two-mentioned n b c e f h k p i = elim (contains_cons (part b e) (part c f ∷ []) p i) [
  | inl s ↦ subst (λ (y : Part). MentionsBelow n y.term) s h
  | inr j ↦ one-mentioned n c f k p j
]

pub mentions-stays : (n : ℕ) (at : Place) (e : Term) → MentionsBelow n e → MentionsBelow n (unchanged_of at e)
mentions-stays n at e h = mentions-of n (unchanged_of at e) (λ k ts q. absurd (cc)) (λ ks f k q c. absurd (cc)) (one-mentioned n true e h)

mentions-changed : (n : ℕ) (at : Place) (e : Term) → MentionsBelow n e → MentionsBelow n (changed_of at e)
mentions-changed n at e h =
    let primed : MentionsBelow n (prime_of at e) = mentions-of n (prime_of at e) (λ k ts q. absurd (cc)) (λ ks f k q c. absurd (cc)) (one-mentioned n true e h) in
    mentions-of n (changed_of at e) (λ k ts q. absurd (cc)) (λ ks f k q c. absurd (cc)) (two-mentioned n false false (prime_of at e) e primed h)

pub stays-terms : (ops : Table) (n : ℕ) (at : Place) (l : Level) (m : Meaning) → UsesSmaller ops → MentionsBelow n (Placed at l m) → Each (StaysBelow n) (terms_in ops at m)
stays-terms ops n at l m smaller h =
    terms-hold (StaysBelow n) (MentionsBelow n) (λ e k. inr k) (λ p e k. inr (mentions-stays n p e k)) (λ p e k. inr (mentions-changed n p e k)) ops false at m
    (λ k ts o q r. let calls : MentionsBelow n (Placed at l (term.Use k ts)) = subst (λ (y : Meaning). MentionsBelow n (Placed at l y)) q h in let lt : k < n = calls k (used at l k ts) in stays-more k n o.body (omega arith) (body-stays ops k o smaller r))
    (each-from (λ (p : Part). MentionsBelow n p.term) (parts false m) (λ p c i u. h i (mentioned_in_part at l m p i c u)))

pub fits-terms : (ops : Table) (v n k : ℕ) (at : Place) (l : Level) (m : Meaning) → UsesSmaller ops → MentionsBelow n (Placed at l m) → IsSoundThroughout ops v (Placed at l m) → Each (Ends ops k) (terms_in ops at m) → Each (Fits ops v n k) (terms_in ops at m)
fits-terms ops v n k at l m smaller below orderly ends =
    each-both (λ e. StaysBelow n e × IsSoundThroughout ops v e) (Ends ops k) (Fits ops v n k) (λ e x y. record { below = x.0; orderly = x.1; ends = y }) (terms_in ops at m)
    (each-both (StaysBelow n) (IsSoundThroughout ops v) (λ e. StaysBelow n e × IsSoundThroughout ops v e) (λ e x y. (x, y)) (terms_in ops at m) (stays-terms ops n at l m smaller below) (orderly-terms ops v at l m orderly)) ends

-- ITEMS OF A TUPLE

-- the items of a constant tuple are constant
pub items-stay : (w : Walk) (bound k : ℕ) (p : Place) (l : Level) (ts : Terms) → IsWalked w bound k (Placed p l (term.Tuple ts)) → StaysBelow bound (Placed p l (term.Tuple ts)) → Each (StaysBelow bound) (terms_list ts)
items-stay w bound k p l ts walked (inl c) =
    each-weaker (IsStill (setting_of w)) (StaysBelow bound) (λ x h. inl h.0) (terms_list ts)
    (still-items (setting_of w) p ts (subst (λ (z : Level). IsSoundThroughout (table_of w) w.variables (Placed p z (term.Tuple ts))) c walked.fits.orderly))
items-stay w bound k p l ts walked (inr h) = stays-terms (table_of w) bound p l (term.Tuple ts) walked.ready.smaller h

pub item-tells : (w : Walk) (bound : ℕ) (B : VariableSet) (at p : Place) (l : Level) (ts : Terms) (k i : ℕ) (x : Term) (o : Option FormFault) → IsWalked w bound k (Placed p l (term.Tuple ts)) → slice_get (terms_list ts) i ≡ Some x → TellsStays w bound B at x o → early_at w B k (unchanged_of at x) ≡ o
item-tells w bound B at p l ts zero i x o walked is tells = absurd walked.fits.ends
item-tells w bound B at p l ts (suc k) i x o walked is tells =
    let ops : Table = table_of w in
    let below : StaysBelow bound x = each-item (StaysBelow bound) (terms_list ts) i x is (items-stay w bound (suc k) p l ts walked walked.fits.below) in
    let orderly : IsSoundThroughout ops w.variables x = each-item (IsSoundThroughout ops w.variables) (terms_list ts) i x is (orderly-terms ops w.variables p l (term.Tuple ts) walked.fits.orderly) in
    elim (ends-in ops k p l (term.Tuple ts) walked.fits.ends) [
      | inr each ↦ tells k record { ready = walked.ready; within = walked.within; fits = record { below = below; orderly = orderly; ends = each-item (Ends ops k) (terms_list ts) i x is each } }
      | inl q ↦
          let items : Each (IsStill (setting_of w)) (terms_list ts) = still-items (setting_of w) p ts (subst (λ (z : Level). IsSoundThroughout ops w.variables (Placed p z (term.Tuple ts))) q walked.fits.orderly) in
          let still : IsStill (setting_of w) x = each-item (IsStill (setting_of w)) (terms_list ts) i x is items in
          early-still (setting_of w) B (suc k) at x still ∙ sym (early-still (setting_of w) B 2 at x still) ∙ tells 1 record { ready = walked.ready; within = walked.within; fits = record { below = below; orderly = orderly; ends = constant-ends ops x still.0 } }
    ]
  where
    constant-ends : (ops : Table) (x : Term) → level_of x ≡ levels.Constant → Ends ops 1 x
    constant-ends ops (Placed q j m) c = subst (λ (z : Level). Ends ops 1 (Placed q z m)) (sym c) tt

terms_listed_from : (ts : Terms) (xs : List Term) → terms_list (terms_from ts xs) ≡ terms_list ts ++ xs
terms_listed_from ts [] = sym (append-nil (terms_list ts))
terms_listed_from ts (x ∷ xs) = terms_listed_from (term.MoreTerms ts x) xs ∙ append_assoc (terms_list ts) (x ∷ []) xs

pub list_of_items : (xs : List Term) (ts : Terms) → terms_of xs ≡ ts → terms_list ts ≡ xs
list_of_items xs ts q = ap terms_list (sym q) ∙ terms_listed_from term.NoTerms xs

-- what is still to be told of the items
abbrev pub ItemsWay : Walk → ℕ → VariableSet → Place → Terms → List Term → Type 0
ItemsWay w bound B at ts rest =
    (p : Place) (l : Level) (k : ℕ) → IsWalked w bound k (Placed p l (term.Tuple ts)) → first_early (early_at w B k) (map (unchanged_of at) (terms_list ts)) ≡ first_early (early_at w B k) (map (unchanged_of at) rest)

pub items-begin : (w : Walk) (bound : ℕ) (B : VariableSet) (at : Place) (ts : Terms) (xs : List Term) → terms_of xs ≡ ts → ItemsWay w bound B at ts xs
items-begin w bound B at ts xs q p l k walked = ap (λ (es : List Term). first_early (early_at w B k) (map (unchanged_of at) es)) (list_of_items xs ts q)

pub item_at_index : (xs : List Term) (ts : Terms) (i : ℕ) (x : Term) → terms_of xs ≡ ts → i < length xs → x ≡ get_or xs i x → slice_get (terms_list ts) i ≡ Some x
item_at_index xs ts i x q lt is = ap (λ (es : List Term). slice_get es i) (list_of_items xs ts q) ∙ slice_get_read xs (length xs) i x refl lt is

pub items-next : (w : Walk) (bound : ℕ) (B : VariableSet) (at : Place) (ts : Terms) (xs : List Term) (i : ℕ) (x : Term) → terms_of xs ≡ ts → i < length xs → x ≡ get_or xs i x → TellsStays w bound B at x None → ItemsWay w bound B at ts (drop i xs) → ItemsWay w bound B at ts (drop (i + 1) xs)
items-next w bound B at ts xs i x q lt is tells way p l k walked =
    way p l k walked ∙ ap (λ (es : List Term). first_early (early_at w B k) (map (unchanged_of at) es)) (drop_more xs i x lt ∙ ap (λ (y : Term). y ∷ drop (i + 1) xs) (sym is))
    ∙ ap (λ (z : Option FormFault). or_else z (first_early (early_at w B k) (map (unchanged_of at) (drop (i + 1) xs)))) (item-tells w bound B at p l ts k i x None walked (item_at_index xs ts i x q lt is) tells)

pub items-stop : (w : Walk) (bound : ℕ) (B : VariableSet) (at : Place) (ts : Terms) (xs : List Term) (i : ℕ) (x : Term) (f : FormFault) → terms_of xs ≡ ts → i < length xs → x ≡ get_or xs i x → TellsStays w bound B at x (Some f) → ItemsWay w bound B at ts (drop i xs) → TellsItems w bound B at ts (Some f)
items-stop w bound B at ts xs i x f q lt is tells way p l k walked =
    way p l k walked ∙ ap (λ (es : List Term). first_early (early_at w B k) (map (unchanged_of at) es)) (drop_more xs i x lt ∙ ap (λ (y : Term). y ∷ drop (i + 1) xs) (sym is))
    ∙ ap (λ (z : Option FormFault). or_else z (first_early (early_at w B k) (map (unchanged_of at) (drop (i + 1) xs)))) (item-tells w bound B at p l ts k i x (Some f) walked (item_at_index xs ts i x q lt is) tells)

pub items-end : (w : Walk) (bound : ℕ) (B : VariableSet) (at : Place) (ts : Terms) (xs : List Term) (i : ℕ) → length xs ≤ i → ItemsWay w bound B at ts (drop i xs) → TellsItems w bound B at ts None
items-end w bound B at ts xs i le way p l k walked = way p l k walked ∙ ap (λ (es : List Term). first_early (early_at w B k) (map (unchanged_of at) es)) (drop_all i xs le)

-- weights of items
weights_from : (ts : Terms) (xs : List Term) → in_terms ts ≤ in_terms (terms_from ts xs)
weights_from ts [] = omega arith
weights_from ts (x ∷ xs) = omega (arith, weights_from (term.MoreTerms ts x) xs)

item_weighs : (ts : Terms) (xs : List Term) (i : ℕ) (d : Term) → i < length xs → weight (get_or xs i d) ≤ in_terms (terms_from ts xs)
item_weighs ts [] i d lt = absurd (omega arith)
item_weighs ts (x ∷ xs) zero d lt = omega (arith, weights_from (term.MoreTerms ts x) xs)
item_weighs ts (x ∷ xs) (suc i) d lt = item_weighs (term.MoreTerms ts x) xs i d (omega arith)

pub item-weight : (xs : List Term) (ts : Terms) (i : ℕ) (x : Term) → terms_of xs ≡ ts → i < length xs → x ≡ get_or xs i x → weight x ≤ in_terms ts
item-weight xs ts i x q lt is = omega (arith, item_weighs term.NoTerms xs i x lt, ap weight is, ap in_terms q)

-- A TERM

module _ (w : Walk) (bound : ℕ) (B : VariableSet) (at : Place) (e found : Term) (number : ℕ) (p : Place) (l : Level) (m : Meaning) (seen : Placed p l m ≡ found) (follows : IsBehind (table_of w) bound e number found) where
  pub behind-is : (k : ℕ) → IsWalked w bound k e → (behind (table_of w) (length (table_of w)) zero e).1 ≡ Placed p l m
  behind-is k walked = (follows walked.ready.smaller walked.fits.below (length (table_of w)) zero walked.within).0 ∙ sym seen

  stays-is : (k : ℕ) → IsWalked w bound k e → early_at w B (suc k) (unchanged_of at e) ≡ early_unchanged (early_at w B k) (unread_at w B k) B at e ((behind (table_of w) (length (table_of w)) zero e).0, Placed p l m)
  stays-is k walked =
      if-taken (is_taken w.which levels.Action) (early_unchanged (early_at w B k) (unread_at w B k) B at e (behind (table_of w) (length (table_of w)) zero e)) None (action-taken w.which)
      ∙ ap (λ (f : Term). early_unchanged (early_at w B k) (unread_at w B k) B at e ((behind (table_of w) (length (table_of w)) zero e).0, f)) (behind-is k walked)

  pub found-walked : (k : ℕ) → IsWalked w bound k e → IsWalked w number k (Placed p l m)
  found-walked k walked =
      let told : ((behind (table_of w) (length (table_of w)) zero e).1 ≡ found) × (number ≤ bound) × StaysBelow number found = follows walked.ready.smaller walked.fits.below (length (table_of w)) zero walked.within in
      record {
        ready = walked.ready;
        within = omega (arith, told.1, walked.within);
        fits = record {
          below = subst (λ (f : Term). StaysBelow number f) (sym seen) told.2;
          orderly = subst (λ (f : Term). IsSoundThroughout (table_of w) w.variables f) (behind-is k walked) (orderly-behind (table_of w) w.variables (length (table_of w)) zero e walked.fits.orderly);
          ends = subst (λ (f : Term). Ends (table_of w) k f) (behind-is k walked) (ends-behind (table_of w) k (length (table_of w)) zero e walked.fits.ends);
        };
      }

  pub stays-variable : (x : ℕ) (o : Option FormFault) → m ≡ term.Variable x → o ≡ too_early at (if B x then None else Some x) → TellsStays w bound B at e o
  stays-variable x o q answer k walked = stays-is k walked ∙ ap (λ (z : Meaning). early_unchanged (early_at w B k) (unread_at w B k) B at e ((behind (table_of w) (length (table_of w)) zero e).0, Placed p l z)) q ∙ sym answer

  pub stays-tuple : (ts : Terms) (o : Option FormFault) → m ≡ term.Tuple ts → TellsItems w number B at ts o → TellsStays w bound B at e o
  stays-tuple ts o q tells k walked =
      let inner : IsWalked w number k (Placed p l (term.Tuple ts)) = subst (λ (z : Meaning). IsWalked w number k (Placed p l z)) q (found-walked k walked) in
      stays-is k walked ∙ ap (λ (z : Meaning). early_unchanged (early_at w B k) (unread_at w B k) B at e ((behind (table_of w) (length (table_of w)) zero e).0, Placed p l z)) q ∙ tells p l k inner

  pub stays-other : (r : Option ℕ) (o : Option FormFault) → IsOther m → TellsUnread w bound B e term.NoSteps r → o ≡ too_early at r → TellsStays w bound B at e o
  stays-other r o other tells answer k walked = stays-is k walked ∙ whole m other ∙ ap (too_early at) (tells k walked tt) ∙ sym answer
    where
      whole : (m : Meaning) → IsOther m → early_unchanged (early_at w B k) (unread_at w B k) B at e ((behind (table_of w) (length (table_of w)) zero e).0, Placed p l m) ≡ too_early at (unread_at w B k e term.NoSteps)
      whole (term.Variable x) other = absurd other
      whole (term.Tuple ts) other = absurd other
      whole m other = refl

pub tuple-lighter : (ops : Table) (bound : ℕ) (e found : Term) (number : ℕ) (p : Place) (l : Level) (m : Meaning) → Placed p l m ≡ found → (ts : Terms) → m ≡ term.Tuple ts → weight found + weights ops number ≤ weight e + weights ops bound → in_terms ts + 1 + weights ops number ≤ weight e + weights ops bound
tuple-lighter ops bound e found number p l m seen ts q le = omega (arith, le, ap weight seen, ap inner q)
