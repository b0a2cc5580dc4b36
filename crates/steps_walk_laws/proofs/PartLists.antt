-- What holds of each part in a list of parts, by whether it stands under a prime.
use Rattle.std.proofs.Common.{◌≡◌, refl, List, [], ◌∷◌, ◌++◌}
use Rattle.std.specs.Prelude.{◌||◌, Bool, true, false, Contains}
use Rattle.names_terms.specs.Terms.{Term}
use Rattle.names_term_parts.specs.Parts.{Part, parts_of}
use Rattle.names_term_parts.proofs.Contained.{contains_head, contains_tail}

pub or_left : (a b : Bool) → a ≡ true → (a || b) ≡ true
or_left true b h = refl
or_left false b h = absurd (cc)

pub or_right : (a b : Bool) → b ≡ true → (a || b) ≡ true
or_right true b h = refl
or_right false b h = h

pub or_none : (b : Bool) → b ≡ (b || false)
or_none true = refl
or_none false = refl

pub not_true : (b : Bool) → (b ≡ true → ⊥) → b ≡ false
not_true true h = absurd (h refl)
not_true false h = refl

-- what holds of a term that stands under a prime or does not
abbrev pub OfPart : Type 1
OfPart = Bool → Term → Type 0

abbrev pub PartsAre : OfPart → List Part → Type 0
PartsAre S [] = Unit {0}
PartsAre S (p ∷ ps) = S p.primed p.term × PartsAre S ps

pub each_part : (S : OfPart) (ps : List Part) → ((p : Part) → Contains ps p → S p.primed p.term) → PartsAre S ps
each_part S [] h = tt
each_part S (p ∷ ps) h = (h p (contains_head p ps), each_part S ps (λ q c. h q (contains_tail p ps q c)))

pub parts_weaker : (S T : OfPart) → ((b : Bool) (e : Term) → S b e → T b e) → (ps : List Part) → PartsAre S ps → PartsAre T ps
parts_weaker S T f [] h = tt
parts_weaker S T f (p ∷ ps) h = (f p.primed p.term h.0, parts_weaker S T f ps h.1)

pub parts_both : (S T : OfPart) (ps : List Part) → PartsAre S ps → PartsAre T ps → PartsAre (λ p e. S p e × T p e) ps
parts_both S T [] h k = tt
parts_both S T (p ∷ ps) h k = ((h.0, k.0), parts_both S T ps h.1 k.1)

module _ (S : OfPart) where
  pub both : (ps qs : List Part) → PartsAre S ps → PartsAre S qs → PartsAre S (ps ++ qs)
  both [] qs h k = k
  both (p ∷ ps) qs h k = (h.0, both ps qs h.1 k)

  pub left : (ps qs : List Part) → PartsAre S (ps ++ qs) → PartsAre S ps
  left [] qs h = tt
  left (p ∷ ps) qs h = (h.0, left ps qs h.1)

  pub right : (ps qs : List Part) → PartsAre S (ps ++ qs) → PartsAre S qs
  right [] qs h = h
  right (p ∷ ps) qs h = right ps qs h.1

  -- terms with one more behind them
  pub pushed : (b : Bool) (es : List Term) (e : Term) → PartsAre S (parts_of b es) → S b e → PartsAre S (parts_of b (es ++ e ∷ []))
  pushed b [] e h k = (k, tt)
  pushed b (x ∷ es) e h k = (h.0, pushed b es e h.1 k)

  pub before : (b : Bool) (es : List Term) (e : Term) → PartsAre S (parts_of b (es ++ e ∷ [])) → PartsAre S (parts_of b es)
  before b [] e h = tt
  before b (x ∷ es) e h = (h.0, before b es e h.1)

  pub last : (b : Bool) (es : List Term) (e : Term) → PartsAre S (parts_of b (es ++ e ∷ [])) → S b e
  last b [] e h = h.0
  last b (x ∷ es) e h = last b es e h.1
