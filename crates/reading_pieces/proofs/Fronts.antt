-- Tokens have one heading, and are parted into pieces in one way.
use Rattle.std.proofs.Common.{◌≡◌, inl, inr, false, List, [], ◌∷◌, ◌++◌, refl, sym, subst}
use Rattle.reading_tokens.specs.declared.token.Token.{Token}
use Rattle.reading_pieces.specs.declared.mark.Mark.TheVariants.{Dashes}
use Rattle.reading_pieces.specs.declared.within.Within.{Within}
use Rattle.reading_pieces.specs.Marks.{mark_of}
use Rattle.reading_pieces.specs.Pieces.{ArePieces, Ends, GoesOn, IsHeading, IsPiece, joined}
use Rattle.reading_pieces.specs.Within.{begins_behind, begun_with, behind}

-- a piece does not end where it goes on
no_end : (w : Within) (t : Token) (ts rest : List Token) → Ends w rest → rest ≡ t ∷ ts → begins_behind w (t ∷ ts) ≡ false → ⊥
no_end w t ts rest (inl none) e f = cc
no_end w t ts rest (inr begins) e f = let both : begins_behind w rest ≡ false = subst (λ v. begins_behind w v ≡ false) (sym e) f in cc

pub same_front : (w : Within) (p q r s : List Token) → p ++ r ≡ q ++ s → GoesOn w p r → GoesOn w q s → (p ≡ q) × (r ≡ s)
same_front w [] [] r s e h g = (refl, e)
same_front w [] (u ∷ q) r s e h g = absurd (no_end w u (q ++ s) r h e g.0)
same_front w (t ∷ p) [] r s e h g = absurd (no_end w t (p ++ r) s g (sym e) h.0)
same_front w (t ∷ p) (u ∷ q) r s e h g =
    let tail : p ++ r ≡ q ++ s = cc in
    let later : GoesOn (behind w (t ∷ p ++ r)) q s = subst (λ v. GoesOn (behind w v) q s) (sym e) g.1 in
    let rest = same_front (behind w (t ∷ p ++ r)) p q r s tail h.1 later in
    let head : t ≡ u = cc in
    let fronts : p ≡ q = rest.0 in
    (cc, rest.1)

pub same_heading : (p q r s : List Token) → p ++ r ≡ q ++ s → IsHeading p r → IsHeading q s → (p ≡ q) × (r ≡ s)
same_heading (a ∷ b ∷ c ∷ d ∷ p) (x ∷ y ∷ z ∷ v ∷ q) r s e h g =
    let tail : p ++ r ≡ q ++ s = cc in
    let rest = same_front (begun_with Dashes) p q r s tail h g in
    let fronts : p ≡ q = rest.0 in
    (cc, rest.1)
same_heading [] q r s e h g = absurd h
same_heading (a ∷ []) q r s e h g = absurd h
same_heading (a ∷ b ∷ []) q r s e h g = absurd h
same_heading (a ∷ b ∷ c ∷ []) q r s e h g = absurd h
same_heading (a ∷ b ∷ c ∷ d ∷ p) [] r s e h g = absurd g
same_heading (a ∷ b ∷ c ∷ d ∷ p) (x ∷ []) r s e h g = absurd g
same_heading (a ∷ b ∷ c ∷ d ∷ p) (x ∷ y ∷ []) r s e h g = absurd g
same_heading (a ∷ b ∷ c ∷ d ∷ p) (x ∷ y ∷ z ∷ []) r s e h g = absurd g

pub same_piece : (p q r s : List Token) → p ++ r ≡ q ++ s → IsPiece p r → IsPiece q s → (p ≡ q) × (r ≡ s)
same_piece [] q r s e h g = absurd h
same_piece (t ∷ p) [] r s e h g = absurd g
same_piece (t ∷ p) (u ∷ q) r s e h g =
    let tail : p ++ r ≡ q ++ s = cc in
    let head : t ≡ u = cc in
    let begun : GoesOn (begun_with (mark_of t)) q s = subst (λ v. GoesOn (begun_with (mark_of v)) q s) (sym head) g in
    let rest = same_front (begun_with (mark_of t)) p q r s tail h begun in
    let fronts : p ≡ q = rest.0 in
    (cc, rest.1)

no_pieces : (p : List Token) (ps : List (List Token)) → IsPiece p (joined ps) → [] ≡ p ++ joined ps → ⊥
no_pieces [] ps h e = h
no_pieces (t ∷ p) ps h e = cc

pub same_pieces : (ps qs : List (List Token)) → joined ps ≡ joined qs → ArePieces ps → ArePieces qs → ps ≡ qs
same_pieces [] [] e h g = refl
same_pieces [] (q ∷ qs) e h g = absurd (no_pieces q qs g.0 e)
same_pieces (p ∷ ps) [] e h g = absurd (no_pieces p ps h.0 (sym e))
same_pieces (p ∷ ps) (q ∷ qs) e h g =
    let first = same_piece p q (joined ps) (joined qs) e h.0 g.0 in
    let rest : ps ≡ qs = same_pieces ps qs first.1 h.1 g.1 in
    let fronts : p ≡ q = first.0 in
    cc
