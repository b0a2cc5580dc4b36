-- What holds of the units of each text that is read as a whole holds of those of a module that is read in pieces.
use Rattle.std.proofs.Common.{ℕ, Bool, true, false, List, [], ◌∷◌, ◌++◌, sym, subst}
use Rattle.base_core.specs.declared.place.Place.{Place}
use Rattle.reading_tokens.specs.declared.token.Token.{Token}
use Rattle.reading_trees.specs.declared.module.Module.{Module}
use Rattle.reading_trees.specs.declared.module.Unit.{Unit as ModuleUnit}
use Rattle.reading_modules.specs.Refusals.{SpelledBy}
use Rattle.reading_configuration.proofs.TokensHeld.{AllHold, tokens_hold}
use Rattle.reading_pieces.specs.Pieces.{joined}
use Rattle.reading_wide_modules.specs.declared.unread.Unread.{Unread}
use Rattle.reading_wide_modules.specs.Alone.{ReadAs, alone, ending, first_place}
use Rattle.reading_wide_modules.specs.Forms.{readable}
use Rattle.reading_wide_modules.specs.Pieces.{EachRead, InPieces, Parted, is_brought, is_read, is_unread, none_left}
use Rattle.reading_wide_modules.proofs.PieceTokens.{readable_all}
use Rattle.reading_wide_modules.specs.Wide.{PartsOf, SpelledWide, is_parted, is_whole, reading_by}

hold_append : (xs ys : List Token) → AllHold xs → AllHold ys → AllHold (xs ++ ys)
hold_append [] ys h k = k
hold_append (x ∷ xs) ys h k = (h.0, hold_append xs ys h.1 k)

hold_front : (xs ys : List Token) → AllHold (xs ++ ys) → AllHold xs
hold_front [] ys h = tt
hold_front (x ∷ xs) ys h = (h.0, hold_front xs ys h.1)

hold_back : (xs ys : List Token) → AllHold (xs ++ ys) → AllHold ys
hold_back [] ys h = h
hold_back (x ∷ xs) ys h = hold_back xs ys h.1

-- what is read of a piece are tokens of it
hold_readable : (piece : List Token) → AllHold piece → AllHold (readable piece)
hold_readable piece h = readable_all (λ ts. AllHold ts) (λ t ts k. k.1) piece h

hold_alone : (heading piece : List Token) (at : Place) → AllHold heading → AllHold piece → AllHold (alone heading piece at)
hold_alone heading piece at h k = hold_append (heading ++ piece) (ending at at) (hold_append heading piece h k) (tt, (tt, tt))

module _ (Q : List ModuleUnit → Type 0) (none : Q []) (both : (us vs : List ModuleUnit) → Q us → Q vs → Q (us ++ vs)) (read : (tokens : List Token) (m : Module) → ReadAs tokens m → AllHold tokens → Q m.units) (whole : (number : ℕ) (bytes : List ℕ) (m : Module) → SpelledBy number bytes m → Q m.units) where
  each_good : (heading : List Token) (last : Place) (pieces : List (List Token)) (names : List (List ℕ)) (units : List ModuleUnit) (unread : List Unread)
      → EachRead heading last pieces names units unread → AllHold heading → AllHold (joined pieces) → Q units
  each_good heading last _ _ _ _ none_left h k = none
  each_good heading last _ _ _ _ (is_brought piece pieces name names units unread b e) h k =
      each_good heading last pieces names units unread e h (hold_back piece (joined pieces) k)
  each_good heading last _ _ _ _ (is_read piece pieces m names units unread b r e) h k =
      let at : Place = first_place (joined pieces) last in
      let piece_held : AllHold (readable piece) = hold_readable piece (hold_front piece (joined pieces) k) in
      both m.units units (read (alone heading (readable piece) at) m r (hold_alone heading (readable piece) at h piece_held))
      (each_good heading last pieces names units unread e h (hold_back piece (joined pieces) k))
  each_good heading last _ _ _ _ (is_unread piece pieces why names units unread b r e) h k =
      each_good heading last pieces names units unread e h (hold_back piece (joined pieces) k)

  parted_good : (body : List Token) (equals : Place) (m : Module) (unread : List Unread) → Parted body equals m unread → AllHold body → Q m.units
  parted_good body equals m unread p held =
      let parts : AllHold (p.heading ++ joined p.pieces) = subst AllHold p.whole held in
      let heading : AllHold p.heading = hold_front p.heading (joined p.pieces) parts in
      let at : Place = first_place (joined p.pieces) equals in
      subst (λ (v : Module). Q v.units) (sym p.same)
      (both p.title.units p.units (read (alone p.heading [] at) p.title p.titled (hold_alone p.heading [] at heading tt))
      (each_good p.heading equals p.pieces p.names p.units unread p.each heading (hold_back p.heading (joined p.pieces) parts)))

  parts_good : (number : ℕ) (bytes : List ℕ) (m : Module) (unread : List Unread) → PartsOf number bytes m unread → Q m.units
  parts_good number bytes m unread p =
      let held = tokens_hold true number _ _ p.lexed in
      let i : InPieces p.tokens m unread = p.parts in
      parted_good i.body i.equals m unread i.parted (hold_front i.body (ending i.equals i.end) (subst AllHold i.whole held.0))

  wide_good : (number : ℕ) (bytes : List ℕ) (m : Module) (unread : List Unread) → SpelledWide number bytes m unread → Q m.units
  wide_good number bytes _ _ (is_whole m s) = whole number bytes m s
  wide_good number bytes _ _ (is_parted m unread why w p) = parts_good number bytes m unread p

  pub good_by : (wide : Bool) (number : ℕ) (bytes : List ℕ) (m : Module) (unread : List Unread) → (reading_by wide).Spells number bytes m unread → Q m.units
  good_by true number bytes m unread s = wide_good number bytes m unread s
  good_by false number bytes m unread s = whole number bytes m s.0
