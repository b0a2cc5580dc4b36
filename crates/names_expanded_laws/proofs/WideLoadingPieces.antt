-- What is known of the units of a module that is read as a whole is known of those that are read in pieces.
use Rattle.std.proofs.Common.{ℕ, Bool, true, false, List, [], ◌∷◌, ◌++◌, sym, subst}
use Rattle.std.proofs.lemmas.List.Elements.{All-nil}
use Rattle.base_core.specs.declared.place.Place.{Place}
use Rattle.reading_tokens.specs.declared.token.Token.{Token}
use Rattle.reading_trees.specs.declared.module.Module.{Module}
use Rattle.reading_trees.specs.declared.module.Unit.{Unit as ModuleUnit}
use Rattle.reading_machine.specs.LawsOfExtents.{LocalText, LocalDefinition}
use Rattle.names_specification_laws.specs.FormLaws.{ModulesAreFormed}
use Rattle.reading_configuration.proofs.TokensHeld.{AllHold, tokens_hold}
use Rattle.names_load_laws.specs.AnyReading.{SpellsFormed}
use Rattle.names_load_laws.proofs.Named.{module_named}
use Rattle.names_load_laws.proofs.WellFormed.{IsGood, good_append, module_good}
use Rattle.reading_pieces.specs.Pieces.{joined}
use Rattle.reading_wide_modules.specs.declared.unread.Unread.{Unread}
use Rattle.reading_wide_modules.specs.Alone.{ReadAs, alone, ending, first_place}
use Rattle.reading_wide_modules.specs.Forms.{readable}
use Rattle.reading_wide_modules.specs.Pieces.{EachRead, InPieces, Parted, is_brought, is_read, is_unread, none_left}
use Rattle.reading_wide_modules.proofs.PieceTokens.{readable_all}
use Rattle.reading_wide_modules.specs.Wide.{PartsOf, SpelledWide, is_parted, is_whole, plain, reading_by, wide}

hold_append : (xs ys : List Token) → AllHold xs → AllHold ys → AllHold (xs ++ ys)
hold_append [] ys h k = k
hold_append (x ∷ xs) ys h k = (h.0, hold_append xs ys h.1 k)

hold_front : (xs ys : List Token) → AllHold (xs ++ ys) → AllHold xs
hold_front [] ys h = tt
hold_front (x ∷ xs) ys h = (h.0, hold_front xs ys h.1)

hold_back : (xs ys : List Token) → AllHold (xs ++ ys) → AllHold ys
hold_back [] ys h = h
hold_back (x ∷ xs) ys h = hold_back xs ys h.1

-- what is read of a piece are tokens of it
hold_readable : (piece : List Token) → AllHold piece → AllHold (readable piece)
hold_readable piece h = readable_all (λ ts. AllHold ts) (λ t ts k. k.1) piece h

hold_alone : (heading piece : List Token) (at : Place) → AllHold heading → AllHold piece → AllHold (alone heading piece at)
hold_alone heading piece at h k = hold_append (heading ++ piece) (ending at at) (hold_append heading piece h k) (tt, (tt, tt))

module _ (forms : ModulesAreFormed) (local : LocalText) (definition : LocalDefinition) where
  read_good : (tokens : List Token) (m : Module) → ReadAs tokens m → AllHold tokens → IsGood m.units
  read_good tokens m r held =
      (forms m r.laid r.spells, module_named local definition m r.laid r.spells (subst AllHold (sym r.marked.same) held))

  each_good : (heading : List Token) (last : Place) (pieces : List (List Token)) (names : List (List ℕ)) (units : List ModuleUnit) (unread : List Unread)
      → EachRead heading last pieces names units unread → AllHold heading → AllHold (joined pieces) → IsGood units
  each_good heading last _ _ _ _ none_left h k = (tt, All-nil _)
  each_good heading last _ _ _ _ (is_brought piece pieces name names units unread b e) h k =
      each_good heading last pieces names units unread e h (hold_back piece (joined pieces) k)
  each_good heading last _ _ _ _ (is_read piece pieces m names units unread b r e) h k =
      let at : Place = first_place (joined pieces) last in
      let piece_held : AllHold (readable piece) = hold_readable piece (hold_front piece (joined pieces) k) in
      good_append m.units units (read_good (alone heading (readable piece) at) m r (hold_alone heading (readable piece) at h piece_held))
      (each_good heading last pieces names units unread e h (hold_back piece (joined pieces) k))
  each_good heading last _ _ _ _ (is_unread piece pieces why names units unread b r e) h k =
      each_good heading last pieces names units unread e h (hold_back piece (joined pieces) k)

  parted_good : (body : List Token) (equals : Place) (m : Module) (unread : List Unread) → Parted body equals m unread → AllHold body → IsGood m.units
  parted_good body equals m unread p held =
      let parts : AllHold (p.heading ++ joined p.pieces) = subst AllHold p.whole held in
      let heading : AllHold p.heading = hold_front p.heading (joined p.pieces) parts in
      let at : Place = first_place (joined p.pieces) equals in
      subst (λ (v : Module). IsGood v.units) (sym p.same)
      (good_append p.title.units p.units (read_good (alone p.heading [] at) p.title p.titled (hold_alone p.heading [] at heading tt))
      (each_good p.heading equals p.pieces p.names p.units unread p.each heading (hold_back p.heading (joined p.pieces) parts)))

  parts_good : (number : ℕ) (bytes : List ℕ) (m : Module) (unread : List Unread) → PartsOf number bytes m unread → IsGood m.units
  parts_good number bytes m unread p =
      let held = tokens_hold true number _ _ p.lexed in
      let i : InPieces p.tokens m unread = p.parts in
      parted_good i.body i.equals m unread i.parted (hold_front i.body (ending i.equals i.end) (subst AllHold i.whole held.0))

  wide_good : (number : ℕ) (bytes : List ℕ) (m : Module) (unread : List Unread) → SpelledWide number bytes m unread → IsGood m.units
  wide_good number bytes _ _ (is_whole m s) = module_good forms local definition number bytes m s
  wide_good number bytes _ _ (is_parted m unread why w p) = parts_good number bytes m unread p

  wide_spells : SpellsFormed wide
  wide_spells = record {
    formed = λ number bytes m unread s. (wide_good number bytes m unread s).0;
    named = λ number bytes m unread s. (wide_good number bytes m unread s).1;
  }

  plain_spells : SpellsFormed plain
  plain_spells = record {
    formed = λ number bytes m unread s. (module_good forms local definition number bytes m s.0).0;
    named = λ number bytes m unread s. (module_good forms local definition number bytes m s.0).1;
  }

  pub spells_by : (word : Bool) → SpellsFormed (reading_by word)
  spells_by true = wide_spells
  spells_by false = plain_spells
