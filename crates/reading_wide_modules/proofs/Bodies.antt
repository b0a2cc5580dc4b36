-- The pieces behind a heading, read one by one.
use Rattle.std.proofs.Common.{◌≡◌, ◌∙◌, inl, inr, ℕ, zero, suc, ◌<◌, List, [], ◌∷◌, ◌++◌, append_assoc, append-nil, length, take, drop, Some, None, refl, sym, ap, subst, arith}
use Rattle.base_core.specs.declared.place.Place.{Place}
use Rattle.reading_tokens.specs.declared.token.Token.{Token}
use Rattle.reading_trees.specs.declared.module.Module.{Module}
use Rattle.reading_trees.specs.declared.module.Unit.{Unit as ModuleUnit}
use Rattle.reading_trees.specs.Laid.{NeverBoth, OneLaid}
use Rattle.reading_units.specs.LawsOfModules.{ShallowNotRefused}
use Rattle.reading_modules.specs.declared.fault.LoadWhy.{LoadWhy}
use Rattle.reading_pieces.specs.Laws.{OneHeading}
use Rattle.reading_pieces.specs.Pieces.{IsHeading, IsPiece, joined}
use Rattle.reading_wide_modules.specs.declared.unread.Unread.{Unread}
use Rattle.reading_wide_modules.specs.Alone.{ReadAs, RefusedFor, alone, first_place}
use Rattle.reading_wide_modules.specs.Forms.{brought, readable}
use Rattle.reading_wide_modules.specs.Parts.{Adds, AddsName, AddsUnits, AddsUnread, GoesBefore, IsBehind, IsUnparted, ReadBody}
use Rattle.reading_wide_modules.specs.Pieces.{none_left, is_brought, is_read, is_unread, Parted, unread_as}
use Rattle.reading_wide_modules.proofs.Readings.{read_never}

rejoined : (n : ℕ) (ts : List Token) → ts ≡ take n ts ++ drop n ts
rejoined zero ts = refl
rejoined (suc n) [] = refl
rejoined (suc n) (t ∷ ts) = ap (λ xs. t ∷ xs) (rejoined n ts)

-- nothing is left
nothing_behind : (heading : List Token) (last : Place) → ReadBody heading last [] [] [] []
nothing_behind heading last = record { pieces = []; whole = refl; parted = tt; each = none_left }

pub before_all : (heading : List Token) (last : Place) (body : List Token) → GoesBefore heading last body body [] [] []
before_all heading last body others more later h = h

pub all_behind : (heading : List Token) (last : Place) (body rest : List Token) (names : List (List ℕ)) (units : List ModuleUnit) (unread : List Unread) → rest ≡ []
    → GoesBefore heading last body rest names units unread → ReadBody heading last body names units unread
all_behind heading last body rest names units unread e h =
    let all : ReadBody heading last body (names ++ []) (units ++ []) (unread ++ []) = h [] [] [] (subst (λ v. ReadBody heading last v [] [] []) (sym e) (nothing_behind heading last)) in
    subst (λ v. ReadBody heading last body v units unread) (append-nil names)
    (subst (λ v. ReadBody heading last body (names ++ []) units v) (append-nil unread)
    (subst (λ v. ReadBody heading last body (names ++ []) v (unread ++ [])) (append-nil units) all))

module _ (heading : List Token) (last : Place) (piece behind rest : List Token) (whole : rest ≡ piece ++ behind) (is_piece : IsPiece piece behind) where
  with_name : (name : List ℕ) (others : List (List ℕ)) (more : List ModuleUnit) (later : List Unread) → brought piece ≡ Some name
      → ReadBody heading last behind others more later → ReadBody heading last rest (name ∷ others) more later
  with_name name others more later b h = record {
    pieces = piece ∷ h.pieces;
    whole = whole ∙ ap (λ v. piece ++ v) h.whole;
    parted = (subst (λ v. IsPiece piece v) h.whole is_piece, h.parted);
    each = is_brought piece h.pieces name others more later b h.each;
  }

  with_read : (m : Module) (others : List (List ℕ)) (more : List ModuleUnit) (later : List Unread) → brought piece ≡ None
      → ReadAs (alone heading (readable piece) (first_place behind last)) m → ReadBody heading last behind others more later
      → ReadBody heading last rest others (m.units ++ more) later
  with_read m others more later b r h = record {
    pieces = piece ∷ h.pieces;
    whole = whole ∙ ap (λ v. piece ++ v) h.whole;
    parted = (subst (λ v. IsPiece piece v) h.whole is_piece, h.parted);
    each = is_read piece h.pieces m others more later b (subst (λ v. ReadAs (alone heading (readable piece) (first_place v last)) m) h.whole r) h.each;
  }

  with_unread : (why : LoadWhy) (others : List (List ℕ)) (more : List ModuleUnit) (later : List Unread) → brought piece ≡ None
      → RefusedFor (alone heading (readable piece) (first_place behind last)) why → ReadBody heading last behind others more later
      → ReadBody heading last rest others more (unread_as piece why ∷ later)
  with_unread why others more later b r h = record {
    pieces = piece ∷ h.pieces;
    whole = whole ∙ ap (λ v. piece ++ v) h.whole;
    parted = (subst (λ v. IsPiece piece v) h.whole is_piece, h.parted);
    each = is_unread piece h.pieces why others more later b (subst (λ v. RefusedFor (alone heading (readable piece) (first_place v last)) why) h.whole r) h.each;
  }

  module _ (body : List Token) (names new_names : List (List ℕ)) (units new_units : List ModuleUnit) (unread new_unread : List Unread) (before : GoesBefore heading last body rest names units unread) where
    more_names : AddsName piece names units unread new_names new_units new_unread → GoesBefore heading last body behind new_names new_units new_unread
    more_names a others more later h =
        let all : ReadBody heading last body (names ++ (a.name ∷ others)) (units ++ more) (unread ++ later) = before (a.name ∷ others) more later (with_name a.name others more later a.is_brought h) in
        let same : names ++ (a.name ∷ others) ≡ new_names ++ others = sym (append_assoc names (a.name ∷ []) others) ∙ ap (λ v. v ++ others) (sym a.added) in
        subst (λ v. ReadBody heading last body (new_names ++ others) (new_units ++ more) (v ++ later)) (sym a.unread_same)
        (subst (λ v. ReadBody heading last body (new_names ++ others) (v ++ more) (unread ++ later)) (sym a.units_same)
        (subst (λ v. ReadBody heading last body v (units ++ more) (unread ++ later)) same all))

    more_units : AddsUnits heading piece (first_place behind last) names units unread new_names new_units new_unread → GoesBefore heading last body behind new_names new_units new_unread
    more_units a others more later h =
        let all : ReadBody heading last body (names ++ others) (units ++ (a.read.units ++ more)) (unread ++ later) = before others (a.read.units ++ more) later (with_read a.read others more later a.brings_none a.is_read h) in
        let same : units ++ (a.read.units ++ more) ≡ new_units ++ more = sym (append_assoc units a.read.units more) ∙ ap (λ v. v ++ more) (sym a.added) in
        subst (λ v. ReadBody heading last body (v ++ others) (new_units ++ more) (new_unread ++ later)) (sym a.names_same)
        (subst (λ v. ReadBody heading last body (names ++ others) (new_units ++ more) (v ++ later)) (sym a.unread_same)
        (subst (λ v. ReadBody heading last body (names ++ others) v (unread ++ later)) same all))

    more_unread : AddsUnread heading piece (first_place behind last) names units unread new_names new_units new_unread → GoesBefore heading last body behind new_names new_units new_unread
    more_unread a others more later h =
        let one = unread_as piece a.why in
        let all : ReadBody heading last body (names ++ others) (units ++ more) (unread ++ (one ∷ later)) = before others more (one ∷ later) (with_unread a.why others more later a.brings_none a.is_refused h) in
        let same : unread ++ (one ∷ later) ≡ new_unread ++ later = sym (append_assoc unread (one ∷ []) later) ∙ ap (λ v. v ++ later) (sym a.added) in
        subst (λ v. ReadBody heading last body (v ++ others) (new_units ++ more) (new_unread ++ later)) (sym a.names_same)
        (subst (λ v. ReadBody heading last body (names ++ others) (v ++ more) (new_unread ++ later)) (sym a.units_same)
        (subst (λ v. ReadBody heading last body (names ++ others) (units ++ more) v) same all))

    more_any : Adds heading piece (first_place behind last) names units unread new_names new_units new_unread → GoesBefore heading last body behind new_names new_units new_unread
    more_any (inl a) = more_names a
    more_any (inr (inl a)) = more_units a
    more_any (inr (inr a)) = more_unread a

pub before_more : (heading : List Token) (last : Place) (body rest piece behind : List Token) (place : Place) (size : ℕ) (names new_names : List (List ℕ)) (units new_units : List ModuleUnit) (unread new_unread : List Unread)
    → GoesBefore heading last body rest names units unread → piece ≡ take size rest → behind ≡ drop size rest → place ≡ first_place behind last
    → IsPiece (take size rest) (drop size rest) → Adds heading piece place names units unread new_names new_units new_unread
    → GoesBefore heading last body behind new_names new_units new_unread
before_more heading last body rest piece behind place size names new_names units new_units unread new_unread before p b at is adds =
    let is_piece : IsPiece piece behind = subst (λ v. IsPiece piece v) (sym b) (subst (λ v. IsPiece v (drop size rest)) (sym p) is) in
    let whole : rest ≡ piece ++ behind = rejoined size rest ∙ ap (λ v. v ++ drop size rest) (sym p) ∙ ap (λ v. piece ++ v) (sym b) in
    more_any heading last piece behind rest whole is_piece body names new_names units new_units unread new_unread before
    (subst (λ v. Adds heading piece v names units unread new_names new_units new_unread) at adds)

-- ---- the heading

pub body_parted : (body heading rest : List Token) (equals place : Place) (size : ℕ) (title m : Module) (unread : List Unread) → heading ≡ take size body → rest ≡ drop size body
    → place ≡ first_place rest equals → IsHeading (take size body) (drop size body) → ReadAs (alone heading [] place) title → IsBehind heading rest equals title m unread
    → Parted body equals m unread
body_parted body heading rest equals place size title m unread h r at is read behind =
    let pieces = behind.read.pieces in
    let begins : IsHeading heading rest = subst (λ v. IsHeading heading v) (sym r) (subst (λ v. IsHeading v (drop size body)) (sym h) is) in
    let whole : body ≡ heading ++ rest = rejoined size body ∙ ap (λ v. v ++ drop size body) (sym h) ∙ ap (λ v. heading ++ v) (sym r) in
    record {
      heading = heading;
      pieces = pieces;
      whole = whole ∙ ap (λ v. heading ++ v) behind.read.whole;
      begins = subst (λ v. IsHeading heading v) behind.read.whole begins;
      parted = behind.read.parted;
      title = title;
      titled = subst (λ v. ReadAs (alone heading [] (first_place v equals)) title) behind.read.whole (subst (λ v. ReadAs (alone heading [] v) title) at read);
      names = behind.names;
      units = behind.units;
      each = behind.read.each;
      same = behind.same;
    }

pub body_unparted : OneHeading → OneLaid → NeverBoth → ShallowNotRefused → (body heading rest : List Token) (equals place : Place) (size : ℕ) (why : LoadWhy) → heading ≡ take size body
    → rest ≡ drop size body → place ≡ first_place rest equals → IsHeading (take size body) (drop size body) → RefusedFor (alone heading [] place) why → IsUnparted body equals
body_unparted one laid never deep body heading rest equals place size why h r at is refused m unread p =
    let begins : IsHeading heading rest = subst (λ v. IsHeading heading v) (sym r) (subst (λ v. IsHeading v (drop size body)) (sym h) is) in
    let whole : body ≡ heading ++ rest = rejoined size body ∙ ap (λ v. v ++ drop size body) (sym h) ∙ ap (λ v. heading ++ v) (sym r) in
    let same = one p.heading (joined p.pieces) heading rest (sym p.whole ∙ whole) p.begins begins in
    let read : ReadAs (alone heading [] (first_place rest equals)) p.title = subst (λ v. ReadAs (alone v [] (first_place rest equals)) p.title) same.0 (subst (λ v. ReadAs (alone p.heading [] (first_place v equals)) p.title) same.1 p.titled) in
    read_never laid never deep (alone heading [] place) p.title why (subst (λ v. ReadAs (alone heading [] v) p.title) (sym at) read) refused

no_short_heading : (heading rest : List Token) → length (heading ++ rest) < 4 → IsHeading heading rest → ⊥
no_short_heading [] rest l h = h
no_short_heading (a ∷ []) rest l h = h
no_short_heading (a ∷ b ∷ []) rest l h = h
no_short_heading (a ∷ b ∷ c ∷ []) rest l h = h
no_short_heading (a ∷ b ∷ c ∷ d ∷ ts) rest l h = absurd (omega arith)

pub short_unparted : (body : List Token) (equals : Place) → length body < 4 → IsUnparted body equals
short_unparted body equals l m unread p = no_short_heading p.heading (joined p.pieces) (subst (λ v. length v < 4) p.whole l) p.begins
