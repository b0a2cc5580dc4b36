-- Bytes are read in one way, and what is read is not refused.
use Rattle.std.proofs.Common.{◌≡◌, ◌∙◌, ◌⊎◌, inl, inr, ℕ, true, List, [], ◌∷◌, ◌++◌, Some, None, Ok, refl, sym, ap, subst}
use Rattle.base_core.specs.declared.place.Place.{Place}
use Rattle.reading_tokens.specs.declared.token.Kind.TheVariants as kinds
use Rattle.reading_tokens.specs.declared.token.Token.{Token}
use Rattle.reading_tokens.specs.Tokens.{OneOutcome, token_at}
use Rattle.reading_trees.specs.declared.module.Module.{Module}
use Rattle.reading_trees.specs.declared.module.Unit.{Unit as ModuleUnit}
use Rattle.reading_trees.specs.Laid.{NeverBoth, OneLaid}
use Rattle.reading_modules.specs.declared.fault.LoadWhy.{LoadWhy}
use Rattle.reading_modules.specs.Refusals.{SpelledBy}
use Rattle.reading_units.specs.LawsOfModules.{OneModule, ShallowNotRefused}
use Rattle.reading_pieces.specs.Laws.{OneHeading, OneParting}
use Rattle.reading_pieces.specs.Pieces.{joined}
use Rattle.reading_laws.proofs.Refused.{spelled_never}
use Rattle.reading_laws.proofs.Spelling.{ok_same, spelled_same}
use Rattle.reading_wide_modules.specs.declared.unread.Unread.{Unread}
use Rattle.reading_wide_modules.specs.Alone.{ReadAs, RefusedFor, alone, first_place}
use Rattle.reading_wide_modules.specs.Laws.{OneWide, StrictIsWide, WideIsNotRefused, unread_begins, unread_names, unread_places}
use Rattle.reading_wide_modules.specs.Forms.{brought, readable}
use Rattle.reading_wide_modules.specs.Pieces.{EachRead, InPieces, Parted, is_brought, is_read, is_unread, none_left, unread_as, with_pieces}
use Rattle.reading_wide_modules.specs.Wide.{MisspelledWide, PartsOf, SpelledWide, is_parted, is_whole}
use Rattle.reading_wide_modules.proofs.Frames.{last_two}
use Rattle.reading_wide_modules.proofs.Readings.{read_never, read_same}

some_same : (a b : List ℕ) → Some a ≡ Some b → a ≡ b
some_same a b e = cc

some_not_none : (a : List ℕ) → Some a ≡ None → ⊥
some_not_none a e = absurd (cc)

-- the first of pieces brings a module, and then come the others
record FirstBrought (heading : List Token) (last : Place) (piece : List Token) (pieces : List (List Token)) (names : List (List ℕ)) (units : List ModuleUnit) (unread : List Unread) : Type 0 where
  pub name : List ℕ
  pub others : List (List ℕ)
  pub brings : brought piece ≡ Some name
  pub each : EachRead heading last pieces others units unread
  pub same : names ≡ name ∷ others

-- or it is read
record FirstRead (heading : List Token) (last : Place) (piece : List Token) (pieces : List (List Token)) (names : List (List ℕ)) (units : List ModuleUnit) (unread : List Unread) : Type 0 where
  pub brings_none : brought piece ≡ None
  pub first : Module
  pub more : List ModuleUnit
  pub read : ReadAs (alone heading (readable piece) (first_place (joined pieces) last)) first
  pub each : EachRead heading last pieces names more unread
  pub same : units ≡ first.units ++ more

-- or it is unread
record FirstUnread (heading : List Token) (last : Place) (piece : List Token) (pieces : List (List Token)) (names : List (List ℕ)) (units : List ModuleUnit) (unread : List Unread) : Type 0 where
  pub brings_none : brought piece ≡ None
  pub why : LoadWhy
  pub others : List Unread
  pub refused : RefusedFor (alone heading (readable piece) (first_place (joined pieces) last)) why
  pub each : EachRead heading last pieces names units others
  pub same : unread ≡ unread_as piece why ∷ others

abbrev Taken : List Token → Place → List (List Token) → List (List ℕ) → List ModuleUnit → List Unread → Type 0
Taken heading last [] names units unread = (names ≡ []) × (units ≡ []) × (unread ≡ [])
Taken heading last (piece ∷ pieces) names units unread =
    FirstBrought heading last piece pieces names units unread
    ⊎ (FirstRead heading last piece pieces names units unread ⊎ FirstUnread heading last piece pieces names units unread)

taken : (heading : List Token) (last : Place) (pieces : List (List Token)) (names : List (List ℕ)) (units : List ModuleUnit) (unread : List Unread) → EachRead heading last pieces names units unread
    → Taken heading last pieces names units unread
taken heading last _ _ _ _ none_left = (refl, refl, refl)
taken heading last _ _ _ _ (is_brought piece pieces name names units unread b e) = inl (record { name = name; others = names; brings = b; each = e; same = refl })
taken heading last _ _ _ _ (is_read piece pieces m names units unread b r e) = inr (inl (record { brings_none = b; first = m; more = units; read = r; each = e; same = refl }))
taken heading last _ _ _ _ (is_unread piece pieces why names units unread b r e) = inr (inr (record { brings_none = b; why = why; others = unread; refused = r; each = e; same = refl }))

-- a piece that brings a module is no other
brings_never : (piece : List Token) (name : List ℕ) → brought piece ≡ Some name → brought piece ≡ None → ⊥
brings_never piece name b n = some_not_none name (sym b ∙ n)

-- the same modules and units, and the same pieces unread
record Alike (names : List (List ℕ)) (units : List ModuleUnit) (unread : List Unread) (others : List (List ℕ)) (more : List ModuleUnit) (later : List Unread) : Type 0 where
  pub brought_same : names ≡ others
  pub units_same : units ≡ more
  pub begins_same : unread_begins unread ≡ unread_begins later
  pub places_same : unread_places unread ≡ unread_places later
  pub names_same : unread_names unread ≡ unread_names later

module _ (outcome : OneOutcome) (laid : OneLaid) (never : NeverBoth) (one : OneModule) (deep : ShallowNotRefused) where
  strict_by : (number : ℕ) (bytes : List ℕ) (m n : Module) (unread : List Unread) → SpelledBy number bytes m → SpelledWide number bytes n unread → (n ≡ m) × (unread ≡ [])
  strict_by number bytes m _ _ s (is_whole n t) = (spelled_same outcome laid one number bytes n m t s, refl)
  strict_by number bytes m _ _ s (is_parted n unread why w p) = absurd (spelled_never outcome laid never deep number bytes m why s w)

  pub strict_is_wide : StrictIsWide
  strict_is_wide = strict_by

  never_by : (number : ℕ) (bytes : List ℕ) (m : Module) (unread : List Unread) (why : LoadWhy) → SpelledWide number bytes m unread → MisspelledWide number bytes why → ⊥
  never_by number bytes _ _ why (is_whole m s) w = spelled_never outcome laid never deep number bytes m why s w.misspelled
  never_by number bytes _ _ why (is_parted m unread cause x p) w = w.unparted m unread p

  pub wide_is_not_refused : WideIsNotRefused
  wide_is_not_refused = never_by

  first_same : (heading : List Token) (last : Place) (piece : List Token) (pieces : List (List Token)) (names others : List (List ℕ)) (units more : List ModuleUnit) (unread later : List Unread)
      → Taken heading last (piece ∷ pieces) names units unread → Taken heading last (piece ∷ pieces) others more later
      → ((ns os : List (List ℕ)) (us vs : List ModuleUnit) (un vn : List Unread) → EachRead heading last pieces ns us un → EachRead heading last pieces os vs vn → Alike ns us un os vs vn)
      → Alike names units unread others more later
  first_same heading last piece pieces names others units more unread later (inl h) (inl g) rest =
      let alike = rest h.others g.others units more unread later h.each g.each in
      let name : h.name ≡ g.name = some_same h.name g.name (sym h.brings ∙ g.brings) in
      let others_are : h.others ≡ g.others = alike.brought_same in
      record {
        brought_same = h.same ∙ ap (λ v. v ∷ h.others) name ∙ ap (λ v. g.name ∷ v) others_are ∙ sym g.same;
        units_same = alike.units_same;
        begins_same = alike.begins_same;
        places_same = alike.places_same;
        names_same = alike.names_same;
      }
  first_same heading last piece pieces names others units more unread later (inr (inl h)) (inr (inl g)) rest =
      let alike = rest names others h.more g.more unread later h.each g.each in
      let same : h.first ≡ g.first = read_same laid one (alone heading (readable piece) (first_place (joined pieces) last)) h.first g.first h.read g.read in
      let units_are : h.more ≡ g.more = alike.units_same in
      record {
        brought_same = alike.brought_same;
        units_same = h.same ∙ ap (λ (v : Module). v.units ++ h.more) same ∙ ap (λ v. g.first.units ++ v) units_are ∙ sym g.same;
        begins_same = alike.begins_same;
        places_same = alike.places_same;
        names_same = alike.names_same;
      }
  first_same heading last piece pieces names others units more unread later (inr (inr h)) (inr (inr g)) rest =
      let alike = rest names others units more h.others g.others h.each g.each in
      record {
        brought_same = alike.brought_same;
        units_same = alike.units_same;
        begins_same = ap unread_begins h.same ∙ ap (λ v. (unread_as piece h.why).begins ∷ v) alike.begins_same ∙ sym (ap unread_begins g.same);
        places_same = ap unread_places h.same ∙ ap (λ v. (unread_as piece h.why).at ∷ v) alike.places_same ∙ sym (ap unread_places g.same);
        names_same = ap unread_names h.same ∙ ap (λ v. (unread_as piece h.why).names ∷ v) alike.names_same ∙ sym (ap unread_names g.same);
      }
  first_same heading last piece pieces names others units more unread later (inr (inl h)) (inr (inr g)) rest =
      absurd (read_never laid never deep (alone heading (readable piece) (first_place (joined pieces) last)) h.first g.why h.read g.refused)
  first_same heading last piece pieces names others units more unread later (inr (inr h)) (inr (inl g)) rest =
      absurd (read_never laid never deep (alone heading (readable piece) (first_place (joined pieces) last)) g.first h.why g.read h.refused)
  first_same heading last piece pieces names others units more unread later (inl h) (inr (inl g)) rest = absurd (brings_never piece h.name h.brings g.brings_none)
  first_same heading last piece pieces names others units more unread later (inl h) (inr (inr g)) rest = absurd (brings_never piece h.name h.brings g.brings_none)
  first_same heading last piece pieces names others units more unread later (inr (inl h)) (inl g) rest = absurd (brings_never piece g.name g.brings h.brings_none)
  first_same heading last piece pieces names others units more unread later (inr (inr h)) (inl g) rest = absurd (brings_never piece g.name g.brings h.brings_none)

  each_same : (heading : List Token) (last : Place) (pieces : List (List Token)) (names others : List (List ℕ)) (units more : List ModuleUnit) (unread later : List Unread)
      → EachRead heading last pieces names units unread → EachRead heading last pieces others more later → Alike names units unread others more later
  each_same heading last [] names others units more unread later h g =
      let a = taken heading last [] names units unread h in
      let b = taken heading last [] others more later g in
      let same : unread ≡ later = a.2 ∙ sym b.2 in
      record { brought_same = a.0 ∙ sym b.0; units_same = a.1 ∙ sym b.1; begins_same = ap unread_begins same; places_same = ap unread_places same; names_same = ap unread_names same }
  each_same heading last (piece ∷ pieces) names others units more unread later h g =
      first_same heading last piece pieces names others units more unread later (taken heading last (piece ∷ pieces) names units unread h) (taken heading last (piece ∷ pieces) others more later g)
      (λ ns os us vs un vn a b. each_same heading last pieces ns os us vs un vn a b)

  module _ (headings : OneHeading) (partings : OneParting) where
    parted_same : (body : List Token) (equals : Place) (m n : Module) (unread others : List Unread) → Parted body equals m unread → Parted body equals n others
        → (m ≡ n) × (unread_begins unread ≡ unread_begins others) × (unread_places unread ≡ unread_places others) × (unread_names unread ≡ unread_names others)
    parted_same body equals m n unread others p q =
        let fronts = headings p.heading (joined p.pieces) q.heading (joined q.pieces) (sym p.whole ∙ q.whole) p.begins q.begins in
        let pieces : p.pieces ≡ q.pieces = partings p.pieces q.pieces fronts.1 p.parted q.parted in
        let titled : ReadAs (alone q.heading [] (first_place (joined q.pieces) equals)) p.title =
        subst (λ v. ReadAs (alone v [] (first_place (joined q.pieces) equals)) p.title) fronts.0
        (subst (λ v. ReadAs (alone p.heading [] (first_place v equals)) p.title) fronts.1 p.titled) in
        let title : p.title ≡ q.title = read_same laid one (alone q.heading [] (first_place (joined q.pieces) equals)) p.title q.title titled q.titled in
        let each : EachRead q.heading equals q.pieces p.names p.units unread = subst (λ v. EachRead v equals q.pieces p.names p.units unread) fronts.0 (subst (λ v. EachRead p.heading equals v p.names p.units unread) pieces p.each) in
        let alike = each_same q.heading equals q.pieces p.names q.names p.units q.units unread others each q.each in
        (p.same ∙ ap (λ v. with_pieces v p.names p.units) title ∙ ap (λ v. with_pieces q.title v p.units) alike.brought_same ∙ ap (λ v. with_pieces q.title q.names v) alike.units_same ∙ sym q.same, alike.begins_same, alike.places_same, alike.names_same)

    in_pieces_same : (tokens : List Token) (m n : Module) (unread others : List Unread) → InPieces tokens m unread → InPieces tokens n others
        → (m ≡ n) × (unread_begins unread ≡ unread_begins others) × (unread_places unread ≡ unread_places others) × (unread_names unread ≡ unread_names others)
    in_pieces_same tokens m n unread others p q =
        let same = last_two p.body q.body (token_at kinds.Equals p.equals) (token_at kinds.End p.end) (token_at kinds.Equals q.equals) (token_at kinds.End q.end) (sym p.whole ∙ q.whole) in
        let at : p.equals ≡ q.equals = ap (λ (t : Token). t.place) same.firsts in
        parted_same q.body q.equals m n unread others (subst (λ v. Parted v q.equals m unread) same.fronts (subst (λ v. Parted p.body v m unread) at p.parted)) q.parted

    parts_same : (number : ℕ) (bytes : List ℕ) (m n : Module) (unread others : List Unread) → PartsOf number bytes m unread → PartsOf number bytes n others
        → (m ≡ n) × (unread_begins unread ≡ unread_begins others) × (unread_places unread ≡ unread_places others) × (unread_names unread ≡ unread_names others)
    parts_same number bytes m n unread others p q =
        let tokens : p.tokens ≡ q.tokens = ok_same p.tokens q.tokens (Ok p.tokens) refl (outcome true number bytes (Ok p.tokens) (Ok q.tokens) p.lexed q.lexed) in
        in_pieces_same q.tokens m n unread others (subst (λ v. InPieces v m unread) tokens p.parts) q.parts

    wide_by : (number : ℕ) (bytes : List ℕ) (m n : Module) (unread others : List Unread) → SpelledWide number bytes m unread → SpelledWide number bytes n others
        → (m ≡ n) × (unread_begins unread ≡ unread_begins others) × (unread_places unread ≡ unread_places others) × (unread_names unread ≡ unread_names others)
    wide_by number bytes _ _ _ _ (is_whole m s) (is_whole n t) = (spelled_same outcome laid one number bytes m n s t, refl, refl, refl)
    wide_by number bytes _ _ _ _ (is_whole m s) (is_parted n others why w p) = absurd (spelled_never outcome laid never deep number bytes m why s w)
    wide_by number bytes _ _ _ _ (is_parted m unread why w p) (is_whole n s) = absurd (spelled_never outcome laid never deep number bytes n why s w)
    wide_by number bytes _ _ _ _ (is_parted m unread why w p) (is_parted n others cause x q) = parts_same number bytes m n unread others p q

    pub one_wide : OneWide
    one_wide = wide_by
