-- The states of the reader of a unit's definition: in its head, or in an expression over the one row that is open at the bottom.
use Rattle.std.proofs.Common.{◌≡◌, ◌⊎◌, ℕ, List, [], ◌∷◌, ◌++◌, append_assoc, inl, inr, refl, sym, ap, subst, ◌∙◌}
use Rattle.std.proofs.lemmas.List.{append-nil}
use Rattle.base_core.specs.declared.place.Place.{Place}
use Rattle.reading_trees.specs.declared.laid.Laid.{Laid}
use Rattle.reading_trees.specs.declared.laid.Laid.TheVariants.{Plain, ListOpen, ListItem, ListClose}
use Rattle.reading_tokens.specs.declared.token.Kind.{Kind}
use Rattle.reading_tokens.specs.declared.token.Kind.TheVariants as kinds
use Rattle.reading_tokens.specs.declared.token.Word.{Word}
use Rattle.reading_tokens.specs.declared.token.Word.TheVariants as words
use Rattle.reading_tokens.specs.declared.token.Symbol.{Symbol}
use Rattle.reading_tokens.specs.declared.token.Symbol.TheVariants as symbols
use Rattle.reading_trees.specs.Trees.{Tree, Bounds, MoreBounds}
use Rattle.reading_machine.specs.declared.frame.Scope.{Scope}
use Rattle.reading_machine.specs.declared.frame.Scope.TheVariants as scopes
use Rattle.reading_machine.specs.declared.frame.Binder.{Binder}
use Rattle.reading_machine.specs.declared.frame.Binder.TheVariants as binders
use Rattle.reading_machine.specs.declared.frame.Binding.{Binding}
use Rattle.reading_machine.specs.declared.frame.Form.{Form}
use Rattle.reading_machine.specs.declared.frame.Frame.{Frame}
use Rattle.reading_machine.specs.declared.frame.Frame.TheVariants as frame
use Rattle.reading_machine.specs.declared.frame.Mode.{Mode}
use Rattle.reading_machine.specs.declared.frame.Mode.TheVariants as mode
use Rattle.reading_machine.specs.Machine.{Stepped, Reads, Stops, Clashes, Ends, EndsDefinition, bound_named, definition_named, parameter_named, defined_as, binder_close, bound_close, word_closes, kind_closes, closes, step}
use Rattle.reading_machine.specs.OpenRows.{FrameText}
use Rattle.reading_machine.proofs.Beginning.{on_name_good, on_symbol_good}
use Rattle.reading_machine.proofs.Opened.{Opened, Good}
use Rattle.reading_machine.proofs.Paths.{Path}
use Rattle.reading_machine.proofs.Stepping.{reads_good}
use Rattle.reading_machine.proofs.DefinitionSteps.{Waits, over, step_over}

-- ---- where a unit's definition is open

abbrev pub OfUnit : Scope → Type 0
OfUnit (scopes.Let at ds) = ⊥
OfUnit scopes.Unit = Unit {0}

abbrev pub BindsUnit : Binder → Type 0
BindsUnit (binders.Defined s n p q) = OfUnit s
BindsUnit _ = ⊥

-- what is expected in the head
abbrev pub InHead : Mode → Type 0
InHead (mode.DefinitionName s) = OfUnit s
InHead (mode.DefinitionNamed s n p) = OfUnit s
InHead (mode.Parameter s n p ns) = OfUnit s
InHead (mode.ParameterNamed s n p ns) = OfUnit s
InHead (mode.DefinedAs s n p form) = OfUnit s
InHead (mode.BoundName b ns) = BindsUnit b.binder
InHead (mode.BoundNamed b ns) = BindsUnit b.binder
InHead _ = ⊥

-- the row at the bottom
abbrev pub IsBottom : Frame → Type 0
IsBottom (frame.BoundSet b ns) = BindsUnit b.binder
IsBottom (frame.DefinitionBody s n p form) = OfUnit s
IsBottom _ = ⊥

pub bottom_waits : (b : Frame) → IsBottom b → Waits b
bottom_waits (frame.BoundSet b ns) i = record { delivers = λ e. refl; operator = λ o at e. refl; settles = λ c e. refl; free = refl }
bottom_waits (frame.DefinitionBody s n p form) i = record { delivers = λ e. refl; operator = λ o at e. refl; settles = λ c e. refl; free = refl }
bottom_waits _ i = absurd i

-- ---- states

pub record Head (fs : List Frame) (m : Mode) : Type 0 where
  pub empty : fs ≡ []
  pub head : InHead m

-- behind the beginning of its row, an expression is read up to here
pub record Inside (read : List Laid) (fs : List Frame) (m : Mode) : Type 0 where
  pub row : Frame
  pub bottom : IsBottom row
  pub before : List Laid
  pub inner : List Laid
  pub whole : read ≡ before ++ inner
  pub text : (r : List Laid) → FrameText row (before ++ r) r
  pub rows : List Frame
  pub frames : fs ≡ rows ++ row ∷ []
  pub path : Path inner [] mode.Want rows m

pub record Reached (read : List Laid) (fs : List Frame) (m : Mode) : Type 0 where
  pub opened : (r : List Laid) → Opened (read ++ r) fs m r
  pub stands : Head fs m ⊎ Inside read fs m

-- ---- a token in the head

-- the row at the bottom has just begun
record Begins (fs : List Frame) (m : Mode) : Type 0 where
  row : Frame
  bottom : IsBottom row
  frames : fs ≡ row ∷ []
  wants : m ≡ mode.Want

abbrev HeadGood : Stepped → Type 0
HeadGood (Reads fs m) = Head fs m ⊎ Begins fs m
HeadGood Stops = Unit {0}
HeadGood (Clashes p q) = ⊥
HeadGood (Ends e) = ⊥
HeadGood (EndsDefinition n p ns form e) = ⊥

in_head : (m : Mode) → InHead m → Head [] m ⊎ Begins [] m
in_head m h = inl (record { empty = refl; head = h })

at_bottom : (f : Frame) → IsBottom f → Head (f ∷ []) mode.Want ⊎ Begins (f ∷ []) mode.Want
at_bottom f i = inr (record { row = f; bottom = i; frames = refl; wants = refl })

bound_head : (b : Binding) (ns : List (List ℕ)) (s : Symbol) → BindsUnit b.binder → HeadGood (bound_named b ns [] s)
bound_head b ns symbols.Comma h = in_head (mode.BoundName b ns) h
bound_head b ns symbols.Member h = at_bottom (frame.BoundSet b ns) h
bound_head b ns _ h = tt

named_head : (c : Scope) (n : List ℕ) (p : Place) (s : Symbol) (q : Place) → OfUnit c → HeadGood (definition_named c n p [] s q)
named_head c n p symbols.Defined q h = inr (record { row = _; bottom = h; frames = refl; wants = refl })
named_head c n p symbols.OpenParenthesis q h = in_head (mode.Parameter c n p []) h
named_head c n p symbols.OpenBracket q h = inl (record { empty = refl; head = h })
named_head c n p _ q h = tt

parameter_head : (c : Scope) (n : List ℕ) (p : Place) (ns : List (List ℕ)) (s : Symbol) → OfUnit c → HeadGood (parameter_named c n p ns [] s)
parameter_head c n p ns symbols.Comma h = in_head (mode.Parameter c n p ns) h
parameter_head c n p ns symbols.CloseParenthesis h = inl (record { empty = refl; head = h })
parameter_head c n p ns _ h = tt

defined_head : (c : Scope) (n : List ℕ) (p : Place) (form : Form) (s : Symbol) → OfUnit c → HeadGood (defined_as c n p form [] s)
defined_head c n p form symbols.Defined h = at_bottom (frame.DefinitionBody c n p form) h
defined_head c n p form _ h = tt

head_good : (x : Laid) (m : Mode) → InHead m → HeadGood (step x [] m)
head_good x (mode.DefinitionName c) h = on_name_good HeadGood x _ _ (λ n p e. in_head (mode.DefinitionNamed c n p) h) tt
head_good x (mode.DefinitionNamed c n p) h = on_symbol_good HeadGood x _ _ (λ s q e. named_head c n p s q h) tt
head_good x (mode.Parameter c n p ns) h = on_name_good HeadGood x _ _ (λ k q e. in_head (mode.ParameterNamed c n p (ns ++ k ∷ [])) h) tt
head_good x (mode.ParameterNamed c n p ns) h = on_symbol_good HeadGood x _ _ (λ s q e. parameter_head c n p ns s h) tt
head_good x (mode.DefinedAs c n p form) h = on_symbol_good HeadGood x _ _ (λ s q e. defined_head c n p form s h) tt
head_good x (mode.BoundName b ns) h = on_name_good HeadGood x _ _ (λ n p e. in_head (mode.BoundNamed b (ns ++ n ∷ [])) h) tt
head_good x (mode.BoundNamed b ns) h = on_symbol_good HeadGood x _ _ (λ s p e. bound_head b ns s h) tt
head_good x _ h = absurd h

-- ---- a token at the row at the bottom, where the expression over it has ended

abbrev BottomGood : Stepped → Type 0
BottomGood (Reads fs m) = Head fs m
BottomGood Stops = Unit {0}
BottomGood (Clashes p q) = ⊥
BottomGood (Ends e) = ⊥
BottomGood (EndsDefinition n p ns form e) = Unit {0}

binder_bottom : (s : Symbol) (c : Binder) (bs : Bounds) → BindsUnit c → BottomGood (binder_close s c bs [])
binder_bottom symbols.CloseBracket (binders.Defined c n p q) bs h = record { empty = refl; head = h }
binder_bottom _ (binders.Defined c n p q) bs h = tt
binder_bottom s _ bs h = absurd h

bound_bottom : (s : Symbol) (b : Binding) (ns : List (List ℕ)) (e : Tree) → BindsUnit b.binder → BottomGood (bound_close s b ns [] e)
bound_bottom symbols.Comma b ns e h = record { empty = refl; head = h }
bound_bottom s b ns e h = binder_bottom s b.binder (MoreBounds b.bounds ns e) h

word_bottom : (w : Word) (b : Binding) (ns : List (List ℕ)) (e : Tree) → BottomGood (word_closes w (frame.BoundSet b ns) [] e)
word_bottom words.Then b ns e = tt
word_bottom words.Else b ns e = tt
word_bottom words.Except b ns e = tt
word_bottom words.In b ns e = tt
word_bottom _ b ns e = tt

kind_bottom : (k : Kind) (q : Place) (b : Binding) (ns : List (List ℕ)) (e : Tree) → BindsUnit b.binder → BottomGood (kind_closes k q (frame.BoundSet b ns) [] e)
kind_bottom (kinds.Symbol s) q b ns e h = bound_bottom s b ns e h
kind_bottom (kinds.Word w) q b ns e h = word_bottom w b ns e
kind_bottom _ q b ns e h = tt

bottom_good : (x : Laid) (b : Frame) (e : Tree) → IsBottom b → BottomGood (closes x (b ∷ []) e)
bottom_good (Plain t) (frame.BoundSet b ns) e i = kind_bottom t.kind t.place b ns e i
bottom_good (ListOpen c q) (frame.BoundSet b ns) e i = tt
bottom_good (ListItem c q) (frame.BoundSet b ns) e i = tt
bottom_good (ListClose q) (frame.BoundSet b ns) e i = tt
bottom_good x (frame.DefinitionBody (scopes.Let at ds) n p form) e i = absurd i
bottom_good x (frame.DefinitionBody scopes.Unit n p form) e i = tt
bottom_good x _ e i = absurd i

-- ---- a token in every state

next_opened : (read : List Laid) (x : Laid) (fs : List Frame) (m : Mode) (gs : List Frame) (n : Mode) → step x fs m ≡ Reads gs n → ((r : List Laid) → Opened (read ++ r) fs m r) → (r : List Laid) → Opened ((read ++ x ∷ []) ++ r) gs n r
next_opened read x fs m gs n q o r =
    let s : Opened (read ++ x ∷ r) fs m (x ∷ r) = o (x ∷ r) in
    subst (λ v. Opened v gs n r) (sym (append_assoc read (x ∷ []) r))
    (subst (λ v. Good (read ++ x ∷ r) (x ∷ r) r v) q (reads_good (read ++ x ∷ r) r x fs m s.0.0 s.0.1 s.0.2 s.1 s.2))

-- the row at the bottom has begun behind these tokens
inside : (read : List Laid) (gs : List Frame) (n : Mode) → ((r : List Laid) → Opened (read ++ r) gs n r) → Begins gs n → Inside read gs n
inside read gs n o b =
    record {
      row = b.row;
      bottom = b.bottom;
      before = read;
      inner = [];
      whole = sym (append-nil read);
      text = λ r. begun_text r (subst (λ v. Opened (read ++ r) v mode.Want r) b.frames (subst (λ v. Opened (read ++ r) gs v r) b.wants (o r)));
      rows = [];
      frames = b.frames;
      path = (refl, sym b.wants);
    }
  where
    begun_text : (r : List Laid) → Opened (read ++ r) (b.row ∷ []) mode.Want r → FrameText b.row (read ++ r) r
    begun_text r s = subst (λ v. FrameText b.row (read ++ r) v) s.0.2 (subst (λ v. FrameText b.row v s.0.0) (sym s.0.1.1) s.0.1.2)

head_next : (read : List Laid) (x : Laid) (fs : List Frame) (m : Mode) (gs : List Frame) (n : Mode) → step x fs m ≡ Reads gs n → ((r : List Laid) → Opened ((read ++ x ∷ []) ++ r) gs n r) → Head fs m → Head gs n ⊎ Inside (read ++ x ∷ []) gs n
head_next read x fs m gs n q o h = either (subst HeadGood (ap (λ v. step x v m) (sym h.empty) ∙ q) (head_good x m h.head))
  where
    either : Head gs n ⊎ Begins gs n → Head gs n ⊎ Inside (read ++ x ∷ []) gs n
    either (inl k) = inl k
    either (inr k) = inr (inside (read ++ x ∷ []) gs n o k)

pub path_more : (ys : List Laid) (x : Laid) (fs : List Frame) (m : Mode) (gs : List Frame) (n : Mode) (hs : List Frame) (o : Mode) → Path ys fs m gs n → step x gs n ≡ Reads hs o → Path (ys ++ x ∷ []) fs m hs o
path_more [] x fs m gs n hs o p q = (hs, o, ap (λ v. step x v m) p.0 ∙ ap (λ v. step x gs v) p.1 ∙ q, (refl, refl))
path_more (y ∷ ys) x fs m gs n hs o p q = (p.0, p.1, p.2, path_more ys x p.0 p.1 gs n hs o p.3 q)

inside_next : (read : List Laid) (x : Laid) (fs : List Frame) (m : Mode) (gs : List Frame) (n : Mode) → (i : Inside read fs m) → (s : Stepped) → step x i.rows m ≡ s → over i.row (λ e. closes x (i.row ∷ []) e) s ≡ Reads gs n
    → Head gs n ⊎ Inside (read ++ x ∷ []) gs n
inside_next read x fs m gs n i (Reads hs o) p q =
    inr (record {
      row = i.row;
      bottom = i.bottom;
      before = i.before;
      inner = i.inner ++ x ∷ [];
      whole = ap (λ v. v ++ x ∷ []) i.whole ∙ append_assoc i.before i.inner (x ∷ []);
      text = i.text;
      rows = hs;
      frames = sym (frames_of q);
      path = path_more i.inner x [] mode.Want i.rows m hs n i.path (p ∙ ap (λ v. Reads hs v) (mode_of q));
    })
  where
    frames_of : Reads (hs ++ i.row ∷ []) o ≡ Reads gs n → hs ++ i.row ∷ [] ≡ gs
    frames_of q = cc

    mode_of : Reads (hs ++ i.row ∷ []) o ≡ Reads gs n → o ≡ n
    mode_of q = cc
inside_next read x fs m gs n i Stops p q = cc
inside_next read x fs m gs n i (Clashes a b) p q = cc
inside_next read x fs m gs n i (Ends e) p q = inl (subst BottomGood q (bottom_good x i.row e i.bottom))
inside_next read x fs m gs n i (EndsDefinition a b c f e) p q = cc

stands_next : (read : List Laid) (x : Laid) (fs : List Frame) (m : Mode) (gs : List Frame) (n : Mode) → step x fs m ≡ Reads gs n → ((r : List Laid) → Opened ((read ++ x ∷ []) ++ r) gs n r) → Head fs m ⊎ Inside read fs m
    → Head gs n ⊎ Inside (read ++ x ∷ []) gs n
stands_next read x fs m gs n q o (inl h) = head_next read x fs m gs n q o h
stands_next read x fs m gs n q o (inr i) =
    inside_next read x fs m gs n i (step x i.rows m) refl (sym (step_over i.row (bottom_waits i.row i.bottom) x i.rows m) ∙ ap (λ v. step x v m) (sym i.frames) ∙ q)

reached_next : (read : List Laid) (x : Laid) (fs : List Frame) (m : Mode) (gs : List Frame) (n : Mode) → step x fs m ≡ Reads gs n → Reached read fs m → Reached (read ++ x ∷ []) gs n
reached_next read x fs m gs n q s =
    let o : (r : List Laid) → Opened ((read ++ x ∷ []) ++ r) gs n r = next_opened read x fs m gs n q s.opened in
    record { opened = o; stands = stands_next read x fs m gs n q o s.stands }

reached_path : (ys read : List Laid) (fs : List Frame) (m : Mode) (gs : List Frame) (n : Mode) → Path ys fs m gs n → Reached read fs m → Reached (read ++ ys) gs n
reached_path [] read fs m gs n p s = subst (λ v. Reached v gs n) (sym (append-nil read)) (subst (λ v. Reached read gs v) p.1 (subst (λ v. Reached read v m) p.0 s))
reached_path (y ∷ ys) read fs m gs n p s =
    subst (λ v. Reached v gs n) (append_assoc read (y ∷ []) ys) (reached_path ys (read ++ y ∷ []) p.0 p.1 gs n p.3 (reached_next read y fs m p.0 p.1 p.2 s))

-- the state behind tokens that lead there from the name of the definition on
pub definition_reached : (read : List Laid) (gs : List Frame) (n : Mode) → Path read [] (mode.DefinitionName scopes.Unit) gs n → Reached read gs n
definition_reached read gs n p =
    reached_path read [] [] (mode.DefinitionName scopes.Unit) gs n p (record { opened = λ r. ((r, refl, refl), tt, (refl, tt)); stands = inl (record { empty = refl; head = tt }) })

-- ---- clashes

-- the operators of the expression over the row clash
pub record ClashesOver (read : List Laid) (x : Laid) (fs : List Frame) (m : Mode) (p q : Place) : Type 0 where
  pub state : Inside read fs m
  pub clashes : step x state.rows m ≡ Clashes p q

over_clash : (read : List Laid) (x : Laid) (fs : List Frame) (m : Mode) (p q : Place) → (i : Inside read fs m) → (s : Stepped) → step x i.rows m ≡ s → over i.row (λ e. closes x (i.row ∷ []) e) s ≡ Clashes p q → ClashesOver read x fs m p q
over_clash read x fs m p q i (Reads hs o) a c = cc
over_clash read x fs m p q i Stops a c = cc
over_clash read x fs m p q i (Clashes u v) a c = record { state = i; clashes = a ∙ c }
over_clash read x fs m p q i (Ends e) a c = absurd (subst BottomGood c (bottom_good x i.row e i.bottom))
over_clash read x fs m p q i (EndsDefinition u v w f e) a c = cc

clash_stands : (read : List Laid) (x : Laid) (fs : List Frame) (m : Mode) (p q : Place) → step x fs m ≡ Clashes p q → Head fs m ⊎ Inside read fs m → ClashesOver read x fs m p q
clash_stands read x fs m p q c (inl h) = absurd (subst HeadGood (ap (λ v. step x v m) (sym h.empty) ∙ c) (head_good x m h.head))
clash_stands read x fs m p q c (inr i) =
    over_clash read x fs m p q i (step x i.rows m) refl (sym (step_over i.row (bottom_waits i.row i.bottom) x i.rows m) ∙ ap (λ v. step x v m) (sym i.frames) ∙ c)

pub clash_inside : (read : List Laid) (x : Laid) (fs : List Frame) (m : Mode) (p q : Place) → step x fs m ≡ Clashes p q → Reached read fs m → ClashesOver read x fs m p q
clash_inside read x fs m p q c s = clash_stands read x fs m p q c s.stands
