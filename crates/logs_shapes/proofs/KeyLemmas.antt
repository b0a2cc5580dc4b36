-- What stands at each key of a line among members that have no other key, and that two objects with the same at each key have one shape.
use Rattle.std.proofs.Common.{◌≡◌, ℕ, List, Bool, false, true, Option, None, Some, Ordering, Less, Equal, Greater, refl, true≢false, sym, ap, ◌∙◌, Result, Ok, Err, OnOk}
use Rattle.std.specs.Prelude.{⊤, codes, if◌then◌else◌}
use Rattle.std.proofs.lemmas.Slice.Eq.{bytes_eq-Decides}
use Rattle.std.specs.Ordering.{nat_cmp, match_ordering}
use Rattle.std.specs.Cmp.Lexicographic.{slice_cmp}
use Rattle.std.specs.Str.{bytes_eq}
use Rattle.serde_json.specs.Data.{Data, Members, no_members, put}
use Rattle.serde_json.specs.Find.{get_member}
use Rattle.json.specs.Token.{Token}
use Rattle.serde_json.proofs.Views.{get_member-put, get_member-put_other}
use Rattle.logs_shapes.specs.Keys.{content, key_text}
use Rattle.logs_shapes.specs.Fills.{Fills, ReadsAt}
use Rattle.logs_shapes.specs.Objects.{AgreeAtKeys, PutsAt, keyed, with_some}
use Rattle.logs_shapes.specs.Shapes.{shape_of}
use Rattle.logs_shapes.specs.declared.key.Key.{Key}
use Rattle.logs_shapes.specs.declared.key.Key.TheVariants as key

abbrev IsOther : Ordering → Type 0
IsOther Less = ⊤
IsOther Equal = ⊥
IsOther Greater = ⊤

passed : (o : Ordering) (rest found : Option Data) → IsOther o → match_ordering o rest found rest ≡ rest
passed Less rest found h = refl
passed Equal rest found h = absurd h
passed Greater rest found h = refl

skip : (q k : List ℕ) (o : Option Data) (ms : Members) → IsOther (slice_cmp nat_cmp q k) → get_member q (with_some k o ms) ≡ get_member q ms
unfolding with_some
skip q k None ms h = refl
skip q k (Some d) ms h = passed (slice_cmp nat_cmp q k) (get_member q ms) (Some d) h

here : (q : List ℕ) (o : Option Data) (ms : Members) → slice_cmp nat_cmp q q ≡ Equal → get_member q ms ≡ None → get_member q (with_some q o ms) ≡ o
unfolding with_some
here q None ms same rest = rest
here q (Some d) ms same rest = ap (λ o. match_ordering o (get_member q ms) (Some d) (get_member q ms)) same

module _ (init event args clock update see : Option Data) where
  at_see : get_member (codes "see") (with_some (codes "see") see no_members) ≡ see
  at_see = here (codes "see") see no_members refl refl

  -- what stands behind the keys before one
  pub keyed-see : content key.See (keyed init event args clock update see) ≡ see
  unfolding keyed
  keyed-see =
      skip (codes "see") (codes "init") init _ tt ∙ skip (codes "see") (codes "event") event _ tt ∙ skip (codes "see") (codes "args") args _ tt ∙ skip (codes "see") (codes "clock") clock _ tt ∙ skip (codes "see") (codes "update") update _ tt ∙ at_see

  pub keyed-update : content key.Update (keyed init event args clock update see) ≡ update
  unfolding keyed
  keyed-update =
      skip (codes "update") (codes "init") init _ tt ∙ skip (codes "update") (codes "event") event _ tt ∙ skip (codes "update") (codes "args") args _ tt ∙ skip (codes "update") (codes "clock") clock _ tt
      ∙ here (codes "update") update _ refl (skip (codes "update") (codes "see") see no_members tt)

  pub keyed-clock : content key.Clock (keyed init event args clock update see) ≡ clock
  unfolding keyed
  keyed-clock =
      skip (codes "clock") (codes "init") init _ tt ∙ skip (codes "clock") (codes "event") event _ tt ∙ skip (codes "clock") (codes "args") args _ tt
      ∙ here (codes "clock") clock _ refl (skip (codes "clock") (codes "update") update _ tt ∙ skip (codes "clock") (codes "see") see no_members tt)

  pub keyed-args : content key.Args (keyed init event args clock update see) ≡ args
  unfolding keyed
  keyed-args =
      skip (codes "args") (codes "init") init _ tt ∙ skip (codes "args") (codes "event") event _ tt
      ∙ here (codes "args") args _ refl (skip (codes "args") (codes "clock") clock _ tt ∙ skip (codes "args") (codes "update") update _ tt ∙ skip (codes "args") (codes "see") see no_members tt)

  pub keyed-event : content key.Event (keyed init event args clock update see) ≡ event
  unfolding keyed
  keyed-event =
      skip (codes "event") (codes "init") init _ tt
      ∙ here (codes "event") event _ refl (skip (codes "event") (codes "args") args _ tt ∙ skip (codes "event") (codes "clock") clock _ tt ∙ skip (codes "event") (codes "update") update _ tt ∙ skip (codes "event") (codes "see") see no_members tt)

  pub keyed-init : content key.Init (keyed init event args clock update see) ≡ init
  unfolding keyed
  keyed-init =
      here (codes "init") init _ refl
      (skip (codes "init") (codes "event") event _ tt ∙ skip (codes "init") (codes "args") args _ tt ∙ skip (codes "init") (codes "clock") clock _ tt ∙ skip (codes "init") (codes "update") update _ tt ∙ skip (codes "init") (codes "see") see no_members tt)

  -- members that have these contents at the keys of a line agree with those that have no others
  pub agree_by_keys : (ms : Members) → content key.Init ms ≡ init → content key.Event ms ≡ event → content key.Args ms ≡ args → content key.Clock ms ≡ clock
      → content key.Update ms ≡ update → content key.See ms ≡ see → AgreeAtKeys ms (keyed init event args clock update see)
  agree_by_keys ms i e a c u s key.Init = i ∙ sym keyed-init
  agree_by_keys ms i e a c u s key.Event = e ∙ sym keyed-event
  agree_by_keys ms i e a c u s key.Args = a ∙ sym keyed-args
  agree_by_keys ms i e a c u s key.Clock = c ∙ sym keyed-clock
  agree_by_keys ms i e a c u s key.Update = u ∙ sym keyed-update
  agree_by_keys ms i e a c u s key.See = s ∙ sym keyed-see

module _ (d : Data) (init event args clock update see : Option Data) where
  pub put-init : PutsAt (key_text key.Init) d (keyed init event args clock update see) (keyed (Some d) event args clock update see)
  put-init key.Init = keyed-init (Some d) event args clock update see
  put-init key.Event = keyed-event (Some d) event args clock update see ∙ sym (keyed-event init event args clock update see)
  put-init key.Args = keyed-args (Some d) event args clock update see ∙ sym (keyed-args init event args clock update see)
  put-init key.Clock = keyed-clock (Some d) event args clock update see ∙ sym (keyed-clock init event args clock update see)
  put-init key.Update = keyed-update (Some d) event args clock update see ∙ sym (keyed-update init event args clock update see)
  put-init key.See = keyed-see (Some d) event args clock update see ∙ sym (keyed-see init event args clock update see)

  pub put-event : PutsAt (key_text key.Event) d (keyed init event args clock update see) (keyed init (Some d) args clock update see)
  put-event key.Init = keyed-init init (Some d) args clock update see ∙ sym (keyed-init init event args clock update see)
  put-event key.Event = keyed-event init (Some d) args clock update see
  put-event key.Args = keyed-args init (Some d) args clock update see ∙ sym (keyed-args init event args clock update see)
  put-event key.Clock = keyed-clock init (Some d) args clock update see ∙ sym (keyed-clock init event args clock update see)
  put-event key.Update = keyed-update init (Some d) args clock update see ∙ sym (keyed-update init event args clock update see)
  put-event key.See = keyed-see init (Some d) args clock update see ∙ sym (keyed-see init event args clock update see)

  pub put-args : PutsAt (key_text key.Args) d (keyed init event args clock update see) (keyed init event (Some d) clock update see)
  put-args key.Init = keyed-init init event (Some d) clock update see ∙ sym (keyed-init init event args clock update see)
  put-args key.Event = keyed-event init event (Some d) clock update see ∙ sym (keyed-event init event args clock update see)
  put-args key.Args = keyed-args init event (Some d) clock update see
  put-args key.Clock = keyed-clock init event (Some d) clock update see ∙ sym (keyed-clock init event args clock update see)
  put-args key.Update = keyed-update init event (Some d) clock update see ∙ sym (keyed-update init event args clock update see)
  put-args key.See = keyed-see init event (Some d) clock update see ∙ sym (keyed-see init event args clock update see)

  pub put-clock : PutsAt (key_text key.Clock) d (keyed init event args clock update see) (keyed init event args (Some d) update see)
  put-clock key.Init = keyed-init init event args (Some d) update see ∙ sym (keyed-init init event args clock update see)
  put-clock key.Event = keyed-event init event args (Some d) update see ∙ sym (keyed-event init event args clock update see)
  put-clock key.Args = keyed-args init event args (Some d) update see ∙ sym (keyed-args init event args clock update see)
  put-clock key.Clock = keyed-clock init event args (Some d) update see
  put-clock key.Update = keyed-update init event args (Some d) update see ∙ sym (keyed-update init event args clock update see)
  put-clock key.See = keyed-see init event args (Some d) update see ∙ sym (keyed-see init event args clock update see)

  pub put-update : PutsAt (key_text key.Update) d (keyed init event args clock update see) (keyed init event args clock (Some d) see)
  put-update key.Init = keyed-init init event args clock (Some d) see ∙ sym (keyed-init init event args clock update see)
  put-update key.Event = keyed-event init event args clock (Some d) see ∙ sym (keyed-event init event args clock update see)
  put-update key.Args = keyed-args init event args clock (Some d) see ∙ sym (keyed-args init event args clock update see)
  put-update key.Clock = keyed-clock init event args clock (Some d) see ∙ sym (keyed-clock init event args clock update see)
  put-update key.Update = keyed-update init event args clock (Some d) see
  put-update key.See = keyed-see init event args clock (Some d) see ∙ sym (keyed-see init event args clock update see)

  pub put-see : PutsAt (key_text key.See) d (keyed init event args clock update see) (keyed init event args clock update (Some d))
  put-see key.Init = keyed-init init event args clock update (Some d) ∙ sym (keyed-init init event args clock update see)
  put-see key.Event = keyed-event init event args clock update (Some d) ∙ sym (keyed-event init event args clock update see)
  put-see key.Args = keyed-args init event args clock update (Some d) ∙ sym (keyed-args init event args clock update see)
  put-see key.Clock = keyed-clock init event args clock update (Some d) ∙ sym (keyed-clock init event args clock update see)
  put-see key.Update = keyed-update init event args clock update (Some d) ∙ sym (keyed-update init event args clock update see)
  put-see key.See = keyed-see init event args clock update (Some d)

-- at no key of a line nothing changes
pub put-other : (name : List ℕ) (d : Data) (ms : Members) → ((k : Key) → bytes_eq name (key_text k) ≡ false) → PutsAt name d ms ms
put-other name d ms other k = rw (other k) refl

put_at : (name : List ℕ) (d : Data) (ms old : Members) (k : Key) → content k ms ≡ content k old → (b : Bool) → bytes_eq name (key_text k) ≡ b
    → content k (put name d ms) ≡ (if b then Some d else content k old)
put_at name d ms old k agree true e = ap (λ (q : List ℕ). get_member q (put name d ms)) (sym ((bytes_eq-Decides name (key_text k)).0 e)) ∙ get_member-put name d ms
put_at name d ms old k agree false e =
    get_member-put_other (key_text k) name d ms (λ (h : key_text k ≡ name). true≢false (sym ((bytes_eq-Decides name (key_text k)).1 (sym h)) ∙ e)) ∙ agree

-- what is put among all members is put among those at the keys of a line
pub put_agrees : (name : List ℕ) (d : Data) (ms old new : Members) → AgreeAtKeys ms old → PutsAt name d old new → AgreeAtKeys (put name d ms) new
put_agrees name d ms old new agree puts k = put_at name d ms old k (agree k) (bytes_eq name (key_text k)) refl ∙ sym (puts k)

-- objects with the same at each key of a line have one shape
pub one_shape : (ms others : Members) → AgreeAtKeys ms others → shape_of ms ≡ shape_of others
one_shape ms others agree = rw (agree key.Init, agree key.Event, agree key.Args, agree key.Clock, agree key.Update, agree key.See) refl

-- ---- a value that is read and put at a key

on_ok : {A E P Q : Type 0} (r : Result A E) → OnOk r P → (P → Q) → OnOk r Q
on_ok (Ok x) h f = f h
on_ok (Err e) h f = h

module _ {A E : Type 0} (r : Result A E) (before behind : List Token) (o init event args clock update see : Option Data) where
  pub reads-init : OnOk r (Fills before o behind) → OnOk r (ReadsAt (key_text key.Init) before behind (keyed init event args clock update see) (keyed o event args clock update see))
  reads-init h = on_ok r h (λ f. (f.0, f.2, rw f.1 (put-init f.0 init event args clock update see)))

  pub reads-event : OnOk r (Fills before o behind) → OnOk r (ReadsAt (key_text key.Event) before behind (keyed init event args clock update see) (keyed init o args clock update see))
  reads-event h = on_ok r h (λ f. (f.0, f.2, rw f.1 (put-event f.0 init event args clock update see)))

  pub reads-args : OnOk r (Fills before o behind) → OnOk r (ReadsAt (key_text key.Args) before behind (keyed init event args clock update see) (keyed init event o clock update see))
  reads-args h = on_ok r h (λ f. (f.0, f.2, rw f.1 (put-args f.0 init event args clock update see)))

  pub reads-clock : OnOk r (Fills before o behind) → OnOk r (ReadsAt (key_text key.Clock) before behind (keyed init event args clock update see) (keyed init event args o update see))
  reads-clock h = on_ok r h (λ f. (f.0, f.2, rw f.1 (put-clock f.0 init event args clock update see)))

  pub reads-update : OnOk r (Fills before o behind) → OnOk r (ReadsAt (key_text key.Update) before behind (keyed init event args clock update see) (keyed init event args clock o see))
  reads-update h = on_ok r h (λ f. (f.0, f.2, rw f.1 (put-update f.0 init event args clock update see)))

  pub reads-see : OnOk r (Fills before o behind) → OnOk r (ReadsAt (key_text key.See) before behind (keyed init event args clock update see) (keyed init event args clock update o))
  reads-see h = on_ok r h (λ f. (f.0, f.2, rw f.1 (put-see f.0 init event args clock update see)))
