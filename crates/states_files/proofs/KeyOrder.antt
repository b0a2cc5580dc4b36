-- The keys of an object that is read ascend.
use Rattle.std.proofs.Common.{◌≡◌, ℕ, List, Option, Some, None, Ordering, Less, Equal, Greater, refl, sym, ap, ◌∙◌, subst, option_map, option_and_then}
use Rattle.std.specs.Cmp.Lexicographic.{slice_cmp, nat_list_cmp_total}
use Rattle.std.specs.Ordering.{nat_cmp, match_ordering, ordering_reverse}
use Rattle.json.specs.Json as json
use Rattle.json.specs.Lex.{tokens}
use Rattle.json.specs.Token.{Token}
use Rattle.serde_json.specs.Data.{Data, null, boolean, number, string, array, object, Members, no_members, member, put}
use Rattle.serde_json.specs.Read.{max_depth, number_of, of_json, of_items, of_members}
use Rattle.states_files.specs.Lines.{IsObject}
use Rattle.states_files.specs.Laws.{Ascend, KeysAbove, KeysAscend}

-- what is below m is below all that is above m
below : (k m : List ℕ) (ms : Members) → slice_cmp nat_cmp k m ≡ Less → KeysAbove m ms → KeysAbove k ms
below k m no_members e h = tt
below k m (member l d ms) e h = (nat_list_cmp_total.trans k m l e h.0, below k m ms e h.1)

above_each : (o : Ordering) (l k m : List ℕ) (d f : Data) (ms more : Members) → slice_cmp nat_cmp l k ≡ Less → KeysAbove l (member m f ms) → KeysAbove l more
    → KeysAbove l (match_ordering o (member k d (member m f ms)) (member m d ms) (member m f more))
above_each Less l k m d f ms more e h n = (e, h)
above_each Equal l k m d f ms more e h n = h
above_each Greater l k m d f ms more e h n = (h.0, n)

above_put : (l k : List ℕ) (d : Data) (ms : Members) → slice_cmp nat_cmp l k ≡ Less → KeysAbove l ms → KeysAbove l (put k d ms)
above_put l k d no_members e h = (e, tt)
above_put l k d (member m f ms) e h = above_each (slice_cmp nat_cmp k m) l k m d f ms (put k d ms) e h (above_put l k d ms e h.1)

ascend_each : (o : Ordering) (k m : List ℕ) (d f : Data) (ms more : Members) → slice_cmp nat_cmp k m ≡ o → Ascend (member m f ms) → (slice_cmp nat_cmp m k ≡ Less → KeysAbove m more) → Ascend more
    → Ascend (match_ordering o (member k d (member m f ms)) (member m d ms) (member m f more))
ascend_each Less k m d f ms more e h n a = ((e, below k m ms e h.0), h)
ascend_each Equal k m d f ms more e h n a = h
ascend_each Greater k m d f ms more e h n a = (n (nat_list_cmp_total.antisymm m k ∙ ap ordering_reverse e), a)

ascend_put : (k : List ℕ) (d : Data) (ms : Members) → Ascend ms → Ascend (put k d ms)
ascend_put k d no_members h = (tt, tt)
ascend_put k d (member m f ms) h = ascend_each (slice_cmp nat_cmp k m) k m d f ms (put k d ms) refl h (λ e. above_put m k d ms e h.0) (ascend_put k d ms h.1)

by_value : (o : Option Data) (f : Data → Option Members) (ms : Members) → ((d : Data) → f d ≡ Some ms → Ascend ms) → option_and_then f o ≡ Some ms → Ascend ms
by_value None f ms h e = absurd cc
by_value (Some d) f ms h e = h d e

members_ascend : (js : json.Members) (found ms : Members) → Ascend found → of_members js found ≡ Some ms → Ascend ms
members_ascend json.no_members found ms h e = let same : found ≡ ms = cc in subst Ascend same h
members_ascend (json.member k j js) found ms h e =
    by_value (of_json j) (λ (d : Data). of_members js (put k d found)) ms (λ d q. members_ascend js (put k d found) ms (ascend_put k d found h) q) e

object_ascends : (o : Option Members) (ms : Members) → ((fs : Members) → o ≡ Some fs → Ascend fs) → option_map object o ≡ Some (object ms) → Ascend ms
object_ascends None ms h e = absurd cc
object_ascends (Some fs) ms h e = let same : fs ≡ ms = cc in subst Ascend same (h fs refl)

no_object : {A : Type 0} (f : A → Data) (o : Option A) (ms : Members) → ((a : A) → ¬ (f a ≡ object ms)) → ¬ (option_map f o ≡ Some (object ms))
no_object f None ms n e = cc
no_object f (Some a) ms n e = let same : f a ≡ object ms = cc in n a same

json_ascends : (j : json.Json) (ms : Members) → of_json j ≡ Some (object ms) → Ascend ms
json_ascends json.null ms e = absurd cc
json_ascends (json.boolean b) ms e = absurd cc
json_ascends (json.number s) ms e = absurd (no_object number (number_of s) ms (λ n q. cc) e)
json_ascends (json.string s) ms e = absurd cc
json_ascends (json.array js) ms e = absurd (no_object array (of_items js) ms (λ n q. cc) e)
json_ascends (json.object js) ms e = object_ascends (of_members js no_members) ms (λ fs q. members_ascend js no_members fs tt q) e

some_ascends : (o : Option json.Json) (ms : Members) → option_and_then of_json o ≡ Some (object ms) → Ascend ms
some_ascends None ms e = absurd cc
some_ascends (Some j) ms e = json_ascends j ms e

pub keys_ascend : KeysAscend
keys_ascend line ms h = some_ascends (option_and_then (λ (p : json.Json × List Token). json.if_last p.0 p.1) (json.value max_depth (tokens line))) ms h.1
