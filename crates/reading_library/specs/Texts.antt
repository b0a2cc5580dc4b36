-- The texts of the library's modules, each under its name. `tools/library` writes them, from docs/library, where they are read more easily.
use Rattle.std.specs.Prelude.{ℕ, List, [], ◌∷◌, codes}
use Rattle.base_core.specs.Device.{File}

unfoldable pub bags : List ℕ
bags = codes "---- MODULE Bags ----\nEXTENDS Naturals, TLC\n\n\\* A bag is a function: of each member how often it belongs.\nIsABag(B) == \\A e \\in DOMAIN B : B[e] \\in Nat /\\ B[e] > 0\n\nBagToSet(B) == DOMAIN B\n\nSetToBag(S) == [e \\in S |-> 1]\n\nBagIn(e, B) == e \\in DOMAIN B\n\nEmptyBag == SetToBag({})\n\nCopiesIn(e, B) == IF BagIn(e, B) THEN B[e] ELSE 0\n\nBagCardinality(B) ==\n    LET Copies[T \\in SUBSET DOMAIN B] ==\n            IF T = {} THEN 0 ELSE LET e == CHOOSE x \\in T : TRUE IN B[e] + Copies[T \\ {e}]\n    IN  Copies[DOMAIN B]\n\n\\* The bag of a set of bags: each member as often as in all of them together.\nBagUnion(S) ==\n    LET Copies[e \\in UNION {DOMAIN B : B \\in S}, T \\in SUBSET S] ==\n            IF T = {} THEN 0 ELSE LET B == CHOOSE C \\in T : TRUE IN CopiesIn(e, B) + Copies[e, T \\ {B}]\n    IN  [e \\in UNION {DOMAIN B : B \\in S} |-> Copies[e, S]]\n\n\\* The bags that have no member more often than B.\nSubBag(B) ==\n    LET Below[T \\in SUBSET DOMAIN B] ==\n            IF T = {}\n            THEN {EmptyBag}\n            ELSE LET e == CHOOSE x \\in T : TRUE\n                     without == Below[T \\ {e}]\n                 IN  without \\cup {C @@ (e :> n) : C \\in without, n \\in 1..B[e]}\n    IN  Below[DOMAIN B]\n====\n"

unfoldable pub bags_ext : List ℕ
bags_ext = codes "---- MODULE BagsExt ----\nEXTENDS Naturals\n\n\\* The bag B with x once more, once less, and not at all.\nBagAdd(B, x) == [e \\in DOMAIN B \\cup {x} |-> IF e \\notin DOMAIN B THEN 1 ELSE IF e = x THEN B[e] + 1 ELSE B[e]]\n\nBagRemoveAll(B, x) == [e \\in DOMAIN B \\ {x} |-> B[e]]\n\nBagRemove(B, x) ==\n    IF x \\notin DOMAIN B\n    THEN B\n    ELSE IF B[x] = 1 THEN BagRemoveAll(B, x) ELSE [B EXCEPT ![x] = B[x] - 1]\n====\n"

unfoldable pub bags_theorems : List ℕ
bags_theorems = codes "---- MODULE BagsTheorems ----\nEXTENDS Bags, FiniteSetTheorems\n====\n"

unfoldable pub finite_set_theorems : List ℕ
finite_set_theorems = codes "---- MODULE FiniteSetTheorems ----\nEXTENDS FiniteSets, Functions, WellFoundedInduction\n====\n"

unfoldable pub finite_sets_ext : List ℕ
finite_sets_ext = codes "---- MODULE FiniteSetsExt ----\nEXTENDS Integers, FiniteSets\n\n\\* The greatest and the least member of a set of numbers.\nMax(S) == CHOOSE x \\in S : \\A y \\in S : y <= x\n\nMin(S) == CHOOSE x \\in S : \\A y \\in S : x <= y\n\n\\* What belongs to one of two sets and not to both.\nSymDiff(A, B) == (A \\ B) \\cup (B \\ A)\n\n\\* The subsets with k members: those with one member less, and one more.\nkSubset(k, S) ==\n    LET OfSize[n \\in 0..k] ==\n            IF n = 0 THEN {{}} ELSE UNION {{T \\cup {x} : x \\in S \\ T} : T \\in OfSize[n - 1]}\n    IN  IF k \\in 0..Cardinality(S) THEN OfSize[k] ELSE {}\n\n\\* The sum and the product of a set of numbers.\nSumSet(S) ==\n    LET Sum[T \\in SUBSET S] ==\n            IF T = {} THEN 0 ELSE LET x == CHOOSE y \\in T : TRUE IN x + Sum[T \\ {x}]\n    IN  Sum[S]\n\nProductSet(S) ==\n    LET Product[T \\in SUBSET S] ==\n            IF T = {} THEN 1 ELSE LET x == CHOOSE y \\in T : TRUE IN x * Product[T \\ {x}]\n    IN  Product[S]\n====\n"

unfoldable pub finite_sets_ext_theorems : List ℕ
finite_sets_ext_theorems = codes "---- MODULE FiniteSetsExtTheorems ----\nEXTENDS FiniteSetsExt, FiniteSetTheorems\n====\n"

unfoldable pub folds : List ℕ
folds = codes "---- MODULE Folds ----\n====\n"

unfoldable pub function_theorems : List ℕ
function_theorems = codes "---- MODULE FunctionTheorems ----\nEXTENDS Functions, Integers\n====\n"

unfoldable pub functions : List ℕ
functions = codes "---- MODULE Functions ----\nEXTENDS Naturals, FiniteSets\n\nRestrict(f, S) == [x \\in S |-> f[x]]\n\nIsRestriction(f, g) == DOMAIN f \\subseteq DOMAIN g /\\ \\A x \\in DOMAIN f : f[x] = g[x]\n\nRange(f) == {f[x] : x \\in DOMAIN f}\n\n\\* What f, from S, leads back from T: of t an s with f[s] = t, where there is one.\nInverse(f, S, T) == [t \\in T |-> CHOOSE s \\in S : t \\in Range(f) => f[s] = t]\n\nAntiFunction(f) == Inverse(f, DOMAIN f, Range(f))\n\nIsInjective(f) == \\A x, y \\in DOMAIN f : f[x] = f[y] => x = y\n\nInjection(S, T) == {f \\in [S -> T] : IsInjective(f)}\n\nSurjection(S, T) == {f \\in [S -> T] : T \\subseteq Range(f)}\n\nBijection(S, T) == {f \\in Injection(S, T) : T \\subseteq Range(f)}\n\n\\* Whether there is such a function, told by the sizes of finite sets.\nExistsInjection(S, T) == Cardinality(S) <= Cardinality(T)\n\nExistsSurjection(S, T) == Cardinality(T) <= Cardinality(S) /\\ (T = {} => S = {})\n\nExistsBijection(S, T) == Cardinality(S) = Cardinality(T)\n====\n"

unfoldable pub jections : List ℕ
jections = codes "---- MODULE Jections ----\n====\n"

unfoldable pub naturals_induction : List ℕ
naturals_induction = codes "---- MODULE NaturalsInduction ----\nEXTENDS Integers, TLAPS\n====\n"

unfoldable pub sequence_theorems : List ℕ
sequence_theorems = codes "---- MODULE SequenceTheorems ----\nEXTENDS Sequences, Functions, WellFoundedInduction\n====\n"

unfoldable pub sequences_ext : List ℕ
sequences_ext = codes "---- MODULE SequencesExt ----\nEXTENDS Integers, Sequences, FiniteSets\n\nToSet(s) == {s[i] : i \\in DOMAIN s}\n\n\\* A sequence of all members of a set, each once; and all such sequences.\nSetToSeq(S) ==\n    LET Listed[T \\in SUBSET S] ==\n            IF T = {} THEN <<>> ELSE LET x == CHOOSE y \\in T : TRUE IN <<x>> \\o Listed[T \\ {x}]\n    IN  Listed[S]\n\nSetToSeqs(S) ==\n    LET Orders[T \\in SUBSET S] ==\n            IF T = {} THEN {<<>>} ELSE UNION {{<<x>> \\o s : s \\in Orders[T \\ {x}]} : x \\in T}\n    IN  Orders[S]\n\n\\* The sequences over S of length n, and those of length n at most.\nTupleOf(S, n) == [1..n -> S]\n\nSeqOf(S, n) == UNION {[1..m -> S] : m \\in 0..n}\n\nBoundedSeq(S, n) == SeqOf(S, n)\n\nContains(s, e) == \\E i \\in 1..Len(s) : s[i] = e\n\nReverse(s) == [i \\in 1..Len(s) |-> s[Len(s) - i + 1]]\n\n\\* The sequences of a sequence, one behind the other.\nFlattenSeq(seqs) ==\n    LET Joined[i \\in 1..Len(seqs), j \\in 1..Len(seqs)] ==\n            IF i = j\n            THEN seqs[i]\n            ELSE LET middle == (i + j) \\div 2 IN Joined[i, middle] \\o Joined[middle + 1, j]\n    IN  IF Len(seqs) = 0 THEN <<>> ELSE Joined[1, Len(seqs)]\n\n\\* Two sequences of one length, which is not 0: their items as pairs, or in turn.\nZip(s, t) == CASE Len(s) = Len(t) /\\ Len(s) > 0 -> [i \\in 1..Len(s) |-> <<s[i], t[i]>>]\n\nInterleave(s, t) == FlattenSeq(Zip(s, t))\n\n\\* Each e removed; the first one; the item at i.\nRemove(s, e) == FlattenSeq([i \\in 1..Len(s) |-> IF s[i] = e THEN <<>> ELSE <<s[i]>>])\n\nRemoveAt(s, i) == SubSeq(s, 1, i - 1) \\o SubSeq(s, i + 1, Len(s))\n\nRemoveFirst(s, e) ==\n    IF Contains(s, e)\n    THEN RemoveAt(s, CHOOSE i \\in 1..Len(s) : s[i] = e /\\ \\A j \\in 1..(i - 1) : s[j] # e)\n    ELSE s\n\nReplaceAll(s, old, new) == [i \\in 1..Len(s) |-> IF s[i] = old THEN new ELSE s[i]]\n\nReplaceAt(s, i, e) == [s EXCEPT ![i] = e]\n\n\\* e stands at i, and what stood there and behind it stands behind e.\nInsertAt(s, i, e) == SubSeq(s, 1, i - 1) \\o <<e>> \\o SubSeq(s, i, Len(s))\n\nFront(s) == SubSeq(s, 1, Len(s) - 1)\n\nLast(s) == s[Len(s)]\n\nCons(e, s) == <<e>> \\o s\n\nIsPrefix(s, t) == Len(s) <= Len(t) /\\ s = SubSeq(t, 1, Len(s))\n\nIsStrictPrefix(s, t) == IsPrefix(s, t) /\\ s # t\n\nIsSuffix(s, t) == Len(s) <= Len(t) /\\ s = SubSeq(t, Len(t) - Len(s) + 1, Len(t))\n\nIsStrictSuffix(s, t) == IsSuffix(s, t) /\\ s # t\n\nPrefixes(s) == {SubSeq(s, 1, n) : n \\in 0..Len(s)}\n\nSuffixes(s) == {SubSeq(s, n, Len(s)) : n \\in 1..(Len(s) + 1)}\n\n\\* The sequences with which each member of a set of sequences begins, and the longest of them.\nCommonPrefixes(S) == {p \\in UNION {Prefixes(s) : s \\in S} : \\A s \\in S : IsPrefix(p, s)}\n\nLongestCommonPrefix(S) == CHOOSE p \\in CommonPrefixes(S) : \\A q \\in CommonPrefixes(S) : Len(q) <= Len(p)\n\n\\* The number from 1 to b that stands for a in rounds of b.\nSeqMod(a, b) == IF a % b = 0 THEN b ELSE a % b\n\n\\* What stands in s from one place to another, without a gap; where s first stands in t so; and t with r in its place.\nSubSeqs(s) == {SubSeq(s, i + 1, j) : i \\in 0..Len(s), j \\in 0..Len(s)}\n\nIndexFirstSubSeq(s, t) ==\n    LET Stands(i) == SubSeq(t, i, i + Len(s) - 1) = s\n    IN  CHOOSE i \\in 1..(Len(t) - Len(s) + 1) : Stands(i) /\\ \\A j \\in 1..(i - 1) : ~Stands(j)\n\nReplaceSubSeqAt(i, r, s, t) == SubSeq(t, 1, i - 1) \\o r \\o SubSeq(t, i + Len(s), Len(t))\n\nReplaceFirstSubSeq(r, s, t) ==\n    IF s \\in SubSeqs(t) THEN ReplaceSubSeqAt(IndexFirstSubSeq(s, t), r, s, t) ELSE t\n====\n"

unfoldable pub sequences_ext_theorems : List ℕ
sequences_ext_theorems = codes "---- MODULE SequencesExtTheorems ----\nEXTENDS SequencesExt, SequenceTheorems\n====\n"

unfoldable pub tlaps : List ℕ
tlaps = codes "---- MODULE TLAPS ----\n====\n"

unfoldable pub well_founded_induction : List ℕ
well_founded_induction = codes "---- MODULE WellFoundedInduction ----\nEXTENDS NaturalsInduction\n====\n"

-- the modules of the library, with their texts
unfoldable pub library : List File
library =
    (codes "Bags", bags)
    ∷ (codes "BagsExt", bags_ext)
    ∷ (codes "BagsTheorems", bags_theorems)
    ∷ (codes "FiniteSetTheorems", finite_set_theorems)
    ∷ (codes "FiniteSetsExt", finite_sets_ext)
    ∷ (codes "FiniteSetsExtTheorems", finite_sets_ext_theorems)
    ∷ (codes "Folds", folds)
    ∷ (codes "FunctionTheorems", function_theorems)
    ∷ (codes "Functions", functions)
    ∷ (codes "Jections", jections)
    ∷ (codes "NaturalsInduction", naturals_induction)
    ∷ (codes "SequenceTheorems", sequence_theorems)
    ∷ (codes "SequencesExt", sequences_ext)
    ∷ (codes "SequencesExtTheorems", sequences_ext_theorems)
    ∷ (codes "TLAPS", tlaps)
    ∷ (codes "WellFoundedInduction", well_founded_induction)
    ∷ []
