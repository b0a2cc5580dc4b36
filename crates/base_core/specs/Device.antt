-- What files hold, what is left of the open one, and what a sink holds, each where it tells.
use Rattle.std.specs.Prelude.{◌≡◌, ℕ, ◌+◌, ◌-◌, ◌^◌, ◌≤◌, ◌<◌, min, List, [], ◌∷◌, ◌++◌, length, take, Option, Some, None, if◌then◌else◌}
use Rattle.std.specs.Str.{bytes_eq}

-- a file is its name and its bytes
abbrev pub File : Type 0
File = List ℕ × List ℕ

-- the bytes of the first file of that name
abbrev pub found : List ℕ → List File → Option (List ℕ)
found name [] = None
found name (f ∷ fs) = if bytes_eq f.0 name then Some f.1 else found name fs

-- no name stands twice: the name of each file is not found behind it
abbrev pub AreDistinct : List File → Type 0
AreDistinct [] = Unit {0}
AreDistinct (f ∷ fs) = (found f.0 fs ≡ None) × AreDistinct fs

-- a count, one later: it stays at the last value of u64
abbrev pub count_after : ℕ → ℕ
count_after count = min (count + 1) (2 ^ 64 - 1)

-- the count rose, or it stands at its last value
abbrev pub Rose : ℕ → ℕ → Type 0
Rose before now = count_after before ≤ now

-- where the files tell: the file is there, and all its bytes are left
abbrev pub Opens : List ℕ → Option (List File) → Option (List ℕ) → Type 0
Opens name None left = Unit {0}
Opens name (Some files) left = (bytes : List ℕ) × (found name files ≡ Some bytes) × (left ≡ Some bytes)

-- the files tell that there is no such file, or they do not tell and the count rose
abbrev pub Lacks : List ℕ → Option (List File) → ℕ → ℕ → Type 0
Lacks name None before now = Rose before now
Lacks name (Some files) before now = found name files ≡ None

-- the front of the room has the next bytes of what was left, of which there are none only at its
-- end or where there is no room
pub record TakesNext (before : List ℕ) (count : ℕ) (room : List ℕ) (left : List ℕ) : Type 0 where
  pub bytes : before ≡ take count room ++ left
  pub end : count ≡ 0 → 0 < length room → before ≡ []

-- the next bytes of the open file, and none where no file is open
abbrev pub TakesOf : Option (List ℕ) → ℕ → List ℕ → Option (List ℕ) → Type 0
TakesOf None count room left = (count ≡ 0) × (left ≡ None)
TakesOf (Some before) count room left = (after : List ℕ) × (left ≡ Some after) × TakesNext before count room after

-- where the files tell: the next bytes of the open file
abbrev pub Takes : Option (List File) → Option (List ℕ) → ℕ → List ℕ → Option (List ℕ) → Type 0
Takes None before count room left = Unit {0}
Takes (Some files) before count room left = TakesOf before count room left

-- where the files tell: these are all bytes of the file
abbrev pub IsWhole : List ℕ → Option (List File) → List ℕ → Type 0
IsWhole name None bytes = Unit {0}
IsWhole name (Some files) bytes = found name files ≡ Some bytes

-- where the files tell: the file has more than this many bytes
abbrev pub IsLonger : List ℕ → Option (List File) → ℕ → Type 0
IsLonger name None limit = Unit {0}
IsLonger name (Some files) limit = (bytes : List ℕ) × (found name files ≡ Some bytes) × (limit < length bytes)

-- the sink holds this piece more, where it tells, and tells as before
abbrev pub Appended : Option (List ℕ) → List ℕ → Option (List ℕ) → Type 0
Appended None piece now = now ≡ None
Appended (Some before) piece now = now ≡ Some (before ++ piece)

-- the sink holds the first bytes of the piece more
abbrev pub AppendedPart : Option (List ℕ) → List ℕ → Option (List ℕ) → Type 0
AppendedPart before piece now = (k : ℕ) × Appended before (take k piece) now
