-- The lines on the words of a call and on files that are not read.
use Rattle.std.specs.Prelude.{ℕ, List, ◌++◌, codes}

-- the words are in no form of a call
abbrev pub words_text : List ℕ
words_text = codes "WORDS REFUSED\n"

-- there is no file of that name
abbrev pub missing_text : List ℕ → List ℕ
missing_text name = codes "REFUSED Missing " ++ name ++ codes "\n"

-- the file of that name has more bytes than its limit
abbrev pub too_long_text : List ℕ → List ℕ
too_long_text name = codes "REFUSED TooLong " ++ name ++ codes "\n"

-- a read of the file of that name failed
abbrev pub device_text : List ℕ → List ℕ
device_text name = codes "DEVICE FAULT " ++ name ++ codes "\n"
