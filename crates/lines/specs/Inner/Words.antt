-- The words that lines begin with.
use Rattle.std.specs.Prelude.{List, ℕ, codes}
use Rattle.lines.specs.declared.words.Call.{Call}
use Rattle.lines.specs.declared.words.Call.TheVariants.{Prepare, Change, Guard, Look}
use Rattle.lines.specs.declared.words.Preparing.{Preparing}
use Rattle.lines.specs.declared.words.Changing.{Changing}
use Rattle.lines.specs.declared.words.Guarding.{Guarding}
use Rattle.lines.specs.declared.words.Looking.{Looking}

-- the word for what a line asks for
abbrev pub word_of : Call → List ℕ
word_of (Prepare Preparing.Lend) = codes "lend"
word_of (Prepare Preparing.Give) = codes "give"
word_of (Prepare Preparing.Rows) = codes "rows"
word_of (Prepare Preparing.Numbers) = codes "numbers"
word_of (Prepare Preparing.Weights) = codes "weights"
word_of (Prepare Preparing.Set) = codes "set"
word_of (Prepare Preparing.Store) = codes "store"
word_of (Change Changing.Make) = codes "make"
word_of (Change Changing.Insert) = codes "insert"
word_of (Change Changing.Delete) = codes "delete"
word_of (Guard Guarding.Enable) = codes "enable"
word_of (Guard Guarding.Status) = codes "status"
word_of (Guard Guarding.Assess) = codes "assess"
word_of (Guard Guarding.Guarded) = codes "guarded"
word_of (Look Looking.Read) = codes "read"
word_of (Look Looking.Vector) = codes "vector"
word_of (Look Looking.Search) = codes "search"
word_of (Look Looking.Words) = codes "words"
