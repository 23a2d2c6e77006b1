-- The words and the order of faults.
use Rattle.std.specs.Prelude.{ℕ, List, codes}
use Rattle.rope_search_io.specs.declared.faults.Fault.{Fault}
use Rattle.rope_search_io.specs.declared.faults.Fault.TheVariants.{Nothing, Range, Utf8, Pattern, Limit, Size, Memory}

-- the word after `error` in a reply
abbrev pub word_of : Fault → List ℕ
word_of Nothing = codes "none"
word_of Range = codes "range"
word_of Utf8 = codes "utf8"
word_of Pattern = codes "pattern"
word_of Limit = codes "limit"
word_of Size = codes "size"
word_of Memory = codes "memory"

-- the order of faults: of all that apply to a command, the one with the least rank is reported
abbrev pub rank_of : Fault → ℕ
rank_of Nothing = 1
rank_of Range = 2
rank_of Utf8 = 3
rank_of Pattern = 4
rank_of Limit = 5
rank_of Size = 6
rank_of Memory = 7
