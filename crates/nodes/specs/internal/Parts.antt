-- The work list of a call, of any length and content. Its first number says how many entries the table has. Behind it are three parts: the links
-- of the index, the heads of the index, and the memory of results. Assumes nothing.
use Rattle.std.specs.Prelude.{List, ℕ, ◌+◌, ◌-◌, ◌/◌, min, length, get_or, take, drop}

-- how many numbers there are behind the first
abbrev pub parted : List ℕ → ℕ
parted work = length work - 1

-- how many entries have a link: as many as the first number says, but at most half of the numbers behind it
unfoldable pub covers : List ℕ → ℕ
covers work = min (get_or work 0 0) (parted work / 2)

-- how many heads there are: half of what the links leave
unfoldable pub hashes : List ℕ → ℕ
hashes work = (parted work - covers work) / 2

-- where the heads begin, and the memory
abbrev pub heads_at : List ℕ → ℕ
heads_at work = 1 + covers work

abbrev pub memory_at : List ℕ → ℕ
memory_at work = heads_at work + hashes work

unfoldable pub links_in : List ℕ → List ℕ
links_in work = take (covers work) (drop 1 work)

unfoldable pub heads_in : List ℕ → List ℕ
heads_in work = take (hashes work) (drop (heads_at work) work)

unfoldable pub memo_in : List ℕ → List ℕ
memo_in work = drop (memory_at work) work
