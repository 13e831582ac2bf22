-- An index of the nodes of a table, by which a node is found from its level and its children: chains in two lists of any length.
-- `head` has a place for each hash, and `next` for each entry up to its length; entries past it are in no chain. Assumes nothing.
use Rattle.std.specs.Prelude.{◌≡◌, cond, List, ℕ, ◌+◌, ◌*◌, ◌%◌, ◌≤◌, ◌<◌, eqb, min, max, length, get_or, set, Option, Some, None}
use Rattle.nodes.specs.Table.{Table, level_of, low_of, high_of}
use Rattle.nodes.specs.internal.Parts.{hashes, heads_at, memory_at, links_in, heads_in, memo_in}

-- a number below n, for n above 0, that depends on v, lo and hi
unfoldable pub hash_of : ℕ → ℕ → ℕ → ℕ → ℕ
hash_of v lo hi n = (7 * v + 2 * max lo hi + min lo hi % 1024) % n

-- how many entries the index covers
abbrev pub coverage : List ℕ → List ℕ → ℕ
coverage head next = cond (eqb (length head) 0) 0 (length next)

-- the hash of a node, where there are n
abbrev pub node_hash : Table → ℕ → ℕ → ℕ
node_hash t n i = hash_of (level_of t i) (low_of t i) (high_of t i) n

-- j is the last node before e, of those that are covered, whose hash is h; or, where there is none, no node
pub record Link (t : Table) (n covered h e j : ℕ) : Type 0 where
  pub before : j < e
  pub within : 2 ≤ j → j < covered
  pub same : 2 ≤ j → node_hash t n j ≡ h
  pub last : (k : ℕ) → j < k → k < e → 2 ≤ k → k < covered → node_hash t n k ≡ h → ⊥

-- the index has n hashes and covers so many entries
pub record IndexedBy (t : Table) (n covered : ℕ) (head next : List ℕ) : Type 0 where
  pub heads : (h : ℕ) → h < n → Link t n covered h t.used (get_or head h 0)
  pub links : (i : ℕ) → 2 ≤ i → i < t.used → i < covered → Link t n covered (node_hash t n i) i (get_or next i 0)

abbrev pub Indexed : Table → List ℕ → List ℕ → Type 0
Indexed t head next = IndexedBy t (length head) (coverage head next) head next

-- the index after node `used` has been put into it: unchanged where it does not cover that entry
pub record Linked (head next : List ℕ) (used v lo hi : ℕ) (head' next' : List ℕ) : Type 0 where
  pub outside : coverage head next ≤ used → (head' ≡ head) × (next' ≡ next)
  pub inside : used < coverage head next
      → (head' ≡ set head (hash_of v lo hi (length head)) used) × (next' ≡ set next used (get_or head (hash_of v lo hi (length head)) 0))
      × (hash_of v lo hi (length head) < length head)

-- ---- in the work list

abbrev pub Indexing : Table → List ℕ → Type 0
Indexing t work = Indexed t (heads_in work) (links_in work)

-- the memory of results is as it was
abbrev pub Linking : List ℕ → ℕ → ℕ → ℕ → ℕ → List ℕ → Type 0
Linking work used v lo hi work' = Linked (heads_in work) (links_in work) used v lo hi (heads_in work') (links_in work') × (memo_in work' ≡ memo_in work)

-- a place of the work list is that of a head; or there is none, since the index has no head
abbrev pub InIndex : List ℕ → Option ℕ → Type 0
InIndex work (Some head) = (heads_at work ≤ head) × (head < memory_at work)
InIndex work None = hashes work ≡ 0

-- the chain of the node of v, lo and hi begins there
abbrev pub Begins : List ℕ → ℕ → ℕ → ℕ → Option ℕ → Type 0
Begins work v lo hi (Some head) = (hash_of v lo hi (hashes work) < hashes work) × (head ≡ heads_at work + hash_of v lo hi (hashes work))
Begins work v lo hi None = hashes work ≡ 0

-- node `used` has been put into the chain that begins there
abbrev pub LinkingAt : List ℕ → ℕ → Option ℕ → List ℕ → Type 0
LinkingAt work used head work' = (v lo hi : ℕ) → Begins work v lo hi head → Linking work used v lo hi work'
