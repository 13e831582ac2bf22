-- Laws of the lists that calls hold: reading and storing in a packed list, and in a part of the work list. Assumes nothing.
use mathlib.Core.Path.{◌≡◌, refl, ap, ap₂, ◌∙◌}
use mathlib.Core.List.{List, [], ◌∷◌, map}
use Prim.Native.Nat.{ℕ, zero, suc, ◌+◌, ◌-◌, ◌*◌, ◌/◌, ◌<◌, ◌≤◌, min}
use native.Mathlib.Omega.{arith}
use lib.ListN.{length, get_or, set, take, drop, length-set, length-drop, length-map, get_or-map}
use lib.Seq.{length-take-le, take-set-le, take-set-lt, drop-set-lt, drop-set-add, get_or-take, get_or-drop, get_or-set_other}
use Rattle.nodes.specs.Table.{max_length}
use Rattle.nodes.specs.internal.Packed.{packing, level_in, low_in, levels, lows}
use Rattle.nodes.specs.internal.Parts.{parted, covers, hashes, heads_at, memory_at, links_in, heads_in, memo_in}

-- ---- a packed list

map_set : (f : ℕ → ℕ) (l : List ℕ) (i v : ℕ) → map f (set l i v) ≡ set (map f l) i (f v)
map_set f [] i v = refl
map_set f (x ∷ xs) zero v = refl
map_set f (x ∷ xs) (suc i) v = ap (λ (t : List ℕ). f x ∷ t) (map_set f xs i v)

pub packed_level : (v lo : ℕ) → lo < max_length → level_in (packing v lo) ≡ v
packed_level v lo h = omega arith

pub packed_low : (v lo : ℕ) → lo < max_length → low_in (packing v lo) ≡ lo
packed_low v lo h = omega arith

pub packed_again : (p : ℕ) → packing (level_in p) (low_in p) ≡ p
packed_again p = omega arith

module _ (packed : List ℕ) where
  pub levels_length : length (levels packed) ≡ length packed
  unfolding levels
  levels_length = length-map packed level_in

  pub lows_length : length (lows packed) ≡ length packed
  unfolding lows
  lows_length = length-map packed low_in

  pub level_at : (i : ℕ) → get_or (levels packed) i 0 ≡ level_in (get_or packed i 0)
  unfolding levels
  level_at i = get_or-map level_in packed i 0

  pub low_at : (i : ℕ) → get_or (lows packed) i 0 ≡ low_in (get_or packed i 0)
  unfolding lows
  low_at i = get_or-map low_in packed i 0

  pub levels_set : (i v lo : ℕ) → lo < max_length → levels (set packed i (packing v lo)) ≡ set (levels packed) i v
  unfolding levels
  levels_set i v lo h = map_set level_in packed i (packing v lo) ∙ ap (set (map level_in packed) i) (packed_level v lo h)

  pub lows_set : (i v lo : ℕ) → lo < max_length → lows (set packed i (packing v lo)) ≡ set (lows packed) i lo
  unfolding lows
  lows_set i v lo h = map_set low_in packed i (packing v lo) ∙ ap (set (map low_in packed) i) (packed_low v lo h)

-- ---- the parts of the work list

module _ (work : List ℕ) where
  -- the parts fit
  pub index_fits : covers work + hashes work ≤ parted work
  unfolding covers hashes
  index_fits = omega arith

  -- the index ends in the first three quarters, or a word behind them
  pub index_ends : 4 * memory_at work ≤ 3 * length work + 4
  unfolding covers hashes
  index_ends = omega arith

  pub links_length : length (links_in work) ≡ covers work
  unfolding links_in
  links_length = length-take-le (covers work) (drop 1 work) (let f = index_fits in let e = length-drop 1 work in omega arith)

  pub heads_length : length (heads_in work) ≡ hashes work
  unfolding heads_in
  heads_length = length-take-le (hashes work) (drop (heads_at work) work) (let f = index_fits in let e = length-drop (heads_at work) work in omega arith)

  pub memo_length : length (memo_in work) ≡ length work - memory_at work
  unfolding memo_in
  memo_length = length-drop (memory_at work) work

  pub link_at : (i : ℕ) → i < covers work → get_or (links_in work) i 0 ≡ get_or work (1 + i) 0
  unfolding links_in
  link_at i h = get_or-take (covers work) (drop 1 work) i 0 h ∙ get_or-drop 1 work i 0

  pub head_at : (h : ℕ) → h < hashes work → get_or (heads_in work) h 0 ≡ get_or work (heads_at work + h) 0
  unfolding heads_in
  head_at h l = get_or-take (hashes work) (drop (heads_at work) work) h 0 l ∙ get_or-drop (heads_at work) work h 0

  pub memo_at : (k : ℕ) → get_or (memo_in work) k 0 ≡ get_or work (memory_at work + k) 0
  unfolding memo_in
  memo_at k = get_or-drop (memory_at work) work k 0

  -- a store behind the first number changes no part's bounds
  module _ (i x : ℕ) (some : 0 < i) where
    pub same_covers : covers (set work i x) ≡ covers work
    unfolding covers
    same_covers = ap₂ (λ (a n : ℕ). min a ((n - 1) / 2)) (get_or-set_other work i 0 x 0 (λ e. omega arith)) (length-set work i x)

    pub same_hashes : hashes (set work i x) ≡ hashes work
    unfolding hashes
    same_hashes = ap₂ (λ (n c : ℕ). (n - 1 - c) / 2) (length-set work i x) same_covers

    pub same_memory : memory_at (set work i x) ≡ memory_at work
    same_memory = ap₂ (λ (c h : ℕ). 1 + c + h) same_covers same_hashes

    -- the parts of the list after the store, at the bounds of the list before it
    links_then : links_in (set work i x) ≡ take (covers work) (drop 1 (set work i x))
    unfolding links_in
    links_then = ap (λ (c : ℕ). take c (drop 1 (set work i x))) same_covers

    heads_then : heads_in (set work i x) ≡ take (hashes work) (drop (heads_at work) (set work i x))
    unfolding heads_in
    heads_then = ap₂ (λ (c h : ℕ). take h (drop (1 + c) (set work i x))) same_covers same_hashes

    memo_then : memo_in (set work i x) ≡ drop (memory_at work) (set work i x)
    unfolding memo_in
    memo_then = ap (λ (m : ℕ). drop m (set work i x)) same_memory

  -- a link
  module _ (i x : ℕ) (low : i < covers work) where
    pub links_set_link : links_in (set work (1 + i) x) ≡ set (links_in work) i x
    unfolding links_in
    links_set_link =
        links_then (1 + i) x (omega arith)
        ∙ ap (take (covers work)) (drop-set-add 1 work i x)
        ∙ take-set-lt (covers work) (drop 1 work) i x low

    pub heads_set_link : heads_in (set work (1 + i) x) ≡ heads_in work
    unfolding heads_in
    heads_set_link = heads_then (1 + i) x (omega arith) ∙ ap (take (hashes work)) (drop-set-lt (heads_at work) work (1 + i) x (omega arith))

    pub memo_set_link : memo_in (set work (1 + i) x) ≡ memo_in work
    unfolding memo_in
    memo_set_link = memo_then (1 + i) x (omega arith) ∙ drop-set-lt (memory_at work) work (1 + i) x (omega arith)

  -- a number behind the links
  links_set_past : (i k x : ℕ) → i ≡ heads_at work + k → links_in (set work i x) ≡ links_in work
  unfolding links_in
  links_set_past i k x d =
      let at : i ≡ 1 + (covers work + k) = omega arith in
      links_then i x (omega arith)
      ∙ ap (λ (j : ℕ). take (covers work) (drop 1 (set work j x))) at
      ∙ ap (take (covers work)) (drop-set-add 1 work (covers work + k) x)
      ∙ take-set-le (covers work) (drop 1 work) (covers work + k) x (omega arith)

  -- a head
  module _ (h x : ℕ) (low : h < hashes work) where
    pub links_set_head : links_in (set work (heads_at work + h) x) ≡ links_in work
    links_set_head = links_set_past (heads_at work + h) h x refl

    pub heads_set_head : heads_in (set work (heads_at work + h) x) ≡ set (heads_in work) h x
    unfolding heads_in
    heads_set_head =
        heads_then (heads_at work + h) x (omega arith)
        ∙ ap (take (hashes work)) (drop-set-add (heads_at work) work h x)
        ∙ take-set-lt (hashes work) (drop (heads_at work) work) h x low

    pub memo_set_head : memo_in (set work (heads_at work + h) x) ≡ memo_in work
    unfolding memo_in
    memo_set_head = memo_then (heads_at work + h) x (omega arith) ∙ drop-set-lt (memory_at work) work (heads_at work + h) x (omega arith)

-- a number of the memory, at the bounds of an earlier list
module _ (work : List ℕ) (m : ℕ) (e : memory_at work ≡ m) (i k x : ℕ) (d : i ≡ m + k) where
  pub links_set_memo : links_in (set work i x) ≡ links_in work
  links_set_memo = links_set_past work i (hashes work + k) x (omega arith)

  pub heads_set_memo : heads_in (set work i x) ≡ heads_in work
  unfolding heads_in
  heads_set_memo =
      let at : i ≡ heads_at work + (hashes work + k) = omega arith in
      heads_then work i x (omega arith)
      ∙ ap (λ (j : ℕ). take (hashes work) (drop (heads_at work) (set work j x))) at
      ∙ ap (take (hashes work)) (drop-set-add (heads_at work) work (hashes work + k) x)
      ∙ take-set-le (hashes work) (drop (heads_at work) work) (hashes work + k) x (omega arith)

  pub memo_set_memo : memo_in (set work i x) ≡ set (memo_in work) k x
  unfolding memo_in
  memo_set_memo =
      let at : i ≡ memory_at work + k = omega arith in
      memo_then work i x (omega arith)
      ∙ ap (λ (j : ℕ). drop (memory_at work) (set work j x)) at
      ∙ drop-set-add (memory_at work) work k x
