-- What the lists that a call holds say of its table, of the index and of the memory of results. Assumes nothing.
--     node_there, node_word     a node by its packed number
--     work_..                   laws of the index and of the memory, for the work list
--     indexing_behind           what is written behind the index leaves it as it is
--     packed_new, packed_full   a node that is made in packed lists
use mathlib.Core.Path.{◌≡◌, refl, sym, ap, ap₂, ◌∙◌, subst, subst₂}
use mathlib.Core.Logic.{inl, inr}
use mathlib.Core.List.{List}
use Prim.Native.Nat.{ℕ, ◌+◌, ◌-◌, ◌*◌, ◌/◌, ◌%◌, ◌<◌, ◌≤◌}
use native.Mathlib.Omega.{arith}
use lib.ListN.{length, get_or, set}
use Rattle.std.specs.Prelude.{Option, Some, None, Ok}
use Rattle.nodes.specs.declared.computed.Slot.{Slot}
use Rattle.nodes.specs.Table.{Table, table, max_length}
use Rattle.nodes.specs.internal.Packed.{packing, levels, packed_table}
use Rattle.nodes.specs.internal.Parts.{covers, hashes, heads_at, memory_at, links_in, heads_in, memo_in}
use Rattle.nodes.specs.internal.Index.{hash_of, coverage, Indexed, Indexing, Linked, Linking, InIndex, Begins}
use Rattle.nodes.specs.internal.Make.{Makeable, IsNode, Finds, node_fun, MadeAt, held, Makes, Lacking}
use Rattle.nodes.specs.internal.Operate.{slots_in, Holds, Remembers}
use Rattle.nodes.proofs.Parting.{index_fits, index_ends, packed_level, packed_low, packed_again, levels_length, level_at, low_at, levels_set, lows_set, links_length, heads_length, memo_length, link_at, head_at, memo_at, same_covers, same_hashes, same_memory, links_set_link, heads_set_link, memo_set_link, links_set_head, heads_set_head, memo_set_head, links_set_memo, heads_set_memo, memo_set_memo}
use Rattle.nodes.proofs.Indexing.{coverage_none, coverage_some, coverage_le, Chained, chained_start, chained_next, chain_falls, chain_within, linked_none, linked_at}
use Rattle.nodes.proofs.Making.{absent, made_new, made_linked}

-- ---- entries

module _ (packed high : List ℕ) (used v lo hi i : ℕ) where
  pub node_there : lo < max_length → 2 ≤ i → i < used → get_or packed i 0 ≡ packing v lo → get_or high i 0 ≡ hi → IsNode (packed_table packed high used) v lo hi i
  node_there small two u e h = record {
    node = two;
    used = u;
    level = level_at packed i ∙ ap (λ (p : ℕ). p / max_length) e ∙ packed_level v lo small;
    low = low_at packed i ∙ ap (λ (p : ℕ). p % max_length) e ∙ packed_low v lo small;
    high = h;
  }

  pub node_word : IsNode (packed_table packed high used) v lo hi i → get_or packed i 0 ≡ packing v lo
  node_word n = sym (packed_again (get_or packed i 0)) ∙ ap₂ packing (sym (level_at packed i) ∙ n.level) (sym (low_at packed i) ∙ n.low)

-- ---- the index

-- how many entries the index covers, where it has no head and where it has one
module _ (work : List ℕ) where
  pub work_uncovered : hashes work ≡ 0 → coverage (heads_in work) (links_in work) ≡ 0
  work_uncovered e = coverage_none (heads_in work) (links_in work) (heads_length work ∙ e)

  pub work_coverage : (hashes work ≡ 0 → ⊥) → coverage (heads_in work) (links_in work) ≡ covers work
  work_coverage n = coverage_some (heads_in work) (links_in work) (λ e. n (sym (heads_length work) ∙ e)) ∙ links_length work

-- what is written into the last quarter, less a word, leaves the index as it is
pub indexing_behind : (t : Table) (work : List ℕ) → Indexing t work → (i x : ℕ) → 3 * length work + 4 ≤ 4 * i → Indexing t (set work i x)
indexing_behind t work ok i x h =
    let at : i ≡ memory_at work + (i - memory_at work) = omega (arith, index_ends work) in
    subst₂ (Indexed t) (sym (heads_set_memo work _ refl i _ x at)) (sym (links_set_memo work _ refl i _ x at)) ok

pub begins_inside : (work : List ℕ) (v lo hi : ℕ) (head : Option ℕ) → Begins work v lo hi head → InIndex work head
begins_inside work v lo hi (Some head) b = (omega (arith, b.1), omega (arith, b.0, b.1))
begins_inside work v lo hi None b = b

pub head_inside : (work : List ℕ) (head : ℕ) → InIndex work (Some head) → head < length work
head_inside work head x = let f = index_fits work in omega (arith, x.1)

module _ (t : Table) (work : List ℕ) (v lo hi : ℕ) (ok : Indexing t work) where
  pub work_start : (head : ℕ) → Begins work v lo hi (Some head) → Chained t (heads_in work) (links_in work) v lo hi (get_or work head 0)
  work_start head b =
      let n = heads_length work in
      let h = hash_of v lo hi (hashes work) in
      let below = b.0 in
      subst (Chained t (heads_in work) (links_in work) v lo hi) (head_at work h below ∙ ap (λ (i : ℕ). get_or work i 0) (sym b.1))
      (chained_start t (heads_in work) (links_in work) v lo hi ok h (ap (hash_of v lo hi) (sym n)) (subst (λ (m : ℕ). h < m) (sym n) below))

  module _ (i : ℕ) (two : 2 ≤ i) (c : Chained t (heads_in work) (links_in work) v lo hi i) where
    pub work_within : i < covers work
    work_within = subst (λ (n : ℕ). i < n) (links_length work) (chain_within t (heads_in work) (links_in work) v lo hi ok i two c)

    pub work_falls : get_or work (1 + i) 0 < i
    work_falls = subst (λ (j : ℕ). j < i) (link_at work i work_within) (chain_falls t (heads_in work) (links_in work) v lo hi ok i two c)

    pub work_next : (IsNode t v lo hi i → ⊥) → Chained t (heads_in work) (links_in work) v lo hi (get_or work (1 + i) 0)
    work_next other = subst (Chained t (heads_in work) (links_in work) v lo hi) (link_at work i work_within)
        (chained_next t (heads_in work) (links_in work) v lo hi ok i two other c)

module _ (work : List ℕ) (used v lo hi : ℕ) where
  unlinked : coverage (heads_in work) (links_in work) ≤ used → Linking work used v lo hi work
  unlinked out = (linked_none (heads_in work) (links_in work) used v lo hi out, refl)

  -- there is no head, or no link for the node
  pub headless : hashes work ≡ 0 → Linking work used v lo hi work
  headless e = unlinked (let z = work_uncovered work e in omega arith)

  pub uncovered : covers work ≤ used → Linking work used v lo hi work
  uncovered out = unlinked (let l = coverage_le (heads_in work) (links_in work) in let m = links_length work in omega arith)

  module _ (h : ℕ) (inside : used < covers work) (hash : h ≡ hash_of v lo hi (hashes work)) (below : h < hashes work) where
    old : ℕ
    old = get_or work (heads_at work + h) 0

    first : List ℕ
    first = set work (1 + used) old

    abbrev after : List ℕ
    after = set first (heads_at work + h) used

    first_covers : covers first ≡ covers work
    unfolding first
    first_covers = same_covers work (1 + used) old (omega arith)

    at : heads_at work + h ≡ heads_at first + h
    at = ap (λ (c : ℕ). 1 + c + h) (sym first_covers)

    below_first : h < hashes first
    unfolding first
    below_first = subst (λ (n : ℕ). h < n) (sym (same_hashes work (1 + used) old (omega arith))) below

    heads_are : heads_in after ≡ set (heads_in work) h used
    unfolding first
    heads_are =
        ap (λ (i : ℕ). heads_in (set first i used)) at ∙ heads_set_head first h used below_first
        ∙ ap (λ (l : List ℕ). set l h used) (heads_set_link work used old inside)

    links_are : links_in after ≡ set (links_in work) used (get_or (heads_in work) h 0)
    unfolding first old
    links_are =
        ap (λ (i : ℕ). links_in (set first i used)) at ∙ links_set_head first h used below_first
        ∙ links_set_link work used old inside ∙ ap (set (links_in work) used) (sym (head_at work h below))

    memo_is : memo_in after ≡ memo_in work
    unfolding first
    memo_is = ap (λ (i : ℕ). memo_in (set first i used)) at ∙ memo_set_head first h used below_first ∙ memo_set_link work used old inside

    linked : Linking work used v lo hi (set (set work (1 + used) (get_or work (heads_at work + h) 0)) (heads_at work + h) used)
    unfolding first old
    linked =
        let n = heads_length work in (
          subst₂ (Linked (heads_in work) (links_in work) used v lo hi) (sym heads_are) (sym links_are)
              (linked_at (heads_in work) (links_in work) used v lo hi h (λ z. omega arith) (let m = links_length work in omega arith)
              (subst (λ (k : ℕ). h ≡ hash_of v lo hi k) (sym n) hash) (subst (λ (k : ℕ). h < k) (sym n) below)),
          memo_is,
        )

  pub work_linked : (head : ℕ) → used < covers work → Begins work v lo hi (Some head)
      → Linking work used v lo hi (set (set work (1 + used) (get_or work head 0)) head used)
  work_linked head inside b =
      subst (λ (i : ℕ). Linking work used v lo hi (set (set work (1 + used) (get_or work i 0)) i used)) (sym b.1)
      (linked _ inside refl b.0)

-- ---- the memory of results

module _ (work : List ℕ) (m : ℕ) (begins : m ≡ memory_at work) (o f g r s : ℕ) (inside : s < slots_in work) where
  abbrev slot : ℕ
  slot = m + 4 * s

  fits : 4 * s + 3 < length (memo_in work)
  fits = let e = memo_length work in omega arith

  pub work_holds : get_or work slot 0 ≡ o + 1 → get_or work (slot + 1) 0 ≡ f → get_or work (slot + 2) 0 ≡ g → get_or work (slot + 3) 0 ≡ r → Holds (memo_in work) o f g r
  work_holds a b c d =
      let at : (k : ℕ) → get_or (memo_in work) (4 * s + k) 0 ≡ get_or work (slot + k) 0 = λ k.
      memo_at work (4 * s + k) ∙ ap (λ (i : ℕ). get_or work i 0) (let e : memory_at work + (4 * s + k) ≡ slot + k = omega arith in e) in
      let here = ap (λ (i : ℕ). get_or work (i + 4 * s) 0) (sym begins) in
      record { slot = s; within = fits; key = memo_at work (4 * s) ∙ here ∙ a; left = at 1 ∙ b; right = at 2 ∙ c; result = at 3 ∙ d }

  w₁ : List ℕ
  w₁ = set work slot (o + 1)

  w₂ : List ℕ
  w₂ = set w₁ (slot + 1) f

  w₃ : List ℕ
  w₃ = set w₂ (slot + 2) g

  m₁ : memory_at w₁ ≡ m
  unfolding w₁
  m₁ = same_memory work slot (o + 1) (omega arith) ∙ sym begins

  m₂ : memory_at w₂ ≡ m
  unfolding w₂
  m₂ = same_memory w₁ (slot + 1) f (omega arith) ∙ m₁

  m₃ : memory_at w₃ ≡ m
  unfolding w₃
  m₃ = same_memory w₂ (slot + 2) g (omega arith) ∙ m₂

  memo_after : memo_in (set w₃ (slot + 3) r) ≡ set (set (set (set (memo_in work) (4 * s) (o + 1)) (4 * s + 1) f) (4 * s + 2) g) (4 * s + 3) r
  unfolding w₁ w₂ w₃
  memo_after =
      memo_set_memo w₃ m m₃ (slot + 3) (4 * s + 3) r (omega arith)
      ∙ ap (λ (l : List ℕ). set l (4 * s + 3) r) (memo_set_memo w₂ m m₂ (slot + 2) (4 * s + 2) g (omega arith)
      ∙ ap (λ (l : List ℕ). set l (4 * s + 2) g) (memo_set_memo w₁ m m₁ (slot + 1) (4 * s + 1) f (omega arith)
      ∙ ap (λ (l : List ℕ). set l (4 * s + 1) f) (memo_set_memo work m (sym begins) slot (4 * s) (o + 1) refl)))

  heads_after : heads_in (set w₃ (slot + 3) r) ≡ heads_in work
  unfolding w₁ w₂ w₃
  heads_after =
      heads_set_memo w₃ m m₃ (slot + 3) (4 * s + 3) r (omega arith)
      ∙ heads_set_memo w₂ m m₂ (slot + 2) (4 * s + 2) g (omega arith)
      ∙ heads_set_memo w₁ m m₁ (slot + 1) (4 * s + 1) f (omega arith)
      ∙ heads_set_memo work m (sym begins) slot (4 * s) (o + 1) refl

  links_after : links_in (set w₃ (slot + 3) r) ≡ links_in work
  unfolding w₁ w₂ w₃
  links_after =
      links_set_memo w₃ m m₃ (slot + 3) (4 * s + 3) r (omega arith)
      ∙ links_set_memo w₂ m m₂ (slot + 2) (4 * s + 2) g (omega arith)
      ∙ links_set_memo w₁ m m₁ (slot + 1) (4 * s + 1) f (omega arith)
      ∙ links_set_memo work m (sym begins) slot (4 * s) (o + 1) refl

  pub work_keeps : Remembers work (record { number = o; first = f; second = g; third = r }) (set (set (set (set work slot (o + 1)) (slot + 1) f) (slot + 2) g) (slot + 3) r)
  unfolding w₁ w₂ w₃
  work_keeps = record { stores = inr (s, fits, memo_after); heads = heads_after; links = links_after }

pub work_kept : (work : List ℕ) (x : Slot) → Remembers work x work
work_kept work x = record { stores = inl refl; heads = refl; links = refl }

-- ---- a node that is made

module _ (packed high work : List ℕ) (used v lo hi : ℕ) (ok : Makeable (packed_table packed high used) v lo hi) where
  abbrev here : Table
  here = packed_table packed high used

  pub child_small : lo < max_length
  child_small = let a = ok.low_used in let wf = ok.formed in let b = wf.room in let c = wf.most in omega arith

  module _ (differ : lo ≡ hi → ⊥) (none : Finds here v lo hi None) where
    pub packed_new : (work' : List ℕ) → used < length packed → Indexing here work → Linking work used v lo hi work'
        → Makes (held packed high work used) (held (set packed used (packing v lo)) (set high used hi) work' (used + 1)) (node_fun here v lo hi) (Ok used)
    packed_new work' room index link =
        let inside : used < length (levels packed) = subst (λ (n : ℕ). used < n) (sym (levels_length packed)) room in
        let made = subst₂ (λ (level low : List ℕ). let t = table level low (set high used hi) (used + 1) in MadeAt here t (node_fun here v lo hi) used × Indexing t work')
        (sym (levels_set packed used v lo child_small)) (sym (lows_set packed used v lo child_small)) (
          made_new here v lo hi ok differ none inside,
          made_linked here v lo hi ok differ none inside (heads_in work) (links_in work) (heads_in work') (links_in work') index link.0,
        ) in
        (made.0, record { indexing = made.1; memo = link.1 })

    pub packed_full : length packed ≤ used → Lacking (held packed high work used) (held packed high work used) (node_fun here v lo hi)
    packed_full h = record {
      full = let wf = ok.formed in let n = levels_length packed in omega arith;
      absent = absent here v lo hi ok differ none;
      same = refl;
    }
