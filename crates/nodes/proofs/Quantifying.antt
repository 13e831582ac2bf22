-- ∃ of a level by one recursion, over its three functions. Assumes nothing.
--     three_..                  three nodes that are made one after the other
--     three_recalled            what the memory has of them
--     stopped_three             a function that ends early
--     settle-..                 ∃ of an entry that does not read the level, or has it on top
--     quantify-..               the recursion: each call's operand, and each way out
--     maps_exists               the answer, as a step of a formula
use mathlib.Core.Path.{◌≡◌, refl, sym, ap, ap₂, ◌∙◌, fun_ext, subst, subst₂}
use mathlib.Core.Logic.{⊎_elim}
use mathlib.Core.Bool.{Bool, true, false, ◌||◌}
use mathlib.Core.List.Memᴰ
use mathlib.Core.List.{List, [], ◌∷◌, Memᴰ}
use Prim.Native.Nat.{ℕ, suc, ◌<◌, ◌≤◌}
use native.Mathlib.Omega.{arith}
use Rattle.std.specs.Prelude.{length, Some, Result, Ok, Err, IsErr, is_err}
use Rattle.nodes.specs.declared.apply.Operation.TheVariants.{Or}
use Rattle.nodes.specs.declared.levels.Level.{Level}
use Rattle.nodes.specs.declared.manager.Full.{Full}
use Rattle.nodes.specs.declared.manager.Manager.{Manager}
use Rattle.nodes.specs.declared.quantify.Trio.{Trio}
use Rattle.nodes.specs.Fun.{Fun, either, fixed, exists, Part, From}
use Rattle.nodes.specs.Formula.{some}
use Rattle.nodes.specs.Table.{Table, last_level, level_of, choice, den, WellFormed, Entry}
use Rattle.nodes.specs.internal.Growth.{Extends, Absent, Built, Short}
use Rattle.nodes.specs.internal.Make.{Makeable, node_fun, MadeAt, Held, held_table, Makes}
use Rattle.nodes.specs.internal.Lent.{table_of, store, leaving}
use Rattle.nodes.specs.internal.Operate.{operation, Cofactor, Quantified, quantifying, Recalls, Remembered, quantified_level, quantified_entry}
use Rattle.nodes.specs.internal.Work.{Added, Has, Lacks, Store, Keeps, Does, grew, filled, Stands, Maps}
use Rattle.nodes.specs.internal.Quantify.{Funs, listed, results_of, Trebled, MakeableThree, node_funs, RecalledThree, MeantThree, Trebles, Trebling}
use Rattle.nodes.proofs.Funs.{shannon, from_put, from_fixed, part_fixed, part_refl}
use Rattle.nodes.proofs.Tables.{den_from, den_extends}
use Rattle.nodes.proofs.Parting.{levels_length}
use Rattle.nodes.proofs.Making.{short}
use Rattle.nodes.proofs.Stepping.{level_above}
use Rattle.nodes.proofs.Operating.{put_put, from_fixed_at}
use Rattle.nodes.proofs.Memory.{recalls}
use Rattle.nodes.proofs.Working.{Within, added_none, added_then, added_within, lacks_within, grows_built, lacks_short, contrary, does_then, used_one}

-- ---- lists of three functions

within_some : (h : Fun) (fs : List Fun) → Memᴰ h fs → Within (h ∷ []) fs
within_some h fs k f m = (h, k, subst (Part h) (sym (Memᴰ.eq_of_singleton m)) (part_refl h))

module _ (h : Funs) where
  pub first_in : Memᴰ h.zero (listed h)
  first_in = Memᴰ.head refl

  pub second_in : Memᴰ h.one (listed h)
  second_in = Memᴰ.tail (Memᴰ.head refl)

  pub third_in : Memᴰ h.any (listed h)
  third_in = Memᴰ.tail (Memᴰ.tail (Memᴰ.head refl))

  within_listed : (g : Funs) → Part h.zero g.zero → Part h.one g.one → Part h.any g.any → Within (listed g) (listed h)
  within_listed g p q r f m = ⊎_elim
      (λ e. (h.zero, first_in, subst (Part h.zero) (sym e) p))
      (λ m'. ⊎_elim
      (λ e. (h.one, second_in, subst (Part h.one) (sym e) q))
      (λ m''. (h.any, third_in, subst (Part h.any) (sym (Memᴰ.eq_of_singleton m'')) r))
      (Memᴰ.cases_cons m'))
      (Memᴰ.cases_cons m)

  within_same : Within (listed h) (listed h)
  within_same = within_listed h (part_refl _) (part_refl _) (part_refl _)

lacks_after : {t t₁ t₂ : Table} {fs gs hs : List Fun} → Within fs hs → Within gs hs → Added t t₁ fs → Lacks t₁ t₂ gs → Lacks t t₂ hs
lacks_after v w x y =
    let z = lacks_within w y in
    record {
      added = added_then v w x y.added;
      full = z.full;
      lacking = z.lacking;
      needed = z.needed;
      varies = z.varies;
      absent = z.absent;
    }

pub entry_kept : {t t' : Table} → WellFormed t → Extends t t' → (i : ℕ) (f : Fun) → Entry t i f → Entry t' i f
entry_kept {t} {t'} wf x i f e = let l = e.0 in let y = x.longer in (omega arith, den_extends t wf t' x i l ∙ e.1)

-- ---- three nodes that are made one after the other

-- t₁ is t with what functions of the list need, and t₂ is t₁ with one node more
pub record Next (t t₁ t₂ : Table) (fs : List Fun) (h : Fun) (i : ℕ) : Type 0 where
  pub added : Added t t₂ fs
  pub entry : Entry t₂ i h
  pub kept : (k : ℕ) (f : Fun) → Entry t₁ k f → Entry t₂ k f

module _ {t t₁ : Table} {fs : List Fun} {v lo hi : ℕ} (ok : Makeable t v lo hi) (added : Added t t₁ fs) where
  pub makeable_kept : Makeable t₁ v lo hi
  makeable_kept =
      let x = added.extends in
      let l = x.longer in
      let a = ok.low_used in
      let b = ok.high_used in
      let c = x.same_level lo a in
      let d = x.same_level hi b in
      let e = ok.low_deeper in
      let f = ok.high_deeper in
      record {
        formed = added.formed;
        in_range = ok.in_range;
        low_used = omega arith;
        high_used = omega arith;
        low_deeper = omega arith;
        high_deeper = omega arith;
      }

  same_fun : node_fun t₁ v lo hi ≡ node_fun t v lo hi
  same_fun = let same = den_extends t added.began t₁ added.extends in ap₂ (choice v) (same hi ok.high_used) (same lo ok.low_used)

  -- a node that is made in t₁, which leaves t₂
  module _ (inside : Memᴰ (node_fun t v lo hi) fs) where
    within_same_fun : Within (node_fun t₁ v lo hi ∷ []) fs
    within_same_fun = subst (λ (h : Fun). Within (h ∷ []) fs) (sym same_fun) (within_some (node_fun t v lo hi) fs inside)

    within_fs : Within fs fs
    within_fs f m = (f, m, part_refl f)

    pub next_made : {t₂ : Table} (i : ℕ) → MadeAt t₁ t₂ (node_fun t₁ v lo hi) i → Next t t₁ t₂ fs (node_fun t v lo hi) i
    next_made i x =
        let b = x.built in
        record {
          added = added_then within_fs within_same_fun added (grows_built added.formed b).added;
          entry = (b.found, b.stands ∙ same_fun);
          kept = entry_kept added.formed b.grown.extends;
        }

    -- or the table is full
    pub lacks_made : t₁.used ≡ length t₁.level → Absent t₁ (node_fun t₁ v lo hi) → Lacks t t₁ fs
    lacks_made full absent = lacks_after within_fs within_same_fun added (lacks_short added.formed (short t₁ v lo hi makeable_kept full absent))

-- from the lists h₁, which leaves h₂
module _ (h₁ h₂ : Held) {t : Table} {fs : List Fun} {v lo hi : ℕ} (ok : Makeable t v lo hi) (added : Added t (held_table h₁) fs) (inside : Memᴰ (node_fun t v lo hi) fs) where
  abbrev makes : Result ℕ Full → Type 0
  makes r = Makes h₁ h₂ (node_fun (held_table h₁) v lo hi) r

  pub made_next : (i : ℕ) → makes (Ok i) → Next t (held_table h₁) (held_table h₂) fs (node_fun t v lo hi) i
  made_next i x = next_made ok added inside i x.0

  pub made_lacks : (e : Full) → makes (Err e) → Lacks t (held_table h₂) fs
  made_lacks e x = subst (λ (u : Held). Lacks t (held_table u) fs) (sym x.same)
      (lacks_made ok added inside (x.full ∙ sym (levels_length h₁.packed)) x.absent)

pub made_three : {t t₁ t₂ t₃ : Table} {h : Funs} {i j k : ℕ} → Next t t t₁ (listed h) h.zero i → Next t t₁ t₂ (listed h) h.one j
    → Next t t₂ t₃ (listed h) h.any k → Trebled t t₃ h (record { zero = i; one = j; any = k })
made_three {h = h} {i} {j} x y z = record {
  added = z.added;
  zero = z.kept i h.zero (y.kept i h.zero x.entry);
  one = z.kept j h.one y.entry;
  any = z.entry;
}

-- three nodes from the lists h₀, which leave h₁, h₂ and h₃ in turn
abbrev three : Held → ℕ → Trio → Trio → Funs
three h₀ v a b = node_funs (held_table h₀) v a b

none_yet : {t : Table} {v : ℕ} {a b : Trio} → MakeableThree t v a b → Added t t (listed (node_funs t v a b))
none_yet {t} {v} {a} {b} ok = added_none t (listed (node_funs t v a b)) ok.zero.formed

module _ {h₀ h₁ : Held} {v : ℕ} {a b : Trio} (ok : MakeableThree (held_table h₀) v a b) where
  pub three_lacks_1 : {e : Full} → Makes h₀ h₁ (node_fun (held_table h₀) v a.zero b.zero) (Err e) → Lacks (held_table h₀) (held_table h₁) (listed (three h₀ v a b))
  three_lacks_1 {e} = made_lacks h₀ h₁ ok.zero (none_yet ok) (first_in (three h₀ v a b)) e

  module _ {i : ℕ} (x : Makes h₀ h₁ (node_fun (held_table h₀) v a.zero b.zero) (Ok i)) where
    next_1 : Next (held_table h₀) (held_table h₀) (held_table h₁) (listed (three h₀ v a b)) (node_fun (held_table h₀) v a.zero b.zero) i
    next_1 = made_next h₀ h₁ ok.zero (none_yet ok) (first_in (three h₀ v a b)) i x

    pub three_lacks_2 : {h₂ : Held} {e : Full} → Makes h₁ h₂ (node_fun (held_table h₁) v a.one b.one) (Err e) → Lacks (held_table h₀) (held_table h₂) (listed (three h₀ v a b))
    three_lacks_2 {h₂} {e} = made_lacks h₁ h₂ ok.one next_1.added (second_in (three h₀ v a b)) e

    module _ {h₂ : Held} {j : ℕ} (y : Makes h₁ h₂ (node_fun (held_table h₁) v a.one b.one) (Ok j)) where
      next_2 : Next (held_table h₀) (held_table h₁) (held_table h₂) (listed (three h₀ v a b)) (node_fun (held_table h₀) v a.one b.one) j
      next_2 = made_next h₁ h₂ ok.one next_1.added (second_in (three h₀ v a b)) j y

      -- the ∨ is the first of them
      pub three_joined : a.any ≡ a.zero → b.any ≡ b.zero → Trebled (held_table h₀) (held_table h₂) (three h₀ v a b) (record { zero = i; one = j; any = i })
      three_joined d e =
          let same : (three h₀ v a b).zero ≡ (three h₀ v a b).any = ap₂ (node_fun (held_table h₀) v) (sym d) (sym e) in
          made_three next_1 next_2 (record {
            added = next_2.added;
            entry = subst (Entry (held_table h₂) i) same (next_2.kept i _ next_1.entry);
            kept = λ k f z. z;
          })

      pub three_lacks_3 : {h₃ : Held} {e : Full} → Makes h₂ h₃ (node_fun (held_table h₂) v a.any b.any) (Err e) → Lacks (held_table h₀) (held_table h₃) (listed (three h₀ v a b))
      three_lacks_3 {h₃} {e} = made_lacks h₂ h₃ ok.any next_2.added (third_in (three h₀ v a b)) e

      pub three_made : {h₃ : Held} {k : ℕ} → Makes h₂ h₃ (node_fun (held_table h₂) v a.any b.any) (Ok k)
          → Trebled (held_table h₀) (held_table h₃) (three h₀ v a b) (record { zero = i; one = j; any = k })
      three_made {h₃} {k} z = made_three next_1 next_2 (made_next h₂ h₃ ok.any next_2.added (third_in (three h₀ v a b)) k z)

-- a function that ends early: m is left full, and r is the answer
pub stopped_three : {s : Store} (m : Manager) {h : Funs} (r : Result Trio Full) → IsErr r → Keeps s (store m true) → Lacks s.table (table_of m) (listed h)
    → Trebling s (leaving m r) h r
stopped_three m (Ok i) e k x = contrary e refl
stopped_three m (Err d) e k x = record { kept = k; answers = x }

-- ---- the memory of results

module _ (v f : ℕ) (in_range : v ≤ last_level) where
  asked_level : quantified_level (quantifying v f) ≡ v
  asked_level = omega arith

  asked_entry : quantified_entry (quantifying v f) ≡ f
  asked_entry = omega arith

-- what is made may be remembered
pub three_recalled : {t t' : Table} {v : Level} {f : ℕ} {h : Funs} {r : Trio} → MeantThree t v f h → Trebled t t' h r → Recalls t' (quantifying v.v f) r.zero r.one r.any
three_recalled {t} {t'} {v} {f} {h} {r} m x =
    let same = den_extends t x.added.began t' x.added.extends f m.used in
    let longer = x.added.extends.longer in
    let u = m.used in
    let q : Quantified t' v.v f r.zero r.one r.any = record {
      operand = omega arith;
      zero = x.zero.1 ∙ m.zero ∙ ap (fixed v.v false) (sym same);
      one = x.one.1 ∙ m.one ∙ ap (fixed v.v true) (sym same);
      any = x.any.1 ∙ m.any ∙ ap (exists v.v) (sym same);
    } in
    record {
      left = x.zero.0;
      right = x.one.0;
      found = x.any.0;
      stands = λ h. absurd (omega arith);
      quantified = λ h. subst₂ (λ (w k : ℕ). Quantified t' w k r.zero r.one r.any) (sym (asked_level v.v f v.fits)) (sym (asked_entry v.v f v.fits)) q;
    }

-- ---- the results of ∃v F

module _ (v : ℕ) (F : Fun) where
  -- of a function that does not read v
  exists_same : F ≡ fixed v false F → F ≡ fixed v true F → F ≡ exists v F
  unfolding exists either
  exists_same p q = fun_ext (λ a. sym (ap₂ ◌||◌ (ap (λ (f : Fun). f a) (sym p)) (ap (λ (f : Fun). f a) (sym q)) ∙ or_same (F a)))
    where
      or_same : (b : Bool) → (b || b) ≡ b
      or_same true = refl
      or_same false = refl

  from_exists : {w : ℕ} → From w F → From w (exists v F)
  unfolding exists either
  from_exists ff a a' agree = ap₂ ◌||◌ (from_fixed_at F ff v false a a' agree) (from_fixed_at F ff v true a a' agree)

  module _ (l : ℕ) (differ : l ≡ v → ⊥) (b : Bool) where
    fixed_turned : (c : Bool) → fixed v c (fixed l b F) ≡ fixed l b (fixed v c F)
    unfolding fixed
    fixed_turned c = fun_ext (λ a. ap F (put_put l v b c a differ))

    exists_turned : exists v (fixed l b F) ≡ fixed l b (exists v F)
    unfolding exists either fixed
    exists_turned = fun_ext (λ a. ap₂ ◌||◌ (ap F (put_put l v b false a differ)) (ap F (put_put l v b true a differ)))

    -- those of F with a level fixed that F may have on top are parts of those of F
    within_fixed : From l F → Within (listed (results_of v (fixed l b F))) (listed (results_of v F))
    within_fixed ff = within_listed (results_of v F) (results_of v (fixed l b F))
        (subst (Part (fixed v false F)) (sym (fixed_turned false)) (part_fixed (from_fixed_at F ff v false) b))
        (subst (Part (fixed v true F)) (sym (fixed_turned true)) (part_fixed (from_fixed_at F ff v true) b))
        (subst (Part (exists v F)) (sym exists_turned) (part_fixed (from_exists ff) b))

-- ---- an entry that does not read v, or has it on top

module _ {t : Table} {v f : ℕ} (wf : WellFormed t) (used : f < t.used) where
  pub settle_deeper : v < level_of t f → Trebled t t (results_of v (den t f)) (record { zero = f; one = f; any = f })
  unfolding fixed
  settle_deeper h =
      let at : (b : Bool) → den t f ≡ fixed v b (den t f) = λ b. fun_ext (λ a. sym (from_put (den_from t wf f used) h b a)) in
      record {
        added = added_none t (listed (results_of v (den t f))) wf;
        zero = (used, at false);
        one = (used, at true);
        any = (used, exists_same v (den t f) (at false) (at true));
      }

  module _ {z w : ℕ} (low : Cofactor t f v false z) (high : Cofactor t f v true w) where
    settle_fun : operation Or (den t z) (den t w) ≡ exists v (den t f)
    unfolding exists
    settle_fun = ap₂ either low.stands high.stands

    settle_within : Within (operation Or (den t z) (den t w) ∷ []) (listed (results_of v (den t f)))
    settle_within = subst (λ (h : Fun). Within (h ∷ []) (listed (results_of v (den t f)))) (sym settle_fun)
        (within_some (exists v (den t f)) (listed (results_of v (den t f))) (third_in (results_of v (den t f))))

    pub settle_joined : {t' : Table} {i : ℕ} → Built t t' (operation Or (den t z) (den t w)) i
        → Trebled t t' (results_of v (den t f)) (record { zero = z; one = w; any = i })
    settle_joined b =
        let kept = entry_kept wf b.grown.extends in
        record {
          added = added_within settle_within (grows_built wf b).added;
          zero = kept z (fixed v false (den t f)) (low.used, low.stands);
          one = kept w (fixed v true (den t f)) (high.used, high.stands);
          any = (b.found, b.stands ∙ settle_fun);
        }

    pub settle_lacks : {t' : Table} → Short t t' (operation Or (den t z) (den t w)) → Lacks t t' (listed (results_of v (den t f)))
    settle_lacks x = lacks_within settle_within (lacks_short wf x)

-- ---- the recursion

-- a node by a level l between entries of H with l fixed stands for H
module _ (t : Table) (wf : WellFormed t) (l : ℕ) (in_range : l ≤ last_level) (H : Fun) (from : From l H) (i j : ℕ)
    (low : Entry t i (fixed l false H)) (high : Entry t j (fixed l true H)) where
  makeable_over : Makeable t l i j
  makeable_over = record {
    formed = wf;
    in_range = in_range;
    low_used = low.0;
    high_used = high.0;
    low_deeper = level_above t wf l in_range i low.0 (subst (From (suc l)) (sym low.1) (from_fixed H from false));
    high_deeper = level_above t wf l in_range j high.0 (subst (From (suc l)) (sym high.1) (from_fixed H from true));
  }

  node_over : node_fun t l i j ≡ H
  node_over = ap₂ (choice l) high.1 low.1 ∙ shannon l H

trebled_same : {t t' : Table} {g h : Funs} (r : Trio) → g ≡ h → Trebled t t' g r → Trebled t t' h r
trebled_same {t} {t'} r e = subst (λ (k : Funs). Trebled t t' k r) e

-- the results that the memory has
pub quantify_recalled : {t : Table} (v : Level) (f : ℕ) → WellFormed t → (memo : List ℕ) → Remembered t memo → (r : Trio) → RecalledThree memo (quantifying v.v f) (Some r)
    → Trebled t t (results_of v.v (den t f)) r
quantify_recalled {t} v f wf memo m r h =
    let x = recalls t memo (quantifying v.v f) r.zero r.one r.any m h in
    let q = subst₂ (λ (w k : ℕ). Quantified t w k r.zero r.one r.any) (asked_level v.v f v.fits) (asked_entry v.v f v.fits) (x.quantified (omega arith)) in
    record {
      added = added_none t (listed (results_of v.v (den t f))) wf;
      zero = (x.left, q.zero);
      one = (x.right, q.one);
      any = (x.found, q.any);
    }

-- entry f has a level l above v, and f0 and f1 are f with l fixed to each bit
pub record Above (t : Table) (v : Level) (f l f0 f1 : ℕ) : Type 0 where
  pub formed : WellFormed t
  pub used : f < t.used
  pub top : l ≡ level_of t f
  pub above : l < v.v
  pub low : Cofactor t f l false f0
  pub high : Cofactor t f l true f1

module _ {t : Table} {m : Level} {f l f0 f1 : ℕ} (sp : Above t m f l f0 f1) where
  abbrev v : ℕ
  v = m.v

  abbrev H : Funs
  H = results_of v (den t f)

  differ : l ≡ v → ⊥
  differ e = let a = sp.above in omega arith

  in_range : l ≤ last_level
  in_range = let a = m.fits in let b = sp.above in omega arith

  from : From l (den t f)
  from = subst (λ (k : ℕ). From k (den t f)) (sym sp.top) (den_from t sp.formed f sp.used)

  within_low : Within (listed (results_of v (den t f0))) (listed H)
  within_low = subst (λ (F : Fun). Within (listed (results_of v F)) (listed H)) (sym sp.low.stands) (within_fixed v (den t f) l differ false from)

  pub quantify_short_1 : {t₁ : Table} → Lacks t t₁ (listed (results_of v (den t f0))) → Lacks t t₁ (listed H)
  quantify_short_1 x = lacks_within within_low x

  module _ {t₁ : Table} {a : Trio} (first : Trebled t t₁ (results_of v (den t f0)) a) where
    high_same : den t₁ f1 ≡ fixed l true (den t f)
    high_same = den_extends t sp.formed t₁ first.added.extends f1 sp.high.used ∙ sp.high.stands

    within_high : Within (listed (results_of v (den t₁ f1))) (listed H)
    within_high = subst (λ (F : Fun). Within (listed (results_of v F)) (listed H)) (sym high_same) (within_fixed v (den t f) l differ true from)

    pub quantify_short_2 : {t₂ : Table} → Lacks t₁ t₂ (listed (results_of v (den t₁ f1))) → Lacks t t₂ (listed H)
    quantify_short_2 x = lacks_after within_low within_high first.added x

    module _ {t₂ : Table} {b : Trio} (second : Trebled t₁ t₂ (results_of v (den t₁ f1)) b) where
      -- the six entries in t₂
      low_entry : (i : ℕ) (h : Fun → Fun) (K : Fun) → h (fixed l false (den t f)) ≡ fixed l false K → Entry t₁ i (h (den t f0)) → Entry t₂ i (fixed l false K)
      low_entry i h K e x =
          entry_kept first.added.formed second.added.extends i (fixed l false K) (x.0, x.1 ∙ ap h sp.low.stands ∙ e)

      high_entry : (i : ℕ) (h : Fun → Fun) (K : Fun) → h (fixed l true (den t f)) ≡ fixed l true K → Entry t₂ i (h (den t₁ f1)) → Entry t₂ i (fixed l true K)
      high_entry i h K e x = (x.0, x.1 ∙ ap h high_same ∙ e)

      zero_low : Entry t₂ a.zero (fixed l false H.zero)
      zero_low = low_entry a.zero (fixed v false) H.zero (fixed_turned v (den t f) l differ false false) first.zero

      one_low : Entry t₂ a.one (fixed l false H.one)
      one_low = low_entry a.one (fixed v true) H.one (fixed_turned v (den t f) l differ false true) first.one

      any_low : Entry t₂ a.any (fixed l false H.any)
      any_low = low_entry a.any (exists v) H.any (exists_turned v (den t f) l differ false) first.any

      zero_high : Entry t₂ b.zero (fixed l true H.zero)
      zero_high = high_entry b.zero (fixed v false) H.zero (fixed_turned v (den t f) l differ true false) second.zero

      one_high : Entry t₂ b.one (fixed l true H.one)
      one_high = high_entry b.one (fixed v true) H.one (fixed_turned v (den t f) l differ true true) second.one

      any_high : Entry t₂ b.any (fixed l true H.any)
      any_high = high_entry b.any (exists v) H.any (exists_turned v (den t f) l differ true) second.any

      from_zero : From l H.zero
      from_zero = from_fixed_at (den t f) from v false

      from_one : From l H.one
      from_one = from_fixed_at (den t f) from v true

      from_any : From l H.any
      from_any = from_exists v (den t f) from

      pub quantify_makeable : MakeableThree t₂ l a b
      quantify_makeable =
          let wf = second.added.formed in
          record {
            zero = makeable_over t₂ wf l in_range H.zero from_zero a.zero b.zero zero_low zero_high;
            one = makeable_over t₂ wf l in_range H.one from_one a.one b.one one_low one_high;
            any = makeable_over t₂ wf l in_range H.any from_any a.any b.any any_low any_high;
          }

      same_funs : node_funs t₂ l a b ≡ H
      same_funs i =
          let wf = second.added.formed in
          record {
            zero = node_over t₂ wf l in_range H.zero from_zero a.zero b.zero zero_low zero_high i;
            one = node_over t₂ wf l in_range H.one from_one a.one b.one one_low one_high i;
            any = node_over t₂ wf l in_range H.any from_any a.any b.any any_low any_high i;
          }

      added_2 : Added t t₂ (listed H)
      added_2 = added_then within_low within_high first.added second.added

      -- so they may be remembered
      pub quantify_meant : MeantThree t₂ m f (node_funs t₂ l a b)
      quantify_meant =
          let same = den_extends t sp.formed t₂ added_2.extends f sp.used in
          let longer = added_2.extends.longer in
          let u = sp.used in
          record {
            used = omega arith;
            zero = ap (λ (h : Funs). h.zero) same_funs ∙ ap (fixed v false) (sym same);
            one = ap (λ (h : Funs). h.one) same_funs ∙ ap (fixed v true) (sym same);
            any = ap (λ (h : Funs). h.any) same_funs ∙ ap (exists v) (sym same);
          }

      pub quantify_answers : (t₃ : Table) (r : Result Trio Full) → Trebles t₂ t₃ (node_funs t₂ l a b) r → Trebles t t₃ H r
      quantify_answers t₃ (Ok r) x =
          let y = trebled_same r same_funs x in
          record {
            added = added_then (within_same H) (within_same H) added_2 y.added;
            zero = y.zero;
            one = y.one;
            any = y.any;
          }
      quantify_answers t₃ (Err e) x =
          lacks_after (within_same H) (within_same H) added_2 (subst (λ (h : Funs). Lacks t₂ t₃ (listed h)) same_funs x)

-- ---- ∃ as a step of a formula

-- the entry of ∃
abbrev pub any_of : Result Trio Full → ℕ
any_of (Ok r) = r.any
any_of (Err e) = 0

has_three : {t t' : Table} (h : Funs) (r : Trio) → Trebled t t' h r → (f : Fun) → Memᴰ f (listed h) → Has t' f
has_three h r x f m = ⊎_elim
    (λ e. (r.zero, (x.zero.0, x.zero.1 ∙ sym e)))
    (λ m'. ⊎_elim
    (λ e. (r.one, (x.one.0, x.one.1 ∙ sym e)))
    (λ m''. (r.any, (x.any.0, x.any.1 ∙ sym (Memᴰ.eq_of_singleton m''))))
    (Memᴰ.cases_cons m'))
    (Memᴰ.cases_cons m)

module _ {s s' : Store} where
  -- the answer, as what was done
  pub quantified : (h : Funs) (r : Result Trio Full) → s.full ≡ false → s'.full ≡ is_err r → Trebles s.table s'.table h r
      → Does s s' (listed h) × Stands s' (any_of r) h.any
  quantified h (Ok r) e k x = (grew e k (record { added = x.added; has = has_three h r x }), λ _. x.any)
  quantified h (Err _) e k x = (filled e k x, λ o. contrary k o)

  -- the three functions are listed with ∃
  pub maps_exists : (v f : ℕ) (r : Result Trio Full) → s.full ≡ false → s'.full ≡ is_err r → f < s.table.used
      → Trebling s s' (results_of v (den s.table f)) r → Maps s s' (some v) f (any_of r)
  maps_exists v f r e k u x = record {
    kept = x.kept;
    gives = λ {s₀} {φ} p.
        let (d, y) = subst (λ (F : Fun). Does s s' (listed (results_of v F)) × Stands s' (any_of r) (exists v F)) (p.stands e).1
        (quantified (results_of v (den s.table f)) r e k x.answers) in
        record { does = does_then p.does d; stands = y };
    nothing = used_one u;
  }
