-- A manager that is full: whatever a call would ensure holds of it as it is, so that a function which ends early has done what its formula says.
-- Assumes nothing.
--     more_..           a formula with an operand lists what the operand lists
--     full_..           what is left to do on a full manager
--     stopped_..        a function that ends early, by the answer of the call that did not fit
use mathlib.Core.Path.{◌≡◌, refl, sym, ap, subst}
use mathlib.Core.Bool.{Bool, true, false}
use mathlib.Core.Logic.{⊎_elim}
use mathlib.Core.List.Memᴰ
use mathlib.Core.List.{◌++◌}
use Prim.Native.Nat.{ℕ, zero, suc, ◌+◌, ◌-◌, ◌≤◌}
use native.Mathlib.Omega.{arith}
use Rattle.std.specs.Prelude.{Result, Ok, Err, IsErr}
use Rattle.nodes.specs.Fun.{Fun}
use Rattle.nodes.specs.Formula.{Formula, ◌∧'◌, ◌∨'◌, ¬'◌, fix, some, results, renamed, fix_below}
use Rattle.nodes.specs.Needed.{Among}
use Rattle.nodes.specs.declared.manager.Full.{Full}
use Rattle.nodes.specs.declared.manager.Manager.{Manager}
use Rattle.nodes.specs.internal.Growth.{Short}
use Rattle.nodes.specs.internal.Lent.{table_of, store, leaving, entry_of}
use Rattle.nodes.specs.internal.Single.{Guards}
use Rattle.nodes.specs.internal.Work.{Store, Keeps, stayed, Operating, Gives, Lists, Continues, Maps, Joins, Follows, Uses₁, Uses₂, Chooses}
use Rattle.nodes.proofs.Singles.{one_less, renamed_more}
use Rattle.nodes.proofs.Working.{contrary, keeps_none, full_more, does_then}

-- ---- the lists of formulas with operands

abbrev pub More : (Formula → Formula) → Type 0
More C = (φ : Formula) → Among (results φ) (results (C φ))

abbrev pub More₂ : (Formula → Formula → Formula) → Type 0
More₂ K = (φ ψ : Formula) → Among (results φ ++ results ψ) (results (K φ ψ))

pub more_not : More ¬'◌
more_not φ f m = Memᴰ.append_left _ m

pub more_fix : (v : ℕ) (b : Bool) → More (fix v b)
more_fix v b φ f m = Memᴰ.append_left _ m

pub more_some : (v : ℕ) → More (some v)
more_some v φ f m = Memᴰ.append_left _ m

pub more_and : More₂ ◌∧'◌
more_and φ ψ f m = Memᴰ.append_left _ m

pub more_or : More₂ ◌∨'◌
more_or φ ψ f m = Memᴰ.append_left _ m

more_without : More₂ (λ φ ψ. φ ∧' ¬' ψ)
more_without φ ψ f m =
    more_and φ (¬' ψ) f (⊎_elim (Memᴰ.append_left _) (λ k. Memᴰ.append_right (results φ) (more_not ψ f k)) (Memᴰ.append_cases (results φ) m))

-- one after the other
pub more_then : (C D : Formula → Formula) → More C → More D → More (λ φ. D (C φ))
more_then C D c d φ f m = d (C φ) f (c φ f m)

-- the first operand of two
pub more_first : (K : Formula → Formula → Formula) (ψ : Formula) → More₂ K → More (λ φ. K φ ψ)
more_first K ψ k φ f m = k φ ψ f (Memᴰ.append_left (results ψ) m)

pub more_second : (K : Formula → Formula → Formula) (φ : Formula) → More₂ K → More (λ ψ. K φ ψ)
more_second K φ k ψ f m = k φ ψ f (Memᴰ.append_right (results φ) m)

pub more_renamed : (v w : ℕ) → More (renamed v w)
more_renamed v w φ = renamed_more v w φ

pub more_fix_below : (n c : ℕ) → More (fix_below n c)
more_fix_below zero c φ f m = m
more_fix_below (suc n) c φ f m = Memᴰ.append_left _ (more_fix_below n c φ f m)

-- the levels below m, and those below n
more_below : (m c : ℕ) (φ : Formula) (d n : ℕ) → n ≡ d + m → Among (results (fix_below m c φ)) (results (fix_below n c φ))
more_below m c φ zero n e = let q : n ≡ m = omega (arith, e) in subst (λ (k : ℕ). Among (results (fix_below m c φ)) (results (fix_below k c φ))) (sym q) (λ f k. k)
more_below m c φ (suc d) n e = one_less (λ k. Among (results (fix_below m c φ)) (results (fix_below k c φ))) n (omega (arith, e))
    (λ u q f k. Memᴰ.append_left _ (more_below m c φ d u (omega (arith, e, q)) f k))

-- ---- what is left to do on a full manager

module _ {s : Store} (full : s.full ≡ true) where
  pub full_gives : {φ : Formula} {i : ℕ} → Gives s s φ i
  full_gives = record { does = stayed full refl; stands = λ o. contrary full o }

  -- the operand of a formula was worked out: so was the formula
  pub full_goes_on : (C : Formula → Formula) → More C → {s₀ : Store} {φ : Formula} {f i : ℕ} → Gives s₀ s φ f → Gives s₀ s (C φ) i
  full_goes_on C more {φ = φ} x = record { does = full_more full (more φ) x.does; stands = λ o. contrary full o }

  pub full_lists : {f : Fun} {i : ℕ} → Lists s s f i
  full_lists = record { kept = keeps_none; gives = full_gives }

  pub full_uses₁ : {C : Fun → Formula} {f i : ℕ} → Uses₁ s s C f i
  full_uses₁ = record { kept = keeps_none; gives = λ F p. full_gives }

  pub full_uses₂ : {C : Fun → Fun → Formula} {f g i : ℕ} → Uses₂ s s C f g i
  full_uses₂ = record { kept = keeps_none; gives = λ F G p q. full_gives }

  pub full_continues : {C : Formula → Formula} {f i : ℕ} → More C → Continues s s C f i
  full_continues {C} more = record { kept = keeps_none; gives = λ x. full_goes_on C more x }

  pub full_maps : {C : Formula → Formula} {f : ℕ} → More C → Maps s s C f f
  full_maps {C} more = record { kept = keeps_none; gives = λ x. full_goes_on C more x; nothing = λ _. (refl, refl) }

  pub full_below : {s₀ : Store} (m n c : ℕ) {f i : ℕ} → m ≤ n → Maps s₀ s (fix_below m c) f i → Maps s₀ s (fix_below n c) f i
  full_below m n c l x = record {
    kept = x.kept;
    gives = λ {s₀} {φ} y. record {
      does = full_more full (more_below m c φ (n - m) n (omega (arith, l))) (x.gives y).does;
      stands = λ o. contrary full o;
    };
    nothing = x.nothing;
  }

  pub full_joins : {K : Formula → Formula → Formula} {f g : ℕ} → More₂ K → Joins s s K f g f
  full_joins {K} more = record {
    kept = keeps_none;
    gives = λ {s₀} {s₁} {φ} {ψ} x y. record { does = full_more full (more φ ψ) (does_then x.does y.does); stands = λ o. contrary full o };
    turned = λ {s₀} {s₁} {φ} {ψ} y x. record {
      does = full_more full
          (λ f m. more φ ψ f (⊎_elim (Memᴰ.append_right (results φ)) (Memᴰ.append_left (results ψ)) (Memᴰ.append_cases (results ψ) m)))
          (does_then y.does x.does);
      stands = λ o. contrary full o;
    };
    nothing = λ _. (refl, refl);
  }

  pub full_and : {f g : ℕ} → Joins s s ◌∧'◌ f g f
  full_and = full_joins more_and

  pub full_or : {f g : ℕ} → Joins s s ◌∨'◌ f g f
  full_or = full_joins more_or

  full_follows : {K : Formula → Formula → Formula} {f g : ℕ} → More₂ K → Follows s s K f g f
  full_follows {K} more = record {
    kept = keeps_none;
    gives = λ {s₀} {s₁} {φ} {ψ} x y. record { does = full_more full (more φ ψ) (does_then x.does y.does); stands = λ o. contrary full o };
    nothing = λ _. (refl, refl);
  }

  pub full_without : {f g : ℕ} → Follows s s (λ φ ψ. φ ∧' ¬' ψ) f g f
  full_without = full_follows more_without

  pub full_guards : {w : ℕ} {h : Fun → Fun} {f i : ℕ} → Guards s s w h f i
  full_guards = record { kept = keeps_none; adds = λ F p q. (stayed full refl, λ o. contrary full o) }

  pub full_chooses : {v lo hi : ℕ} → Chooses s s v lo hi lo
  full_chooses = record {
    kept = keeps_none;
    adds = λ F G p q f g. (stayed full refl, λ o. contrary full o);
    nothing = λ _. (refl, refl);
    not_above = λ _. (refl, refl);
  }

-- ---- functions that end early: m is left full, and r is their answer

pub at_error : (P : Store → ℕ → Type 0) (m : Manager) (r : Result ℕ Full) → IsErr r → P (store m true) 0 → P (leaving m r) (entry_of r)
at_error P m (Ok i) e x = contrary e refl
at_error P m (Err d) e x = x

-- a full manager has no entry to answer
pub no_entry : {s : Store} (m : Manager) {φ : Formula} {i j : ℕ} → Gives s (store m true) φ i → Gives s (store m true) φ j
no_entry m x = record { does = x.does; stands = λ o. contrary {b = (store m true).full} refl o }

module _ {s : Store} (m : Manager) (r : Result ℕ Full) (e : IsErr r) {i : ℕ} where
  pub stopped_lists : {f : Fun} → Lists s (store m true) f i → Lists s (leaving m r) f (entry_of r)
  stopped_lists {f} x = at_error (λ u j. Lists s u f j) m r e (record { kept = x.kept; gives = no_entry m x.gives })

  pub stopped_uses₁ : {C : Fun → Formula} {f : ℕ} → Uses₁ s (store m true) C f i → Uses₁ s (leaving m r) C f (entry_of r)
  stopped_uses₁ {C} {f} x = at_error (λ u j. Uses₁ s u C f j) m r e (record { kept = x.kept; gives = λ F p. no_entry m (x.gives F p) })

  pub stopped_uses₂ : {C : Fun → Fun → Formula} {f g : ℕ} → Uses₂ s (store m true) C f g i → Uses₂ s (leaving m r) C f g (entry_of r)
  stopped_uses₂ {C} {f} {g} x = at_error (λ u j. Uses₂ s u C f g j) m r e (record { kept = x.kept; gives = λ F G p q. no_entry m (x.gives F G p q) })

  pub stopped_continues : {C : Formula → Formula} {f : ℕ} → Continues s (store m true) C f i → Continues s (leaving m r) C f (entry_of r)
  stopped_continues {C} {f} x = at_error (λ u j. Continues s u C f j) m r e (record { kept = x.kept; gives = λ y. no_entry m (x.gives y) })

  pub stopped_guards : {w : ℕ} {h : Fun → Fun} {f : ℕ} → Guards s (store m true) w h f i → Guards s (leaving m r) w h f (entry_of r)
  stopped_guards {w} {h} {f} x = at_error (λ u j. Guards s u w h f j) m r e (record {
    kept = x.kept;
    adds = λ F p q. let (d, k) = x.adds F p q in (d, λ o. contrary {b = (store m true).full} refl o);
  })

-- where an operand is no entry in use, the manager is left as it was, and so not full
module _ {s : Store} (m : Manager) (r : Result ℕ Full) (e : IsErr r) (open₀ : s.full ≡ false) where
  changed : {P : Type 0} → store m true ≡ s → P
  changed q = contrary (ap (λ (u : Store). u.full) (sym q)) open₀

  pub stopped_maps : {C : Formula → Formula} {f i : ℕ} → Maps s (store m true) C f i → Maps s (leaving m r) C f (entry_of r)
  stopped_maps {C} {f} x = at_error (λ u j. Maps s u C f j) m r e (record {
    kept = x.kept;
    gives = λ y. no_entry m (x.gives y);
    nothing = λ h. changed (x.nothing h).0;
  })

  pub stopped_follows : {K : Formula → Formula → Formula} {f g i : ℕ} → Follows s (store m true) K f g i → Follows s (leaving m r) K f g (entry_of r)
  stopped_follows {K} {f} {g} x = at_error (λ u j. Follows s u K f g j) m r e (record {
    kept = x.kept;
    gives = λ y z. no_entry m (x.gives y z);
    nothing = λ h. changed (x.nothing h).0;
  })

-- an operation that did not fit
pub stopped_operating : {s : Store} (m : Manager) (r : Result ℕ Full) → IsErr r → {f : Fun} → Keeps s (store m true) → Short s.table (table_of m) f → Operating s (leaving m r) f r
stopped_operating m (Ok i) e k x = contrary e refl
stopped_operating m (Err d) e k x = record { kept = k; answers = x }
