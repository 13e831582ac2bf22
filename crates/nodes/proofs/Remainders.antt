-- A remainder by taking away multiples. Assumes nothing.
use mathlib.Core.Path.{◌≡◌, sym, ap, ◌∙◌, subst}
use mathlib.Core.Bool.{Bool, cond}
use Prim.Native.Nat.{ℕ, ◌+◌, ◌-◌, ◌*◌, ◌%◌, ◌<◌, ◌≤◌}
use native.Mathlib.Nat.{mod-eq_of_lt, add-mul-mod_self_right}
use native.Mathlib.Omega.{arith}
use lib.Dec.{ltb}
use borrow.Author.Tests.{lt-ltb, le-ltb}
use Rattle.nodes.proofs.Funs.{by_lt}

-- x, less m where it has that much
abbrev pub less : ℕ → ℕ → ℕ
less x m = cond (ltb x m) x (x - m)

less_small : (x m : ℕ) → x < m → less x m ≡ x
less_small x m h = ap (λ (b : Bool). cond b x (x - m)) (lt-ltb x m h)

less_large : (x m : ℕ) → m ≤ x → less x m ≡ x - m
less_large x m h = ap (λ (b : Bool). cond b x (x - m)) (le-ltb x m h)

pub less_below : (x m : ℕ) → x < 2 * m → less x m < m
less_below x m h = by_lt (less x m < m) x m
    (λ l. subst (λ (y : ℕ). y < m) (sym (less_small x m l)) l)
    (λ g. subst (λ (y : ℕ). y < m) (sym (less_large x m g)) (omega arith))

pub less_mod : (x k n : ℕ) → less x (k * n) % n ≡ x % n
less_mod x k n = by_lt (less x (k * n) % n ≡ x % n) x (k * n)
    (λ l. ap (λ (y : ℕ). y % n) (less_small x (k * n) l))
    (λ g.
    let m = k * n in
    let e : x - m + m ≡ x = omega arith in
    ap (λ (y : ℕ). y % n) (less_large x m g) ∙ sym (add-mul-mod_self_right (x - m) k n) ∙ ap (λ (y : ℕ). y % n) e)

pub remainder_is : (x n : ℕ) → x < 8 * n → less (less (less x (4 * n)) (2 * n)) n ≡ x % n
remainder_is x n h =
    let a = less x (4 * n) in
    let b = less a (2 * n) in
    let al : a < 4 * n = less_below x (4 * n) (omega arith) in
    let bl : b < 2 * n = less_below a (2 * n) (omega arith) in
    let cl : less b n < n = less_below b n bl in
    let one : less b n % n ≡ b % n = subst (λ (m : ℕ). less b m % n ≡ b % n) (let e : 1 * n ≡ n = omega arith in e) (less_mod b 1 n) in
    sym (mod-eq_of_lt cl) ∙ one ∙ less_mod a 2 n ∙ less_mod x 4 n
