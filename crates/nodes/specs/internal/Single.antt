-- Single functions: each is listed as a whole. Assumes nothing.
use Rattle.std.specs.Prelude.{Bool, true, false, [], ◌∷◌, ℕ, zero, suc, ◌+◌, ◌*◌, eqb, ltb}
use Rattle.nodes.specs.Fun.{Assignment, Fun, From, digit, never}
use Rattle.nodes.specs.Table.{choice}
use Rattle.nodes.specs.internal.Work.{Store, Keeps, Does, Stands}

-- the number whose w binary digits stand at the levels v, v + k, v + 2 k and so on, lowest first
abbrev pub number_at : ℕ → ℕ → ℕ → Assignment → ℕ
number_at v k zero a = 0
number_at v k (suc w) a = digit (a v) + 2 * number_at (v + k) k w a

-- it is c
unfoldable pub number_is : ℕ → ℕ → ℕ → ℕ → Fun
number_is v k w c a = eqb (number_at v k w a) c

-- it is below n
unfoldable pub number_below : ℕ → ℕ → ℕ → ℕ → Fun
number_below v k w n a = ltb (number_at v k w a) n

-- it is the number that stands one level on
unfoldable pub numbers_same : ℕ → ℕ → ℕ → Fun
numbers_same v k w a = eqb (number_at (v + 1) k w a) (number_at v k w a)

-- F where level v is b, and false elsewhere
unfoldable pub guarded : ℕ → Bool → Fun → Fun
guarded v true F = choice v F never
guarded v false F = choice v never F

-- F where levels v and w are equal, and false elsewhere
unfoldable pub paired : ℕ → ℕ → Fun → Fun
paired v w F = choice v (guarded w true F) (guarded w false F)

-- a call works out h F, where f stands for F, which reads levels from w on
pub record Guards (s s' : Store) (w : ℕ) (h : Fun → Fun) (f i : ℕ) : Type 0 where
  pub kept : Keeps s s'
  pub adds : (F : Fun) → Stands s f F → From w F → Does s s' (h F ∷ []) × Stands s' i (h F)
