-- A frame's bytes, with zeros behind them. Assumes nothing.
use Rattle.std.proofs.Common.{◌≡◌, ℕ, ◌-◌, ◌≤◌, List, ◌++◌, length, take, drop, replicate, sym, ap, ◌∙◌, le_refl, arith, take_all, length-drop, length-take-le}
use Rattle.std.proofs.lemmas.List.{length-replicate}
use Rattle.std.proofs.lemmas.Slice.{take-put_mid, take-put_mid_below}
use borrow.Rule.Slice.PartMut.{put_mid, same_len_mid}
use Rattle.frames.specs.Bytes.{max_bytes}
use Rattle.frames.specs.internal.Padded.{padded}

-- what stands behind the first n bytes written over by zeros
module _ (n : ℕ) (b z : List ℕ) (fits : n ≤ max_bytes) (whole : length b ≡ max_bytes) (zeros : z ≡ replicate (length (take (max_bytes - n) (drop n b))) 0) where
  abbrev cleared : List ℕ
  cleared = put_mid n (max_bytes - n) b z

  behind : length (take (max_bytes - n) (drop n b)) ≡ max_bytes - n
  behind = length-take-le (max_bytes - n) (drop n b) (omega (arith, length-drop n b))

  zeros_length : length z ≡ max_bytes - n
  zeros_length = ap length zeros ∙ length-replicate (length (take (max_bytes - n) (drop n b))) 0 ∙ behind

  pub cleared_front : take n cleared ≡ take n b
  cleared_front = take-put_mid_below n (max_bytes - n) b z n (le_refl n) (omega arith)

  pub cleared_length : length cleared ≡ max_bytes
  cleared_length = same_len_mid n (max_bytes - n) b z (zeros_length ∙ sym behind) ∙ whole

  pub cleared_padded : padded (take n cleared) ≡ cleared
  unfolding padded
  cleared_padded =
      ap (λ l. l ++ replicate (max_bytes - length l) 0) cleared_front
      ∙ ap (λ m. take n b ++ replicate (max_bytes - m) 0) (length-take-le n b (omega arith))
      ∙ ap (λ m. take n b ++ replicate m 0) (sym behind)
      ∙ ap (λ l. take n b ++ l) (sym zeros)
      ∙ sym (take-put_mid n (max_bytes - n) b z max_bytes (omega (arith, zeros_length)) (omega arith))
      ∙ take_all max_bytes cleared (omega (arith, cleared_length))
