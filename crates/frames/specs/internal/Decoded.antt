-- What decoding a line's digits answers.
use Rattle.std.specs.Prelude.{ℕ, cond, List, length, Result, Ok, Err, nat_le}
use Rattle.frames.specs.Bytes.{spelt, bytes_of, max_bytes}
use Rattle.frames.specs.declared.bytes.DecodeError.{DecodeError}
use Rattle.frames.specs.declared.bytes.DecodeError.TheVariants.{Stray, Long}

-- Decoding a line's digits: the bytes that they spell; Stray where a byte is no digit, or a digit is alone; Long where there are more
-- bytes than a frame may have.
unfoldable pub decoded : List ℕ → Result (List ℕ) DecodeError
decoded ds = cond (spelt ds) (cond (nat_le (length (bytes_of ds)) max_bytes) (Ok (bytes_of ds)) (Err Long)) (Err Stray)
