-- The bytes that a line's digits spell, and decoding them.
use Rattle.std.specs.Prelude.{ℕ, ◌+◌, ◌-◌, ◌*◌, ◌%◌, Bool, true, cond, ◌&&◌, List, [], ◌∷◌, length, ◌==◌, nat_le, nat_lt}

-- the value of a digit 0-9 A-F; 16 for any other byte
unfoldable pub hex_value : ℕ → ℕ
hex_value c =
    cond (nat_lt c 48) 16
    (cond (nat_le c 57) (c - 48)
    (cond (nat_lt c 65) 16
    (cond (nat_le c 70) (c - 55) 16)))

unfoldable pub is_hex : ℕ → Bool
is_hex c = nat_lt (hex_value c) 16

-- the test passes at each element
unfoldable pub all : (ℕ → Bool) → List ℕ → Bool
all f [] = true
all f (x ∷ xs) = f x && all f xs

-- hexadecimal digits, two a byte
unfoldable pub spelt : List ℕ → Bool
spelt ds = all is_hex ds && length ds % 2 == 0

-- the bytes that digits spell, two digits a byte, the higher first; a last digit alone spells nothing
unfoldable pub bytes_of : List ℕ → List ℕ
bytes_of [] = []
bytes_of (a ∷ []) = []
bytes_of (a ∷ b ∷ ds) = (hex_value a * 16 + hex_value b) ∷ bytes_of ds

-- A frame has at most so many bytes.
abbrev pub max_bytes : ℕ
max_bytes = 255
