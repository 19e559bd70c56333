-- Bytes, bits and numbers on the wire. A payload is a list of bytes. Multi-byte numbers are big-endian.
use Rattle.std.specs.Prelude.{Bool, true, false, ◌&&◌, List, [], ◌∷◌, ℕ, ◌+◌, ◌*◌, ◌/◌, ◌%◌, ◌^◌, ◌<◌, eqb, ℤ, pos, negsuc, get_or, take, drop}

-- every entry is a byte
abbrev pub Bytes : List ℕ → Type 0
Bytes p = (i : ℕ) → get_or p i 0 < 256

-- the byte at a position; past the end it reads as 0
abbrev pub byte_at : List ℕ → ℕ → ℕ
byte_at p i = get_or p i 0

-- the part of n bytes from a position on
abbrev pub part : List ℕ → ℕ → ℕ → List ℕ
part p i n = take n (drop i p)

-- bit k of a number; bit 0 is the lowest
abbrev pub bit : ℕ → ℕ → Bool
bit k n = eqb (n / 2 ^ k % 2) 1

-- the high and the low nibble of a byte
abbrev pub high : ℕ → ℕ
high b = b / 16

abbrev pub low : ℕ → ℕ
low b = b % 16

-- numbers of 16, 24, 32 and 64 bits, from their bytes
abbrev pub be16 : ℕ → ℕ → ℕ
be16 a b = a * 256 + b

abbrev pub be24 : ℕ → ℕ → ℕ → ℕ
be24 a b c = a * 65536 + be16 b c

abbrev pub be32 : ℕ → ℕ → ℕ → ℕ → ℕ
be32 a b c d = a * 16777216 + be24 b c d

-- the same, read at a position
abbrev pub be16_at : List ℕ → ℕ → ℕ
be16_at p i = be16 (byte_at p i) (byte_at p (i + 1))

abbrev pub be24_at : List ℕ → ℕ → ℕ
be24_at p i = be24 (byte_at p i) (byte_at p (i + 1)) (byte_at p (i + 2))

abbrev pub be32_at : List ℕ → ℕ → ℕ
be32_at p i = be32 (byte_at p i) (byte_at p (i + 1)) (byte_at p (i + 2)) (byte_at p (i + 3))

abbrev pub be64_at : List ℕ → ℕ → ℕ
be64_at p i = be32_at p i * 4294967296 + be32_at p (i + 4)

-- the bytes of a number of 16, 24 and 32 bits
abbrev pub bytes16 : ℕ → List ℕ
bytes16 n = n / 256 % 256 ∷ n % 256 ∷ []

abbrev pub bytes24 : ℕ → List ℕ
bytes24 n = n / 65536 % 256 ∷ bytes16 n

abbrev pub bytes32 : ℕ → List ℕ
bytes32 n = n / 16777216 % 256 ∷ bytes24 n

-- whether two strings of bytes are the same
unfoldable pub same_bytes : List ℕ → List ℕ → Bool
same_bytes [] [] = true
same_bytes [] (y ∷ ys) = false
same_bytes (x ∷ xs) [] = false
same_bytes (x ∷ xs) (y ∷ ys) = eqb x y && same_bytes xs ys

-- whether two signed numbers are the same
abbrev pub same_integer : ℤ → ℤ → Bool
same_integer (pos m) (pos n) = eqb m n
same_integer (pos m) (negsuc n) = false
same_integer (negsuc m) (pos n) = false
same_integer (negsuc m) (negsuc n) = eqb m n
