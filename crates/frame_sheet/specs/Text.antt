-- Numbers as text: ASCII, decimal, right-justified in a column.
use Rattle.std.specs.Prelude.{Bool, cond, List, [], ◌∷◌, ◌++◌, ℕ, zero, suc, ◌+◌, ◌-◌, ◌/◌, ◌%◌, ltb, ℤ, pos, nat_abs, length, replicate}
use Rattle.std.specs.Int.Signed.{lt_z}

-- the decimal digits of a number, with no zero in front; k bounds how many are looked for
unfoldable pub digits : ℕ → ℕ → List ℕ
digits zero n = []
digits (suc k) n = cond (ltb n 10) ((48 + n) ∷ []) (digits k (n / 10) ++ ((48 + n % 10) ∷ []))

-- a number has no more digits than itself and one
unfoldable pub decimal : ℕ → List ℕ
decimal n = digits (n + 1) n

-- a minus sign if there is one, and the digits
unfoldable pub signed : Bool → ℕ → List ℕ
signed negative n = cond negative (45 ∷ decimal n) (decimal n)

-- an integer: the digits of its absolute value, with a minus sign below 0
abbrev pub integer : ℤ → List ℕ
integer z = signed (lt_z z (pos 0)) (nat_abs z)

-- a line ends with one byte
abbrev pub newline : List ℕ
newline = 10 ∷ []

abbrev pub spaces : ℕ → List ℕ
spaces n = replicate n 32

-- a text right-justified in a column of w; a text wider than its column stands whole
unfoldable pub column : ℕ → List ℕ → List ℕ
column w t = spaces (w - length t) ++ t
