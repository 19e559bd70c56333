-- What an output holds after bytes were written into it.
use Rattle.std.specs.Prelude.{cond, List, ◌++◌, ℕ, ◌+◌, leb, length, take, drop}

-- an output with these bytes in front; its further bytes are as they were
abbrev pub in_front : List ℕ → List ℕ → List ℕ
in_front bytes out = bytes ++ drop (length bytes) out

-- an output with these bytes from a position on; before and behind them it is as it was
unfoldable pub with_at : List ℕ → ℕ → List ℕ → List ℕ
with_at out at bytes = take at out ++ (bytes ++ drop (at + length bytes) out)

-- the same if there is room for all of them; else it stays as it was
unfoldable pub put_at : List ℕ → ℕ → List ℕ → List ℕ
put_at out at bytes = cond (leb (at + length bytes) (length out)) (with_at out at bytes) out
