-- For contracts of private functions: how loud a code is, before it is expanded.
use Rattle.std.specs.Prelude.{List, map, ℕ, ◌%◌}
use Rattle.std.specs.Int.Bits.{bit_xor}
use Rattle.g711.specs.Level.{largest}

-- a code's segment and step: the low seven bits in which it differs from the quietest positive code of its law
abbrev pub loudness : ℕ → ℕ → ℕ
loudness quietest c = bit_xor c quietest % 128

-- the positive code that is as loud as the loudest of some codes
abbrev pub loudest_code : ℕ → List ℕ → ℕ
loudest_code quietest codes = bit_xor (largest (map (loudness quietest) codes)) quietest
