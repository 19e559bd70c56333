-- `g711::loudest` meets its contract.
use mathlib.Core.Path.{◌≡◌, ap, ◌∙◌}
use Prim.Native.Nat.{ℕ, max}
use lib.Bits.{bit_xor}
use borrow.Author.Rules.{rules}
use Rattle.std.specs.List.{fold}
use Rattle.g711.specs.Loudness.{loudness}
use Rattle.g711.proofs.Peaks.{by_fold}
use Rattle.g711.proofs.loudest.Goals as goal

pub returns : goal.returns
returns c =
    let folded : c.fold-most.result ≡ fold (λ most code. max most (loudness c.args.quietest code)) 0 c.args.codes.now = search rules in
    ap (λ (most : ℕ). bit_xor most c.args.quietest) (folded ∙ by_fold c.args.quietest c.args.codes.now)
