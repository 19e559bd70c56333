-- `writers::columns::room_left`: what is left behind the entries so far has room for the rest as the whole has for all.
use Rattle.std.proofs.Common.{◌≡◌, ℕ, drop, sum_by}
use Rattle.writers.specs.Lengths.{with_head, left_after}
use Rattle.writers.proofs.columns.room_left.Given as goal

abbrev pub invariant-loop-length : goal.invariant-loop-length
invariant-loop-length l =
    let f : ℕ → ℕ = with_head l.short l.long in
    left_after l.left (sum_by f (drop l.length-index l.lengths)) ≡ left_after l.room (sum_by f l.lengths)
