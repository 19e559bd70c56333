-- `track_columns::walk_columns` meets its contract.
use mathlib.Core.Path.{sym}
use native.Mathlib.Omega.{arith}
use borrow.Author.Rules.{rules}
use Rattle.multitrack_media.proofs.Halving.{halves_found}
use Rattle.track_columns.specs.Columns.{lent_columns}
use Rattle.track_columns.proofs.Calls.{walk_uncounted, walk_columns_short, walk_payload_long, walk_filled}
use Rattle.track_columns.proofs.walk_columns.Goals.{then-shortest-count-via-then-shortest-count, then-shortest-count-via-else-shortest-count+then-payload-gt-LONGEST_PAYLOAD}
use Rattle.track_columns.proofs.walk_columns.Goals as goal

pub returns-in_err-count-clause-result : goal.returns-in_err-count-clause-result
returns-in_err-count-clause-result c = let it = (walk_uncounted c.args.frame_type c.args.payload.now (lent_columns c.args.ids.now c.args.fourccs.now c.args.starts.now c.args.lengths.now) _ (sym c.in_err-count.ensures.count)).0 in search rules

pub returns-in_err-count-clause-columns : goal.returns-in_err-count-clause-columns
returns-in_err-count-clause-columns c = (walk_uncounted _ _ (lent_columns c.args.ids.now c.args.fourccs.now c.args.starts.now c.args.lengths.now) _ (sym c.in_err-count.ensures.count)).1

pub returns-then-shortest-count : goal.returns-then-shortest-count
returns-then-shortest-count c = elim c.then-shortest-count.branch [
  | then-shortest-count-via-then-shortest-count w ↦
      (let it = walk_columns_short _ _ _ _ (sym c.in_ok-count.ensures.count) (omega (arith, c.shortest.ensures, w.if-shortest-count.true)) in
      record { result = it.0; columns = it.1 })
  | then-shortest-count-via-else-shortest-count+then-payload-gt-LONGEST_PAYLOAD w ↦
      (let it = walk_payload_long _ _ _ _ (sym c.in_ok-count.ensures.count) (omega (arith, w.if-payload-gt-LONGEST_PAYLOAD.true)) in
      record { result = it.0; columns = it.1 })
]

pub fill-requires : goal.fill-requires
fill-requires c = record {
  room = omega (arith, c.shortest.ensures);
  half = halves_found _ _ _ c.multitrack_type-form.ensures.meaning c.tracks_start.ensures _ _ c.in_ok-count.was c.track_halves.ensures.middle;
}

pub returns : goal.returns
returns c =
    let it = walk_filled _ _ _ _ (sym c.in_ok-count.ensures.count) (omega (arith, c.shortest.ensures)) (omega arith) _ _ c.multitrack_type-form.ensures.meaning c.tracks_start.ensures _ c.fill.ensures in
    record { result = it.0; columns = it.1 }
